-- GF(2^8): bytes as polynomials over two elements, modulo x^8 + x^4 + x^3 + x + 1. The sum is xor.
use Rattle.std.specs.Prelude.{ℕ, zero, suc, ◌*◌, ◌/◌, ◌%◌}
use Rattle.std.specs.Int.Bits.{bit_xor}

-- a left shift, then xor 1b if the top bit fell out (FIPS 197: XTIMES)
unfoldable pub doubled : ℕ → ℕ
doubled b = bit_xor (b * 2 % 256) (b / 128 * 0x1b)

-- the sum s, with b added to it where the bit is set
abbrev pub added_if : ℕ → ℕ → ℕ → ℕ
added_if zero b s = s
added_if (suc bit) b s = bit_xor s b

-- the sum of b, b doubled, b doubled twice and so on, over those of the n lowest bits of a that are set
unfoldable pub multiples : ℕ → ℕ → ℕ → ℕ
multiples zero a b = 0
multiples (suc n) a b = added_if (a % 2) b (multiples n (a / 2) (doubled b))

-- a · b
unfoldable pub product : ℕ → ℕ → ℕ
product a b = multiples 8 a b

-- a^2 · a^4 · a^8 · .. , n factors
unfoldable pub squares : ℕ → ℕ → ℕ
squares zero a = 1
squares (suc n) a = product (product a a) (squares n (product a a))

-- a^254, which is the inverse of a, and 00 for 00
unfoldable pub inverse : ℕ → ℕ
inverse a = squares 7 a
