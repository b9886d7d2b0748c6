-- The hash field. A block is bits x0 to x127, x0 the top bit of byte 0, and stands for the sum of x_i·a^i over GF(2), modulo
-- a^128 + a^7 + a^2 + a + 1. As a big-endian number below 2^128, x_i is its bit 127 - i. The sum of two blocks is their xor.
use Rattle.std.specs.Prelude.{ℕ, zero, suc, ◌*◌, ◌/◌, ◌%◌, ◌^◌}
use Rattle.std.specs.Int.Bits.{bit_xor}

-- one is byte 80 and fifteen zeros
abbrev pub one : ℕ
one = 2 ^ 127

-- multiplying by a shifts every bit toward the last byte by one and, if x127 fell out, xors e1 into byte 0
unfoldable pub times_a : ℕ → ℕ
times_a y = bit_xor (y / 2) (y % 2 * (0xe1 * 2 ^ 120))

-- the xor, over the set ones among the n lowest bits of x, from the highest of them on, of y, y·a, y·a^2 and so on
unfoldable pub sum_of : ℕ → ℕ → ℕ → ℕ
sum_of zero x y = 0
sum_of (suc n) x y = bit_xor (x / 2 ^ n % 2 * y) (sum_of n x (times_a y))

-- the product of x and y: the xor, over all i with x_i set, of y·a^i
unfoldable pub product : ℕ → ℕ → ℕ
product x y = sum_of 128 x y
