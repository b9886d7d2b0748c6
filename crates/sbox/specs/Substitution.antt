-- The substitution of a byte, by its rule (FIPS 197: SBOX).
use Rattle.std.specs.Prelude.{ℕ, zero, suc, ◌+◌, ◌*◌, ◌/◌, ◌%◌, ◌^◌, ◌<◌, ◌≡◌, List, get_or}
use Rattle.std.specs.Int.Bits.{bit_xor}
use Rattle.byte_field.specs.Field.{inverse}

-- bit i of b, bit 0 the lowest, with i read modulo 8
abbrev pub bit : ℕ → ℕ → ℕ
bit b i = b / 2 ^ (i % 8) % 2

-- bit i of the entry for a byte whose inverse is b: the xor of bits i, i+4, i+5, i+6, i+7 of b and bit i of 63
abbrev pub entry_bit : ℕ → ℕ → ℕ
entry_bit b i =
    bit_xor (bit b i)
    (bit_xor (bit b (i + 4)) (bit_xor (bit b (i + 5)) (bit_xor (bit b (i + 6)) (bit_xor (bit b (i + 7)) (bit 0x63 i)))))

-- the number whose lowest n bits are the entry's
unfoldable pub entry_bits : ℕ → ℕ → ℕ
entry_bits zero b = 0
entry_bits (suc n) b = entry_bit b n * 2 ^ n + entry_bits n b

unfoldable pub substituted : ℕ → ℕ
substituted a = entry_bits 8 (inverse a)

-- t holds the substitution of every byte
pub record Substitutes (t : List ℕ) : Type 0 where
  pub entry : (a : ℕ) → a < 256 → get_or t a 0 ≡ substituted a
