-- One byte more in hex is two digits more, and these are what `{:02x}` writes of it.
use Rattle.std.proofs.Common.{◌≡◌, ◌/◌, ◌%◌, ◌<◌, ◌^◌, ◌-◌, ◌++◌, ◌∷◌, [], ℕ, List, zero, suc, refl, ap, ap₂, ◌∙◌, rules, take, length, get_or, false}
use Rattle.std.proofs.lemmas.Fmt.{hex_byte}
use Rattle.std.specs.Fmt.{digits, padded_integral, format_spec, digit_glyph}
use native.Mathlib.Nat.{not-suc-le-zero, le_of_suc-le-suc}
use Rattle.hexadecimal.specs.Hex.{encoded, hex_digit}

pub encoded_more : (s : List ℕ) (i : ℕ) → i < length s
    → encoded (take i s) ++ (hex_digit (get_or s i 0 / 16) ∷ hex_digit (get_or s i 0 % 16) ∷ []) ≡ encoded (take (suc i) s)
unfolding encoded
encoded_more [] i h = absurd (not-suc-le-zero h)
encoded_more (b ∷ s) zero h = refl
encoded_more (b ∷ s) (suc i) h = ap (λ t. hex_digit (b / 16) ∷ hex_digit (b % 16) ∷ t) (encoded_more s i (le_of_suc-le-suc h))

digit : (d : ℕ) → digit_glyph false d ≡ hex_digit d
unfolding hex_digit
digit d = search rules

pub two_digits : (b : ℕ) → b < 256
    → padded_integral (format_spec 32 0 4 2 (2 ^ 64 - 1)) false [] (digits 16 false b) ≡ hex_digit (b / 16) ∷ hex_digit (b % 16) ∷ []
two_digits b small = hex_byte false b small ∙ ap₂ (λ h l. h ∷ l ∷ []) (digit (b / 16)) (digit (b % 16))
