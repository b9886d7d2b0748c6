-- Digits of hex: which two of them stand for byte i of a list, by induction on the list.
use mathlib.Core.Path.{◌≡◌, refl}
use mathlib.Core.List.{List, [], ◌∷◌}
use Prim.Native.Nat.{ℕ, zero, suc, ◌+◌, ◌*◌, ◌/◌, ◌%◌, ◌<◌}
use native.Mathlib.Nat.{not-suc-le-zero, le_of_suc-le-suc}
use native.Mathlib.Omega.{arith}
use lib.ListN.{length, get_or}
use Rattle.hexadecimal.specs.Hex.{hex_digit, encoded}

pub length-encoded : (s : List ℕ) → length (encoded s) ≡ length s * 2
unfolding encoded
length-encoded [] = refl
length-encoded (b ∷ s) = rw (length-encoded s) (omega arith)

-- the digits of byte i
pub digits_at : (s : List ℕ) (i : ℕ) → i < length s
    → (get_or (encoded s) (i * 2) 0 ≡ hex_digit (get_or s i 0 / 16)) × (get_or (encoded s) (i * 2 + 1) 0 ≡ hex_digit (get_or s i 0 % 16))
unfolding encoded
digits_at [] i h = absurd (not-suc-le-zero h)
digits_at (b ∷ s) zero h = (refl, refl)
digits_at (b ∷ s) (suc i) h =
    let high : suc i * 2 ≡ suc (suc (i * 2)) = omega arith in
    let low : suc i * 2 + 1 ≡ suc (suc (i * 2 + 1)) = omega arith in
    rw (low, high) (digits_at s i (le_of_suc-le-suc h))
