-- Every byte but 00 times its inverse is 01: a product that is computed for each of the 255 bytes.
use mathlib.Core.Path.{◌≡◌}
use mathlib.Core.Bool.{Bool}
use Prim.Native.Nat.{ℕ, zero, suc, ◌<◌}
use native.Mathlib.Nat.{le_of_suc-le-suc, not-suc-le-zero}
use lib.Dec.{T, eqb, eqb→eq}
use Rattle.octets.proofs.Tested.{passes, passed}
use Rattle.byte_field.specs.Field.{doubled, multiples, product, squares, inverse}

undone : ℕ → Bool
undone k = eqb (product (suc k) (inverse (suc k))) 1

all_undone : T (passes undone 255)
unfolding undone doubled multiples product squares inverse
all_undone = tt

pub times-inverse : (a : ℕ) → 0 < a → a < 256 → product a (inverse a) ≡ 1
unfolding undone
times-inverse zero positive below = absurd (not-suc-le-zero positive)
times-inverse (suc a) positive below =
    eqb→eq (product (suc a) (inverse (suc a))) 1 (passed undone 255 all_undone a (le_of_suc-le-suc below))
