-- Lists of bytes: how long their xor is, how it splits, that it undoes itself, and that the test `same` is equality. Each law
-- is an induction on its lists.
use mathlib.Core.Path.{◌≡◌, refl, sym, ap, ap₂, ◌∙◌}
use mathlib.Core.Bool.{Bool, true, false, ◌&&◌, false≢true, and-true, and_assoc}
use mathlib.Core.List.{List, [], ◌∷◌, ◌++◌, append-nil}
use Prim.Native.Nat.{ℕ, zero, suc, ◌<◌, ◌≤◌, min}
use native.Mathlib.Nat.{zero-min, min-zero, suc-min-suc, min-eq_left, not-suc-le-zero, le_of_suc-le-suc}
use native.Mathlib.Omega.{arith}
use borrow.Author.Tests.{eqb-true, eqb-false, eq-eqb, ne_eqb}
use lib.Bits.{bit_or, bit_xor, or_add_and, xor_add_and, and_le_l, and_le_r, xor_self}
use lib.Dec.{eqb}
use lib.ListN.{length, get_or, take, drop, drop_of_length-le}
use lib.Seq.{take_all}
use Rattle.std.specs.List.{fold, zip}
use Rattle.octets.specs.Bytes.{xored, same}
use Rattle.octets.proofs.XorLaws.{xor_cancel}

pub length-xored : (s k : List ℕ) → length (xored s k) ≡ min (length s) (length k)
unfolding xored
length-xored [] k = sym (zero-min (length k))
length-xored (a ∷ s) [] = sym (min-zero (suc (length s)))
length-xored (a ∷ s) (b ∷ k) = ap suc (length-xored s k) ∙ sym (suc-min-suc (length s) (length k))

pub length-xored_le : (s k : List ℕ) → length s ≤ length k → length (xored s k) ≡ length s
length-xored_le s k h = length-xored s k ∙ min-eq_left h

-- the xor with two lists, one after the other: each meets its own part of s
pub xored-append : (s a b : List ℕ) → xored s (a ++ b) ≡ xored (take (length a) s) a ++ xored (drop (length a) s) b
unfolding xored
xored-append s [] b = refl
xored-append [] (x ∷ a) b = refl
xored-append (y ∷ s) (x ∷ a) b = ap {B = List ℕ} (λ r. bit_xor y x ∷ r) (xored-append s a b)

xored_none : (s : List ℕ) → xored s [] ≡ []
unfolding xored
xored_none [] = refl
xored_none (a ∷ s) = refl

-- the xor of two lists, one after the other, with k: the second meets what stands in k behind the first
pub xored_over : (s t k : List ℕ) → xored (s ++ t) k ≡ xored s k ++ xored t (drop (length s) k)
unfolding xored
xored_over [] t k = refl
xored_over (a ∷ s) t [] = sym (xored_none t)
xored_over (a ∷ s) t (b ∷ k) = ap {B = List ℕ} (λ r. bit_xor a b ∷ r) (xored_over s t k)

-- a list meets nothing of what stands in the other past its own end
pub xored-front : (s a b : List ℕ) → length s ≤ length a → xored s (a ++ b) ≡ xored s a
unfolding xored
xored-front s a b h =
    xored-append s a b
    ∙ ap₂ (λ (x y : List ℕ). xored x a ++ xored y b) (take_all (length a) s h) (drop_of_length-le s h)
    ∙ append-nil (xored s a)

pub xored_twice : (s k : List ℕ) → length s ≤ length k → xored (xored s k) k ≡ s
unfolding xored
xored_twice [] k h = refl
xored_twice (a ∷ s) [] h = absurd (not-suc-le-zero h)
xored_twice (a ∷ s) (b ∷ k) h =
    ap₂ {C = List ℕ} (λ x r. x ∷ r) (xor_cancel a b) (xored_twice s k (le_of_suc-le-suc h))

-- Two tests that hold together hold each.
pub both_true : (a b : Bool) → (a && b) ≡ true → (a ≡ true) × (b ≡ true)
both_true true b e = (refl, e)
both_true false b e = absurd (false≢true e)

pub same_true : (s t : List ℕ) → same s t ≡ true → s ≡ t
unfolding same
same_true [] [] e = refl
same_true [] (b ∷ t) e = absurd (false≢true e)
same_true (a ∷ s) [] e = absurd (false≢true e)
same_true (a ∷ s) (b ∷ t) e =
    let parts = both_true (eqb a b) (same s t) e in
    ap₂ {C = List ℕ} (λ x r. x ∷ r) (eqb-true a b parts.0) (same_true s t parts.1)

pub same_refl : (s : List ℕ) → same s s ≡ true
unfolding same
same_refl [] = refl
same_refl (a ∷ s) = rw (eq-eqb a a refl, same_refl s)

-- a byte of the xor
pub get_or-xored : (s k : List ℕ) (i : ℕ) → i < length s → i < length k → get_or (xored s k) i 0 ≡ bit_xor (get_or s i 0) (get_or k i 0)
unfolding xored
get_or-xored [] k i hs hk = absurd (not-suc-le-zero hs)
get_or-xored (a ∷ s) [] i hs hk = absurd (not-suc-le-zero hk)
get_or-xored (a ∷ s) (b ∷ k) zero hs hk = refl
get_or-xored (a ∷ s) (b ∷ k) (suc i) hs hk = get_or-xored s k i (le_of_suc-le-suc hs) (le_of_suc-le-suc hk)

-- what stands past the end of k does not matter
pub xored-cut : (n : ℕ) (s k : List ℕ) → length k ≤ n → xored (take n s) k ≡ xored s k
unfolding xored
xored-cut zero [] k h = refl
xored-cut zero (a ∷ s) [] h = refl
xored-cut zero (a ∷ s) (b ∷ k) h = absurd (not-suc-le-zero h)
xored-cut (suc n) [] k h = refl
xored-cut (suc n) (a ∷ s) [] h = refl
xored-cut (suc n) (a ∷ s) (b ∷ k) h = ap {B = List ℕ} (λ r. bit_xor a b ∷ r) (xored-cut n s k (le_of_suc-le-suc h))

or_is_zero : (a b : ℕ) → bit_or a b ≡ 0 → (a ≡ 0) × (b ≡ 0)
or_is_zero a b e = omega (arith, or_add_and a b, and_le_l a b, and_le_r a b)

xor_is_zero : (a b : ℕ) → bit_xor a b ≡ 0 → a ≡ b
xor_is_zero a b e = omega (arith, xor_add_and a b, and_le_l a b, and_le_r a b)

-- differences gathered by or stay zero just while the bytes agree
gathered : (d x y : ℕ) → eqb (bit_or d (bit_xor x y)) 0 ≡ (eqb d 0 && eqb x y)
gathered d x y = go (eqb d 0) (eqb x y) refl refl
  where
    go : (p q : Bool) → eqb d 0 ≡ p → eqb x y ≡ q → eqb (bit_or d (bit_xor x y)) 0 ≡ (p && q)
    go true true e f =
        eq-eqb _ 0 (ap₂ (λ (a b : ℕ). bit_or a (bit_xor b y)) (eqb-true d 0 e) (eqb-true x y f) ∙ xor_self y)
    go true false e f =
        ne_eqb _ 0 (λ none. eqb-false x y f (xor_is_zero x y (or_is_zero d (bit_xor x y) none).1))
    go false q e f = ne_eqb _ 0 (λ none. eqb-false d 0 e (or_is_zero d (bit_xor x y) none).0)

same_folded : (d : ℕ) (s t : List ℕ) → length s ≤ length t
    → eqb (fold (λ before p. bit_or before (bit_xor p.0 p.1)) d (zip s t)) 0 ≡ (eqb d 0 && same s (take (length s) t))
unfolding same
same_folded d [] t h = sym (and-true (eqb d 0))
same_folded d (a ∷ s) [] h = absurd (not-suc-le-zero h)
same_folded d (a ∷ s) (b ∷ t) h =
    same_folded (bit_or d (bit_xor a b)) s t (le_of_suc-le-suc h)
    ∙ ap (λ (q : Bool). q && same s (take (length s) t)) (gathered d a b)
    ∙ and_assoc (eqb d 0) (eqb a b) (same s (take (length s) t))

-- all differences gathered are zero just if the first list begins the second
pub same_differences : (s t : List ℕ) {d : ℕ} → d ≡ fold (λ before p. bit_or before (bit_xor p.0 p.1)) 0 (zip s t)
    → length s ≤ length t
    → eqb d 0 ≡ same s (take (length s) t)
same_differences s t gathered h = ap (λ (d : ℕ). eqb d 0) gathered ∙ same_folded 0 s t h
