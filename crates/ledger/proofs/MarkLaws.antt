-- The bits of a window, read one by one: what a cut, a shift and an or do to each. A shift by k moves bit d to bit k + d, so each
-- law writes the higher of two places as a sum.
use mathlib.Core.Path.{◌≡◌, refl, sym, ap, ◌∙◌}
use mathlib.Core.Bool.{Bool, true, false, ◌||◌}
use Prim.Native.Nat.{ℕ, zero, suc, ◌+◌, ◌-◌, ◌*◌, ◌/◌, ◌%◌, ◌^◌, ◌<◌, ◌≤◌}
use native.Mathlib.Nat.{zero-div, one-mul, mul-mod_left, div-eq_of_lt}
use native.Mathlib.Omega.{arith}
use borrow.Author.Tests.{ltb-true, ltb-false, eq-eqb, ne_eqb}
use lib.Bits.{bit_or, or_shr, or_mod}
use lib.Dec.{eqb, ltb}
use lib.Pow.{pow-lt, field, mod-mod-pow, shr-shr, shl-shr}
use Rattle.octets.proofs.XorLaws.{odd_lt}
use Rattle.ledger.specs.Ledger.{mark_at}

-- The window 0 marks nothing.
pub mark_none : (d : ℕ) → mark_at 0 d ≡ false
unfolding mark_at
mark_none d = ap (λ (b : ℕ). eqb (b % 2) 1) (zero-div (2 ^ d))

-- A bit below a cut is kept.
pub mark-cut : (m d w : ℕ) → d < m → mark_at (w % 2 ^ m) d ≡ mark_at w d
unfolding mark_at
mark-cut m d w below =
    let above = m - suc d in
    let width : suc above + d ≡ m = omega arith in
    ap (λ (b : ℕ). eqb (b % 2) 1) (ap (λ (k : ℕ). w % 2 ^ k / 2 ^ d) (sym width) ∙ field w (suc above) d)
    ∙ ap (λ (b : ℕ). eqb b 1) (ap (λ (k : ℕ). w / 2 ^ d % 2 ^ k % 2) more ∙ mod-mod-pow (w / 2 ^ d) above 1)
  where
    more : suc (m - suc d) ≡ m - suc d + 1
    more = omega arith

-- What a shift down brings to place d stood k higher.
pub mark_down : (w k d : ℕ) → mark_at (w / 2 ^ k) d ≡ mark_at w (k + d)
unfolding mark_at
mark_down w k d = ap (λ (b : ℕ). eqb (b % 2) 1) (shr-shr w k d)

-- A shift up brings bit d to place k + d,
pub mark_up : (w k d : ℕ) → mark_at (w * 2 ^ k) (k + d) ≡ mark_at w d
mark_up w k d = sym (mark_down (w * 2 ^ k) k d) ∙ ap (λ (b : ℕ). mark_at b d) (shl-shr w k)

-- and leaves no mark below place k.
pub mark_emptied : (w k d : ℕ) → d < k → mark_at (w * 2 ^ k) d ≡ false
mark_emptied w k d below =
    sym (mark-cut k d (w * 2 ^ k) below) ∙ ap (λ (b : ℕ). mark_at b d) (mul-mod_left w (2 ^ k)) ∙ mark_none d

bits_or : (x y : ℕ) → x < 2 → y < 2 → eqb (bit_or x y) 1 ≡ (eqb x 1 || eqb y 1)
bits_or zero y hx hy = refl
bits_or (suc zero) zero hx hy = refl
bits_or (suc zero) (suc zero) hx hy = refl
bits_or (suc zero) (suc (suc y)) hx hy = absurd (omega arith)
bits_or (suc (suc x)) y hx hy = absurd (omega arith)

-- Or marks what either marks.
pub mark_or : (v w d : ℕ) → mark_at (bit_or v w) d ≡ (mark_at v d || mark_at w d)
unfolding mark_at
mark_or v w d =
    ap (λ (b : ℕ). eqb b 1) (ap (λ (b : ℕ). b % 2) (or_shr v w d) ∙ or_mod (v / 2 ^ d) (w / 2 ^ d) 1)
    ∙ bits_or (v / 2 ^ d % 2) (w / 2 ^ d % 2) (odd_lt (v / 2 ^ d)) (odd_lt (w / 2 ^ d))

mark-one : (d : ℕ) → mark_at 1 d ≡ eqb 0 d
unfolding mark_at
mark-one zero = refl
mark-one (suc d) =
    ap (λ (b : ℕ). eqb (b % 2) 1) (div-eq_of_lt (pow-lt {i = 0} {j = suc d} (omega arith)))
    ∙ sym (ne_eqb 0 (suc d) (λ e. omega arith))

-- A power of two marks its own place alone.
pub mark_power : (k d : ℕ) → mark_at (2 ^ k) d ≡ eqb k d
mark_power k d = ap (λ (w : ℕ). mark_at w d) (sym (one-mul (2 ^ k))) ∙ go (ltb d k) refl
  where
    go : (b : Bool) → ltb d k ≡ b → mark_at (1 * 2 ^ k) d ≡ eqb k d
    go true e =
        let below : d < k = ltb-true d k e in
        mark_emptied 1 k d below ∙ sym (ne_eqb k d (λ q. omega arith))
    go false e =
        let above : k ≤ d = ltb-false d k e in
        let j = d - k in
        let place : k + j ≡ d = omega arith in
        ap (mark_at (1 * 2 ^ k)) (sym place) ∙ mark_up 1 k j ∙ mark-one j ∙ same_place j place
      where
        same_place : (j : ℕ) → k + j ≡ d → eqb 0 j ≡ eqb k d
        same_place zero place = sym (eq-eqb k d (omega arith))
        same_place (suc j) place = ne_eqb 0 (suc j) (λ q. omega arith) ∙ sym (ne_eqb k d (λ q. omega arith))
