-- A test that is computed at every number below n shows its fact at each of them: one test and one law, however many
-- the numbers. The law is an induction on n.
use mathlib.Core.Path.{subst⁻¹}
use mathlib.Core.Bool.{Bool, true, false, ◌&&◌}
use mathlib.Core.Logic.{⊎_elim}
use Prim.Native.Nat.{ℕ, zero, suc, ◌<◌}
use native.Mathlib.Nat.{eq-or-lt_of_le, le_of_suc-le-suc, not-suc-le-zero}
use lib.Dec.{T}

-- the test passes at each number below n
abbrev pub passes : (ℕ → Bool) → ℕ → Bool
passes test zero = true
passes test (suc n) = test n && passes test n

first : (a b : Bool) → T (a && b) → T a
first true b t = tt
first false b t = t

second : (a b : Bool) → T (a && b) → T b
second true b t = t
second false b t = absurd t

pub passed : (test : ℕ → Bool) (n : ℕ) → T (passes test n) → (k : ℕ) → k < n → T (test k)
passed test zero t k h = absurd (not-suc-le-zero h)
passed test (suc n) t k h =
    ⊎_elim
    (λ e. subst⁻¹ (λ m. T (test m)) e (first (test n) (passes test n) t))
    (λ below. passed test n (second (test n) (passes test n) t) k below)
    (eq-or-lt_of_le (le_of_suc-le-suc h))
