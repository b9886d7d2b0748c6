-- Which of two values stands behind an answer's number.
use mathlib.Core.Path.{◌≡◌, refl, ap}
use Prim.Native.Nat.{ℕ, zero, suc, ◌<◌}
use native.Mathlib.Omega.{arith}
use Rattle.answer.specs.Number.{if_done}

pub when_done : {A : Type 0} {n : ℕ} (a b : A) → n ≡ 0 → if_done n a b ≡ a
when_done a b e = ap (λ (n : ℕ). if_done n a b) e

pub when_refused : {A : Type 0} {answer : ℕ} (number : ℕ) (a b : A) → answer ≡ number → 0 < answer → if_done number a b ≡ b
when_refused zero a b is some = absurd (omega arith)
when_refused (suc n) a b is some = refl
