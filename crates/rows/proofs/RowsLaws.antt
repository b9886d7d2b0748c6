-- The number that a list of facts gives is that of the first fact that holds. By induction on the facts, over the number that
-- counting starts from.
use mathlib.Core.Path.{◌≡◌, refl, sym, ◌∙◌}
use mathlib.Core.Logic.{◌↔◌}
use mathlib.Core.Bool.{Bool, true, false, false≢true, true≢false}
use mathlib.Core.List.{List, [], ◌∷◌}
use Prim.Native.Nat.{ℕ, zero, suc, ◌+◌, ◌-◌, ◌<◌, ◌≤◌}
use native.Mathlib.Omega.{arith}
use lib.ListN.{get_or}
use Rattle.rows.specs.Rows.{lowest, Applies}

-- none of the first k facts holds
abbrev NoneOf : List Bool → ℕ → Type 0
NoneOf facts k = (m : ℕ) → m < k → get_or facts m false ≡ false

none_more : (facts : List Bool) (k : ℕ) → NoneOf facts k → NoneOf (false ∷ facts) (suc k)
none_more facts k before zero h = refl
none_more facts k before (suc m) h = before m (omega arith)

-- a number other than 0 is that of the fact where counting started, or of a later one
lowest_least : (facts : List Bool) (start : ℕ) → (lowest start facts ≡ 0 → ⊥) → start ≤ lowest start facts
unfolding lowest
lowest_least [] start h = absurd (h refl)
lowest_least (true ∷ facts) start h = omega arith
lowest_least (false ∷ facts) start h = omega (arith, lowest_least facts (suc start) h)

lowest_first : (facts : List Bool) (start k : ℕ) → 0 < start → lowest start facts ≡ start + k
    → (get_or facts k false ≡ true) × NoneOf facts k
unfolding lowest
lowest_first [] start k p q = absurd (omega arith)
lowest_first (true ∷ facts) start zero p q = (refl, λ m h. absurd (omega arith))
lowest_first (true ∷ facts) start (suc k) p q = absurd (omega arith)
lowest_first (false ∷ facts) start zero p q = absurd (omega (arith, lowest_least facts (suc start) (λ none. omega arith)))
lowest_first (false ∷ facts) start (suc k) p q =
    let later = lowest_first facts (suc start) k (omega arith) (omega arith) in
    (later.0, none_more facts k later.1)

first_lowest : (facts : List Bool) (start k : ℕ) → get_or facts k false ≡ true → NoneOf facts k → lowest start facts ≡ start + k
unfolding lowest
first_lowest [] start k holds before = absurd (false≢true holds)
first_lowest (true ∷ facts) start zero holds before = omega arith
first_lowest (true ∷ facts) start (suc k) holds before = absurd (true≢false (before 0 (omega arith)))
first_lowest (false ∷ facts) start zero holds before = absurd (false≢true holds)
first_lowest (false ∷ facts) start (suc k) holds before =
    omega (arith, first_lowest facts (suc start) k holds (λ m h. before (suc m) (omega arith)))

suc_sub_one : (m : ℕ) → suc m - 1 ≡ m
suc_sub_one m = omega arith

-- the answer by a list of facts is n exactly when fact n holds and no earlier one does; facts are counted from 1, as rows are (rule
-- R3.3, exactly when)
pub lowest_exactly : (facts : List Bool) {a : ℕ} → a ≡ lowest 1 facts → (n : ℕ) → 0 < n → (a ≡ n) ↔ Applies facts n
lowest_exactly facts {a} is n p = (forth, back)
  where
    forth : a ≡ n → Applies facts n
    forth q =
        let first = lowest_first facts 1 (n - 1) (omega arith) (omega arith) in
        (first.0, λ m pos h. first.1 (m - 1) (omega arith))

    back : Applies facts n → a ≡ n
    back first =
        let earlier : NoneOf facts (n - 1) = λ m h. rw (suc_sub_one m) at (first.1 (suc m) (omega arith) (omega arith)) in
        omega (arith, first_lowest facts 1 (n - 1) first.0 earlier)

none_holds : (facts : List Bool) (start : ℕ) → 0 < start → lowest start facts ≡ 0 → (m : ℕ) → get_or facts m false ≡ false
unfolding lowest
none_holds [] start p q m = refl
none_holds (true ∷ facts) start p q m = absurd (omega arith)
none_holds (false ∷ facts) start p q zero = refl
none_holds (false ∷ facts) start p q (suc m) = none_holds facts (suc start) (omega arith) q m

none_lowest : (facts : List Bool) (start : ℕ) → ((m : ℕ) → get_or facts m false ≡ false) → lowest start facts ≡ 0
unfolding lowest
none_lowest [] start none = refl
none_lowest (true ∷ facts) start none = absurd (true≢false (none 0))
none_lowest (false ∷ facts) start none = none_lowest facts (suc start) (λ m. none (suc m))

-- it is 0 exactly when no fact holds
pub lowest_none : (facts : List Bool) {a : ℕ} → a ≡ lowest 1 facts → (a ≡ 0) ↔ ((m : ℕ) → get_or facts m false ≡ false)
lowest_none facts is = (λ e. none_holds facts 1 (omega arith) (sym is ∙ e), λ none. is ∙ none_lowest facts 1 none)
