-- What rules R6.5 (stale) and R6.6 (used) say of a number, from the whole list of numbers accepted before it, in any order.
use Rattle.std.specs.Prelude.{Bool, false, ◌||◌, cond, List, [], ◌∷◌, ℕ, ◌+◌, max, eqb, leb}

-- how far below the highest accepted number a number is stale
abbrev pub reach : ℕ
reach = 128

-- stale: an accepted number minus this one is 128 or more, and so the highest accepted number minus this one
unfoldable pub stale_in : List ℕ → ℕ → Bool
stale_in [] n = false
stale_in (a ∷ h) n = leb (n + reach) a || stale_in h n

-- accepted before
unfoldable pub used_in : List ℕ → ℕ → Bool
used_in [] n = false
used_in (a ∷ h) n = eqb a n || used_in h n

-- the answer's number: stale; else used; else done
abbrev pub answer_for : Bool → Bool → ℕ
answer_for stale used = cond stale 10 (cond used 11 0)

-- the answer's number for n
unfoldable pub verdict_in : List ℕ → ℕ → ℕ
verdict_in h n = answer_for (stale_in h n) (used_in h n)

-- the highest accepted number; 0 where none was accepted
unfoldable pub highest_of : List ℕ → ℕ
highest_of [] = 0
highest_of (a ∷ h) = max a (highest_of h)
