-- The ledger as the code has it: the highest accepted number, and a window of 128 bits. Bit d marks that the number d below the
-- highest was accepted. All zeros is the ledger that accepted nothing.
use Rattle.std.specs.Prelude.{◌≡◌, Bool, cond, List, ℕ, ◌+◌, ◌-◌, ◌*◌, ◌/◌, ◌%◌, ◌^◌, ◌<◌, ◌≤◌, eqb, leb, ltb}
use Rattle.std.specs.Int.Bits.{bit_or}
use Rattle.ledger.specs.declared.Ledger.{Ledger}
use Rattle.ledger.specs.History.{reach, used_in, answer_for, highest_of}

-- nothing accepted, 0 neither
abbrev pub fresh_ledger : Ledger
fresh_ledger = record { high = 0; near = 0; far = 0 }

-- the window as one number
unfoldable pub window_of : Ledger → ℕ
window_of l = l.far * 2 ^ 64 + l.near

-- the ledger of a highest number and a window
unfoldable pub ledger_of : ℕ → ℕ → Ledger
ledger_of high w = record { high = high; near = w % 2 ^ 64; far = w / 2 ^ 64 }

-- bit d of a window
unfoldable pub mark_at : ℕ → ℕ → Bool
mark_at w d = eqb (w / 2 ^ d % 2) 1

-- a window with bit d set, if it has that bit
unfoldable pub with_mark : ℕ → ℕ → ℕ
with_mark w d = cond (ltb d reach) (bit_or w (2 ^ d)) w

-- a window as seen from k above: each mark moves up by k, and by 128 or more none is left
unfoldable pub shifted_by : ℕ → ℕ → ℕ
shifted_by w k = cond (ltb k reach) (w * 2 ^ k % 2 ^ reach) 0

-- the same numbers accepted, with n as the highest number if it is higher
unfoldable pub raised_to : Ledger → ℕ → Ledger
raised_to l n = cond (ltb l.high n) (ledger_of n (shifted_by (window_of l) (n - l.high))) l

-- the number d below the highest is marked
unfoldable pub marked_at : Ledger → ℕ → Ledger
marked_at l d = ledger_of l.high (with_mark (window_of l) d)

-- n accepted: it becomes the highest if it is higher, and is marked
unfoldable pub accepted_by : Ledger → ℕ → Ledger
accepted_by l n = marked_at (raised_to l n) ((raised_to l n).high - n)

-- the answer's number for n: 0 for each number above the highest
unfoldable pub verdict_of : Ledger → ℕ → ℕ
verdict_of l n = cond (ltb l.high n) 0 (answer_for (leb reach (l.high - n)) (mark_at (window_of l) (l.high - n)))

-- the ledger tells the history: its highest number, and of each number in the window whether it was accepted
pub record Tells (l : Ledger) (h : List ℕ) : Type 0 where
  pub highest : l.high ≡ highest_of h
  pub marks : (d : ℕ) → d < reach → d ≤ l.high → mark_at (window_of l) d ≡ used_in h (l.high - d)
