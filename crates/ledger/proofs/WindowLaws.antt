-- A window kept in two halves of 64 bits is read back whole, and the halves are those of the window that they make.
use mathlib.Core.Path.{◌≡◌, ap₂}
use Prim.Native.Nat.{ℕ, ◌+◌, ◌*◌, ◌^◌, ◌<◌}
use lib.Pow.{split, high, low}
use Rattle.ledger.specs.declared.Ledger.{Ledger}
use Rattle.ledger.specs.Ledger.{window_of, ledger_of}

-- The window of the ledger of a window.
pub window_ledger : (top w : ℕ) → window_of (ledger_of top w) ≡ w
unfolding window_of ledger_of
window_ledger top w = split w 64

-- The ledger of a window whose halves are f and n.
pub ledger_halves : (top f n : ℕ) → n < 2 ^ 64 → ledger_of top (f * 2 ^ 64 + n) ≡ record { high = top; near = n; far = f }
unfolding ledger_of
ledger_halves top f n below =
    ap₂ (λ (a b : ℕ). record { high = top; near = a; far = b }) (low f 64 below) (high f 64 below)

-- A ledger is the one of its highest number and its window.
pub ledger_window : (l : Ledger) → l.near < 2 ^ 64 → ledger_of l.high (window_of l) ≡ l
unfolding window_of
ledger_window l below = ledger_halves l.high l.far l.near below
