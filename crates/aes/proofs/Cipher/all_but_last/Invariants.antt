-- `aes::Cipher::all_but_last` meets its contract. The invariant: before round k the state is the first one after the rounds below k.
use Rattle.std.proofs.Common.{◌≡◌, ◌-◌, ◌≤◌}
use Rattle.aes.specs.Cipher.{after_rounds}
use Rattle.aes.proofs.Cipher.all_but_last.Given as goal

abbrev pub invariant-loop-k : goal.invariant-loop-k
invariant-loop-k l = (1 ≤ l.k) × (l.k - 1 ≤ l.self.rounds - 1) × (l.state ≡ after_rounds l.self.words.now (l.k - 1) l.fn.s)
