-- `schedule::expand` meets its contract. The invariant: the room holds the first i words of the schedule.
use Rattle.std.proofs.Common.{◌≡◌, ◌≤◌}
use Rattle.schedule.specs.Schedule.{in_sixty}
use Rattle.schedule.proofs.expand.Given as goal

abbrev pub invariant-loop-i : goal.invariant-loop-i
invariant-loop-i l = (l.n ≤ l.i) × (l.words ≡ in_sixty l.n l.fn.key l.i)
