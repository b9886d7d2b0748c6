-- `schedule::load` meets its contract. The invariant: the room holds the first i words of the schedule, which below n are
-- the key's own.
use Rattle.std.proofs.Common.{◌≡◌}
use Rattle.schedule.specs.Schedule.{key_words_in, in_sixty}
use Rattle.schedule.proofs.load.Given as goal

abbrev pub invariant-loop-i : goal.invariant-loop-i
invariant-loop-i l = l.words ≡ in_sixty (key_words_in l.fn.key) l.fn.key l.i
