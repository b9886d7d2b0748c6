-- `vectors::answer_chunk` is safe, ends and answers the chunk as far as it takes it in: each service goes on where the one before
-- it stopped, and what it leaves in front of the output is handed out behind what was handed out before.
use Rattle.std.proofs.Common.{◌≡◌, ◌-◌, ◌≤◌, length, take}
use Rattle.records.specs.Input.{Answered}
use Rattle.vector_lines.specs.Line.{answer_line}
use Rattle.vectors.proofs.answer_chunk.Given as goal

abbrev pub invariant-loop-at : goal.invariant-loop-at
invariant-loop-at g l =
    (length l.out ≡ length l.fn.out) × (l.at ≤ length l.chunk) × Answered answer_line l.fn.reader (take l.at l.chunk) l.reader

abbrev pub decreases-loop-at : goal.decreases-loop-at
decreases-loop-at g l = length l.chunk - l.at
