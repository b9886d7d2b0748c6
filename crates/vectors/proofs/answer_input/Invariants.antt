-- `vectors::answer_input` meets its contract: each turn takes in the chunk that was read behind those before it, with the reader
-- that remembers them all, and leaves one less of the turns that a run has.
use Rattle.std.proofs.Common.{◌≡◌, ◌-◌, length}
use Rattle.records.specs.Input.{most_turns}
use Rattle.records.proofs.InputLaws.{Carried}
use Rattle.vector_lines.specs.Line.{answer_line}
use Rattle.vectors.proofs.answer_input.Given as goal

abbrev pub invariant-loop-chunks : goal.invariant-loop-chunks
invariant-loop-chunks g l =
    (length l.out ≡ length l.fn.out) × (length l.chunk ≡ length l.fn.chunk) × Carried answer_line (most_turns - l.chunks-counter) l.chunk l.reader
