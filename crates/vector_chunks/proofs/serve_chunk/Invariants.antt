-- `vector_chunks::serve_chunk` meets its contract: its services, one behind the other, are one service at each turn. The output
-- has room for a first one, so that something is taken in before it is full.
use Rattle.std.proofs.Common.{◌≡◌, ◌⊎◌, ◌-◌, ◌<◌, length}
use Rattle.records.specs.Remembered.{Served}
use Rattle.vector_lines.specs.Line.{answer_line}
use Rattle.vector_chunks.proofs.serve_chunk.Given as goal

abbrev pub invariant-loop-i : goal.invariant-loop-i
invariant-loop-i l =
    Served answer_line l.fn.reader l.chunk l.at l.fn.out l.reader l.i l.out l.count
    × ((l.at < l.i) ⊎ (l.count ≡ 0))

abbrev pub decreases-loop-i : goal.decreases-loop-i
decreases-loop-i l = length l.chunk - l.i
