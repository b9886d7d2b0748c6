-- `vector_chunks::serve` meets its contract: a scan, and the answer to the record that it made whole, if it did.
use Rattle.std.proofs.Common.{sym, ◌∙◌}
use Rattle.records.proofs.AnswerLaws.{wrote-fits}
use Rattle.records.proofs.ServeLaws.{served_none, served_whole}
use Rattle.vector_lines.specs.Line.{answer_line}
use Rattle.vector_lines.proofs.AnswerLaws.{record_remembered}
use Rattle.vector_chunks.proofs.serve.Goals as goal

pub returns-then-not-is_whole-clause-served : goal.returns-then-not-is_whole-clause-served
returns-then-not-is_whole-clause-served c =
    served_none answer_line c.scan-end.ensures _ (sym c.is_whole.ensures ∙ c.if-not-is_whole.true)

pub returns-clause-served : goal.returns-clause-served
returns-clause-served c =
    let line = c.answer_record-count.ensures in
    rw c.restart.ensures
    (served_whole answer_line c.scan-end.ensures _ (wrote-fits line) (sym c.is_whole.ensures ∙ c.if-not-is_whole.false)
    (λ k i a t known. rw (record_remembered k i a t known) line))
