-- Each scan keeps the count of the line feeds behind it, whether or not it makes a record whole.
use Rattle.std.proofs.Common.{sym, subst, ◌∙◌}
use Rattle.records.proofs.ScanLaws.{begins_new}
use Rattle.bench_records.proofs.CountLaws.{Counting, counting_none, counting_on, counting_whole, counted}
use Rattle.bench_records.proofs.bench_records.Goals as goal

pub loop-at-init : goal.loop-at-init
loop-at-init c =
    let begun = begins_new _ _ _ _ _ c.new-reader.ensures c.told-key c.told-iv c.told-ad c.told-text in
    subst (λ r. Counting r c.args.input.now 0 0) begun.1 (counting_none c.new-reader.result begun.0 _)

pub loop-at-preserved-then-is_whole : goal.loop-at-preserved-then-is_whole
loop-at-preserved-then-is_whole c =
    rw c.restart.ensures
    (counting_whole c.scan-at.ensures c.loop-at.invariant c.loop-at-test.true (sym c.is_whole.ensures ∙ c.if-is_whole.true))

pub loop-at-preserved : goal.loop-at-preserved
loop-at-preserved c =
    counting_on c.scan-at.ensures c.loop-at.invariant c.loop-at-test.true (sym c.is_whole.ensures ∙ c.if-is_whole.false)

pub returns : goal.returns
returns c = counted c.loop-at-test.false c.loop-at.invariant
