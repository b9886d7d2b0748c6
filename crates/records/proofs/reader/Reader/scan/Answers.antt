-- Each byte takes the scan on, or stops it where a record is whole; so does the end of the chunk.
use Rattle.std.proofs.Common.{◌∙◌, sym, arith}
use Rattle.records.proofs.ScanLaws.{scanning_starts, scanning_more, scanning_stops, scanning_ends}
use Rattle.records.proofs.reader.Reader.scan.Goals as goal

pub loop-i-init : goal.loop-i-init
loop-i-init c = scanning_starts _ _ _

pub returns-then-is_whole : goal.returns-then-is_whole
returns-then-is_whole c =
    scanning_stops _ _ _ c.loop-i.i (omega arith) c.take_byte.ensures c.loop-i.invariant
    (sym c.is_whole.ensures ∙ c.if-is_whole.true)

pub loop-i-preserved : goal.loop-i-preserved
loop-i-preserved c =
    scanning_more _ _ _ c.loop-i.i (omega arith) c.take_byte.ensures c.loop-i.invariant
    (sym c.is_whole.ensures ∙ c.if-is_whole.false)

pub returns : goal.returns
returns c = rw c.max.ensures (scanning_ends _ _ _ _ c.loop-i.i c.loop-i-test.false c.loop-i.invariant)
