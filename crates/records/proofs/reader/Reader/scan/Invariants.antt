-- `records::reader::Reader::scan` meets its contract. The invariant: whatever the reader remembered at first, it remembers now a
-- state from which the bytes to come make what was asked.
use Rattle.records.proofs.ScanLaws.{Scanning}
use Rattle.records.proofs.reader.Reader.scan.Given as goal

abbrev pub invariant-loop-i : goal.invariant-loop-i
invariant-loop-i l = Scanning l.fn.self l.chunk l.at l.self l.i
