-- `bench_records::bench_records` meets its contract: the line feeds behind it are counted by records and by lines of the next.
use Rattle.std.proofs.Common.{◌-◌, length}
use Rattle.bench_records.proofs.CountLaws.{Counting}
use Rattle.bench_records.proofs.bench_records.Given as goal

abbrev pub invariant-loop-at : goal.invariant-loop-at
invariant-loop-at l = Counting l.reader l.input l.count l.at

abbrev pub decreases-loop-at : goal.decreases-loop-at
decreases-loop-at l = length l.input - l.at
