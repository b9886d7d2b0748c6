-- `records::answers::write_sealed` meets its contract: the line's first two bytes, the hex behind them, and a line feed.
use Rattle.std.proofs.Common.{ap, arith, drop, ◌++◌}
use Rattle.records.proofs.AnswerLaws.{wrote-sealed}
use Rattle.records.proofs.answers.write_sealed.Goals as goal

pub returns : goal.returns
returns c =
    let front = ap (λ s. s ++ drop 2 c.args.out.now) c.copy_from_slice.ensures.after in
    wrote-sealed c.args.sealed.now c.args.out.now _ _ (omega arith) front c.write_hex.ensures
