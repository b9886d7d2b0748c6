-- Xor works on each half apart.
use Rattle.std.proofs.Common.{sym, arith}
use lib.Bits.{xor_block}
use Rattle.hash_field.specs.Element.{value_of}
use Rattle.hash_field.proofs.ElementBitXor.bitxor.Goals as goal

pub returns : goal.returns
unfolding value_of
returns c =
    let a = c.args.self in
    let b = c.args.rhs in
    sym (xor_block 64 a.high b.high a.low b.low (omega arith) (omega arith))
