-- At the loop's end the whole xor stands in front of the output, and behind it what stood there.
use Rattle.std.proofs.Common.{arith}
use Rattle.counter.proofs.CryptLaws.{xored_in_front}
use Rattle.counter.proofs.xor_into.Goals as goal

pub returns : goal.returns
returns c =
    let done = c.loop-i.invariant in
    xored_in_front _ _ _ _ c.loop-i.i done.1 c.requires.text_in_block (omega (arith, done.0, c.loop-i-test.false))
