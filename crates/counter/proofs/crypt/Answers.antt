-- A block more is crypted, as many bytes as there are of it.
use Rattle.std.proofs.Common.{arith, ◌+◌, ◌-◌, ◌*◌, ◌≤◌, length, take, drop, length-take, length-drop}
use Rattle.aes.specs.Under.{enciphered_under}
use Rattle.aes.proofs.CipherLaws.{length-enciphered}
use Rattle.counter.proofs.CryptLaws.{reached-more, xored_only}
use Rattle.counter.proofs.crypt.Goals as goal

pub loop-k-preserved : goal.loop-k-preserved
loop-k-preserved c =
    let at = 16 * c.loop-k.k in
    let n = at + c.min-n.result - at in
    let all : length (take n (drop at c.loop-k.out)) ≤ length (take n (drop at c.args.text.now)) =
    simp (length-take, length-drop) (omega (arith, c.loop-k.invariant.kept, c.requires.text_in_bounds, c.min-n.ensures)) in
    reached-more (enciphered_under c.args.cipher) (length-enciphered c.args.cipher.words.now c.args.cipher.rounds)
    _ _ _ _ _ c.loop-k.k n
    c.loop-k.invariant (xored_only _ _ _ c.xor_into.ensures all) c.encipher-block.ensures c.step-next.ensures
    c.requires.text_in_bounds (omega (arith, c.loop-k-test.true, c.div_ceil-k-end.ensures)) (omega (arith, c.min-n.ensures))
