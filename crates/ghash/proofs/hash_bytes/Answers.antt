-- What is left behind the whole blocks fills one more with zeros, if there is any.
use Rattle.std.proofs.Common.{rules, ◌≡◌, ◌<◌, ℕ, ◌++◌, List, sym, ap, ◌∙◌, arith, drop, length, replicate}
use Rattle.std.specs.Int.Bits.{bit_xor}
use Rattle.octets.specs.Block.{number_at}
use Rattle.octets.proofs.BlockLaws.{number_filled}
use Rattle.hash_field.specs.Element.{value_of}
use Rattle.hash_field.specs.Field.{product}
use Rattle.ghash.proofs.HashLaws.{hash_rest, hash_none, hash_last}
use Rattle.ghash.proofs.hash_bytes.Goals as goal

pub returns-then-is_empty : goal.returns-then-is_empty
returns-then-is_empty c =
    let h = value_of c.args.h in
    let state = value_of c.loop-block.state in
    let chunks = c.as_chunks.ensures in
    let rest = c.as_chunks.result.1.now in
    let none : length rest ≡ 0 = search rules in
    sym (hash_none h state rest none)
    ∙ hash_rest h (value_of c.args.sum) state c.args.s.now _ chunks.front chunks.back c.loop-block-test.false c.loop-block.invariant

pub returns : goal.returns
returns c =
    let h = value_of c.args.h in
    let state = value_of c.loop-block.state in
    let chunks = c.as_chunks.ensures in
    let rest = c.as_chunks.result.1.now in
    let some : 0 < length rest = search rules in
    let block = c.from-2.ensures
    ∙ ap (λ (t : List ℕ). number_at (t ++ drop (length rest) (replicate 16 0)) 0) c.copy_from_slice.ensures.after
    ∙ number_filled rest (length rest) 16 in
    c.absorb.ensures ∙ ap (λ (x : ℕ). product (bit_xor state x) h) block
    ∙ sym (hash_last h state rest some (omega (arith, chunks.back_len)))
    ∙ hash_rest h (value_of c.args.sum) state c.args.s.now _ chunks.front chunks.back c.loop-block-test.false c.loop-block.invariant
