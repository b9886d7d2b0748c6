-- The hash so far, gone on over the blocks that are left, is that over all of them.
use Rattle.std.proofs.Common.{◌≡◌, drop}
use Rattle.hash_field.specs.Element.{value_of}
use Rattle.ghash.specs.Hash.{hash_from}
use Rattle.ghash.proofs.HashLaws.{numbers}
use Rattle.ghash.proofs.hash_bytes.Given as goal

abbrev pub invariant-loop-block : goal.invariant-loop-block
invariant-loop-block l =
    hash_from (value_of l.h) (value_of l.state) (numbers (drop l.block-index l.blocks))
    ≡ hash_from (value_of l.h) (value_of l.fn.sum) (numbers l.blocks)
