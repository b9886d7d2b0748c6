-- The hash of the associated data, and no text yet.
use Rattle.std.proofs.Common.{rules}
use Rattle.hash_field.specs.Element.{value_of}
use Rattle.hash_field.proofs.ElementLaws.{element_is}
use Rattle.message.proofs.message_begun.Goals as goal

pub returns : goal.returns
unfolding value_of
returns c =
    let sum = c.hash_bytes in
    rw (element_is sum.result (search (rules, sum.type_inv)) sum.ensures)
