-- The numbers to check by (rules R10.2 to R10.9), computed: both sides of each row come to the same list.
use mathlib.Core.Path.{refl}
use Rattle.octets.specs.Block.{block_bytes}
use Rattle.byte_field.specs.Field.{doubled, multiples, squares, inverse, product as byte_product}
use Rattle.sbox.specs.Substitution.{entry_bits, substituted}
use Rattle.hash_field.specs.Field.{times_a, sum_of, product}
use Rattle.ledger.specs.Ledger.{window_of, ledger_of, mark_at, with_mark, shifted_by, raised_to, marked_at, accepted_by, verdict_of}
use Rattle.counter.specs.Counter.{counter_block, stepped}
use Rattle.mode.specs.Mode.{first_block}
use Rattle.channel_state.specs.State.{busy, idle, new_channel, begin_number, begun_with, begin_of, end_number, end_of}
use Rattle.claims.specs.Numbers.{answers_to, EveryRowHolds}

infixr 2 ◌and◌
-- a row, and those after it
◌and◌ : {A B : Type 0} → A → B → A × B
a and b = (a, b)

-- Each row, by computing with the definitions that are named in front of it.
pub every_row_holds : EveryRowHolds
every_row_holds =
    (unfold substituted entry_bits inverse squares byte_product multiples doubled in refl)
    and (unfold byte_product multiples doubled in refl)
    and (unfold stepped counter_block in refl)
    and (unfold block_bytes product sum_of times_a in refl)
    and (unfold block_bytes product sum_of times_a in refl)
    and (unfold block_bytes in refl)
    and (unfold first_block counter_block in refl)
    and (unfold answers_to new_channel begin_number busy verdict_of begin_of begun_with end_of end_number idle
    accepted_by raised_to marked_at ledger_of window_of mark_at with_mark shifted_by in refl)
    and tt
