-- `sbox::Table::new` gives what the type says: the rule is computed for each of the 256 bytes and compared with the table's entry.
use Rattle.std.proofs.Common.{Bool, List, ℕ, get_or}
use lib.Dec.{T, eqb, eqb→eq}
use Rattle.octets.proofs.Tested.{passes, passed}
use Rattle.byte_field.specs.Field.{doubled, multiples, product, squares, inverse}
use Rattle.sbox.specs.Substitution.{entry_bits, substituted, Substitutes}
use Rattle.sbox.proofs.Table.new.Goals as goal

abbrev follows : List ℕ → ℕ → Bool
follows t a = eqb (get_or t a 0) (substituted a)

substitutes : (t : List ℕ) → T (passes (follows t) 256) → Substitutes t
substitutes t right = record { entry = λ a below. eqb→eq (get_or t a 0) (substituted a) (passed (follows t) 256 right a below) }

pub invariant_of-result : goal.invariant_of-result
unfolding doubled multiples product squares inverse entry_bits substituted
invariant_of-result c = record { follows_the_rule = substitutes _ tt }
