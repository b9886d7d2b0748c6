-- What is left of the sum, and of the powers, gives what was asked.
use Rattle.std.proofs.Common.{◌≡◌, ◌-◌}
use Rattle.std.specs.Int.Bits.{bit_xor}
use Rattle.hash_field.specs.Element.{value_of, times_power}
use Rattle.hash_field.specs.Field.{sum_of}
use Rattle.hash_field.proofs.Partial.add_powers.Given as goal

abbrev pub invariant-loop-i : goal.invariant-loop-i
invariant-loop-i l =
    (bit_xor (value_of l.partial.sum) (sum_of (64 - l.i) l.bits (value_of l.partial.power))
    ≡ bit_xor (value_of l.fn.self.sum) (sum_of 64 l.bits (value_of l.fn.self.power)))
    × (times_power (64 - l.i) (value_of l.partial.power) ≡ times_power 64 (value_of l.fn.self.power))
