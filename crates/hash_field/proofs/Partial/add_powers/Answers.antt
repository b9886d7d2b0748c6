-- One more step takes the highest bit that is left into the sum, and goes on with y·a; with no bit left nothing is added.
use Rattle.std.proofs.Common.{◌≡◌, ℕ, suc, ◌+◌, ◌-◌, ap, ap₂, ◌∙◌, arith}
use Rattle.std.specs.Int.Bits.{bit_xor}
use Rattle.hash_field.specs.Element.{value_of, times_power}
use Rattle.hash_field.specs.Field.{sum_of}
use Rattle.hash_field.proofs.SumLaws.{sum_none, sum_step, power_none, power_step}
use Rattle.hash_field.proofs.Partial.add_powers.Goals as goal

pub loop-i-preserved : goal.loop-i-preserved
loop-i-preserved c =
    let bits = c.args.bits in
    let sum = value_of c.loop-i.partial.sum in
    let power = value_of c.loop-i.partial.power in
    let left = 63 - c.loop-i.i in
    let fewer : 64 - (c.loop-i.i + 1) ≡ left = omega arith in
    let again : suc left ≡ 64 - c.loop-i.i = omega arith in
    let more = c.bitxor.ensures ∙ ap (bit_xor sum) c.times_bit.ensures in
    let next = c.times_a.ensures in (
      ap (λ (n : ℕ). bit_xor (value_of c.bitxor.result) (sum_of n bits (value_of c.times_a.result))) fewer
          ∙ ap₂ (λ (s y : ℕ). bit_xor s (sum_of left bits y)) more next ∙ sum_step left bits sum power
          ∙ ap (λ (k : ℕ). bit_xor sum (sum_of k bits power)) again
          ∙ c.loop-i.invariant.0,
      ap₂ times_power fewer next ∙ power_step left power ∙ ap (λ (k : ℕ). times_power k power) again ∙ c.loop-i.invariant.1,
    )

pub returns-clause-sum_value : goal.returns-clause-sum_value
returns-clause-sum_value c =
    let bits = c.args.bits in
    let sum = value_of c.loop-i.partial.sum in
    let power = value_of c.loop-i.partial.power in
    let none : 0 ≡ 64 - c.loop-i.i = omega arith in
    sum_none bits sum power ∙ ap (λ (k : ℕ). bit_xor sum (sum_of k bits power)) none ∙ c.loop-i.invariant.0

pub returns-clause-power_value : goal.returns-clause-power_value
returns-clause-power_value c =
    let power = value_of c.loop-i.partial.power in
    let none : 0 ≡ 64 - c.loop-i.i = omega arith in
    power_none power ∙ ap (λ (k : ℕ). times_power k power) none ∙ c.loop-i.invariant.1
