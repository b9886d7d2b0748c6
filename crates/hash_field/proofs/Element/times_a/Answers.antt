-- Half of a block is each half's half, with the upper half's lowest bit on top of the lower one, and e1 reaches the upper half
-- only.
use mathlib.Core.Path.{◌≡◌, sym, ap, ap₂, ◌∙◌}
use Prim.Native.Nat.{ℕ, ◌+◌, ◌*◌, ◌/◌, ◌%◌, ◌^◌, ◌<◌}
use native.Mathlib.Nat.{mul_assoc, add-zero}
use native.Mathlib.Omega.{arith}
use lib.Bits.{bit_xor, bit_or, block_half, block_odd, xor_block, xor_zero_r, or_shifted_r}
use lib.Pow.{pow_pos, low}
use Rattle.hash_field.specs.Element.{value_of}
use Rattle.hash_field.specs.Field.{times_a}
use Rattle.hash_field.proofs.Element.times_a.Goals as goal

-- e1 and seven zero bytes
abbrev top : ℕ
top = 0xe1 * 2 ^ 56

halved : (h l : ℕ) → l < 2 ^ 64
    → times_a (h * 2 ^ 64 + l) ≡ bit_xor (h / 2) (l % 2 * top) * 2 ^ 64 + bit_or (l / 2) (h * 2 ^ 63 % 2 ^ 64)
unfolding times_a
halved h l below =
    let lower = h % 2 * 2 ^ 63 + l / 2 in
    let carried : h * 2 ^ 63 + l / 2 ≡ h / 2 * 2 ^ 64 + lower = omega arith in
    let whole : h * 2 ^ 63 ≡ h / 2 * 2 ^ 64 + h % 2 * 2 ^ 63 = omega arith in
    let shifted = ap (λ (x : ℕ). x % 2 ^ 64) whole ∙ low (h / 2) 64 {lo = h % 2 * 2 ^ 63} (omega arith) in
    let reduced = sym (mul_assoc (l % 2) top (2 ^ 64)) ∙ sym (add-zero (l % 2 * top * 2 ^ 64)) in
    ap₂ bit_xor (block_half h 63 l ∙ carried) (ap (λ (b : ℕ). b * (0xe1 * 2 ^ 120)) (block_odd h 63 l) ∙ reduced)
    ∙ xor_block 64 (h / 2) (l % 2 * top) lower 0 (omega arith) (pow_pos 64)
    ∙ ap (λ (r : ℕ). bit_xor (h / 2) (l % 2 * top) * 2 ^ 64 + r)
    (xor_zero_r lower ∙ sym (or_shifted_r (h % 2) 63 (l / 2) (omega arith)) ∙ ap (bit_or (l / 2)) (sym shifted))

pub returns : goal.returns
unfolding value_of
returns c = sym (halved c.args.self.high c.args.self.low (omega arith))
