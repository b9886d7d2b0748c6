-- The bytes of a block are those of its number, whose upper half is one number of 64 bits and whose lower half the other.
use mathlib.Core.Path.{◌≡◌, ap, ap₂, ◌∙◌}
use Prim.Native.Nat.{ℕ, ◌+◌, ◌*◌, ◌%◌, ◌^◌, ◌<◌}
use native.Mathlib.Omega.{arith}
use lib.Bits.{bit_or}
use lib.Pow.{shr-shr}
use Rattle.std.specs.Int.{w128, to_be_bytes}
use Rattle.std.proofs.lemmas.Nat.{or_shifted}
use Rattle.octets.specs.Block.{block_bytes}
use Rattle.hash_field.specs.Element.{value_of}
use Rattle.hash_field.proofs.ArrayU816FromElement.from.Goals as goal

bytes-are : (n : ℕ) → to_be_bytes w128 n ≡ block_bytes n
unfolding block_bytes
bytes-are n = simp shr-shr

joined : (h l : ℕ) {a b : ℕ} → h < 2 ^ 64 → l < 2 ^ 64 → a ≡ h → b ≡ l → bit_or (a * 2 ^ 64 % 2 ^ 128) b ≡ h * 2 ^ 64 + l
joined h l upper lower first second =
    let whole : h * 2 ^ 64 % 2 ^ 128 ≡ h * 2 ^ 64 = omega arith in
    ap₂ (λ (x y : ℕ). bit_or (x * 2 ^ 64 % 2 ^ 128) y) first second
    ∙ ap (λ (x : ℕ). bit_or x l) whole ∙ or_shifted h 64 l lower

pub returns : goal.returns
unfolding value_of
returns c =
    let e = c.args.e in
    c.to_be_bytes.ensures ∙ bytes-are _
    ∙ ap block_bytes (joined e.high e.low (omega arith) (omega arith) c.from.ensures c.from-2.ensures)
