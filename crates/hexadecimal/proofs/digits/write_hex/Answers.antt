-- Each turn sets the two digits of byte i, behind those that stand already.
use Rattle.std.proofs.Common.{◌≡◌, ◌∙◌, ap, sym, List, ℕ, suc, ◌+◌, ◌*◌, ◌/◌, ◌%◌, ◌≤◌, ◌<◌, ◌++◌, length, take, drop, get_or, slice_set, arith, add-one, refl, le_of_eq}
use Rattle.std.proofs.Math.Seq.{paste-suc, take_all}
use Rattle.hexadecimal.specs.Hex.{hex_digit, encoded}
use Rattle.hexadecimal.proofs.HexLaws.{length-encoded, digits_at}
use Rattle.hexadecimal.proofs.digits.write_hex.Goals as goal

one-more : (out s : List ℕ) (j : ℕ) → j < length out → j < length s
    → slice_set (take j s ++ drop j out) j (get_or s j 0) ≡ take (suc j) s ++ drop (suc j) out
one-more out s j room some =
    let from_0 : (n : ℕ) → 0 + n ≡ n = λ n. omega arith in
    rw (from_0 j, from_0 (suc j)) at (paste-suc out 0 s j 0 (rw (from_0 j) room) some)

more : (out₀ bytes out : List ℕ) (i h l : ℕ) → length bytes * 2 ≤ length out₀ → i < length bytes
    → h ≡ hex_digit (get_or bytes i 0 / 16) → l ≡ hex_digit (get_or bytes i 0 % 16)
    → out ≡ take (i * 2) (encoded bytes) ++ drop (i * 2) out₀
    → slice_set (slice_set out (i * 2) h) (i * 2 + 1) l ≡ take ((i + 1) * 2) (encoded bytes) ++ drop ((i + 1) * 2) out₀
more out₀ bytes out i h l room in_bytes high low so_far =
    let s = encoded bytes in
    let long : length s ≡ length bytes * 2 = length-encoded bytes in
    let digits = digits_at bytes i in_bytes in
    let first = high ∙ sym digits.0 in
    let second = low ∙ sym digits.1 ∙ ap (λ n. get_or s n 0) (add-one (i * 2)) in
    let place : i * 2 + 1 ≡ suc (i * 2) = omega arith in
    let next : (i + 1) * 2 ≡ suc (suc (i * 2)) = omega arith in
    rw (place, next, so_far, first, second, one-more out₀ s (i * 2) (omega arith) (omega arith))
    (one-more out₀ s (suc (i * 2)) (omega arith) (omega arith))

pub loop-i-preserved : goal.loop-i-preserved
loop-i-preserved c =
    let given = c.args in
    let in_bytes : c.loop-i.i < length given.bytes.now = omega arith in
    more given.out.now given.bytes.now c.loop-i.out c.loop-i.i _ _ (omega arith) in_bytes
    c.hex_digit.ensures
    c.hex_digit-in-loop-i.ensures
    c.loop-i.invariant

pub returns : goal.returns
returns c =
    let s = c.args.bytes.now in
    let end : c.loop-i.i ≡ length s = omega arith in
    c.loop-i.invariant ∙ rw (end, take_all (length s * 2) (encoded s) (le_of_eq (length-encoded s))) refl
