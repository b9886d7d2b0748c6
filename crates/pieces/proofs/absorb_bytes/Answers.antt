-- Bytes that fill no block are held; if they fill one, it goes into the hash, then the whole blocks behind it, and the rest is
-- held.
use mathlib.Core.Path.{◌≡◌, sym, ap, ap₂, ◌∙◌}
use mathlib.Core.List.{List, [], ◌++◌, append-nil}
use Prim.Native.Nat.{ℕ, ◌+◌, ◌-◌, ◌*◌, ◌/◌, ◌^◌, ◌≤◌, ◌<◌}
use native.Mathlib.Omega.{arith}
use borrow.Author.Rules.{rules, part_to_end}
use lib.Bits.{bit_xor}
use lib.ListN.{length, take, drop, length-append}
use lib.Seq.{drop-append-add}
use Rattle.octets.specs.Block.{number_at, padded}
use Rattle.hash_field.specs.Field.{product}
use Rattle.hash_field.specs.Element.{value_of}
use Rattle.ghash.specs.Hash.{hash_from}
use Rattle.hash_field.proofs.ElementLaws.{element_is}
use Rattle.pieces.specs.Piece.{sixteen, sum_after, part_after}
use Rattle.pieces.proofs.HeldLaws.{sum_short, part_short, sum_fill, part_fill}
use Rattle.pieces.proofs.absorb_bytes.Goals as goal

-- what the code hashes and holds behind the first block
abbrev rest_of : List ℕ → List ℕ → List ℕ
rest_of held more = take (length more - (16 - length held)) (drop (16 - length held) more)

behind : (held more : List ℕ) → length held < 16 → drop 16 (held ++ more) ≡ rest_of held more
behind held more short =
    let at : 16 ≡ length held + (16 - length held) = omega arith in
    ap (λ (n : ℕ). drop n (held ++ more)) at
    ∙ drop-append-add held more (16 - length held) ∙ sym (part_to_end more (16 - length held))

module _ (s rest : List ℕ) (long : 16 ≤ length s) (left : drop 16 s ≡ rest) where
  hashed-fill : (h sum : ℕ) {first : ℕ} {whole : List ℕ} → first ≡ product (bit_xor sum (number_at (sixteen s) 0)) h
      → whole ≡ take (length rest / 16 * 16) rest
      → hash_from h first (padded whole) ≡ sum_after h sum s
  hashed-fill h sum {first} {whole} added blocks =
      ap₂ (λ (a : ℕ) (r : List ℕ). hash_from h a (padded r)) added
      (blocks ∙ ap (λ (r : List ℕ). take (length r / 16 * 16) r) (sym left))
      ∙ sym (sum_fill h sum s long)

  held-fill : {part : List ℕ} → part ≡ drop (length rest / 16 * 16) rest → sixteen (part ++ []) ≡ part_after s
  held-fill {part} behind =
      ap sixteen (append-nil part ∙ behind ∙ ap (λ (r : List ℕ). drop (length r / 16 * 16) r) (sym left))
      ∙ sym (part_fill s long)

pub returns-then-held-more-lt16 : goal.returns-then-held-more-lt16
returns-then-held-more-lt16 c =
    let held = c.args.held.now in
    let more = c.args.more.now in
    let sum = c.args.sum in
    let s = held ++ more in
    let size : length s ≡ length held + length more = length-append held more in
    let short : length s < 16 = omega arith in
    let low : sum.low < 2 ^ 64 = search rules in
    record {
      sum = element_is sum low (sym (sum_short (value_of c.args.h) (value_of sum) s short));
      part = c.sixteen_of-block.ensures ∙ sym (part_short s short);
    }

pub returns : goal.returns
returns c =
    let held = c.args.held.now in
    let more = c.args.more.now in
    let h = value_of c.args.h in
    let sum = value_of c.args.sum in
    let hashed = c.hash_bytes in
    let s = held ++ more in
    let rest = rest_of held more in
    let left : drop 16 s ≡ rest = behind held more c.requires in
    let size : length s ≡ length held + length more = length-append held more in
    let long : 16 ≤ length s = omega arith in
    let low : hashed.result.low < 2 ^ 64 = search (rules, hashed.type_inv) in
    let first : value_of c.absorb-first.result ≡ product (bit_xor sum (number_at (sixteen s) 0)) h =
    c.absorb-first.ensures
    ∙ ap (λ (x : ℕ). product (bit_xor sum x) h)
    (c.from.ensures ∙ ap (λ (t : List ℕ). number_at t 0) c.sixteen_of-block.ensures) in
    record {
      sum = element_is hashed.result low (hashed.ensures ∙ hashed-fill s rest long left h sum first c.split_at.ensures.front);
      part = c.sixteen_of.ensures ∙ held-fill s rest long left c.split_at.ensures.back;
    }
