-- A line that was written byte by byte, or as hex between its first bytes and its line feed, stands in front of the output.
use mathlib.Core.Path.{◌≡◌, refl, sym, ap, ◌∙◌}
use mathlib.Core.List.{List, [], ◌∷◌, ◌++◌, append-nil}
use Prim.Native.Nat.{ℕ, suc, ◌+◌, ◌-◌, ◌*◌, ◌≤◌, ◌<◌}
use native.Mathlib.Nat.{le_of_eq}
use native.Mathlib.Numerals.{add-one}
use native.Mathlib.Omega.{arith}
use lib.ListN.{length, get_or, take, drop, set, length-append, length-drop}
use lib.Seq.{take_at, drop-cons, set_at, append_snoc}
use borrow.Rule.Slice.PartMut.{put_mid}
use Rattle.std.proofs.Common.{drop_of_length-le}
use Rattle.std.proofs.lemmas.List.{take_rest}
use Rattle.hexadecimal.specs.Hex.{encoded}
use Rattle.records.specs.Records.{line_feed}
use Rattle.records.specs.Answers.{sealed_line, Wrote}
use Rattle.hexadecimal.proofs.HexLaws.{length-encoded}

pub wrote_nothing : (out : List ℕ) → Wrote [] out out 0
wrote_nothing out = record { counts = refl; front = refl }

pub wrote-fits : {line was now : List ℕ} {count : ℕ} → Wrote line was now count → count ≤ length now
wrote-fits wrote = rw (wrote.counts, wrote.front, length-append) (omega arith)

-- the line is what was counted of the output
pub wrote_line : {line was now : List ℕ} {count : ℕ} → Wrote line was now count → take count now ≡ line
wrote_line {line} {was} {now} {count} wrote =
    ap (take count) wrote.front ∙ take_at line (drop (length line) was) count (sym wrote.counts)

-- hex, and a line feed behind it
hex_ended : (digits rest : List ℕ) (n : ℕ) → length digits ≡ n → n < length rest
    → set (digits ++ drop n rest) n line_feed ≡ (digits ++ (line_feed ∷ [])) ++ drop (suc n) rest
hex_ended digits rest n long room =
    ap (λ r. set (digits ++ r) n line_feed) (drop-cons rest n 0 room)
    ∙ set_at digits (get_or rest n 0) (drop (suc n) rest) line_feed n long
    ∙ sym (append_snoc digits line_feed (drop (suc n) rest))

-- a part of an output, written from index 2 on
from_2 : (a b : ℕ) (rest part : List ℕ)
    → put_mid 2 (length (a ∷ b ∷ rest) - 2) (a ∷ b ∷ rest) part ≡ a ∷ b ∷ part
from_2 a b rest part =
    let none = drop_of_length-le rest (le_of_eq (length-drop 2 (a ∷ b ∷ rest))) in
    ap {B = List ℕ} (λ r. a ∷ b ∷ (part ++ r)) none ∙ ap {B = List ℕ} (λ r. a ∷ b ∷ r) (append-nil part)

-- what stands from index 2 on
rest_from_2 : (a b : ℕ) (rest : List ℕ) → take (length (a ∷ b ∷ rest) - 2) rest ≡ rest
rest_from_2 a b rest = take_rest (a ∷ b ∷ rest) 2

-- `0 ` was put in front of an output, and the hex behind it
pub wrote-sealed : (sealed was begun digits : List ℕ) → length sealed * 2 + 3 ≤ length was
    → begun ≡ 48 ∷ 32 ∷ drop 2 was
    → digits ≡ encoded sealed ++ drop (length sealed * 2) (take (length begun - 2) (drop 2 begun))
    → Wrote (sealed_line sealed) was (set (put_mid 2 (length begun - 2) begun digits) (length sealed * 2 + 2) line_feed)
    (length sealed * 2 + 2 + 1)
unfolding sealed_line
wrote-sealed sealed [] begun written fits front hex = absurd (omega arith)
wrote-sealed sealed (a ∷ []) begun written fits front hex = absurd (omega arith)
wrote-sealed sealed (a ∷ b ∷ rest) begun written fits front hex =
    let n = length sealed * 2 in
    let digits = encoded sealed in
    let long : length digits ≡ n = length-encoded sealed in
    let whole-line : length (digits ++ (line_feed ∷ [])) ≡ suc n =
    length-append digits (line_feed ∷ []) ∙ ap (λ k. k + 1) long ∙ add-one n
    in
    let last : n + 2 ≡ suc (suc n) = omega arith in
    record {
      counts = rw (whole-line, last) (add-one (suc (suc n)));
      front =
          rw
          (hex, front, from_2 48 32 rest (digits ++ drop n (take (length (48 ∷ 32 ∷ rest) - 2) rest)), rest_from_2 48 32 rest, last, whole-line)
          (ap {B = List ℕ} (λ r. 48 ∷ 32 ∷ r) (hex_ended digits rest n long (omega arith)));
    }
