-- What the reader remembers is what is to be written: `bad` or the answer to the bytes in the buffers for a whole record, `cut` for
-- what remains at the end, and nothing while a record is not whole.
use mathlib.Core.Path.{◌≡◌, refl, sym, ap, ◌∙◌}
use mathlib.Core.Bool.{Bool, true, false, false≢true, ◌&&◌, cond}
use mathlib.Core.List.{List, [], ◌∷◌}
use Prim.Native.Nat.{ℕ, suc, ◌/◌, ◌≤◌, zero-le, min}
use native.Mathlib.Omega.{arith}
use lib.Dec.{eqb-suc-zero}
use lib.ListN.{length, drop}
use Rattle.std.specs.Prelude.{Option, unwrap_or}
use Rattle.hexadecimal.specs.Hex.{decoded, good_line, longest_field}
use Rattle.hexadecimal.specs.Line.{Counted, fitting, line_of, pending}
use Rattle.records.specs.Records.{Answering, bad_line, cut_line, cut_of, answer_to}
use Rattle.records.specs.Reading.{State, in_key, in_iv, in_ad, in_text, Next, more, whole, onward, said, after, written, ending}
use Rattle.records.specs.Reading.{scanned}
use Rattle.records.specs.Answers.{Wrote}
use Rattle.records.specs.Kept.{at_start, is_whole, all_good, field_bytes, begun, remaining, last_line}
use Rattle.records.specs.Remembered.{Remembers, Scanned, bytes_from, Served}
use Rattle.records.specs.declared.reader.Reader.{Reader}
use Rattle.records.proofs.AnswerLaws.{wrote_nothing}
use Rattle.records.proofs.ChunkLaws.{after-taken, written-taken}
use Rattle.octets.proofs.BytesLaws.{both_true}
use Rattle.hexadecimal.proofs.LineLaws.{line_fresh}
use Rattle.records.proofs.ScanLaws.{open_lines, whole_lines, remembers-start, scanned-bytes}

-- a line of which anything was read shows it
cut_begun : (s : List ℕ) → cut_of s ≡ cond (begun (line_of s)) cut_line []
unfolding cut_of line_of pending
cut_begun [] = rw line_fresh
cut_begun (b ∷ []) = go (fitting (b ∷ [])) refl
  where
    go : (p : Bool) → fitting (b ∷ []) ≡ p → cut_line ≡ cond (begun (line_of (b ∷ []))) cut_line []
    go true e = rw e
    go false e = rw e
cut_begun (b ∷ l ∷ s) = go (fitting (b ∷ l ∷ s)) refl
  where
    go : (p : Bool) → fitting (b ∷ l ∷ s) ≡ p → cut_line ≡ cond (begun (line_of (b ∷ l ∷ s))) cut_line []
    go true e =
        let some : suc (suc (length s)) / 2 ≡ suc (length s / 2) = omega arith in
        rw (e, some, eqb-suc-zero (length s / 2))
    go false e = rw e

-- the bytes of a field whose line is good
bytes_of_good : {count : Option ℕ} {buffer line : List ℕ} → Counted count buffer line → good_line line ≡ true
    → field_bytes count buffer ≡ decoded line
bytes_of_good {count} held good =
    let few : min (unwrap_or count 0) longest_field ≡ unwrap_or count 0 = omega (arith, held.within) in
    rw few (held.front good)

module _ (answer : Answering) {r : Reader} (k i a t : List ℕ) (known : Remembers r (whole k i a t)) where
  good_lines : all_good r ≡ (good_line k && good_line i && good_line a && good_line t)
  good_lines = rw (known.reads.1.good, known.reads.2.good, known.reads.3.good, known.reads.4.good)

  pub answers_bad : all_good r ≡ false → answer_to answer k i a t ≡ bad_line
  unfolding answer_to
  answers_bad bad = rw (sym good_lines ∙ bad)

  pub answers-good : all_good r ≡ true
      → answer_to answer k i a t
      ≡ answer (field_bytes r.progress.key r.key.now) (field_bytes r.progress.iv r.iv.now)
      (field_bytes r.progress.ad r.ad.now) (field_bytes r.progress.text r.text.now)
  unfolding answer_to
  answers-good good =
      let all = sym good_lines ∙ good in
      let three = both_true (good_line k && good_line i && good_line a) (good_line t) all in
      let two = both_true (good_line k && good_line i) (good_line a) three.0 in
      let one = both_true (good_line k) (good_line i) two.0 in
      rw (
        all,
        bytes_of_good known.reads.1 one.0,
        bytes_of_good known.reads.2 one.1,
        bytes_of_good known.reads.3 two.1,
        bytes_of_good known.reads.4 three.1,
      )

-- the end of the input

pub ending_remembered : {r : Reader} (state : State) → Remembers r (more state) → ending state ≡ last_line r
unfolding ending remaining
ending_remembered (in_key l) known = rw (known.reads.0.ended, known.reads.0.begins) (cut_begun l)
ending_remembered (in_iv k l) known = rw known.reads.0.ended
ending_remembered (in_ad k i l) known = rw known.reads.0.ended
ending_remembered (in_text k i a l) known = rw known.reads.0.ended

-- a part of a chunk, scanned and answered

module _ (answer : Answering) {r : Reader} {chunk : List ℕ} {at : ℕ} {r' : Reader} {end : ℕ}
    (scan : Scanned r chunk at r' end) (out : List ℕ) where
  after_scan : (state : State) → Remembers r (more state)
      → after state (bytes_from chunk at end) ≡ onward (scanned state (drop at chunk))
  after_scan state known = ap (after state) (scanned-bytes scan state known) ∙ after-taken state (drop at chunk)

  written_scan : (state : State) → Remembers r (more state)
      → written answer state (bytes_from chunk at end) ≡ said answer (scanned state (drop at chunk))
  written_scan state known = ap (written answer state) (scanned-bytes scan state known) ∙ written-taken answer state (drop at chunk)

  -- what is written and remembered is what is so behind the scan, whatever was read
  served : {r'' : Reader} {out' : List ℕ} {count : ℕ} → count ≤ length out'
      → ((n : Next) → Remembers r' n → Remembers r'' (more (onward n)) × Wrote (said answer n) out out' count)
      → Served answer r chunk at out r'' end out' count
  served fits read =
      record {
        remembers = λ state known. rw (after_scan state known) (read _ (scan.remembers state known)).0;
        writes = λ state known. rw (written_scan state known) (read _ (scan.remembers state known)).1;
        fits = fits;
        reached = scan.reached;
        within = scan.within;
      }

  -- no record is whole yet
  pub served_none : is_whole r'.progress.stage ≡ false → Served answer r chunk at out r' end out 0
  unfolding onward said
  served_none few = served zero-le go
    where
      go : (n : Next) → Remembers r' n → Remembers r' (more (onward n)) × Wrote (said answer n) out out 0
      go (more next) known = (known, wrote_nothing out)
      go (whole k i a t) known = absurd (false≢true (sym few ∙ whole_lines known))

  -- a record is whole, and answered
  pub served_whole : {out' : List ℕ} {count : ℕ} → count ≤ length out' → is_whole r'.progress.stage ≡ true
      → ((k i a t : List ℕ) → Remembers r' (whole k i a t) → Wrote (answer_to answer k i a t) out out' count)
      → Served answer r chunk at out (at_start r') end out' count
  unfolding onward said
  served_whole {out'} {count} fits four answered = served fits go
    where
      go : (n : Next) → Remembers r' n → Remembers (at_start r') (more (onward n)) × Wrote (said answer n) out out' count
      go (more next) known = absurd (false≢true (sym (open_lines next known) ∙ four))
      go (whole k i a t) known = (remembers-start r' known.room, answered k i a t known)
