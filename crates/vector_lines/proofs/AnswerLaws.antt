-- The answer line of a record, from what a seal promises: the output has room for all that it writes, so that row 7 is never given,
-- and what stands in front of it is the sealed form.
use mathlib.Core.Path.{◌≡◌, refl, sym, ap, ◌∙◌}
use mathlib.Core.Bool.{Bool, true, false}
use mathlib.Core.List.{List, ◌++◌}
use Prim.Native.Nat.{ℕ, ◌+◌, ◌≤◌}
use native.Mathlib.Nat.{le_refl}
use borrow.Author.Tests.{le-ltb}
use lib.ListN.{length, take, drop}
use lib.Seq.{take_at}
use Rattle.std.specs.Prelude.{Ok, Err}
use Rattle.answer.specs.declared.Refusal.{Refusal}
use Rattle.answer.specs.Number.{refusal_number}
use Rattle.answer.proofs.DoneLaws.{when_refused, when_done}
use Rattle.answer.proofs.NumberLaws.{refusal_numbered}
use Rattle.aes.specs.Cipher.{enciphered}
use Rattle.aes.proofs.CipherLaws.{enciphered-sixteen}
use Rattle.mode.specs.Mode.{sealed}
use Rattle.gcm.specs.Promise.{seal_number, SealPromise}
use Rattle.mode.proofs.ModeLaws.{length-sealed}
use Rattle.records.specs.Answers.{sealed_line, number_line}
use Rattle.records.specs.Kept.{all_good}
use Rattle.records.specs.Reading.{whole}
use Rattle.records.specs.Records.{answer_to}
use Rattle.records.specs.Remembered.{Remembers}
use Rattle.records.specs.declared.reader.Reader.{Reader}
use Rattle.records.proofs.ServeLaws.{answers_bad, answers-good}
use Rattle.vector_lines.specs.Line.{answer_number, answer_line, record_line}

module _ (key iv ad text room : List ℕ) (enough : length text + 16 ≤ length room) where
  same_number : seal_number key iv ad text 16 room ≡ answer_number key iv ad text
  unfolding seal_number answer_number
  same_number = rw (le-ltb (length room) (length text + 16) enough, le-ltb (length text + 16) (length text + 16) (le_refl _))

  -- done: so many bytes, and those are the sealed form
  pub done_line : {count : ℕ} {left : List ℕ} → SealPromise key iv ad text 16 room (Ok count) left
      → answer_line key iv ad text ≡ sealed_line (take count left)
  unfolding answer_line
  done_line promise =
      let form = sealed (enciphered key) iv ad 16 text in
      let none : answer_number key iv ad text ≡ 0 = sym (promise.answer ∙ same_number) in
      let behind = drop (length text + 16) room in
      let count = promise.count ∙ when_done _ 0 (sym promise.answer) in
      let bytes = promise.bytes ∙ when_done (form ++ behind) room (sym promise.answer) in
      let long = length-sealed (enciphered key) (enciphered-sixteen key) iv ad 16 text (le_refl 16) in
      rw (none, count, bytes, take_at form behind (length text + 16) long)

  -- refused: the number alone
  pub refused_line : {refusal : Refusal} {left : List ℕ} → SealPromise key iv ad text 16 room (Err refusal) left
      → answer_line key iv ad text ≡ number_line (refusal_number refusal)
  unfolding answer_line
  refused_line {refusal} promise =
      let numbered = promise.answer ∙ same_number in
      when_refused _ _ _ numbered (refusal_numbered refusal).0 ∙ ap number_line (sym numbered)

-- the record that the reader has is the one that it remembers
pub record_remembered : {r : Reader} (k i a t : List ℕ) → Remembers r (whole k i a t) → answer_to answer_line k i a t ≡ record_line r
record_remembered {r} k i a t known = go (all_good r) refl
  where
    go : (good : Bool) → all_good r ≡ good → answer_to answer_line k i a t ≡ record_line r
    go true e = rw e (answers-good answer_line k i a t known e)
    go false e = rw e (answers_bad answer_line k i a t known e)
