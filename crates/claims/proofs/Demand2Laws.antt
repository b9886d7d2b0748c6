-- Demand 2. Sealing: lengths that are allowed pass every row, and the promise then gives the bytes. Opening is as `gcm` shows it,
-- pieces and lists of calls as `runs` does.
use mathlib.Core.Path.{◌≡◌, sym, ap, ap₂, ◌∙◌, subst}
use mathlib.Core.Bool.{false, ◌||◌}
use mathlib.Core.List.{List}
use mathlib.Core.Logic.{◌⊎◌, inl, inr}
use Prim.Native.Nat.{ℕ, ◌+◌, ◌≤◌}
use borrow.Author.Tests.{le-ltb}
use lib.ListN.{length, take, drop}
use lib.Seq.{take_at}
use Rattle.answer.specs.Values.{count_in}
use Rattle.answer.proofs.DoneLaws.{when_done}
use Rattle.aes.specs.Cipher.{enciphered}
use Rattle.aes.proofs.CipherLaws.{enciphered-sixteen}
use Rattle.mode.specs.Mode.{sealed}
use Rattle.mode.proofs.ModeLaws.{length-sealed}
use Rattle.rows.specs.Rows.{longest_iv, longest_ad, longest_text, key_bad, iv_bad, tag_bad, lowest}
use Rattle.gcm.specs.Promise.{seal_number}
use Rattle.gcm.proofs.Theorems.{refused_without_text, opens_to_the_text, opens_what_was_sealed}
use Rattle.channel_state.specs.State.{new_channel}
use Rattle.channel_state.proofs.StateLaws.{not_idle}
use Rattle.runs.specs.Run.{after, run, text_of, Newest}
use Rattle.runs.proofs.CutLaws.{finish-done, all_cut, feed-writes, so_far, pieces}
use Rattle.runs.proofs.RunLaws.{open_message, messages-crypted, finish-sealed}
use Rattle.claims.specs.Demand2.{
  Allowed,
  SealIsAesGcm,
  OpenRefusesExactlyWithoutText,
  OpenWritesTheOnlyText,
  OpenGivesTheTextBack,
  RunsAreTheCalls,
  CutAnywhereIsTheWhole,
  BytesSoFarAreCiphertext,
  EveryMessageIsCiphertext,
  FinishSealsTheNewest,
  LongAs,
  TotalIsWhatWasFed,
  DemandTwo,
}

-- ---- sealing

key_good : (n : ℕ) → (n ≡ 16) ⊎ (n ≡ 32) → key_bad n ≡ false
unfolding key_bad
key_good n (inl is) = ap key_bad is
key_good n (inr is) = ap key_bad is

iv_good : (n : ℕ) → 1 ≤ n → n ≤ longest_iv → iv_bad n ≡ false
unfolding iv_bad
iv_good n some few = ap₂ ◌||◌ (le-ltb n 1 some) (le-ltb longest_iv n few)

tag-good : (n : ℕ) → 12 ≤ n → n ≤ 16 → tag_bad n ≡ false
unfolding tag_bad
tag-good n some few = ap₂ ◌||◌ (le-ltb n 12 some) (le-ltb 16 n few)

no_row : (key iv ad text : List ℕ) (t : ℕ) (out : List ℕ) → Allowed (length key) (length iv) t
    → length ad ≤ longest_ad
    → length text ≤ longest_text
    → length text + t ≤ length out
    → seal_number key iv ad text t out ≡ 0
unfolding seal_number lowest
no_row key iv ad text t out allowed short-ad short-text room =
    rw (
      key_good (length key) allowed.0,
      iv_good (length iv) allowed.1.0 allowed.1.1,
      tag-good t allowed.2.0 allowed.2.1,
      le-ltb longest_ad (length ad) short-ad,
      le-ltb longest_text (length text) short-text,
      le-ltb (length out) (length text + t) room,
    )

pub seal_is_aes_gcm : SealIsAesGcm
seal_is_aes_gcm key iv ad text t out r left kept allowed short-ad short-text room =
    let clear = no_row key iv ad text t out allowed short-ad short-text room in
    let size = length-sealed (enciphered key) (enciphered-sixteen key) iv ad t text allowed.2.1 in
    let count : count_in r ≡ length text + t = kept.count ∙ when_done (length text + t) 0 clear in (
      kept.answer ∙ clear,
      ap₂ take count (kept.bytes ∙ when_done _ out clear)
          ∙ take_at (sealed (enciphered key) iv ad t text) (drop (length text + t) out) (length text + t) size,
    )

-- ---- opening

pub open_refuses_exactly_without_text : OpenRefusesExactlyWithoutText
open_refuses_exactly_without_text key iv ad s t out r left = refused_without_text key iv ad s t out

pub open_writes_the_only_text : OpenWritesTheOnlyText
open_writes_the_only_text key iv ad s t out r left = opens_to_the_text key iv ad s t out

pub open_gives_the_text_back : OpenGivesTheTextBack
open_gives_the_text_back key iv ad text t out r left kept done back r' left' =
    opens_what_was_sealed key iv ad text t out kept done back

-- ---- pieces

pub runs_are_the_calls : RunsAreTheCalls
unfolding after
runs_are_the_calls =
    record {
      begun = λ c n ad r kept. (kept.answer, kept.channel);
      fed = λ c piece out r left kept. (kept.answer, kept.channel, kept.bytes ∙ feed-writes c piece out);
      finished = λ c r kept. (kept.answer, kept.channel, kept.tag);
      abandoned = λ c r kept. (kept.answer, kept.channel);
    }

pub cut_anywhere_is_the_whole : CutAnywhereIsTheWhole
cut_anywhere_is_the_whole key mark t opened calls n ad accepted cuts roomy fits =
    let fed = all_cut (run (new_channel key mark t) calls) n ad accepted cuts roomy fits in
    (finish-done _ n ad (text_of cuts) fed.holds, pieces key mark t opened calls n ad accepted cuts roomy fits)

pub bytes_so_far_are_ciphertext : BytesSoFarAreCiphertext
bytes_so_far_are_ciphertext = so_far

pub every_message_is_ciphertext : EveryMessageIsCiphertext
every_message_is_ciphertext = messages-crypted

pub finish_seals_the_newest : FinishSealsTheNewest
finish_seals_the_newest = finish-sealed

pub total_is_what_was_fed : TotalIsWhatWasFed
total_is_what_was_fed key mark t calls Going-on =
    let c = run (new_channel key mark t) calls in
    let now = open_message key mark t calls (not_idle c Going-on).1 in
    subst (Newest (LongAs c.message.text)) (sym now.newest) now.holds.text

-- ---- the demand

pub demand_two : DemandTwo
demand_two =
    record {
      sealing = seal_is_aes_gcm;
      refusing = open_refuses_exactly_without_text;
      writing = open_writes_the_only_text;
      back = open_gives_the_text_back;
      calls = runs_are_the_calls;
      cut = cut_anywhere_is_the_whole;
      so_far = bytes_so_far_are_ciphertext;
      every = every_message_is_ciphertext;
      finishing = finish_seals_the_newest;
      total = total_is_what_was_fed;
    }
