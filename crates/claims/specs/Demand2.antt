-- Demand 2: sealing is AES-GCM, opening undoes it and refuses everything else, and pieces are the whole. The AES cipher of a key,
-- `enciphered key`, is defined in `aes/specs/`, the mode over it, `sealed`, in `mode/specs/`.
use Rattle.std.specs.Prelude.{◌≡◌, Result, false, List, ◌++◌, ◌↔◌, ◌⊎◌, ℕ, ◌+◌, ◌≤◌, length, take, drop}
use Rattle.answer.specs.declared.Refusal.{Refusal}
use Rattle.answer.specs.Number.{number_of}
use Rattle.answer.specs.Values.{count_in, tag_in}
use Rattle.aes.specs.Cipher.{enciphered}
use Rattle.mode.specs.Mode.{hash_key, first_block, sealed}
use Rattle.counter.specs.Counter.{crypted}
use Rattle.rows.specs.Rows.{longest_iv, longest_ad, longest_text, lowest, open_length_rows}
use Rattle.gcm.specs.Promise.{SealPromise, OpenPromise}
use Rattle.pieces.specs.Piece.{iv_of}
use Rattle.channel_state.specs.declared.Channel.{Channel}
use Rattle.channel.specs.declared.Step.{Step}
use Rattle.channel_state.specs.State.{idle, new_channel, opening_number, begin_number, begin_of, feed_number, end_number, tag_out}
use Rattle.channel.specs.Promise.{BeginPromise, FeedPromise, FinishPromise, AbandonPromise}
use Rattle.runs.specs.Run.{
  Call,
  begin,
  feed,
  finish,
  abandon,
  after,
  run,
  wrote,
  written,
  Piece,
  feeds,
  text_of,
  Roomy,
  Sent,
  messages,
  Newest,
  Every,
  Crypted,
  SealedWith,
}

-- ---- sealing

-- the key, IV and tag lengths that rules R2.1, R2.2 and R2.3 (rows 1 to 3) let pass
abbrev pub Allowed : ℕ → ℕ → ℕ → Type 0
Allowed key iv tag = ((key ≡ 16) ⊎ (key ≡ 32)) × ((1 ≤ iv) × (iv ≤ longest_iv)) × ((12 ≤ tag) × (tag ≤ 16))

-- Sealing is AES-GCM as SP 800-38D and FIPS 197 define it, for every key, IV and tag length that the rules let pass: where
-- associated data and text are within their limits and the output has room, it is done, and its bytes are the sealed form.
abbrev pub SealIsAesGcm : Type 0
SealIsAesGcm =
    (key iv ad text : List ℕ) (tag : ℕ) (out : List ℕ) (result : Result ℕ Refusal) (left : List ℕ)
    → SealPromise key iv ad text tag out result left
    → Allowed (length key) (length iv) tag
    → length ad ≤ longest_ad
    → length text ≤ longest_text
    → length text + tag ≤ length out
    → (number_of result ≡ 0) × (take (count_in result) left ≡ sealed (enciphered key) iv ad tag text)

-- ---- opening

-- Opening, once lengths pass, refuses exactly when no text has that sealed form,
abbrev pub OpenRefusesExactlyWithoutText : Type 0
OpenRefusesExactlyWithoutText =
    (key iv ad bytes : List ℕ) (tag : ℕ) (out : List ℕ) (result : Result ℕ Refusal) (left : List ℕ)
    → OpenPromise key iv ad bytes tag out result left
    → lowest 1 (open_length_rows (length key) (length iv) (length ad) (length bytes) tag (length out)) ≡ 0
    → (number_of result ≡ 8) ↔ ((text : List ℕ) → sealed (enciphered key) iv ad tag text ≡ bytes → ⊥)

-- and else writes the only such text.
abbrev pub OpenWritesTheOnlyText : Type 0
OpenWritesTheOnlyText =
    (key iv ad bytes : List ℕ) (tag : ℕ) (out : List ℕ) (result : Result ℕ Refusal) (left : List ℕ)
    → OpenPromise key iv ad bytes tag out result left
    → number_of result ≡ 0
    → (text : List ℕ)
    × (sealed (enciphered key) iv ad tag text ≡ bytes)
    × ((other : List ℕ) → sealed (enciphered key) iv ad tag other ≡ bytes → other ≡ text)
    × (count_in result ≡ length text)
    × (left ≡ text ++ drop (length text) out)

-- Opening what was sealed gives the text back.
abbrev pub OpenGivesTheTextBack : Type 0
OpenGivesTheTextBack =
    (key iv ad text : List ℕ) (tag : ℕ) (out : List ℕ) (result : Result ℕ Refusal) (left : List ℕ)
    → SealPromise key iv ad text tag out result left
    → number_of result ≡ 0
    → (back : List ℕ) (result' : Result ℕ Refusal) (left' : List ℕ)
    → OpenPromise key iv ad (take (count_in result) left) tag back result' left'
    → length text ≤ length back
    → (number_of result' ≡ 0) × (take (count_in result') left' ≡ text)

-- ---- pieces

-- Each call's answer, the channel that it hands back, a feed's bytes and a finish's tag are those that the claims on lists of calls
-- speak of: an accepted begin or feed is one that answered 0.
pub record RunsAreTheCalls : Type 0 where
  pub begun : (channel : Channel) (number : ℕ) (ad : List ℕ) (result : Step (Unit {0})) → BeginPromise channel number ad result
      → (number_of result.answer ≡ begin_number channel number (length ad))
      × (result.channel ≡ after channel (begin number ad))
  pub fed : (channel : Channel) (piece out : List ℕ) (result : Step ℕ) (left : List ℕ) → FeedPromise channel piece out result left
      → let bytes = wrote channel (feed piece (length out)) in
      (number_of result.answer ≡ feed_number channel (length piece) (length out))
      × (result.channel ≡ after channel (feed piece (length out)))
      × (left ≡ bytes ++ drop (length bytes) out)
  pub finished : (channel : Channel) (result : Step (List ℕ)) → FinishPromise channel result
      → (number_of result.answer ≡ end_number channel)
      × (result.channel ≡ after channel finish)
      × (tag_in result.answer ≡ tag_out channel)
  pub abandoned : (channel : Channel) (result : Step (Unit {0})) → AbandonPromise channel result
      → (number_of result.answer ≡ end_number channel) × (result.channel ≡ after channel abandon)

-- A channel message cut anywhere has the bytes of the whole sealed at once: begun at any point after an opening and fed any pieces,
-- empty ones too, it can be finished, and its bytes and the tag cut to its length are the sealed form of the joined text.
abbrev pub CutAnywhereIsTheWhole : Type 0
CutAnywhereIsTheWhole =
    (key mark : List ℕ) (tag : ℕ) → opening_number (length key) tag ≡ 0
    → (calls : List Call) (number : ℕ) (ad : List ℕ)
    → begin_number (run (new_channel key mark tag) calls) number (length ad) ≡ 0
    → (pieces : List Piece) → Roomy pieces → length (text_of pieces) ≤ longest_text
    → let channel = begin_of (run (new_channel key mark tag) calls) number ad in
    (end_number (run channel (feeds pieces)) ≡ 0)
    × (written channel (feeds pieces) ++ take tag (tag_out (run channel (feeds pieces)))
    ≡ sealed (enciphered key) (iv_of mark number) ad tag (text_of pieces))

-- After each feed the bytes so far are the leading ciphertext bytes of the text so far.
abbrev pub BytesSoFarAreCiphertext : Type 0
BytesSoFarAreCiphertext =
    (key mark : List ℕ) (tag : ℕ) → opening_number (length key) tag ≡ 0
    → (calls : List Call) (number : ℕ) (ad : List ℕ)
    → begin_number (run (new_channel key mark tag) calls) number (length ad) ≡ 0
    → (pieces : List Piece) → Roomy pieces → length (text_of pieces) ≤ longest_text
    → let channel = begin_of (run (new_channel key mark tag) calls) number ad in
    written channel (feeds pieces)
    ≡ crypted (enciphered key) (first_block (hash_key (enciphered key)) (iv_of mark number)) (text_of pieces)

-- so many bytes of text were fed to a message
abbrev pub LongAs : ℕ → Sent → Type 0
LongAs total m = total ≡ length m.text

-- Over any calls, refused ones among them, the bytes of each message are the ciphertext of its text so far, also where it was
-- abandoned or is still open;
abbrev pub EveryMessageIsCiphertext : Type 0
EveryMessageIsCiphertext =
    (key mark : List ℕ) (tag : ℕ) → opening_number (length key) tag ≡ 0
    → (calls : List Call) → Every (Crypted key mark) (messages (new_channel key mark tag) calls)

-- where finish answers 0, the newest message's bytes and the tag are the seal at once of its text;
abbrev pub FinishSealsTheNewest : Type 0
FinishSealsTheNewest =
    (key mark : List ℕ) (tag : ℕ) → opening_number (length key) tag ≡ 0
    → (calls : List Call) → end_number (run (new_channel key mark tag) calls) ≡ 0
    → Newest (SealedWith key mark tag (tag_out (run (new_channel key mark tag) calls))) (messages (new_channel key mark tag) calls)

-- and while a message is open, the channel's total is what was fed to it.
abbrev pub TotalIsWhatWasFed : Type 0
TotalIsWhatWasFed =
    (key mark : List ℕ) (tag : ℕ) (calls : List Call) → idle (run (new_channel key mark tag) calls) ≡ false
    → Newest (LongAs (run (new_channel key mark tag) calls).message.text) (messages (new_channel key mark tag) calls)

-- ---- the demand

-- Demand 2: sealing, opening and pieces.
pub record DemandTwo : Type 0 where
  pub sealing : SealIsAesGcm
  pub refusing : OpenRefusesExactlyWithoutText
  pub writing : OpenWritesTheOnlyText
  pub back : OpenGivesTheTextBack
  pub calls : RunsAreTheCalls
  pub cut : CutAnywhereIsTheWhole
  pub so_far : BytesSoFarAreCiphertext
  pub every : EveryMessageIsCiphertext
  pub finishing : FinishSealsTheNewest
  pub total : TotalIsWhatWasFed
