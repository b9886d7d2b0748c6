-- Demand 1 (rule R8.1): any key, IV, associated data, text and buffer of any length may be handed in, and every call answers by
-- its rows (rules R2.1 to R2.11). That each call ends without a fault is what the checker shows of every function, and no
-- contract of a public call has a condition. Here is what their promises say.
use Rattle.std.specs.Prelude.{◌≡◌, Result, Bool, true, false, not, List, [], ◌∷◌, ◌↔◌, ℕ, ◌+◌, ◌-◌, ◌<◌, ◌≤◌, length, get_or, drop, replicate}
use Rattle.answer.specs.declared.Refusal.{Refusal}
use Rattle.answer.specs.Number.{number_of}
use Rattle.answer.specs.Values.{count_in, tag_in}
use Rattle.aes.specs.Cipher.{enciphered}
use Rattle.ledger.specs.History.{stale_in, used_in}
use Rattle.ledger.specs.Ledger.{Tells}
use Rattle.rows.specs.Rows.{key_bad, tag_bad, ad_bad, text_bad, too_short, Applies, seal_rows, open_rows}
use Rattle.mode.specs.Mode.{genuine}
use Rattle.gcm.specs.Promise.{SealPromise, OpenPromise}
use Rattle.channel_state.specs.declared.Channel.{Channel}
use Rattle.channel.specs.declared.Step.{Step}
use Rattle.message.specs.Message.{no_message}
use Rattle.channel_state.specs.State.{dead_channel, with_message, busy, idle, new_channel, begun_with}
use Rattle.channel.specs.Promise.{OpeningPromise, BeginPromise, FeedPromise, FinishPromise, AbandonPromise}

-- ---- words

-- done is answer 0, and refused any other
abbrev pub Done : {A : Type 0} → Result A Refusal → Type 0
Done answer = number_of answer ≡ 0

abbrev pub Refused : {A : Type 0} → Result A Refusal → Type 0
Refused answer = 0 < number_of answer

-- by a table of rows: the answer is n exactly when row n's fact holds and no earlier row's, and 0 exactly when no row's fact holds
abbrev pub ByRows : {A : Type 0} → List Bool → Result A Refusal → Type 0
ByRows rows answer =
    ((n : ℕ) → 0 < n → (number_of answer ≡ n) ↔ Applies rows n) × (Done answer ↔ ((m : ℕ) → get_or rows m false ≡ false))

-- in a channel call 9 is tried first
abbrev pub NineFirst : {A : Type 0} → Bool → List Bool → Result A Refusal → Type 0
NineFirst wrong_phase rows answer =
    ((number_of answer ≡ 9) ↔ (wrong_phase ≡ true)) × (wrong_phase ≡ false → ByRows rows answer)

-- the rows of a channel's opening: 1 and 3
abbrev pub opening_rows : ℕ → ℕ → List Bool
opening_rows key tag = key_bad key ∷ false ∷ tag_bad tag ∷ []

-- the rows of a begin after 9: 4, 10 and 11
abbrev pub begin_rows : ℕ → Bool → Bool → List Bool
begin_rows ad stale used =
    false ∷ false ∷ false ∷ ad_bad ad ∷ false ∷ false ∷ false ∷ false ∷ false ∷ stale ∷ used ∷ []

-- the rows of a feed after 9: 5, over the total with this piece, and 7
abbrev pub feed_rows : ℕ → ℕ → ℕ → List Bool
feed_rows total piece room = false ∷ false ∷ false ∷ false ∷ text_bad total ∷ false ∷ too_short room piece ∷ []

-- of an output, n leading bytes were written and no others: it has room for them, and the bytes past them are as they were
abbrev pub OnlyFront : ℕ → List ℕ → List ℕ → Type 0
OnlyFront n out left = (n ≤ length out) × (length left ≡ length out) × (drop n left ≡ drop n out)

-- ---- the calls

-- A seal answers by rows 1 to 5 and 7. Done, it counts text and tag, and writes so many leading bytes; refused, it alters no byte.
abbrev pub SealAnswersByTheRows : Type 0
SealAnswersByTheRows =
    (key iv ad text : List ℕ) (tag : ℕ) (out : List ℕ) (result : Result ℕ Refusal) (left : List ℕ)
    → SealPromise key iv ad text tag out result left
    → ByRows (seal_rows (length key) (length iv) (length ad) (length text) tag (length out)) result
    × (Done result → (count_in result ≡ length text + tag) × OnlyFront (count_in result) out left)
    × (Refused result → (count_in result ≡ 0) × (left ≡ out))

-- An open answers by rows 1 to 8, and 8 is that the sealed bytes do not end in the tag that their ciphertext has. Done, it counts
-- the text, and writes so many leading bytes; refused, it alters no byte.
abbrev pub OpenAnswersByTheRows : Type 0
OpenAnswersByTheRows =
    (key iv ad bytes : List ℕ) (tag : ℕ) (out : List ℕ) (result : Result ℕ Refusal) (left : List ℕ)
    → OpenPromise key iv ad bytes tag out result left
    → ByRows
    (open_rows (length key) (length iv) (length ad) (length bytes) tag (length out)
    (not (genuine (enciphered key) iv ad tag bytes)))
    result
    × (Done result → (count_in result ≡ length bytes - tag) × OnlyFront (count_in result) out left)
    × (Refused result → (count_in result ≡ 0) × (left ≡ out))

-- A channel's opening answers by rows 1 and 3. Done, it hands back a new channel; refused, the dead one, all fields zero.
abbrev pub OpeningAnswersByTheRows : Type 0
OpeningAnswersByTheRows =
    (key mark : List ℕ) (tag : ℕ) (result : Step (Unit {0})) → OpeningPromise key mark tag result
    → ByRows (opening_rows (length key) tag) result.answer
    × (Done result.answer → result.channel ≡ new_channel key mark tag)
    × (Refused result.answer → result.channel ≡ dead_channel)

-- A begin answers 9 while a message is open or the channel is dead, and else by rows 4, 10 and 11: stale and used by the history of
-- accepted numbers that the ledger tells (after any calls it tells one: demand 3). Refused, it alters nothing in the channel.
abbrev pub BeginAnswersByTheRows : Type 0
BeginAnswersByTheRows =
    (channel : Channel) (history : List ℕ) → Tells channel.ledger history
    → (number : ℕ) (ad : List ℕ) (result : Step (Unit {0})) → BeginPromise channel number ad result
    → NineFirst (busy channel) (begin_rows (length ad) (stale_in history number) (used_in history number)) result.answer
    × (Done result.answer → result.channel ≡ begun_with channel number ad)
    × (Refused result.answer → result.channel ≡ channel)

-- A feed answers 9 while no message is open, and else by rows 5 and 7 (the channel's total is what was fed: demand 2). Done, it
-- counts the piece, and writes so many leading bytes; refused, it alters no byte, and nothing in the channel.
abbrev pub FeedAnswersByTheRows : Type 0
FeedAnswersByTheRows =
    (channel : Channel) (piece out : List ℕ) (result : Step ℕ) (left : List ℕ) → FeedPromise channel piece out result left
    → NineFirst (idle channel) (feed_rows (channel.message.text + length piece) (length piece) (length out)) result.answer
    × (Done result.answer → (count_in result.answer ≡ length piece) × OnlyFront (count_in result.answer) out left)
    × (Refused result.answer → (result.channel ≡ channel) × (count_in result.answer ≡ 0) × (left ≡ out))

-- A finish answers 9 while no message is open, and else 0. Done, its tag is zero past the tag length, and in the channel every
-- message field is zero and all else stays; refused, its tag is zero, and nothing in the channel is altered.
abbrev pub FinishAnswersByTheRows : Type 0
FinishAnswersByTheRows =
    (channel : Channel) (result : Step (List ℕ)) → FinishPromise channel result
    → NineFirst (idle channel) [] result.answer
    × (Done result.answer
    → (result.channel ≡ with_message channel no_message) × ((i : ℕ) → channel.tag ≤ i → get_or (tag_in result.answer) i 0 ≡ 0))
    × (Refused result.answer → (result.channel ≡ channel) × (tag_in result.answer ≡ replicate 16 0))

-- An abandon answers 9 while no message is open, and else 0. Done, every message field is zero and all else stays; refused, nothing
-- in the channel is altered.
abbrev pub AbandonAnswersByTheRows : Type 0
AbandonAnswersByTheRows =
    (channel : Channel) (result : Step (Unit {0})) → AbandonPromise channel result
    → NineFirst (idle channel) [] result.answer
    × (Done result.answer → result.channel ≡ with_message channel no_message)
    × (Refused result.answer → result.channel ≡ channel)

-- Every call on the dead channel answers 9.
pub record DeadChannelAnswersNine : Type 0 where
  pub begins : (number : ℕ) (ad : List ℕ) (result : Step (Unit {0})) → BeginPromise dead_channel number ad result
      → number_of result.answer ≡ 9
  pub feeds : (piece out : List ℕ) (result : Step ℕ) (left : List ℕ) → FeedPromise dead_channel piece out result left
      → number_of result.answer ≡ 9
  pub finishes : (result : Step (List ℕ)) → FinishPromise dead_channel result → number_of result.answer ≡ 9
  pub abandons : (result : Step (Unit {0})) → AbandonPromise dead_channel result → number_of result.answer ≡ 9

-- Two results that a promise allows for one input are equal.
pub record ResultsAreDetermined : Type 0 where
  pub seals : (key iv ad text : List ℕ) (tag : ℕ) (out : List ℕ) (result result' : Result ℕ Refusal) (left left' : List ℕ)
      → SealPromise key iv ad text tag out result left
      → SealPromise key iv ad text tag out result' left'
      → (result ≡ result') × (left ≡ left')
  pub opens : (key iv ad bytes : List ℕ) (tag : ℕ) (out : List ℕ) (result result' : Result ℕ Refusal) (left left' : List ℕ)
      → OpenPromise key iv ad bytes tag out result left
      → OpenPromise key iv ad bytes tag out result' left'
      → (result ≡ result') × (left ≡ left')
  pub openings : (key mark : List ℕ) (tag : ℕ) (result result' : Step (Unit {0}))
      → OpeningPromise key mark tag result
      → OpeningPromise key mark tag result'
      → result ≡ result'
  pub begins : (channel : Channel) (number : ℕ) (ad : List ℕ) (result result' : Step (Unit {0}))
      → BeginPromise channel number ad result
      → BeginPromise channel number ad result'
      → result ≡ result'
  pub feeds : (channel : Channel) (piece out : List ℕ) (result result' : Step ℕ) (left left' : List ℕ)
      → FeedPromise channel piece out result left
      → FeedPromise channel piece out result' left'
      → (result ≡ result') × (left ≡ left')
  pub finishes : (channel : Channel) (result result' : Step (List ℕ))
      → FinishPromise channel result
      → FinishPromise channel result'
      → result ≡ result'
  pub abandons : (channel : Channel) (result result' : Step (Unit {0}))
      → AbandonPromise channel result
      → AbandonPromise channel result'
      → result ≡ result'

-- ---- the demand

-- Demand 1: every call is total, and answers by the rows.
pub record DemandOne : Type 0 where
  pub seals : SealAnswersByTheRows
  pub opens : OpenAnswersByTheRows
  pub openings : OpeningAnswersByTheRows
  pub begins : BeginAnswersByTheRows
  pub feeds : FeedAnswersByTheRows
  pub finishes : FinishAnswersByTheRows
  pub abandons : AbandonAnswersByTheRows
  pub dead-channel : DeadChannelAnswersNine
  pub results : ResultsAreDetermined
