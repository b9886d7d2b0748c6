-- Any calls of a channel, one after the other, and what comes of them: the channel, the bytes written, the messages begun, and
-- their cipher input blocks.
use Rattle.std.specs.Prelude.{◌≡◌, true, false, List, [], ◌∷◌, ◌++◌, ◌↔◌, ℕ, ◌^◌, ◌≤◌, ◌<◌, length, get_or, take}
use Rattle.answer.specs.Number.{if_done}
use Rattle.octets.specs.Block.{blocks_for}
use Rattle.aes.specs.Cipher.{enciphered}
use Rattle.ledger.specs.History.{stale_in, used_in}
use Rattle.mode.specs.Mode.{hash_key, first_block, sealed}
use Rattle.counter.specs.Counter.{inputs, crypted}
use Rattle.channel_state.specs.declared.Channel.{Channel}
use Rattle.pieces.specs.Piece.{iv_of}
use Rattle.channel_state.specs.State.{new_channel, begin_number, begin_of, feed_number, feed_of, piece_of, end_of}

-- a call: begin with a number and AD, feed a piece with so much room in the output, finish, abandon
pub data Call : Type 0 where
  begin : ℕ → List ℕ → Call
  feed : List ℕ → ℕ → Call
  finish : Call
  abandon : Call

-- the channel that a call hands back, and that a list of calls does, each on the channel of the one before
unfoldable pub after : Channel → Call → Channel
after c (begin n ad) = begin_of c n ad
after c (feed piece room) = feed_of c piece room
after c finish = end_of c
after c abandon = end_of c

unfoldable pub run : Channel → List Call → Channel
run c [] = c
run c (call ∷ calls) = run (after c call) calls

-- ---- the bytes written

-- the bytes that a call writes into the front of its output: a refused one writes none
unfoldable pub wrote : Channel → Call → List ℕ
wrote c (begin n ad) = []
wrote c (feed piece room) = if_done (feed_number c (length piece) room) (piece_of c piece) []
wrote c finish = []
wrote c abandon = []

unfoldable pub written : Channel → List Call → List ℕ
written c [] = []
written c (call ∷ calls) = wrote c call ++ written (after c call) calls

-- a text cut into pieces, each fed with some room in its output
pub record Piece : Type 0 where
  pub text : List ℕ
  pub room : ℕ

unfoldable pub feeds : List Piece → List Call
feeds [] = []
feeds (p ∷ pieces) = feed p.text p.room ∷ feeds pieces

unfoldable pub text_of : List Piece → List ℕ
text_of [] = []
text_of (p ∷ pieces) = p.text ++ text_of pieces

-- each piece has room enough
unfoldable pub Roomy : List Piece → Type 0
Roomy [] = Unit
Roomy (p ∷ pieces) = (length p.text ≤ p.room) × Roomy pieces

-- ---- the messages

-- a message that was begun: its number and associated data, the text fed to it, and the bytes that were written for that
pub record Sent : Type 0 where
  pub number : ℕ
  pub ad : List ℕ
  pub text : List ℕ
  pub bytes : List ℕ

-- a piece more for the newest message, and the bytes for it
unfoldable pub longer_by : List ℕ → List ℕ → List Sent → List Sent
longer_by piece bytes [] = []
longer_by piece bytes (m ∷ sent) =
    record { number = m.number; ad = m.ad; text = m.text ++ piece; bytes = m.bytes ++ bytes } ∷ sent

-- the messages, the newest first, with a call: an accepted begin adds one, an accepted feed makes the newest longer, and nothing
-- takes one away
unfoldable pub sent_with : Channel → List Sent → Call → List Sent
sent_with c sent (begin n ad) =
    if_done (begin_number c n (length ad)) (record { number = n; ad = ad; text = []; bytes = [] } ∷ sent) sent
sent_with c sent (feed piece room) =
    if_done (feed_number c (length piece) room) (longer_by piece (piece_of c piece) sent) sent
sent_with c sent finish = sent
sent_with c sent abandon = sent

unfoldable pub sent_after : Channel → List Sent → List Call → List Sent
sent_after c sent [] = sent
sent_after c sent (call ∷ calls) = sent_after (after c call) (sent_with c sent call) calls

-- all messages of a list of calls, also those abandoned or still open
abbrev pub messages : Channel → List Call → List Sent
messages c calls = sent_after c [] calls

-- the numbers accepted: those of the messages
unfoldable pub numbers_of : List Sent → List ℕ
numbers_of [] = []
numbers_of (m ∷ sent) = m.number ∷ numbers_of sent

abbrev pub accepted : Channel → List Call → List ℕ
accepted c calls = numbers_of (messages c calls)

-- what a begin with number n answers, from the numbers h accepted before, where it passes phase and length checks
pub record Judged (h : List ℕ) (n answer : ℕ) : Type 0 where
  pub stale : (answer ≡ 10) ↔ (stale_in h n ≡ true)
  pub used : (answer ≡ 11) ↔ ((stale_in h n ≡ false) × (used_in h n ≡ true))
  pub done : (answer ≡ 0) ↔ ((stale_in h n ≡ false) × (used_in h n ≡ false))

-- there is a newest message, and it is so
abbrev pub Newest : (Sent → Type 0) → List Sent → Type 0
Newest P [] = ⊥
Newest P (m ∷ sent) = P m

-- each message is so
abbrev pub Every : (Sent → Type 0) → List Sent → Type 0
Every P [] = Unit
Every P (m ∷ sent) = P m × Every P sent

-- the bytes of a message are the ciphertext of its text
abbrev pub Crypted : List ℕ → List ℕ → Sent → Type 0
Crypted key mark m =
    m.bytes ≡ crypted (enciphered key) (first_block (hash_key (enciphered key)) (iv_of mark m.number)) m.text

-- its bytes with the leading t bytes of a tag behind them are the seal at once of its text
abbrev pub SealedWith : List ℕ → List ℕ → ℕ → List ℕ → Sent → Type 0
SealedWith key mark t tag m =
    m.bytes ++ take t tag ≡ sealed (enciphered key) (iv_of mark m.number) m.ad t m.text

-- ---- the cipher input blocks

-- the cipher input blocks of a message: J, and J stepped 1 to ⌈total fed / 16⌉ times
abbrev pub inputs_of : ℕ → List ℕ → Sent → List (List ℕ)
inputs_of h mark m = inputs (first_block h (iv_of mark m.number)) (blocks_for (length m.text))

-- those of all messages
unfoldable pub blocks_of : ℕ → List ℕ → List Sent → List (List ℕ)
blocks_of h mark [] = []
blocks_of h mark (m ∷ sent) = inputs_of h mark m ++ blocks_of h mark sent

-- those of all messages of a list of calls on a new channel
abbrev pub input_blocks : List ℕ → List ℕ → ℕ → List Call → List (List ℕ)
input_blocks key mark t calls = blocks_of (hash_key (enciphered key)) mark (messages (new_channel key mark t) calls)

-- any two at different places differ
abbrev pub Differ : List (List ℕ) → Type 0
Differ s = (i k : ℕ) → i < k → k < length s → get_or s i [] ≡ get_or s k [] → ⊥

-- a message number has 64 bits
abbrev pub Numbered : Call → Type 0
Numbered (begin n ad) = n < 2 ^ 64
Numbered (feed piece room) = Unit
Numbered finish = Unit
Numbered abandon = Unit

abbrev pub AllNumbered : List Call → Type 0
AllNumbered [] = Unit
AllNumbered (call ∷ calls) = Numbered call × AllNumbered calls
