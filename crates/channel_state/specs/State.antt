-- The sealing channel: what each call answers, and the channel, bytes and tag that it gives, for every value of the channel's
-- fields.
use Rattle.std.specs.Prelude.{Bool, not, cond, ◌||◌, List, ◌++◌, ℕ, ◌+◌, eqb, length, take, drop, replicate}
use Rattle.std.specs.Int.Bits.{bit_xor}
use Rattle.answer.specs.Number.{if_done}
use Rattle.octets.specs.Block.{number_at, block_bytes}
use Rattle.schedule.specs.Schedule.{key_words_in, rounds_for, round_keys}
use Rattle.aes.specs.Cipher.{enciphered_by, enciphered}
use Rattle.hash_field.specs.Element.{value_of, element_of}
use Rattle.ledger.specs.Ledger.{fresh_ledger, verdict_of, accepted_by}
use Rattle.mode.specs.Mode.{hash_key}
use Rattle.rows.specs.Rows.{key_bad, tag_bad, ad_bad, text_bad, too_short}
use Rattle.channel_state.specs.declared.Channel.{Channel}
use Rattle.message.specs.declared.Message.{Message}
use Rattle.message.specs.Message.{no_message, message_begun, message_after, whole_sum}
use Rattle.pieces.specs.Piece.{iv_of, counter_at, crypted_at, sixteen}

-- the dead channel: every field zero
abbrev pub dead_channel : Channel
dead_channel =
    record {
      words = replicate 60 0;
      h = record { high = 0; low = 0 };
      mark = replicate 4 0;
      rounds = 0;
      tag = 0;
      ledger = fresh_ledger;
      message = no_message;
    }

-- the channel with another message, or none
abbrev pub with_message : Channel → Message → Channel
with_message c m =
    record { words = c.words; h = c.h; mark = c.mark; rounds = c.rounds; tag = c.tag; ledger = c.ledger; message = m }

-- a channel that is dead, or has a message open; one that is dead, or has none open
unfoldable pub busy : Channel → Bool
busy c = eqb c.tag 0 || not (eqb c.message.phase 0)

unfoldable pub idle : Channel → Bool
idle c = eqb c.tag 0 || eqb c.message.phase 0

-- its cipher, its hash key and the IV of its message
abbrev pub rounds_in : Channel → ℕ
rounds_in c = cond (eqb c.rounds 14) 14 10

abbrev pub cipher_of : Channel → List ℕ → List ℕ
cipher_of c = enciphered_by c.words (rounds_in c)

abbrev pub key_of : Channel → ℕ
key_of c = value_of c.h

abbrev pub iv_in : Channel → List ℕ
iv_in c = iv_of c.mark c.message.number

-- opening with a key, a mark and a tag length t
unfoldable pub opening_number : ℕ → ℕ → ℕ
opening_number key t = cond (key_bad key) 1 (cond (tag_bad t) 3 0)

unfoldable pub new_channel : List ℕ → List ℕ → ℕ → Channel
new_channel key mark t =
    record {
      words = round_keys key;
      h = element_of (hash_key (enciphered key));
      mark = mark;
      rounds = rounds_for (key_words_in key);
      tag = t;
      ledger = fresh_ledger;
      message = no_message;
    }

unfoldable pub opening_of : List ℕ → List ℕ → ℕ → Channel
opening_of key mark t = if_done (opening_number (length key) t) (new_channel key mark t) dead_channel

-- beginning a message with number n; the number is used from then on
unfoldable pub begin_number : Channel → ℕ → ℕ → ℕ
begin_number c n ad = cond (busy c) 9 (cond (ad_bad ad) 4 (verdict_of c.ledger n))

unfoldable pub begun_with : Channel → ℕ → List ℕ → Channel
begun_with c n ad =
    record {
      words = c.words;
      h = c.h;
      mark = c.mark;
      rounds = c.rounds;
      tag = c.tag;
      ledger = accepted_by c.ledger n;
      message = message_begun (key_of c) n ad;
    }

unfoldable pub begin_of : Channel → ℕ → List ℕ → Channel
begin_of c n ad = if_done (begin_number c n (length ad)) (begun_with c n ad) c

-- feeding a piece, with so much room in the output
unfoldable pub feed_number : Channel → ℕ → ℕ → ℕ
feed_number c piece room =
    cond (idle c) 9 (cond (text_bad (c.message.text + piece)) 5 (cond (too_short room piece) 7 0))

-- the ciphertext of the piece
unfoldable pub piece_of : Channel → List ℕ → List ℕ
piece_of c piece = crypted_at (cipher_of c) (iv_in c) c.message.text piece

-- the channel's message with ciphertext d taken in
abbrev pub message_with : Channel → List ℕ → Message
message_with c d = message_after (key_of c) c.message d

unfoldable pub feed_of : Channel → List ℕ → ℕ → Channel
feed_of c piece room = if_done (feed_number c (length piece) room) (with_message c (message_with c (piece_of c piece))) c

unfoldable pub feed_out : Channel → List ℕ → List ℕ → List ℕ
feed_out c piece out = if_done (feed_number c (length piece) (length out)) (piece_of c piece ++ drop (length piece) out) out

-- ending the message: the number, the channel, and the tag, zeros past its length
unfoldable pub end_number : Channel → ℕ
end_number c = cond (idle c) 9 0

unfoldable pub end_of : Channel → Channel
end_of c = if_done (end_number c) (with_message c no_message) c

unfoldable pub message_tag : Channel → List ℕ
message_tag c = block_bytes (bit_xor (whole_sum (key_of c) c.message) (number_at (cipher_of c (counter_at (iv_in c) 0)) 0))

unfoldable pub tag_out : Channel → List ℕ
tag_out c = if_done (end_number c) (sixteen (take c.tag (message_tag c))) (replicate 16 0)
