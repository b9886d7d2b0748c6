-- The message in progress, by the hash key h: none, begun, with more ciphertext, and the hash of the whole of it.
use Rattle.std.specs.Prelude.{List, [], ◌∷◌, ◌++◌, ℕ, ◌+◌, ◌%◌, length, take, replicate}
use Rattle.octets.specs.Block.{padded}
use Rattle.hash_field.specs.Element.{value_of, element_of}
use Rattle.ghash.specs.Hash.{hash_from, hash, length_block}
use Rattle.pieces.specs.Piece.{waiting, sum_after, part_after}
use Rattle.message.specs.declared.Message.{Message}

-- no message in progress: every field zero
abbrev pub no_message : Message
no_message =
    record { number = 0; sum = record { high = 0; low = 0 }; part = replicate 16 0; phase = 0; ad = 0; text = 0 }

-- a message begun under number n over its associated data, with no text yet
abbrev pub message_begun : ℕ → ℕ → List ℕ → Message
message_begun h n ad =
    record {
      number = n;
      sum = element_of (hash h (padded ad));
      part = replicate 16 0;
      phase = 1;
      ad = length ad;
      text = 0;
    }

-- a message with ciphertext d taken in
unfoldable pub message_after : ℕ → Message → List ℕ → Message
message_after h m d =
    record {
      number = m.number;
      sum = element_of (sum_after h (value_of m.sum) (waiting m.text m.part d));
      part = part_after (waiting m.text m.part d);
      phase = m.phase;
      ad = m.ad;
      text = m.text + length d;
    }

-- the hash of a whole message
unfoldable pub whole_sum : ℕ → Message → ℕ
whole_sum h m =
    hash_from h (value_of m.sum) (padded (take (m.text % 16) m.part) ++ (length_block m.ad m.text ∷ []))
