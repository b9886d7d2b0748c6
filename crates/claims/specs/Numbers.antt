-- The numbers to check by that are proved, rules R10.2 to R10.9: what the definitions themselves give, and what the rules say.
use Rattle.std.specs.Prelude.{◌≡◌, List, [], ◌∷◌, ◌++◌, ℕ, replicate}
use Rattle.octets.specs.Block.{number_at, block_bytes}
use Rattle.byte_field.specs.Field.{product as byte_product}
use Rattle.sbox.specs.Substitution.{substituted}
use Rattle.hash_field.specs.Field.{product}
use Rattle.ghash.specs.Hash.{length_block}
use Rattle.mode.specs.Mode.{first_block}
use Rattle.counter.specs.Counter.{stepped}
use Rattle.pieces.specs.Piece.{iv_of}
use Rattle.channel_state.specs.declared.Channel.{Channel}
use Rattle.channel_state.specs.State.{new_channel, begin_number, begin_of, end_of}

infix 2 ◌gives◌
-- a row: what a definition gives, and what its rule says that it gives
pub record Row : Type 0 where
  pub given : List ℕ
  pub said : List ℕ

abbrev pub ◌gives◌ : List ℕ → List ℕ → Row
given gives said = record { given = given; said = said }

-- the product of two blocks of the hash field, as bytes
abbrev pub times : List ℕ → List ℕ → List ℕ
times x y = block_bytes (product (number_at x 0) (number_at y 0))

-- what begins with these numbers answer, one after the other, each message abandoned before the next
unfoldable pub answers_to : Channel → List ℕ → List ℕ
answers_to c [] = []
answers_to c (n ∷ later) = begin_number c n 0 ∷ answers_to (end_of (begin_of c n [])) later

-- the station's mark in rule R10.8 (first block)
abbrev pub mark : List ℕ
mark = 0x0a ∷ 0x0b ∷ 0x0c ∷ 0x0d ∷ []

-- rules R10.2 to R10.9, in their order
abbrev pub table : List Row
table =
    -- substitution of 00 is 63, of 53 is ed
    (substituted 0x00 ∷ substituted 0x53 ∷ [] gives 0x63 ∷ 0xed ∷ [])
    -- 57·83 = c1 and 57·13 = fe in GF(2^8)
    ∷ (byte_product 0x57 0x83 ∷ byte_product 0x57 0x13 ∷ [] gives 0xc1 ∷ 0xfe ∷ [])
    -- twelve bytes aa then ffffffff steps to twelve aa then 00000000
    ∷ (stepped (replicate 12 0xaa ++ replicate 4 0xff) gives replicate 12 0xaa ++ replicate 4 0x00)
    -- 80 00..00 times sixteen ff is sixteen ff
    ∷ (times (0x80 ∷ replicate 15 0x00) (replicate 16 0xff) gives replicate 16 0xff)
    -- 00..01 times 40 00..00 is e1 00..00
    ∷ (times (replicate 15 0x00 ++ (0x01 ∷ [])) (0x40 ∷ replicate 15 0x00) gives 0xe1 ∷ replicate 15 0x00)
    -- AD 20, text 60: length block 00000000000000a0 00000000000001e0
    ∷ (block_bytes (length_block 20 60) gives replicate 7 0x00 ++ (0xa0 ∷ replicate 6 0x00) ++ (0x01 ∷ 0xe0 ∷ []))
    -- mark 0a0b0c0d, number 258: J is 0a0b0c0d 0000000000000102 00000001 (the hash key, here 0, plays no part)
    ∷ (first_block 0 (iv_of mark 258)
    gives mark ++ replicate 6 0x00 ++ (0x01 ∷ 0x02 ∷ []) ++ (0x00 ∷ 0x00 ∷ 0x00 ∷ 0x01 ∷ []))
    -- accepted 200; then 72 answers 10; 73 answers 0; 73 again answers 11 (no message open at any)
    ∷ (answers_to (new_channel (replicate 16 0x00) mark 16) (200 ∷ 72 ∷ 73 ∷ 73 ∷ []) gives 0 ∷ 10 ∷ 0 ∷ 11 ∷ [])
    ∷ []

-- in each of these rows the definition gives what the rule says
abbrev pub AllHold : List Row → Type 0
AllHold [] = Unit
AllHold (row ∷ rows) = (row.given ≡ row.said) × AllHold rows

-- The definitions give the rules' numbers, row by row.
abbrev pub EveryRowHolds : Type 0
EveryRowHolds = AllHold table
