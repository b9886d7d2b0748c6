-- AES-GCM's mode of operation (SP 800-38D), over any function e that enciphers a block.
use Rattle.std.specs.Prelude.{Bool, cond, List, [], ◌∷◌, ◌++◌, ℕ, ◌-◌, eqb, length, take, drop, replicate}
use Rattle.std.specs.Int.Bits.{bit_xor}
use Rattle.octets.specs.Block.{number_at, block_bytes, padded}
use Rattle.octets.specs.Bytes.{same}
use Rattle.ghash.specs.Hash.{hash, length_block}
use Rattle.counter.specs.Counter.{counter_block, crypted}

-- h is the zero block enciphered (SP 800-38D: H)
unfoldable pub hash_key : (List ℕ → List ℕ) → ℕ
hash_key e = number_at (e (replicate 16 0)) 0

-- the hash of an IV: its bytes zero-padded, eight zero bytes, its length in bits as 64 bits
unfoldable pub hashed_iv : ℕ → List ℕ → ℕ
hashed_iv h iv = hash h (padded iv ++ (length_block 0 (length iv) ∷ []))

-- the first block: a 12-byte IV, then 00000001; any other is hashed (SP 800-38D: J0)
unfoldable pub first_block : ℕ → List ℕ → List ℕ
first_block h iv = cond (eqb (length iv) 12) (counter_block iv 1) (block_bytes (hashed_iv h iv))

-- what the tag hashes: associated data and ciphertext, each zero-padded, and their two lengths
abbrev pub hashed_blocks : List ℕ → List ℕ → List ℕ
hashed_blocks ad c = padded ad ++ padded c ++ (length_block (length ad) (length c) ∷ [])

-- the hash by h, xor the enciphered j
unfoldable pub tag_by : ℕ → (List ℕ → List ℕ) → List ℕ → List ℕ → List ℕ → List ℕ
tag_by h e j ad c = block_bytes (bit_xor (hash h (hashed_blocks ad c)) (number_at (e j) 0))

-- the whole tag
unfoldable pub whole_tag : (List ℕ → List ℕ) → List ℕ → List ℕ → List ℕ → List ℕ
whole_tag e j ad c = tag_by (hash_key e) e j ad c

-- ciphertext and the leading t bytes of the tag, for a first block j
unfoldable pub sealed_by : (List ℕ → List ℕ) → List ℕ → List ℕ → ℕ → List ℕ → List ℕ
sealed_by e j ad t text = crypted e j text ++ take t (whole_tag e j ad (crypted e j text))

-- the sealed form of a text
unfoldable pub sealed : (List ℕ → List ℕ) → List ℕ → List ℕ → ℕ → List ℕ → List ℕ
sealed e iv ad t text = sealed_by e (first_block (hash_key e) iv) ad t text

-- what sealed bytes are made of: ciphertext, then t bytes of tag
abbrev pub ciphertext_of : ℕ → List ℕ → List ℕ
ciphertext_of t s = take (length s - t) s

abbrev pub tag_of : ℕ → List ℕ → List ℕ
tag_of t s = drop (length s - t) s

-- sealed bytes end in the tag that their ciphertext has
unfoldable pub genuine : (List ℕ → List ℕ) → List ℕ → List ℕ → ℕ → List ℕ → Bool
genuine e iv ad t s =
    same (tag_of t s) (take t (whole_tag e (first_block (hash_key e) iv) ad (ciphertext_of t s)))

-- the text that sealed bytes hold
unfoldable pub opened : (List ℕ → List ℕ) → List ℕ → ℕ → List ℕ → List ℕ
opened e iv t s = crypted e (first_block (hash_key e) iv) (ciphertext_of t s)
