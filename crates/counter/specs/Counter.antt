-- The counter blocks and the text xored with what they encipher to (SP 800-38D), over any function e that enciphers a block.
use Rattle.std.specs.Prelude.{ℕ, zero, suc, ◌+◌, ◌%◌, ◌^◌, List, [], ◌∷◌, map, length, drop, slice_index}
use Rattle.octets.specs.Word.{word_at, bytes_of}
use Rattle.octets.specs.Block.{blocks_for}
use Rattle.octets.specs.Bytes.{xored, joined}

-- the first twelve bytes of s, then the word w
unfoldable pub counter_block : List ℕ → ℕ → List ℕ
counter_block s w =
    slice_index s 0 ∷ slice_index s 1 ∷ slice_index s 2 ∷ slice_index s 3
    ∷ slice_index s 4 ∷ slice_index s 5 ∷ slice_index s 6 ∷ slice_index s 7
    ∷ slice_index s 8 ∷ slice_index s 9 ∷ slice_index s 10 ∷ slice_index s 11
    ∷ bytes_of w

-- the step adds one to the last four bytes, read as one number; it wraps, and bytes 0 to 11 never change (SP 800-38D: inc32)
unfoldable pub stepped : List ℕ → List ℕ
stepped j = counter_block j ((word_at j 12 + 1) % 2 ^ 32)

-- a message's cipher input blocks: j, and j stepped 1 to n times
unfoldable pub inputs : List ℕ → ℕ → List (List ℕ)
inputs j zero = j ∷ []
inputs j (suc n) = j ∷ inputs (stepped j) n

-- the enciphered input blocks after j itself
unfoldable pub keystream : (List ℕ → List ℕ) → List ℕ → ℕ → List ℕ
keystream e j n = joined (map e (drop 1 (inputs j n)))

-- text block k xor the enciphered j stepped k times; a short last block uses the leading bytes (SP 800-38D: GCTR)
unfoldable pub crypted : (List ℕ → List ℕ) → List ℕ → List ℕ → List ℕ
crypted e j text = xored text (keystream e j (blocks_for (length text)))
