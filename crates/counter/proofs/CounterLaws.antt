-- The keystream and what is made of it: how long each is, and that crypting twice gives the text back. A text is taken a block
-- at a time, as the blocks of the keystream come.
use Rattle.std.proofs.Common.{◌≡◌, ℕ, zero, suc, ◌*◌, ◌<◌, ◌≤◌, List, [], ◌++◌, map, length, take, drop, refl, ap, ◌∙◌, arith, length-append, length-drop}
use Rattle.octets.specs.Block.{blocks_for}
use Rattle.octets.specs.Bytes.{xored, joined}
use Rattle.octets.proofs.BytesLaws.{length-xored_le, xored-append, xored_twice}
use Rattle.counter.specs.Counter.{stepped, inputs, keystream, crypted}
use Rattle.counter.proofs.InputsLaws.{inputs_first}

inputs-after : (j : List ℕ) (n : ℕ) → drop 1 (inputs j (suc n)) ≡ inputs (stepped j) n
unfolding inputs
inputs-after j n = refl

pub keystream-more : (e : List ℕ → List ℕ) (j : List ℕ) (n : ℕ)
    → keystream e j (suc n) ≡ e (stepped j) ++ keystream e (stepped j) n
unfolding keystream joined
keystream-more e j n = ap (λ l. joined (map e l)) (inputs-after j n ∙ inputs_first (stepped j) n)

pub crypted-nil : (e : List ℕ → List ℕ) (j : List ℕ) → crypted e j [] ≡ []
unfolding crypted xored
crypted-nil e j = refl

-- a text that is not empty fills one block more than what stands behind its first sixteen bytes
blocks_more : (text : List ℕ) → 0 < length text → blocks_for (length text) ≡ suc (blocks_for (length (drop 16 text)))
blocks_more text h = rw (length-drop 16 text) (omega arith)

module _ (e : List ℕ → List ℕ) (sixteen : (b : List ℕ) → length (e b) ≡ 16) where
  pub length-keystream : (j : List ℕ) (n : ℕ) → length (keystream e j n) ≡ n * 16
  unfolding keystream inputs joined
  length-keystream j zero = refl
  length-keystream j (suc n) =
      rw (keystream-more e j n, length-append, sixteen, length-keystream (stepped j) n) (omega arith)

  -- the keystream for a text is as long as the text, or longer
  enough : (j text : List ℕ) → length text ≤ length (keystream e j (blocks_for (length text)))
  enough j text = rw (length-keystream j (blocks_for (length text))) (omega arith)

  pub length-crypted : (j text : List ℕ) → length (crypted e j text) ≡ length text
  unfolding crypted
  length-crypted j text = length-xored_le text _ (enough j text)

  -- one block of text, whole or short, takes the next block of the keystream
  pub crypted-more : (j text : List ℕ) → 0 < length text
      → crypted e j text ≡ xored (take 16 text) (e (stepped j)) ++ crypted e (stepped j) (drop 16 text)
  unfolding crypted
  crypted-more j text h =
      rw (blocks_more text h, keystream-more, xored-append, sixteen (stepped j))

  pub crypted_twice : (j text : List ℕ) → crypted e j (crypted e j text) ≡ text
  unfolding crypted
  crypted_twice j text =
      rw (length-xored_le text (keystream e j (blocks_for (length text))) (enough j text))
      (xored_twice text (keystream e j (blocks_for (length text))) (enough j text))
