-- A message in pieces: where its keystream stands after some bytes of text, and how its ciphertext goes into the hash.
use Rattle.std.specs.Prelude.{◌≡◌, List, [], ◌∷◌, ◌++◌, ℕ, ◌+◌, ◌*◌, ◌/◌, ◌%◌, ◌^◌, length, get_or, take, drop}
use Rattle.octets.specs.Word.{bytes_of}
use Rattle.octets.specs.Block.{blocks_for, blocks}
use Rattle.octets.specs.Bytes.{xored}
use Rattle.hash_field.specs.Element.{element_of}
use Rattle.ghash.specs.Hash.{hash_from}
use Rattle.counter.specs.Counter.{counter_block, keystream}
use Rattle.pieces.specs.declared.Held.{Held}

-- the IV of a message: the mark, then the number, twelve bytes
abbrev pub iv_of : List ℕ → ℕ → List ℕ
iv_of mark n =
    get_or mark 0 0 ∷ get_or mark 1 0 ∷ get_or mark 2 0 ∷ get_or mark 3 0 ∷ (bytes_of (n / 2 ^ 32) ++ bytes_of n)

-- the counter block after k blocks of text: J stepped k times
unfoldable pub counter_at : List ℕ → ℕ → List ℕ
counter_at iv k = counter_block iv ((k + 1) % 2 ^ 32)

-- a piece of text crypted, where `before` bytes went before it: the keystream goes on inside its block
unfoldable pub crypted_at : (List ℕ → List ℕ) → List ℕ → ℕ → List ℕ → List ℕ
crypted_at e iv before piece =
    xored piece (drop (before % 16) (keystream e (counter_at iv (before / 16)) (blocks_for (before % 16 + length piece))))

-- the first sixteen bytes of a list, with zeros past its end
unfoldable pub sixteen : List ℕ → List ℕ
sixteen s =
    get_or s 0 0 ∷ get_or s 1 0 ∷ get_or s 2 0 ∷ get_or s 3 0
    ∷ get_or s 4 0 ∷ get_or s 5 0 ∷ get_or s 6 0 ∷ get_or s 7 0
    ∷ get_or s 8 0 ∷ get_or s 9 0 ∷ get_or s 10 0 ∷ get_or s 11 0
    ∷ get_or s 12 0 ∷ get_or s 13 0 ∷ get_or s 14 0 ∷ get_or s 15 0 ∷ []

-- ciphertext that is not hashed yet: the bytes held in a part block after `before` bytes, then d
abbrev pub waiting : ℕ → List ℕ → List ℕ → List ℕ
waiting before part d = take (before % 16) part ++ d

-- the whole blocks of what waits go into the hash, and the rest is held
unfoldable pub sum_after : ℕ → ℕ → List ℕ → ℕ
sum_after h sum s = hash_from h sum (blocks (length s / 16) s)

unfoldable pub part_after : List ℕ → List ℕ
part_after s = sixteen (drop (length s / 16 * 16) s)

-- a hash after all the bytes s that waited: whole blocks in it, the rest held
pub record Absorbed (h before : ℕ) (s : List ℕ) (r : Held) : Type 0 where
  pub sum : r.sum ≡ element_of (sum_after h before s)
  pub part : r.part ≡ part_after s
