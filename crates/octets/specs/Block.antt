-- A block of sixteen bytes, as a big-endian number below 2^128, and the blocks of a list of bytes.
use Rattle.std.specs.Prelude.{List, [], ◌∷◌, ◌++◌, ℕ, zero, suc, ◌+◌, ◌*◌, ◌/◌, ◌^◌, length, get_or, drop}
use Rattle.octets.specs.Word.{word_at, bytes_of}

-- the number that eight bytes of a list make, from index i on; past its end a list has zeros
abbrev pub long_at : List ℕ → ℕ → ℕ
long_at s i = word_at s i * 2 ^ 32 + word_at s (i + 4)

-- the number that sixteen bytes of a list make, from index i on
abbrev pub number_at : List ℕ → ℕ → ℕ
number_at s i = long_at s i * 2 ^ 64 + long_at s (i + 8)

-- the sixteen bytes of a number, the highest first
unfoldable pub block_bytes : ℕ → List ℕ
block_bytes n = bytes_of (n / 2 ^ 96) ++ bytes_of (n / 2 ^ 64) ++ bytes_of (n / 2 ^ 32) ++ bytes_of n

-- the sixteen bytes of four lists, four of each
abbrev pub block_from : List ℕ → List ℕ → List ℕ → List ℕ → List ℕ
block_from a b c d =
    get_or a 0 0 ∷ get_or a 1 0 ∷ get_or a 2 0 ∷ get_or a 3 0
    ∷ get_or b 0 0 ∷ get_or b 1 0 ∷ get_or b 2 0 ∷ get_or b 3 0
    ∷ get_or c 0 0 ∷ get_or c 1 0 ∷ get_or c 2 0 ∷ get_or c 3 0
    ∷ get_or d 0 0 ∷ get_or d 1 0 ∷ get_or d 2 0 ∷ get_or d 3 0
    ∷ []

-- how many blocks n bytes fill, the last one perhaps in part
abbrev pub blocks_for : ℕ → ℕ
blocks_for n = (n + 15) / 16

-- the first n blocks of a list, as numbers
unfoldable pub blocks : ℕ → List ℕ → List ℕ
blocks zero s = []
blocks (suc n) s = number_at s 0 ∷ blocks n (drop 16 s)

-- a list zero-padded to a multiple of 16, as blocks: none for an empty list
unfoldable pub padded : List ℕ → List ℕ
padded s = blocks (blocks_for (length s)) s
