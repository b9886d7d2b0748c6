-- A word of four bytes, as a big-endian number below 2^32.
use Rattle.std.specs.Prelude.{List, [], ◌∷◌, ℕ, ◌+◌, ◌*◌, ◌/◌, ◌%◌, ◌^◌, get_or}

-- the word whose bytes are a, b, c and d, the highest first
abbrev pub word_of : ℕ → ℕ → ℕ → ℕ → ℕ
word_of a b c d = ((a * 256 + b) * 256 + c) * 256 + d

-- the word that stands in a list from index i on
abbrev pub word_at : List ℕ → ℕ → ℕ
word_at s i = word_of (get_or s i 0) (get_or s (i + 1) 0) (get_or s (i + 2) 0) (get_or s (i + 3) 0)

-- the four bytes of a word, the highest first
abbrev pub bytes_of : ℕ → List ℕ
bytes_of w = w / 2 ^ 24 % 256 ∷ w / 2 ^ 16 % 256 ∷ w / 2 ^ 8 % 256 ∷ w % 256 ∷ []

-- byte r of a word, counted from the highest
abbrev pub byte_of : ℕ → ℕ → ℕ
byte_of w r = get_or (bytes_of w) r 0
