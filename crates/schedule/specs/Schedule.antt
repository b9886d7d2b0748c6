-- The key schedule, over n key words: 4 for a key of 16 bytes, 8 for one of 32 (FIPS 197: KEYEXPANSION).
use Rattle.std.specs.Prelude.{cond, List, [], ◌∷◌, ◌++◌, ℕ, zero, suc, ◌+◌, ◌-◌, ◌*◌, ◌/◌, ◌%◌, eqb, ltb, length, get_or, replicate}
use Rattle.std.specs.Int.Bits.{bit_xor}
use Rattle.octets.specs.Word.{word_of, word_at, byte_of}
use Rattle.sbox.specs.Substitution.{substituted}

-- how many words a key has
abbrev pub key_words_in : List ℕ → ℕ
key_words_in key = length key / 4

-- how many rounds and how many words go with n key words
abbrev pub rounds_for : ℕ → ℕ
rounds_for n = n + 6

abbrev pub words_for : ℕ → ℕ
words_for n = 4 * (rounds_for n + 1)

-- word i of a key
abbrev pub key_word : List ℕ → ℕ → ℕ
key_word key i = word_at key (4 * i)

-- a word turned left by one byte (FIPS 197: ROTWORD)
unfoldable pub turned : ℕ → ℕ
turned w = word_of (byte_of w 1) (byte_of w 2) (byte_of w 3) (byte_of w 0)

-- a word with each of its bytes substituted (FIPS 197: SUBWORD)
unfoldable pub substituted_word : ℕ → ℕ
substituted_word w =
    word_of (substituted (byte_of w 0)) (substituted (byte_of w 1)) (substituted (byte_of w 2)) (substituted (byte_of w 3))

-- the round constants, from 1 (FIPS 197: Rcon)
abbrev pub constants : List ℕ
constants = 0x01 ∷ 0x02 ∷ 0x04 ∷ 0x08 ∷ 0x10 ∷ 0x20 ∷ 0x40 ∷ 0x80 ∷ 0x1b ∷ 0x36 ∷ []

abbrev pub constant : ℕ → ℕ
constant k = get_or constants (k - 1) 0

-- where n is 8 and i mod 8 is 4, the word substituted; else the word
unfoldable pub halfway : ℕ → ℕ → ℕ → ℕ
halfway n i last = cond (eqb n 8) (cond (eqb (i % 8) 4) (substituted_word last) last) last

-- the value t of word i, where word i - 1 is `last`
unfoldable pub changed : ℕ → ℕ → ℕ → ℕ
changed n i last =
    cond (eqb (i % n) 0) (bit_xor (substituted_word (turned last)) (word_of (constant (i / n)) 0 0 0)) (halfway n i last)

-- word i, from the words before it: words 0 to n - 1 are the key, and word i is word i - n xor t
unfoldable pub word_after : ℕ → List ℕ → ℕ → List ℕ → ℕ
word_after n key i words =
    cond (ltb i n) (key_word key i) (bit_xor (get_or words (i - n) 0) (changed n i (get_or words (i - 1) 0)))

-- words 0 to i - 1
unfoldable pub first_words : ℕ → List ℕ → ℕ → List ℕ
first_words n key zero = []
first_words n key (suc i) = first_words n key i ++ (word_after n key i (first_words n key i) ∷ [])

-- words 0 to i - 1 in a room of sixty, which is what the longest schedule needs: zeros after them
abbrev pub in_sixty : ℕ → List ℕ → ℕ → List ℕ
in_sixty n key i = first_words n key i ++ replicate (60 - i) 0

-- the whole schedule of a key
unfoldable pub round_keys : List ℕ → List ℕ
round_keys key = in_sixty (key_words_in key) key (words_for (key_words_in key))
