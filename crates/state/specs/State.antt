-- The cipher's state, four rows by four columns of bytes, and the four steps of a round. It is kept as a list of columns.
use Rattle.std.specs.Prelude.{List, [], ◌∷◌, ℕ, ◌+◌, ◌*◌, ◌%◌, get_or}
use Rattle.std.specs.Int.Bits.{bit_xor}
use Rattle.octets.specs.Word.{word_at, bytes_of}
use Rattle.octets.specs.Block.{block_from}
use Rattle.byte_field.specs.Field.{product}
use Rattle.sbox.specs.Substitution.{substituted}

abbrev pub four {ℓ} : {A : Type ℓ} → (ℕ → A) → List A
four f = f 0 ∷ f 1 ∷ f 2 ∷ f 3 ∷ []

-- the state with f r c in row r, column c
abbrev pub filled : (ℕ → ℕ → ℕ) → List (List ℕ)
filled f = four (λ c. four (λ r. f r c))

-- what a column has in row r
abbrev pub row : List ℕ → ℕ → ℕ
row column r = get_or column r 0

-- column c of a state
abbrev pub column : List (List ℕ) → ℕ → List ℕ
column s c = get_or s c []

-- byte r + 4c of the block sits in row r, column c
abbrev pub state_of : List ℕ → List (List ℕ)
state_of block = filled (λ r c. get_or block (r + 4 * c) 0)

-- the block that fills the state: its columns, one after the other
abbrev pub block_of : List (List ℕ) → List ℕ
block_of s = block_from (column s 0) (column s 1) (column s 2) (column s 3)

-- each byte substituted (FIPS 197: SUBBYTES)
unfoldable pub substituted_column : List ℕ → List ℕ
substituted_column s = four (λ r. substituted (row s r))

abbrev pub substituted_bytes : List (List ℕ) → List (List ℕ)
substituted_bytes s = four (λ c. substituted_column (column s c))

-- the new byte at row r, column c is the old one at row r, column (c + r) mod 4 (FIPS 197: SHIFTROWS)
abbrev pub shifted_rows : List (List ℕ) → List (List ℕ)
shifted_rows s = filled (λ r c. row (column s ((c + r) % 4)) r)

-- 2·a + 3·b + c + d
unfoldable pub mixed : ℕ → ℕ → ℕ → ℕ → ℕ
mixed a b c d = bit_xor (bit_xor (bit_xor (product 2 a) (product 3 b)) c) d

-- row r is mixed of rows r, r + 1, r + 2 and r + 3, turning from the last to the first (FIPS 197: MIXCOLUMNS)
unfoldable pub mixed_column : List ℕ → List ℕ
mixed_column s = four (λ r. mixed (row s r) (row s ((r + 1) % 4)) (row s ((r + 2) % 4)) (row s ((r + 3) % 4)))

abbrev pub mixed_columns : List (List ℕ) → List (List ℕ)
mixed_columns s = four (λ c. mixed_column (column s c))

-- word c of the four from word 4k on is xored into column c (FIPS 197: ADDROUNDKEY)
unfoldable pub keyed_column : List ℕ → ℕ → List ℕ
keyed_column s word = bytes_of (bit_xor (word_at s 0) word)

abbrev pub keyed : List ℕ → ℕ → List (List ℕ) → List (List ℕ)
keyed words k s = four (λ c. keyed_column (column s c) (get_or words (4 * k + c) 0))
