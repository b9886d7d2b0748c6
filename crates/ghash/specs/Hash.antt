-- The hash of a list of blocks (SP 800-38D: GHASH), and the block of lengths that ends it.
use Rattle.std.specs.Prelude.{List, [], ◌∷◌, ℕ, ◌+◌, ◌*◌, ◌^◌}
use Rattle.std.specs.Int.Bits.{bit_xor}
use Rattle.hash_field.specs.Field.{product}

-- from a hash so far: for each block x it becomes (hash xor x)·h
unfoldable pub hash_from : ℕ → ℕ → List ℕ → ℕ
hash_from h sum [] = sum
hash_from h sum (x ∷ rest) = hash_from h (product (bit_xor sum x) h) rest

-- the hash starts at zero
abbrev pub hash : ℕ → List ℕ → ℕ
hash h blocks = hash_from h 0 blocks

-- two lengths in bytes, as their counts of bits, 64 bits each
abbrev pub length_block : ℕ → ℕ → ℕ
length_block a b = a * 8 * 2 ^ 64 + b * 8
