-- The lines that answer a good record.
use Rattle.std.specs.Prelude.{cond, ◌≡◌, List, [], ◌∷◌, ◌++◌, ℕ, ◌+◌, ◌/◌, ◌%◌, ltb, length, drop}
use Rattle.hexadecimal.specs.Hex.{encoded}
use Rattle.records.specs.Records.{line_feed}

-- `0 `, then the sealed bytes in hex
unfoldable pub sealed_line : List ℕ → List ℕ
sealed_line sealed = 48 ∷ 32 ∷ (encoded sealed ++ (line_feed ∷ []))

-- a number below 100 alone, in decimal
unfoldable pub number_line : ℕ → List ℕ
number_line n =
    cond (ltb n 10)
    ((48 + n) ∷ line_feed ∷ [])
    ((48 + n / 10) ∷ (48 + n % 10) ∷ line_feed ∷ [])

-- a line was written to the front of an output, and its length returned
pub record Wrote (line was now : List ℕ) (count : ℕ) : Type 0 where
  pub counts : count ≡ length line
  pub front : now ≡ line ++ drop (length line) was
