-- What is kept of a line of hex while it is read, beside the bytes that its digits made so far.
use Rattle.std.specs.Prelude.{◌≡◌, Option, Some, None, is_some, is_none, unwrap_or, Bool, true, false, ◌&&◌, cond}
use Rattle.std.specs.Prelude.{List, [], ◌∷◌, ℕ, ◌+◌, ◌*◌, ◌/◌, ◌%◌, ◌≤◌, leb, ltb, length, take, set}
use Rattle.hexadecimal.specs.Hex.{digit_value, decoded, all_digits, longest_field, good_line}
use Rattle.hexadecimal.specs.declared.line.Line.{Line}

-- a line of which nothing was read yet
abbrev pub fresh_line : Option Line
fresh_line = Some (record { bytes = 0; half = None })

-- a line that can become good no more, whatever follows
abbrev pub spoiled_line : Option Line
spoiled_line = None

-- nothing in the line so far spoils it: digits alone, and no more of them than the longest line has
unfoldable pub fitting : List ℕ → Bool
fitting s = all_digits s && leb (length s) (longest_field * 2)

-- the value of a last digit that has no second one
unfoldable pub pending : List ℕ → Option ℕ
pending [] = None
pending (h ∷ []) = Some (digit_value h)
pending (h ∷ l ∷ s) = pending s

-- what is kept of a line
unfoldable pub line_of : List ℕ → Option Line
line_of s = cond (fitting s) (Some (record { bytes = length s / 2; half = pending s })) spoiled_line

-- the byte is one more digit of the line; any other byte spoils it
unfoldable pub taken : Option Line → ℕ → Bool
taken None b = false
taken (Some line) b = ltb (digit_value b) 16 && ltb line.bytes longest_field

-- a line with one digit more, by its value: the first of a byte, or the second
abbrev pub with_digit : ℕ → Option ℕ → ℕ → Line
with_digit bytes None value = record { bytes = bytes; half = Some value }
with_digit bytes (Some first) value = record { bytes = bytes + 1; half = None }

-- its bytes then: a second digit makes one
abbrev pub with_byte : ℕ → Option ℕ → ℕ → List ℕ → List ℕ
with_byte count None value bytes = bytes
with_byte count (Some first) value bytes = set bytes count (first % 16 * 16 + value)

-- the line with one byte more
unfoldable pub fed : Option Line → ℕ → Option Line
fed None b = spoiled_line
fed (Some line) b = cond (taken (Some line) b) (Some (with_digit line.bytes line.half (digit_value b))) spoiled_line

-- and its bytes then
unfoldable pub stored : Option Line → ℕ → List ℕ → List ℕ
stored None b bytes = bytes
stored (Some line) b bytes = cond (taken (Some line) b) (with_byte line.bytes line.half (digit_value b) bytes) bytes

-- the line, ended here, is good
unfoldable pub ends_good : Option Line → Bool
ends_good None = false
ends_good (Some line) = is_none line.half

-- how many bytes it stands for then; none, where it is not good
unfoldable pub count_of : Option Line → Option ℕ
count_of None = None
count_of (Some line) = cond (ends_good (Some line)) (Some line.bytes) None

-- the bytes that the digits of a line begun make stand in front of the buffer, if nothing spoils the line
abbrev pub InFront : List ℕ → List ℕ → Type 0
InFront line bytes = fitting line ≡ true → take (length line / 2) bytes ≡ decoded line

-- an ended line has a count just where it is good, and the bytes that it stands for are so many in front of the buffer then
pub record Counted (count : Option ℕ) (bytes line : List ℕ) : Type 0 where
  pub good : is_some count ≡ good_line line
  pub within : unwrap_or count 0 ≤ longest_field
  pub front : good_line line ≡ true → take (unwrap_or count 0) bytes ≡ decoded line
