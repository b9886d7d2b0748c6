-- Hex: the digits, the bytes that a line of them stands for, and which lines are good.
use Rattle.std.specs.Prelude.{Option, Some, None, Bool, true, ◌&&◌, cond, List, [], ◌∷◌, ℕ, ◌+◌, ◌-◌, ◌*◌, ◌/◌, ◌%◌, leb, ltb, eqb, length}

abbrev pub within : ℕ → ℕ → ℕ → Bool
within from to b = leb from b && leb b to

-- the value of a digit: 0 to 9 are the bytes 48 to 57, a to f 97 to 102, A to F 65 to 70; 16 for a byte that is none
unfoldable pub digit_value : ℕ → ℕ
digit_value b =
    cond (within 48 57 b) (b - 48)
    (cond (within 97 102 b) (b - 97 + 10)
    (cond (within 65 70 b) (b - 65 + 10)
    16))

-- the digit that a byte is, by its value
abbrev pub digit_of : ℕ → Option ℕ
digit_of b = cond (ltb (digit_value b) 16) (Some (digit_value b)) None

-- the digit of a number below 16, in lower case
unfoldable pub hex_digit : ℕ → ℕ
hex_digit n = cond (ltb n 10) (n + 48) (n + 87)

-- bytes as hex: two digits for each, the one for its high half first
unfoldable pub encoded : List ℕ → List ℕ
encoded [] = []
encoded (b ∷ s) = hex_digit (b / 16) ∷ hex_digit (b % 16) ∷ encoded s

-- the bytes that a line of digits stands for, two digits to each
unfoldable pub decoded : List ℕ → List ℕ
decoded [] = []
decoded (h ∷ []) = []
decoded (h ∷ l ∷ s) = (digit_value h * 16 + digit_value l) ∷ decoded s

-- every byte of a line is a digit
unfoldable pub all_digits : List ℕ → Bool
all_digits [] = true
all_digits (b ∷ s) = ltb (digit_value b) 16 && all_digits s

-- the most bytes that a line may stand for
abbrev pub longest_field : ℕ
longest_field = 4096

-- an even count of digits, no strange byte, and at most 4,096 bytes' worth
unfoldable pub good_line : List ℕ → Bool
good_line s = all_digits s && (eqb (length s % 2) 0 && leb (length s / 2) longest_field)
