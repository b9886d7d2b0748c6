-- What the vector program writes for an input: records of four lines, and an answer for each.
use Rattle.std.specs.Prelude.{◌&&◌, cond, List, [], ◌∷◌, ◌++◌, ℕ, eqb}
use Rattle.hexadecimal.specs.Hex.{decoded, good_line}

abbrev pub line_feed : ℕ
line_feed = 10

-- the lines of an input, each ended by a line feed; `begun` is what stands of the first of them already
unfoldable pub lines_from : List ℕ → List ℕ → List (List ℕ)
lines_from begun [] = []
lines_from begun (b ∷ s) = cond (eqb b line_feed) (begun ∷ lines_from [] s) (lines_from (begun ++ (b ∷ [])) s)

-- what remains of an input behind its last line feed
unfoldable pub rest_from : List ℕ → List ℕ → List ℕ
rest_from begun [] = begun
rest_from begun (b ∷ s) = cond (eqb b line_feed) (rest_from [] s) (rest_from (begun ++ (b ∷ [])) s)

-- the line `bad`
abbrev pub bad_line : List ℕ
bad_line = 98 ∷ 97 ∷ 100 ∷ line_feed ∷ []

-- the line `cut`
abbrev pub cut_line : List ℕ
cut_line = 99 ∷ 117 ∷ 116 ∷ line_feed ∷ []

-- What a record of bytes is answered by is handed in: the line for a key, an IV, AD and a text.
abbrev pub Answering : Type 0
Answering = List ℕ → List ℕ → List ℕ → List ℕ → List ℕ

-- the answer to a record of four lines
unfoldable pub answer_to : Answering → List ℕ → List ℕ → List ℕ → List ℕ → List ℕ
answer_to answer key iv ad text =
    cond (good_line key && good_line iv && good_line ad && good_line text)
    (answer (decoded key) (decoded iv) (decoded ad) (decoded text))
    bad_line

-- `cut`, unless nothing remains
unfoldable pub cut_of : List ℕ → List ℕ
cut_of [] = []
cut_of (b ∷ s) = cut_line

-- an answer for each four lines; lines and a rest that lack their four line feeds are cut
unfoldable pub answers : Answering → List (List ℕ) → List ℕ → List ℕ
answers answer [] rest = cut_of rest
answers answer (key ∷ []) rest = cut_line
answers answer (key ∷ iv ∷ []) rest = cut_line
answers answer (key ∷ iv ∷ ad ∷ []) rest = cut_line
answers answer (key ∷ iv ∷ ad ∷ text ∷ lines) rest = answer_to answer key iv ad text ++ answers answer lines rest

-- what the program writes for a whole input
unfoldable pub output_of : Answering → List ℕ → List ℕ
output_of answer input = answers answer (lines_from [] input) (rest_from [] input)
