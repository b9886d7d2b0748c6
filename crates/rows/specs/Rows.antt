-- The rows that sealing and opening at once can give (rules R2.1 to R2.8), as facts about lengths.
use Rattle.std.specs.Prelude.{◌≡◌, Bool, true, false, not, ◌&&◌, ◌||◌, List, [], ◌∷◌, ◌++◌, ℕ, suc, ◌+◌, ◌-◌, ◌<◌, eqb, ltb, get_or}

-- the house limits, in bytes (rules R2.2, R2.4 and R2.5)
abbrev pub longest_iv : ℕ
longest_iv = 128

abbrev pub longest_ad : ℕ
longest_ad = 65536

abbrev pub longest_text : ℕ
longest_text = 65536

-- row 1: not 16 or 32
unfoldable pub key_bad : ℕ → Bool
key_bad n = not (eqb n 16) && not (eqb n 32)

-- row 2: not 1 to 128
unfoldable pub iv_bad : ℕ → Bool
iv_bad n = ltb n 1 || ltb longest_iv n

-- row 3: not 12 to 16
unfoldable pub tag_bad : ℕ → Bool
tag_bad n = ltb n 12 || ltb 16 n

-- row 4
abbrev pub ad_bad : ℕ → Bool
ad_bad n = ltb longest_ad n

-- row 5
abbrev pub text_bad : ℕ → Bool
text_bad n = ltb longest_text n

-- rows 6 and 7: fewer bytes than are wanted
abbrev pub too_short : ℕ → ℕ → Bool
too_short n wanted = ltb n wanted

-- the number of the first fact that holds, counted from n; 0 where none does
unfoldable pub lowest : ℕ → List Bool → ℕ
lowest n [] = 0
lowest n (true ∷ facts) = n
lowest n (false ∷ facts) = lowest (suc n) facts

-- row n's fact holds, and no earlier row's does
abbrev pub Applies : List Bool → ℕ → Type 0
Applies facts n = (get_or facts (n - 1) false ≡ true) × ((m : ℕ) → 0 < m → m < n → get_or facts (m - 1) false ≡ false)

-- rows 1 to 5
abbrev pub length_rows : ℕ → ℕ → ℕ → ℕ → ℕ → List Bool
length_rows key iv ad text tag = key_bad key ∷ iv_bad iv ∷ tag_bad tag ∷ ad_bad ad ∷ text_bad text ∷ []

-- the rows of a seal: row 6 is none of its own
abbrev pub seal_rows : ℕ → ℕ → ℕ → ℕ → ℕ → ℕ → List Bool
seal_rows key iv ad text tag room = length_rows key iv ad text tag ++ (false ∷ too_short room (text + tag) ∷ [])

-- the rows of an open that are about lengths; the text is what the sealed bytes have beside the tag
abbrev pub open_length_rows : ℕ → ℕ → ℕ → ℕ → ℕ → ℕ → List Bool
open_length_rows key iv ad sealed tag room =
    length_rows key iv ad (sealed - tag) tag ++ (too_short sealed tag ∷ too_short room (sealed - tag) ∷ [])

-- the rows of an open: row 8 is that the tag differs
abbrev pub open_rows : ℕ → ℕ → ℕ → ℕ → ℕ → ℕ → Bool → List Bool
open_rows key iv ad sealed tag room differs = open_length_rows key iv ad sealed tag room ++ (differs ∷ [])
