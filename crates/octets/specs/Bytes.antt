-- Lists of bytes: their xor, their joining, and whether two are the same.
use Rattle.std.specs.Prelude.{Bool, true, false, ◌&&◌, List, [], ◌∷◌, ◌++◌, ℕ, eqb}
use Rattle.std.specs.Int.Bits.{bit_xor}

-- the xor of two lists, as long as the shorter
unfoldable pub xored : List ℕ → List ℕ → List ℕ
xored [] t = []
xored (a ∷ s) [] = []
xored (a ∷ s) (b ∷ t) = bit_xor a b ∷ xored s t

-- one list after the other
unfoldable pub joined : List (List ℕ) → List ℕ
joined [] = []
joined (s ∷ rest) = s ++ joined rest

-- the two lists have the same bytes
unfoldable pub same : List ℕ → List ℕ → Bool
same [] [] = true
same [] (b ∷ t) = false
same (a ∷ s) [] = false
same (a ∷ s) (b ∷ t) = eqb a b && same s t
