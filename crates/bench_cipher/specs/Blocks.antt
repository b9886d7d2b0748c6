-- What the benchmark of the cipher makes of a list of bytes.
use Rattle.std.specs.Prelude.{cond, List, ◌++◌, ℕ, zero, suc, ◌/◌, ltb, length, take, drop}
use Rattle.aes.specs.Cipher.{enciphered}

-- the first n blocks of a list enciphered by e, and the rest as it is
unfoldable pub first_enciphered : (List ℕ → List ℕ) → ℕ → List ℕ → List ℕ
first_enciphered e zero s = s
first_enciphered e (suc n) s = e (take 16 s) ++ first_enciphered e n (drop 16 s)

-- every whole block enciphered
abbrev pub each_enciphered : (List ℕ → List ℕ) → List ℕ → List ℕ
each_enciphered e s = first_enciphered e (length s / 16) s

-- by a key of 16 to 32 bytes; under any other the list stays
unfoldable pub blocks_under : List ℕ → List ℕ → List ℕ
blocks_under key s = cond (ltb (length key) 16) s (cond (ltb 32 (length key)) s (each_enciphered (enciphered key) s))
