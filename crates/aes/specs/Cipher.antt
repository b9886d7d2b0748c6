-- Enciphering one block (FIPS 197: CIPHER).
use Rattle.std.specs.Prelude.{List, ℕ, zero, suc, ◌-◌}
use Rattle.state.specs.State.{state_of, block_of, substituted_bytes, shifted_rows, mixed_columns, keyed}
use Rattle.schedule.specs.Schedule.{key_words_in, rounds_for, round_keys}

-- round k: substitute, shift rows, mix columns, xor the next four words
unfoldable pub rounded : List ℕ → ℕ → List (List ℕ) → List (List ℕ)
rounded words k s = keyed words k (mixed_columns (shifted_rows (substituted_bytes s)))

-- the last round leaves out the mix
unfoldable pub last_rounded : List ℕ → ℕ → List (List ℕ) → List (List ℕ)
last_rounded words k s = keyed words k (shifted_rows (substituted_bytes s))

-- k rounds, from round 1 on
unfoldable pub after_rounds : List ℕ → ℕ → List (List ℕ) → List (List ℕ)
after_rounds words zero s = s
after_rounds words (suc k) s = rounded words (suc k) (after_rounds words k s)

-- a block enciphered with the words of a schedule: words 0 to 3 are xored in, then come the rounds
unfoldable pub enciphered_by : List ℕ → ℕ → List ℕ → List ℕ
enciphered_by words rounds block =
    block_of (last_rounded words rounds (after_rounds words (rounds - 1) (keyed words 0 (state_of block))))

-- a block enciphered with a key
unfoldable pub enciphered : List ℕ → List ℕ → List ℕ
enciphered key block = enciphered_by (round_keys key) (rounds_for (key_words_in key)) block
