-- An enciphered block has sixteen bytes, whatever it was made from: the state is written out byte by byte. And the cipher of a key
-- is the one by its round keys.
use Rattle.std.proofs.Common.{◌≡◌, ℕ, zero, suc, ◌+◌, ◌-◌, ◌≤◌, List, length, refl, ap, arith}
use Rattle.schedule.specs.Schedule.{key_words_in, rounds_for, round_keys}
use Rattle.aes.specs.Cipher.{rounded, after_rounds, enciphered_by, enciphered}

pub length-enciphered : (words : List ℕ) (rounds : ℕ) (block : List ℕ) → length (enciphered_by words rounds block) ≡ 16
unfolding enciphered_by
length-enciphered words rounds block = refl

pub enciphered-sixteen : (key block : List ℕ) → length (enciphered key block) ≡ 16
unfolding enciphered enciphered_by
enciphered-sixteen key block = refl

pub by_round_keys : (key : List ℕ) {words : List ℕ} → words ≡ round_keys key → enciphered_by words (rounds_for (key_words_in key)) ≡ enciphered key
unfolding enciphered
by_round_keys key are = ap (λ (words : List ℕ). enciphered_by words (rounds_for (key_words_in key))) are

-- round k is one step more of `after_rounds`
pub round_more : (words : List ℕ) (k : ℕ) (s : List (List ℕ)) → 1 ≤ k
    → after_rounds words (k + 1 - 1) s ≡ rounded words k (after_rounds words (k - 1) s)
unfolding after_rounds
round_more words zero s positive = elim positive [ ]
round_more words (suc k) s positive =
    let last : suc k - 1 ≡ k = omega arith in
    let next : suc k + 1 - 1 ≡ suc k = omega arith in
    rw (last, next)
