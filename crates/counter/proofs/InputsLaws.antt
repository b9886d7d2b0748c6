-- The cipher input blocks of one message all differ, whatever the first one is: its last word counts on, modulo 2^32, and its
-- other bytes stay.
use Rattle.std.proofs.Common.{◌≡◌, ℕ, zero, suc, ◌+◌, ◌%◌, ◌^◌, ◌<◌, ◌≤◌, List, [], ◌∷◌, length, get_or, drop, sym, refl, ap, ◌∙◌, mod-eq_of_lt, arith}
use lib.ListN.{get_or-append}
use Rattle.octets.specs.Word.{word_at, bytes_of}
use Rattle.octets.proofs.BlockLaws.{word_bytes}
use Rattle.octets.proofs.ElementsLaws.{elements, elements_at, length-elements}
use Rattle.counter.specs.Counter.{counter_block, stepped, inputs}

pub length-inputs : (j : List ℕ) (n : ℕ) → length (inputs j n) ≡ suc n
unfolding inputs
length-inputs j zero = refl
length-inputs j (suc n) = ap suc (length-inputs (stepped j) n)

pub inputs_first : (j : List ℕ) (n : ℕ) → inputs j n ≡ j ∷ drop 1 (inputs j n)
unfolding inputs
inputs_first j zero = refl
inputs_first j (suc n) = refl

-- bytes 0 to 11 never change
pub stepped_keeps : (j : List ℕ) (i : ℕ) → i < 12 → get_or (stepped j) i 0 ≡ get_or j i 0
unfolding stepped counter_block
stepped_keeps j i h =
    get_or-append (elements 12 j 0) (bytes_of ((word_at j 12 + 1) % 2 ^ 32)) 0 i (rw (length-elements 12 j 0) h)
    ∙ elements_at 12 j 0 i h
    ∙ ap (λ m. get_or j m 0) (omega arith)

-- the last four bytes are one number, which counts on and wraps
pub stepped_word : (j : List ℕ) → word_at (stepped j) 12 ≡ (word_at j 12 + 1) % 2 ^ 32
unfolding stepped counter_block
stepped_word j = word_bytes ((word_at j 12 + 1) % 2 ^ 32) ∙ mod-eq_of_lt (omega arith)

count_on : (w k : ℕ) → ((w + 1) % 2 ^ 32 + k) % 2 ^ 32 ≡ (w + suc k) % 2 ^ 32
count_on w k = omega arith

-- the last word of input block k
pub inputs_word : (j : List ℕ) (n k : ℕ) → 0 < k → k ≤ n → word_at (get_or (inputs j n) k []) 12 ≡ (word_at j 12 + k) % 2 ^ 32
unfolding inputs
inputs_word j n zero p h = absurd (omega arith)
inputs_word j zero (suc k) p h = absurd (omega arith)
inputs_word j (suc n) (suc zero) p h = rw (inputs_first (stepped j) n) (stepped_word j)
inputs_word j (suc n) (suc (suc k)) p h =
    inputs_word (stepped j) n (suc k) (omega arith) (omega arith)
    ∙ ap (λ w. (w + suc k) % 2 ^ 32) (stepped_word j)
    ∙ count_on (word_at j 12) (suc k)

-- bytes 0 to 11 of every input block are the first one's
pub inputs_keep : (j : List ℕ) (n k : ℕ) → k ≤ n → (i : ℕ) → i < 12 → get_or (get_or (inputs j n) k []) i 0 ≡ get_or j i 0
unfolding inputs
inputs_keep j zero zero h i p = refl
inputs_keep j zero (suc k) h i p = absurd (omega arith)
inputs_keep j (suc n) zero h i p = refl
inputs_keep j (suc n) (suc k) h i p = inputs_keep (stepped j) n k (omega arith) i p ∙ stepped_keeps j i p

apart : (w i k : ℕ) → i < k → k < 2 ^ 32 → (w + i) % 2 ^ 32 ≡ (w + k) % 2 ^ 32 → ⊥
apart w i k h m q = omega arith

-- a first word of 2^32 or more, which no four bytes make, is no remainder
first_apart : (w k : ℕ) → 0 < k → k < 2 ^ 32 → w ≡ (w + k) % 2 ^ 32 → ⊥
first_apart w k h m q = omega arith

-- with fewer than 2^32 steps no two input blocks are the same
pub inputs-differ : (j : List ℕ) (n : ℕ) → n < 2 ^ 32 → (i k : ℕ) → i < k → k ≤ n
    → get_or (inputs j n) i [] ≡ get_or (inputs j n) k []
    → ⊥
inputs-differ j n few zero k h m q =
    first_apart (word_at j 12) k h (omega arith)
    (sym (ap (λ l. word_at (get_or l 0 []) 12) (inputs_first j n)) ∙ ap (λ b. word_at b 12) q ∙ inputs_word j n k h m)
inputs-differ j n few (suc i) k h m q =
    apart (word_at j 12) (suc i) k h (omega arith)
    (sym (inputs_word j n (suc i) (omega arith) (omega arith)) ∙ ap (λ b. word_at b 12) q ∙ inputs_word j n k (omega arith) m)
