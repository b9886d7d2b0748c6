-- The hash of a list of blocks: in two parts, and of the padded bytes of a list, whole blocks first and then what is left.
use mathlib.Core.Path.{◌≡◌, refl, sym, ap, ap₂, ◌∙◌}
use mathlib.Core.List.{List, [], ◌∷◌, ◌++◌, map}
use Prim.Native.Nat.{ℕ, zero, suc, ◌+◌, ◌-◌, ◌*◌, ◌/◌, ◌≤◌, ◌<◌}
use native.Mathlib.Numerals.{add-one}
use native.Mathlib.Omega.{arith}
use lib.Bits.{bit_xor}
use lib.ListN.{length, get_or, take, drop, length-drop, take-append-drop, drop_of_length-le}
use lib.Seq.{drop-cons, drop-drop, length-take-le}
use Rattle.std.specs.Simd.{first_chunks}
use Rattle.octets.specs.Block.{number_at, blocks, blocks_for, padded}
use Rattle.octets.proofs.BlockLaws.{number-drop, number-front, blocks-append, padded-nil, padded-cons}
use Rattle.hash_field.specs.Field.{product}
use Rattle.ghash.specs.Hash.{hash_from}

-- The hash of two lists, one after the other, goes on from that of the first.
pub hash-append : (h sum : ℕ) (a b : List ℕ) → hash_from h sum (a ++ b) ≡ hash_from h (hash_from h sum a) b
unfolding hash_from
hash-append h sum [] b = refl
hash-append h sum (x ∷ a) b = hash-append h (product (bit_xor sum x) h) a b

-- One block behind a list of them.
pub hash_behind : (h sum : ℕ) (s : List ℕ) (x : ℕ) → hash_from h sum (s ++ (x ∷ [])) ≡ product (bit_xor (hash_from h sum s) x) h
unfolding hash_from
hash_behind h sum s x = hash-append h sum s (x ∷ [])

-- the numbers of blocks of bytes
abbrev pub numbers : List (List ℕ) → List ℕ
numbers s = map (λ b. number_at b 0) s

-- One block more, where those from i on are left.
pub hash_next : (h sum : ℕ) (s : List (List ℕ)) (i : ℕ) → i < length s
    → hash_from h (product (bit_xor sum (number_at (get_or s i []) 0)) h) (numbers (drop (i + 1) s))
    ≡ hash_from h sum (numbers (drop i s))
unfolding hash_from
hash_next h sum s i below =
    let more = product (bit_xor sum (number_at (get_or s i []) 0)) h in
    ap (λ (k : ℕ). hash_from h more (numbers (drop k s))) (add-one i)
    ∙ ap (λ (t : List (List ℕ)). hash_from h sum (numbers t)) (sym (drop-cons s i [] below))

-- What is left of a list from i on begins with the block at i.
pub hash_block : (h sum : ℕ) (s : List ℕ) (i : ℕ) → i < length s
    → hash_from h sum (padded (drop i s)) ≡ hash_from h (product (bit_xor sum (number_at s i)) h) (padded (drop (i + 16) s))
unfolding hash_from
hash_block h sum s i below =
    let left : 0 < length (drop i s) = simp length-drop (omega arith) in
    ap (hash_from h sum) (padded-cons (drop i s) left)
    ∙ ap₂ (λ (x : ℕ) (t : List ℕ). hash_from h (product (bit_xor sum x) h) (padded t)) (number-drop s i) (drop-drop 16 i s)

-- Chunks of sixteen bytes are the first blocks.
chunks-blocks : (n : ℕ) (s : List ℕ) → n * 16 ≤ length s → numbers (first_chunks 16 n s) ≡ blocks n s
unfolding blocks
chunks-blocks zero s h = refl
chunks-blocks (suc n) s h =
    let left : n * 16 ≤ length (drop 16 s) = rw (length-drop 16 s) (omega arith) in
    let front : 16 ≤ length (take 16 s) = rw (length-take-le 16 s (omega arith)) (omega arith) in
    ap₂ {C = List ℕ} (λ x r. x ∷ r)
    (sym (number-front (take 16 s) (drop 16 s) front) ∙ ap (λ (t : List ℕ). number_at t 0) (take-append-drop 16 s))
    (chunks-blocks n (drop 16 s) left)

-- Once all whole blocks of s are hashed, what is left of it is still to be.
pub hash_rest : (h sum state : ℕ) (s : List ℕ) (i : ℕ) {whole : List (List ℕ)} {rest : List ℕ}
    → whole ≡ first_chunks 16 (length s / 16) s
    → rest ≡ drop (length s / 16 * 16) s
    → length whole ≤ i
    → hash_from h state (numbers (drop i whole)) ≡ hash_from h sum (numbers whole)
    → hash_from h state (padded rest) ≡ hash_from h sum (padded s)
unfolding padded hash_from
hash_rest h sum state s i {whole} {rest} front back past so_far =
    let n = length s / 16 in
    let less : length rest ≡ length s - n * 16 = ap length back ∙ length-drop (n * 16) s in
    let count : n + blocks_for (length rest) ≡ blocks_for (length s) = omega arith in
    let all : state ≡ hash_from h sum (blocks n s) =
    sym (ap (λ (t : List (List ℕ)). hash_from h state (numbers t)) (drop_of_length-le whole past))
    ∙ so_far ∙ ap (hash_from h sum) (ap numbers front ∙ chunks-blocks n s (omega arith)) in
    ap₂ (λ (r : ℕ) (t : List ℕ). hash_from h r (blocks (blocks_for (length rest)) t)) all back
    ∙ sym (hash-append h sum (blocks n s) (blocks (blocks_for (length rest)) (drop (n * 16) s)))
    ∙ ap (hash_from h sum) (sym (blocks-append n (blocks_for (length rest)) s))
    ∙ ap (λ (k : ℕ). hash_from h sum (blocks k s)) count

-- Nothing adds no block.
pub hash_none : (h sum : ℕ) (s : List ℕ) → length s ≡ 0 → hash_from h sum (padded s) ≡ sum
unfolding hash_from
hash_none h sum [] none = ap (hash_from h sum) padded-nil
hash_none h sum (a ∷ s) none = absurd (omega arith)

-- Bytes that fill no more than a block add one.
pub hash_last : (h sum : ℕ) (s : List ℕ) → 0 < length s → length s ≤ 16
    → hash_from h sum (padded s) ≡ product (bit_xor sum (number_at s 0)) h
unfolding hash_from
hash_last h sum s some few =
    ap (hash_from h sum) (padded-cons s some)
    ∙ hash_none h (product (bit_xor sum (number_at s 0)) h) (drop 16 s) (length-drop 16 s ∙ omega arith)
