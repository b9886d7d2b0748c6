-- Ciphertext that comes in pieces: the whole blocks that were hashed, and then those of what is held and of what comes, are the
-- blocks of it all, since the hashed bytes are a multiple of sixteen.
use mathlib.Core.Path.{◌≡◌, refl, sym, ap, ap₂, ◌∙◌}
use mathlib.Core.List.{List, [], ◌++◌}
use Prim.Native.Nat.{ℕ, suc, ◌+◌, ◌-◌, ◌*◌, ◌/◌, ◌%◌, ◌≤◌, ◌<◌}
use native.Mathlib.Omega.{arith}
use lib.Bits.{bit_xor}
use lib.ListN.{length, get_or, take, drop, replicate, length-append, length-drop}
use lib.Seq.{take-length, drop-append-le, drop-drop}
use Rattle.octets.specs.Block.{number_at, blocks_for, blocks, padded}
use Rattle.octets.proofs.BlockLaws.{blocks-front, blocks-append, padded-whole}
use Rattle.octets.proofs.ElementsLaws.{elements_take, elements_past}
use Rattle.hash_field.specs.Field.{product}
use Rattle.ghash.specs.Hash.{hash_from}
use Rattle.ghash.proofs.HashLaws.{hash-append}
use Rattle.pieces.specs.Piece.{sixteen, waiting, sum_after, part_after}

-- the bytes of a part block
pub sixteen-take : (s : List ℕ) → length s ≤ 16 → take (length s) (sixteen s) ≡ s
unfolding sixteen
sixteen-take s h = elements_take (length s) 16 s 0 h (omega arith) ∙ take-length s

sixteen_past : (s : List ℕ) (i : ℕ) → length s ≤ i → get_or (sixteen s) i 0 ≡ 0
unfolding sixteen
sixteen_past s i h = elements_past 16 s 0 i (omega arith)

-- the bytes of c behind its whole blocks
abbrev over : List ℕ → List ℕ
over c = drop (length c / 16 * 16) c

length_over : (c : List ℕ) → length (over c) ≡ length c % 16
length_over c = length-drop (length c / 16 * 16) c ∙ omega arith

-- the bytes held are those
held : (c part : List ℕ) → part ≡ part_after c → take (length c % 16) part ≡ over c
unfolding part_after
held c part p =
    ap₂ (λ (n : ℕ) (s : List ℕ). take n s) (sym (length_over c)) p
    ∙ sixteen-take (over c) (rw (length_over c) (omega arith))

-- where what comes stands behind c's own whole blocks
behind : (c d : List ℕ) → drop (length c / 16 * 16) (c ++ d) ≡ over c ++ d
behind c d = drop-append-le (length c / 16 * 16) c d (omega arith)

length_both : (c d : List ℕ) → length (c ++ d) ≡ length c / 16 * 16 + length (over c ++ d)
length_both c d =
    let all : length (c ++ d) ≡ length c + length d = length-append c d in
    let rest : length (over c ++ d) ≡ length (over c) + length d = length-append (over c) d in
    let some : length (over c) ≡ length c % 16 = length_over c in
    omega arith

sum_over : (h s₀ : ℕ) (c d : List ℕ) → sum_after h (sum_after h s₀ c) (over c ++ d) ≡ sum_after h s₀ (c ++ d)
unfolding sum_after
sum_over h s₀ c d =
    let q = length c / 16 in
    let m = length (over c ++ d) / 16 in
    let both : length (c ++ d) ≡ q * 16 + length (over c ++ d) = length_both c d in
    let count : length (c ++ d) / 16 ≡ q + m = omega arith in
    sym
    (ap (λ (k : ℕ). hash_from h s₀ (blocks k (c ++ d))) count
    ∙ ap (hash_from h s₀) (blocks-append q m (c ++ d))
    ∙ ap₂ (λ (a t : List ℕ). hash_from h s₀ (a ++ blocks m t)) (blocks-front q c d (omega arith)) (behind c d)
    ∙ hash-append h s₀ (blocks q c) (blocks m (over c ++ d)))

part_over : (c d : List ℕ) → part_after (over c ++ d) ≡ part_after (c ++ d)
unfolding part_after
part_over c d =
    let q = length c / 16 in
    let m = length (over c ++ d) / 16 in
    let both : length (c ++ d) ≡ q * 16 + length (over c ++ d) = length_both c d in
    let count : q * 16 + m * 16 ≡ length (c ++ d) / 16 * 16 = omega arith in
    ap sixteen
    (ap (drop (m * 16)) (sym (behind c d)) ∙ drop-drop (m * 16) (q * 16) (c ++ d) ∙ ap (λ (k : ℕ). drop k (c ++ d)) count)

-- ciphertext d comes after c
pub sum_more : (h s₀ sum : ℕ) (c part d : List ℕ) → sum ≡ sum_after h s₀ c → part ≡ part_after c
    → sum_after h sum (waiting (length c) part d) ≡ sum_after h s₀ (c ++ d)
sum_more h s₀ sum c part d summed parted =
    ap₂ (λ (a : ℕ) (t : List ℕ). sum_after h a (t ++ d)) summed (held c part parted) ∙ sum_over h s₀ c d

pub part-more : (c part d : List ℕ) → part ≡ part_after c → part_after (waiting (length c) part d) ≡ part_after (c ++ d)
part-more c part d parted = ap (λ (t : List ℕ). part_after (t ++ d)) (held c part parted) ∙ part_over c d

-- no more comes: what is held is zero-padded
pub sum_end : (h s₀ sum : ℕ) (c part : List ℕ) → sum ≡ sum_after h s₀ c → part ≡ part_after c
    → hash_from h sum (padded (take (length c % 16) part)) ≡ hash_from h s₀ (padded c)
unfolding sum_after padded
sum_end h s₀ sum c part summed parted =
    let q = length c / 16 in
    let m = blocks_for (length (over c)) in
    let some : length (over c) ≡ length c % 16 = length_over c in
    let count : blocks_for (length c) ≡ q + m = omega arith in
    ap₂ (λ (a : ℕ) (t : List ℕ). hash_from h a (padded t)) summed (held c part parted)
    ∙ sym
    (ap (λ (k : ℕ). hash_from h s₀ (blocks k c)) count
    ∙ ap (hash_from h s₀) (blocks-append q m c)
    ∙ hash-append h s₀ (blocks q c) (blocks m (over c)))

pub sum_none : (h sum : ℕ) → sum_after h sum [] ≡ sum
unfolding sum_after blocks hash_from
sum_none h sum = refl

pub part_none : part_after [] ≡ replicate 16 0
unfolding part_after sixteen
part_none = refl

-- a part block is zero behind the bytes that it holds
pub part_rest_zero : (c : List ℕ) (i : ℕ) → length c % 16 ≤ i → get_or (part_after c) i 0 ≡ 0
unfolding part_after
part_rest_zero c i h = sixteen_past (over c) i (rw (length_over c) h)

-- what does not fill a block is held
pub sum_short : (h sum : ℕ) (s : List ℕ) → length s < 16 → sum_after h sum s ≡ sum
unfolding sum_after blocks hash_from
sum_short h sum s short =
    let none : length s / 16 ≡ 0 = omega arith in
    ap (λ (n : ℕ). hash_from h sum (blocks n s)) none

pub part_short : (s : List ℕ) → length s < 16 → part_after s ≡ sixteen s
unfolding part_after
part_short s short =
    let none : length s / 16 * 16 ≡ 0 = omega arith in
    ap (λ (n : ℕ). sixteen (drop n s)) none

-- what fills one is hashed: its first sixteen bytes, and then the whole blocks behind them
pub sum_fill : (h sum : ℕ) (s : List ℕ) → 16 ≤ length s
    → sum_after h sum s
    ≡ hash_from h (product (bit_xor sum (number_at (sixteen s) 0)) h) (padded (take (length (drop 16 s) / 16 * 16) (drop 16 s)))
unfolding sum_after sixteen blocks hash_from
sum_fill h sum s long =
    let rest = drop 16 s in
    let less : length rest ≡ length s - 16 = length-drop 16 s in
    let count : length s / 16 ≡ suc (length rest / 16) = omega arith in
    ap (λ (n : ℕ). hash_from h sum (blocks n s)) count
    ∙ ap (hash_from h (product (bit_xor sum (number_at s 0)) h)) (sym (padded-whole (length rest / 16) rest (omega arith)))

pub part_fill : (s : List ℕ) → 16 ≤ length s → part_after s ≡ sixteen (drop (length (drop 16 s) / 16 * 16) (drop 16 s))
unfolding part_after
part_fill s long =
    let rest = drop 16 s in
    let less : length rest ≡ length s - 16 = length-drop 16 s in
    let count : length s / 16 * 16 ≡ 16 + length rest / 16 * 16 = omega arith in
    ap sixteen (ap (λ (n : ℕ). drop n s) count ∙ sym (drop-drop (length rest / 16 * 16) 16 s))
