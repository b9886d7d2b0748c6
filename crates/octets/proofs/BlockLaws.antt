-- Blocks of a list: where they stand once a front is dropped, how they go on behind others, how zero padding begins, and the
-- bytes of a block, by its halves.
use mathlib.Core.Path.{◌≡◌, refl, sym, ap, ap₂, ◌∙◌}
use mathlib.Core.List.{List, [], ◌∷◌, ◌++◌}
use Prim.Native.Nat.{ℕ, zero, suc, ◌+◌, ◌-◌, ◌*◌, ◌/◌, ◌%◌, ◌^◌, ◌≤◌, ◌<◌}
use native.Mathlib.Nat.{add_assoc, add-zero, zero-add}
use native.Mathlib.Omega.{arith}
use lib.ListN.{length, take, drop, replicate, length-drop, take-append-drop}
use lib.Seq.{get_or-drop, length-take-le, drop-append-le, drop-drop}
use lib.Pow.{high, low, shr-shr, field, mod-mod-pow, mod-pow-add}
use Rattle.octets.specs.Word.{word_at, bytes_of}
use Rattle.octets.specs.Block.{number_at, block_bytes, blocks_for, blocks, padded}
use Rattle.octets.proofs.ElementsLaws.{elements_front, zeros_behind}

-- A block at an index is the first one of what stands there.
pub number-drop : (s : List ℕ) (i : ℕ) → number_at (drop i s) 0 ≡ number_at s i
number-drop s i = simp (get_or-drop, add_assoc, add-zero)

-- Nothing has no padding block.
pub padded-nil : padded [] ≡ []
unfolding padded blocks
padded-nil = refl

-- Anything else begins with the block of its first sixteen bytes, and goes on with what stands behind them.
pub padded-cons : (s : List ℕ) → 0 < length s → padded s ≡ number_at s 0 ∷ padded (drop 16 s)
unfolding padded blocks
padded-cons s positive =
    let more : blocks_for (length s) ≡ suc (blocks_for (length s - 16)) = omega arith in
    ap (λ (n : ℕ). blocks n s) more
    ∙ ap (λ (n : ℕ). number_at s 0 ∷ blocks (blocks_for n) (drop 16 s)) (sym (length-drop 16 s))

-- A first block is made of the first sixteen bytes alone.
pub number-front : (c d : List ℕ) → 16 ≤ length c → number_at (c ++ d) 0 ≡ number_at c 0
number-front c d h = ap (λ (s : List ℕ). number_at s 0) (elements_front 16 c d 0 (omega arith))

-- Zeros behind a list are what its first block is filled up with.
pub number_filled : (s : List ℕ) (k n : ℕ) → number_at (s ++ drop k (replicate n 0)) 0 ≡ number_at s 0
number_filled s k n = simp zeros_behind

-- The first blocks are made of the bytes in front alone
pub blocks-front : (n : ℕ) (c d : List ℕ) → n * 16 ≤ length c → blocks n (c ++ d) ≡ blocks n c
unfolding blocks
blocks-front zero c d h = refl
blocks-front (suc n) c d h =
    let left : n * 16 ≤ length (drop 16 c) = rw (length-drop 16 c) (omega arith) in
    ap₂ {C = List ℕ} (λ x r. x ∷ r) (number-front c d (omega arith))
    (ap (blocks n) (drop-append-le 16 c d (omega arith)) ∙ blocks-front n (drop 16 c) d left)

-- n + m blocks are n blocks and then m more
pub blocks-append : (n m : ℕ) (s : List ℕ) → blocks (n + m) s ≡ blocks n s ++ blocks m (drop (n * 16) s)
unfolding blocks
blocks-append zero m s = ap (λ (k : ℕ). blocks k s) (zero-add m)
blocks-append (suc n) m s =
    let more : suc n + m ≡ suc (n + m) = omega arith in
    let on : 16 + n * 16 ≡ suc n * 16 = omega arith in
    ap (λ (k : ℕ). blocks k s) more
    ∙ ap {B = List ℕ} (λ r. number_at s 0 ∷ r)
    (blocks-append n m (drop 16 s)
    ∙ ap (λ (t : List ℕ). blocks n (drop 16 s) ++ blocks m t) (drop-drop (n * 16) 16 s ∙ ap (λ (k : ℕ). drop k s) on))

-- Whole blocks are padded by nothing.
pub padded-whole : (n : ℕ) (s : List ℕ) → n * 16 ≤ length s → padded (take (n * 16) s) ≡ blocks n s
unfolding padded
padded-whole n s h =
    let size : length (take (n * 16) s) ≡ n * 16 = length-take-le (n * 16) s h in
    let count : blocks_for (length (take (n * 16) s)) ≡ n = omega arith in
    ap (λ (k : ℕ). blocks k (take (n * 16) s)) count
    ∙ sym (blocks-front n (take (n * 16) s) (drop (n * 16) s) (omega arith))
    ∙ ap (blocks n) (take-append-drop (n * 16) s)

-- The bytes of a word are those of its 32 low bits.
pub bytes_low : (w : ℕ) → bytes_of (w % 2 ^ 32) ≡ bytes_of w
bytes_low w =
    let a : w % 2 ^ 32 / 2 ^ 24 % 256 ≡ w / 2 ^ 24 % 256 = omega arith in
    let b : w % 2 ^ 32 / 2 ^ 16 % 256 ≡ w / 2 ^ 16 % 256 = omega arith in
    let c : w % 2 ^ 32 / 2 ^ 8 % 256 ≡ w / 2 ^ 8 % 256 = omega arith in
    let d : w % 2 ^ 32 % 256 ≡ w % 256 = omega arith in
    rw (a, b, c, d)

-- The bytes of a block are those of the four words of its halves.
pub block-bytes : (h l : ℕ) → l < 2 ^ 64
    → block_bytes (h * 2 ^ 64 + l) ≡ bytes_of (h / 2 ^ 32) ++ bytes_of (h % 2 ^ 32) ++ bytes_of (l / 2 ^ 32) ++ bytes_of (l % 2 ^ 32)
unfolding block_bytes
block-bytes h l below =
    let n = h * 2 ^ 64 + l in
    let upper = high h 64 below in
    let lower = low h 64 below in
    ap₂ ◌++◌ (ap bytes_of (sym (shr-shr n 64 32) ∙ ap (λ (x : ℕ). x / 2 ^ 32) upper))
    (ap₂ ◌++◌ (ap bytes_of upper ∙ sym (bytes_low h))
    (ap₂ ◌++◌ (sym (bytes_low (n / 2 ^ 32)) ∙ ap bytes_of (sym (field n 32 32) ∙ ap (λ (x : ℕ). x / 2 ^ 32) lower))
    (sym (bytes_low n) ∙ ap bytes_of (sym (mod-mod-pow n 32 32) ∙ ap (λ (x : ℕ). x % 2 ^ 32) lower))))

-- A number has sixteen bytes.
pub length-block : (n : ℕ) → length (block_bytes n) ≡ 16
unfolding block_bytes
length-block n = refl

-- j digits and the byte below them are j + 8 digits
byte_more : (w j k : ℕ) → w / 2 ^ (k + 8) % 2 ^ j * 2 ^ 8 + w / 2 ^ k % 2 ^ 8 ≡ w / 2 ^ k % 2 ^ (j + 8)
byte_more w j k = sym (mod-pow-add (w / 2 ^ k) j 8 ∙ ap (λ (a : ℕ). a % 2 ^ j * 2 ^ 8 + w / 2 ^ k % 2 ^ 8) (shr-shr w k 8))

-- The four bytes of a word make its 32 low bits.
pub word_bytes : (w : ℕ) → word_at (bytes_of w) 0 ≡ w % 2 ^ 32
word_bytes w =
    ap (λ (a : ℕ). (a * 256 + w / 2 ^ 8 % 256) * 256 + w % 256) (byte_more w 8 16)
    ∙ ap (λ (a : ℕ). a * 256 + w % 256) (byte_more w 16 8)
    ∙ sym (mod-pow-add w 24 8)
