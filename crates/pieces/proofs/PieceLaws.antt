-- A text in pieces: the keystream of n + m blocks is that of n, and then that of m from the counter n further on, so a text cut
-- anywhere is crypted piece by piece.
use mathlib.Core.Path.{◌≡◌, refl, sym, ap, ap₂, ◌∙◌}
use mathlib.Core.List.{List, ◌++◌, append_assoc}
use Prim.Native.Nat.{ℕ, zero, suc, ◌+◌, ◌-◌, ◌/◌, ◌%◌, ◌^◌, ◌≤◌, ◌<◌}
use native.Mathlib.Omega.{arith}
use lib.ListN.{length, take, drop, length-append, length-drop}
use lib.Seq.{drop-append-le, drop-append-add}
use Rattle.octets.specs.Block.{blocks_for}
use Rattle.octets.specs.Bytes.{xored, joined}
use Rattle.octets.proofs.BlockLaws.{word_bytes}
use Rattle.octets.proofs.BytesLaws.{length-xored_le, xored-append, xored_over, xored-front}
use Rattle.counter.specs.Counter.{counter_block, stepped, inputs, keystream, crypted}
use Rattle.mode.specs.Mode.{first_block}
use Rattle.counter.proofs.CounterLaws.{keystream-more, length-keystream}
use Rattle.pieces.specs.Piece.{iv_of, counter_at, crypted_at}

-- the step is to the next counter
counter_step : (iv : List ℕ) (k : ℕ) → stepped (counter_at iv k) ≡ counter_at iv (k + 1)
unfolding counter_at counter_block stepped
counter_step iv k =
    let next : ((k + 1) % 2 ^ 32 % 2 ^ 32 + 1) % 2 ^ 32 ≡ (k + 1 + 1) % 2 ^ 32 = omega arith in
    ap (counter_block iv) (ap (λ (w : ℕ). (w + 1) % 2 ^ 32) (word_bytes ((k + 1) % 2 ^ 32)) ∙ next)

-- a message's first block is its counter before any text
pub first_counter : (h : ℕ) (mark : List ℕ) (n : ℕ) → first_block h (iv_of mark n) ≡ counter_at (iv_of mark n) 0
unfolding first_block counter_at
first_counter h mark n = refl

-- a piece that begins a block
pub crypted_at-whole : (e : List ℕ → List ℕ) (iv : List ℕ) (before : ℕ) (piece : List ℕ) → before % 16 ≡ 0
    → crypted_at e iv before piece ≡ crypted e (counter_at iv (before / 16)) piece
unfolding crypted_at crypted
crypted_at-whole e iv before piece h =
    let same : before % 16 + length piece ≡ length piece = omega arith in
    ap₂ (λ (r n : ℕ). xored piece (drop r (keystream e (counter_at iv (before / 16)) (blocks_for n)))) h same

counter_more : (e : List ℕ → List ℕ) (iv : List ℕ) (k n : ℕ)
    → keystream e (counter_at iv k) (suc n) ≡ e (counter_at iv (k + 1)) ++ keystream e (counter_at iv (k + 1)) n
counter_more e iv k n =
    keystream-more e (counter_at iv k) n ∙ ap (λ (j : List ℕ). e j ++ keystream e j n) (counter_step iv k)

-- the keystream of n blocks from counter k, and then that of m blocks from counter k + n
keystream-append : (e : List ℕ → List ℕ) (iv : List ℕ) (k n m : ℕ)
    → keystream e (counter_at iv k) (n + m) ≡ keystream e (counter_at iv k) n ++ keystream e (counter_at iv (k + n)) m
unfolding keystream inputs joined
keystream-append e iv k zero m =
    let none : 0 + m ≡ m = omega arith in
    let here : k + 0 ≡ k = omega arith in
    rw (none, here)
keystream-append e iv k (suc n) m =
    let more : suc n + m ≡ suc (n + m) = omega arith in
    let on : k + 1 + n ≡ k + suc n = omega arith in
    let next = counter_at iv (k + 1) in
    let rest = keystream e (counter_at iv (k + suc n)) m in
    ap (keystream e (counter_at iv k)) more
    ∙ counter_more e iv k (n + m)
    ∙ ap (λ (s : List ℕ). e next ++ s) (keystream-append e iv (k + 1) n m)
    ∙ ap (λ (i : ℕ). e next ++ (keystream e next n ++ keystream e (counter_at iv i) m)) on
    ∙ sym (append_assoc (e next) (keystream e next n) rest)
    ∙ ap (λ (s : List ℕ). s ++ rest) (sym (counter_more e iv k n))

module _ (e : List ℕ → List ℕ) (sixteens : (b : List ℕ) → length (e b) ≡ 16) where
  pub length-crypted_at : (iv : List ℕ) (before : ℕ) (piece : List ℕ) → length (crypted_at e iv before piece) ≡ length piece
  unfolding crypted_at
  length-crypted_at iv before piece =
      length-xored_le piece _ (rw (length-drop, length-keystream e sixteens) (omega arith))

  -- a piece that begins inside a block: the rest of that block, and then whole blocks
  pub crypted_at_fill : (iv : List ℕ) (before : ℕ) (piece : List ℕ) → 0 < before % 16
      → crypted_at e iv before piece
      ≡ xored (take (16 - before % 16) piece) (drop (before % 16) (e (stepped (counter_at iv (before / 16)))))
      ++ crypted e (stepped (counter_at iv (before / 16))) (drop (16 - before % 16) piece)
  unfolding crypted_at crypted
  crypted_at_fill iv before piece h =
      let j = counter_at iv (before / 16) in
      let r = before % 16 in
      let left : length (drop (16 - r) piece) ≡ length piece - (16 - r) = length-drop (16 - r) piece in
      let more : blocks_for (r + length piece) ≡ suc (blocks_for (length (drop (16 - r) piece))) = omega arith in
      let room : r ≤ length (e (stepped j)) = rw (sixteens (stepped j)) (omega arith) in
      let size : length (drop r (e (stepped j))) ≡ 16 - r = rw (length-drop r (e (stepped j)), sixteens (stepped j)) in
      let rest = keystream e (stepped j) (blocks_for (length (drop (16 - r) piece))) in
      ap (λ (n : ℕ). xored piece (drop r (keystream e j n))) more
      ∙ ap (λ (k : List ℕ). xored piece (drop r k)) (keystream-more e j (blocks_for (length (drop (16 - r) piece))))
      ∙ ap (xored piece) (drop-append-le r (e (stepped j)) rest room)
      ∙ xored-append piece (drop r (e (stepped j))) rest
      ∙ ap (λ (n : ℕ). xored (take n piece) (drop r (e (stepped j))) ++ xored (drop n piece) rest) size

  -- more keystream than a text needs changes nothing
  crypted_longer : (iv text : List ℕ) (n : ℕ) → length text ≤ n
      → xored text (keystream e (counter_at iv 0) (blocks_for n)) ≡ crypted e (counter_at iv 0) text
  unfolding crypted
  crypted_longer iv text n longer =
      let own = blocks_for (length text) in
      let j = counter_at iv 0 in
      let cut : blocks_for n ≡ own + (blocks_for n - own) = omega arith in
      ap (λ (m : ℕ). xored text (keystream e j m)) cut
      ∙ ap (xored text) (keystream-append e iv 0 own (blocks_for n - own))
      ∙ xored-front text (keystream e j own) _ (rw (length-keystream e sixteens j own) (omega arith))

  -- the keystream of t + n bytes behind the first t of them: it goes on inside the block of counter t / 16
  keystream_behind : (iv : List ℕ) (t n : ℕ)
      → drop t (keystream e (counter_at iv 0) (blocks_for (t + n)))
      ≡ drop (t % 16) (keystream e (counter_at iv (t / 16)) (blocks_for (t % 16 + n)))
  keystream_behind iv t n =
      let front = keystream e (counter_at iv 0) (t / 16) in
      let cut : blocks_for (t + n) ≡ t / 16 + blocks_for (t % 16 + n) = omega arith in
      let split : t ≡ length front + t % 16 = rw (length-keystream e sixteens (counter_at iv 0) (t / 16)) (omega arith) in
      let from : 0 + t / 16 ≡ t / 16 = omega arith in
      ap₂ (λ (i m : ℕ). drop i (keystream e (counter_at iv 0) m)) split cut
      ∙ ap (drop (length front + t % 16)) (keystream-append e iv 0 (t / 16) (blocks_for (t % 16 + n)))
      ∙ drop-append-add front _ (t % 16)
      ∙ ap (λ (k : ℕ). drop (t % 16) (keystream e (counter_at iv k) (blocks_for (t % 16 + n)))) from

  -- a text cut anywhere
  pub crypted-append : (iv text piece : List ℕ)
      → crypted e (counter_at iv 0) (text ++ piece) ≡ crypted e (counter_at iv 0) text ++ crypted_at e iv (length text) piece
  unfolding crypted_at crypted
  crypted-append iv text piece =
      let t = length text in
      let stream = keystream e (counter_at iv 0) (blocks_for (t + length piece)) in
      ap (λ (n : ℕ). xored (text ++ piece) (keystream e (counter_at iv 0) (blocks_for n))) (length-append text piece)
      ∙ xored_over text piece stream
      ∙ ap₂ (λ (a b : List ℕ). a ++ xored piece b)
      (crypted_longer iv text (t + length piece) (omega arith))
      (keystream_behind iv t (length piece))
