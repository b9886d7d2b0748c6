-- A text crypted into a buffer from its front, a block at a time: what stands in front of the place reached, and what is still to
-- come behind it, make the whole. A short last block is no case of its own, since a xor is as long as the shorter list.
use Rattle.std.proofs.Common.{◌≡◌, ℕ, ◌+◌, ◌-◌, ◌*◌, ◌<◌, ◌≤◌, min, List, [], ◌++◌, length, take, drop, sym, ap, ◌∙◌, ap₂, subst}
use Rattle.std.proofs.Common.{append_assoc, append-nil, arith, length-append, length-take, length-drop, take-append-drop, drop_of_length-le, take_all, drop-drop}
use Rattle.std.proofs.Common.{suc, get_or, set, add-one}
use Rattle.std.proofs.lemmas.List.{length-take-le, take_min, drop_min}
use Rattle.std.proofs.lemmas.Slice.{take-put_mid, drop-put_mid}
use Rattle.std.specs.Int.Bits.{bit_xor}
use borrow.Rule.Slice.PartMut.{put_mid}
use lib.Seq.{paste-suc}
use Rattle.octets.specs.Bytes.{xored}
use Rattle.octets.proofs.BytesLaws.{length-xored, length-xored_le, get_or-xored}
use Rattle.aes.proofs.CipherLaws.{length-enciphered}
use Rattle.counter.specs.Counter.{stepped, crypted}
use Rattle.counter.proofs.CounterLaws.{crypted-nil, crypted-more}

-- a byte of the text, xored with one of the block, is set behind those of the xor that stand already
pub xored_more : (out₀ text block out : List ℕ) (i : ℕ) → i < length out₀ → i < length text → i < length block
    → out ≡ take i (xored text block) ++ drop i out₀
    → set out i (bit_xor (get_or text i 0) (get_or block i 0)) ≡ take (i + 1) (xored text block) ++ drop (i + 1) out₀
xored_more out₀ text block out i in-out in_text in_block so_far =
    let from : (m : ℕ) → 0 + m ≡ m = λ m. omega arith in
    let in-xor : i < length (xored text block) = simp length-xored (omega arith) in
    let first : i + 1 ≡ suc i = add-one i in
    ap₂ (λ o b. set o i b) so_far (sym (get_or-xored text block i in_text in_block))
    ∙ ap (λ k. set (take i (xored text block) ++ drop k out₀) k (get_or (xored text block) i 0)) (sym (from i))
    ∙ paste-suc out₀ 0 (xored text block) i 0 (rw (from i) in-out) in-xor
    ∙ ap₂ (λ n k. take n (xored text block) ++ drop k out₀) (sym first) (from (suc i) ∙ sym first)

-- and then all are, in front of what stood there behind the text
pub xored_in_front : (out₀ text block out : List ℕ) (i : ℕ) → out ≡ take i (xored text block) ++ drop i out₀
    → length text ≤ length block → i ≡ length text
    → out ≡ xored text block ++ drop (length text) out₀
xored_in_front out₀ text block out i so_far room end =
    so_far
    ∙ ap₂ (λ (a b : List ℕ). a ++ b) (take_all i _ (rw (length-xored_le text block room) (omega arith))) (ap (λ n. drop n out₀) end)

-- in an output of the text's own length the xor is all that stands, wherever past the text's end i is
pub xored_all : (out₀ text block out : List ℕ) (i : ℕ) → out ≡ take i (xored text block) ++ drop i out₀
    → length out₀ ≡ length text → length text ≤ length block → length text ≤ i
    → out ≡ xored text block
xored_all out₀ text block out i so_far same room end =
    so_far
    ∙ ap₂ (λ (a b : List ℕ). a ++ b) (take_all i _ (rw (length-xored_le text block room) (omega arith))) (drop_of_length-le out₀ (omega arith))
    ∙ append-nil (xored text block)

-- where the output has no more bytes than the text, nothing stands behind
pub xored_only : (out₀ text block : List ℕ) {out : List ℕ} → out ≡ xored text block ++ drop (length text) out₀
    → length out₀ ≤ length text
    → out ≡ xored text block
xored_only out₀ text block wrote few =
    wrote ∙ ap (λ (s : List ℕ). xored text block ++ s) (drop_of_length-le out₀ few) ∙ append-nil (xored text block)

-- out₀ was the buffer, out is it now; `at` bytes of the text are crypted, the last of them by the block `counter`
pub record Reached (e : List ℕ → List ℕ) (j text out₀ counter out : List ℕ) (at : ℕ) : Type 0 where
  pub within : at ≤ length text
  pub kept : length out ≡ length out₀
  pub front : take at out ++ crypted e counter (drop at text) ≡ crypted e j text
  pub rest : drop at out ≡ drop at out₀

module _ (e : List ℕ → List ℕ) (sixteen : (b : List ℕ) → length (e b) ≡ 16) where
  -- one block, whole or short, as many bytes as there are of it
  crypted_block : (j text : List ℕ) (n : ℕ) → 0 < length text → n ≡ min 16 (length text)
      → crypted e j text ≡ xored (take n text) (e (stepped j)) ++ crypted e (stepped j) (drop n text)
  crypted_block j text n some count =
      crypted-more e sixteen j text some
      ∙ ap₂ (λ (a b : List ℕ). xored a (e (stepped j)) ++ crypted e (stepped j) b)
      (sym (ap (λ m. take m text) count ∙ take_min 16 text)) (sym (ap (λ m. drop m text) count ∙ drop_min 16 text))

  -- after k blocks, one more
  pub reached-more : (j text out₀ counter out : List ℕ) (k n : ℕ) {next key block : List ℕ}
      → Reached e j text out₀ counter out (min (16 * k) (length text))
      → block ≡ xored (take n (drop (16 * k) text)) key → key ≡ e next → next ≡ stepped counter
      → length text ≤ length out₀ → 16 * k < length text → n ≡ min (length text - 16 * k) 16
      → Reached e j text out₀ next (put_mid (16 * k) n out block) (min (16 * (k + 1)) (length text))
  reached-more j text out₀ counter out k n {next} {key} {block} begun written enciphered step room some count =
      let at = 16 * k in
      let here : min (16 * k) (length text) ≡ at = omega arith in
      let there : at + n ≡ min (16 * (k + 1)) (length text) = omega arith in
      let was = subst (Reached e j text out₀ counter out) here begun in
      let is : block ≡ xored (take n (drop at text)) (e (stepped counter)) =
      written ∙ ap (xored (take n (drop at text))) (enciphered ∙ ap e step) in
      let left : length (drop at text) ≡ length text - at = length-drop at text in
      let taken : length (take n (drop at text)) ≡ n = length-take-le n (drop at text) (omega arith) in
      let long : length block ≡ n =
      ap length is ∙ length-xored_le (take n (drop at text)) (e (stepped counter)) (rw (taken, sixteen (stepped counter)) (omega arith)) ∙ taken in
      let in-out : at ≤ length out = omega (arith, was.kept) in
      let reach : at + n ≡ at + length block = ap (λ m. at + m) (sym long) in
      subst (λ c. Reached e j text out₀ c (put_mid at n out block) (min (16 * (k + 1)) (length text))) (sym step)
      (subst (Reached e j text out₀ (stepped counter) (put_mid at n out block)) there
      record {
        within = omega arith;
        kept = simp (length-append, length-take, length-drop) (omega (arith, was.kept, long));
        front =
            ap₂ (λ (a b : List ℕ). a ++ crypted e (stepped counter) b)
            (take-put_mid at n out block (at + n) reach in-out ∙ ap (λ (b : List ℕ). take at out ++ b) is) (sym (drop-drop n at text))
            ∙ append_assoc (take at out) (xored (take n (drop at text)) (e (stepped counter))) (crypted e (stepped counter) (drop n (drop at text)))
            ∙ ap (λ (r : List ℕ). take at out ++ r) (sym (crypted_block counter (drop at text) n (omega arith) (omega arith))) ∙ was.front;
        rest =
            drop-put_mid at n out block (at + n) (omega arith) in-out long
            ∙ sym (drop-drop n at out) ∙ ap (drop n) was.rest ∙ drop-drop n at out₀;
      })

  pub reached_all : (j text out₀ counter out : List ℕ) (at : ℕ) → length text ≤ at
      → Reached e j text out₀ counter out at
      → out ≡ crypted e j text ++ drop (length text) out₀
  reached_all j text out₀ counter out at all was =
      let end : at ≡ length text = omega (arith, was.within) in
      let none : drop at text ≡ [] = drop_of_length-le text all in
      let front : take at out ≡ crypted e j text =
      sym (append-nil (take at out)) ∙ ap (λ (r : List ℕ). take at out ++ r) (sym (ap (crypted e counter) none ∙ crypted-nil e counter)) ∙ was.front in
      sym (take-append-drop at out) ∙ ap₂ (λ (a b : List ℕ). a ++ b) front (was.rest ∙ ap (λ n. drop n out₀) end)

-- what the end of a loop that crypts cites
pub ruleset crypting = (reached_all, length-enciphered)
