-- Blocks enciphered where they stand, one after the other: what is done in front of the place reached, and what is still to come
-- behind it, make the whole.
use Rattle.std.proofs.Common.{◌≡◌, ℕ, suc, ◌+◌, ◌-◌, ◌/◌, ◌≤◌, ◌<◌, List, ◌++◌, length, take, drop, ap, ap₂, sym, ◌∙◌}
use Rattle.std.proofs.Common.{append_assoc, length-drop, take_all, take-append-drop, drop-drop, le_of_eq, arith}
use borrow.Rule.Slice.PartMut.{put_mid}
use Rattle.std.proofs.Math.Seq.{take-paste, drop-paste, length-paste}
use Rattle.std.proofs.lemmas.Slice.{put_mid-paste}
use Rattle.aes.specs.declared.Cipher.{Cipher}
use Rattle.aes.specs.Under.{enciphered_under}
use Rattle.aes.proofs.CipherLaws.{length-enciphered}
use Rattle.bench_cipher.specs.Blocks.{first_enciphered, each_enciphered}

-- s₀ were the blocks, s are they now; those in front of `at` are enciphered
pub record Enciphering (e : List ℕ → List ℕ) (s₀ s : List ℕ) (at : ℕ) : Type 0 where
  pub within : at ≤ length s
  pub kept : length s ≡ length s₀
  pub whole : take at s ++ each_enciphered e (drop at s) ≡ each_enciphered e s₀

each_none : (e : List ℕ → List ℕ) (s : List ℕ) → length s < 16 → each_enciphered e s ≡ s
unfolding first_enciphered
each_none e s few =
    let none : length s / 16 ≡ 0 = omega arith in
    ap (λ (n : ℕ). first_enciphered e n s) none

each_more : (e : List ℕ → List ℕ) (s : List ℕ) → 16 ≤ length s
    → each_enciphered e s ≡ e (take 16 s) ++ each_enciphered e (drop 16 s)
unfolding first_enciphered
each_more e s some =
    let more : length s / 16 ≡ suc (length (drop 16 s) / 16) = rw (length-drop 16 s) (omega arith) in
    ap (λ (n : ℕ). first_enciphered e n s) more

module _ (cipher : Cipher) (s₀ s : List ℕ) (at : ℕ) (was : Enciphering (enciphered_under cipher) s₀ s at) where
  abbrev e : List ℕ → List ℕ
  e = enciphered_under cipher

  -- the block written over `s[at..at + 16]`, in which n is the length of that part
  pub enciphering_more : (out : List ℕ) (n next : ℕ) → at + 16 ≤ length s → n ≡ 16 → next ≡ at + 16 → out ≡ e (take n (drop at s))
      → Enciphering e s₀ (put_mid at n s out) next
  enciphering_more out n next room sixteen far written =
      let block = e (take 16 (drop at s)) in
      let long = length-enciphered cipher.words.now cipher.rounds (take 16 (drop at s)) in
      let enough : 16 ≤ length block = le_of_eq (sym long) in
      let inside : at ≤ length s = was.within in
      let left : 16 ≤ length (drop at s) = rw (length-drop at s) (omega arith) in
      let same_length = length-paste s at block 16 room enough in
      let is : out ≡ block = rw (written, sixteen) in
      rw (far, put_mid-paste at n s out block 16 is (sym sixteen) (sym long)) (record {
        within = rw same_length room;
        kept = same_length ∙ was.kept;
        whole =
            ap₂ (λ (a b : List ℕ). a ++ each_enciphered e b)
            (take-paste s at block 16 inside enough ∙ ap (λ (b : List ℕ). take at s ++ b) (take_all 16 block (le_of_eq long)))
            (drop-paste s at block 16 inside enough ∙ sym (drop-drop 16 at s))
            ∙ append_assoc (take at s) block (each_enciphered e (drop 16 (drop at s)))
            ∙ ap (λ (r : List ℕ). take at s ++ r) (sym (each_more e (drop at s) left))
            ∙ was.whole;
      })

  pub enciphering_all : length s - at < 16 → s ≡ each_enciphered e s₀
  enciphering_all few =
      let short : length (drop at s) < 16 = rw (length-drop at s) few in
      sym (take-append-drop at s) ∙ ap (λ (r : List ℕ). take at s ++ r) (sym (each_none e (drop at s) short)) ∙ was.whole
