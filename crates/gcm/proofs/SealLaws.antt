-- A seal and an open put together from their steps: the text crypted into the output, the tag of what stands there, and the tag
-- written behind it or compared.
use mathlib.Core.Path.{◌≡◌, ◌∙◌, ap, ap₂, sym}
use mathlib.Core.Bool.{Bool, true, false, not, cond}
use mathlib.Core.List.{List, ◌++◌}
use Prim.Native.Nat.{ℕ, ◌+◌, ◌-◌, ◌≤◌}
use native.Mathlib.Omega.{arith}
use borrow.Author.Tests.{not-true, not-false}
use lib.ListN.{length, take, drop, length-drop}
use lib.Seq.{paste, take_at, drop-append-add, drop-drop, length-take-le}
use Rattle.std.specs.Prelude.{Ok, Err}
use Rattle.answer.specs.declared.Refusal.TheVariants.{TagDiffers}
use Rattle.octets.specs.Bytes.{same}
use Rattle.mode.specs.Mode.{hash_key, first_block, tag_by, whole_tag, sealed_by, sealed, genuine, opened, ciphertext_of, tag_of}
use Rattle.counter.specs.Counter.{crypted}
use Rattle.gcm.specs.Promise.{OpenedBy, sealed_into, opened_into}
use Rattle.counter.proofs.CounterLaws.{length-crypted}

module _
    (e : List ℕ → List ℕ) (sixteen : (b : List ℕ) → length (e b) ≡ 16) (iv ad : List ℕ) (t : ℕ)
    {h : ℕ} {j : List ℕ} (is-h : h ≡ hash_key e) (is-j : j ≡ first_block h iv)
  where
    j_is : j ≡ first_block (hash_key e) iv
    j_is = is-j ∙ ap (λ h. first_block h iv) is-h

    tag_is : (c : List ℕ) {tag : List ℕ} → tag ≡ tag_by h e j ad c → tag ≡ whole_tag e (first_block (hash_key e) iv) ad c
    unfolding whole_tag
    tag_is c is-tag = is-tag ∙ ap₂ (λ h j. tag_by h e j ad c) is-h j_is

    pub sealed_in_place : (text out : List ℕ) {left tag end : List ℕ}
        → left ≡ crypted e j text ++ drop (length text) out
        → tag ≡ tag_by h e j ad (take (length text) left)
        → end ≡ paste left (length text) tag t
        → end ≡ sealed_into e iv ad t text out
    unfolding sealed sealed_by
    sealed_in_place text out {left} is-left is-tag is-end =
        let c = crypted e j text in
        let n : length c ≡ length text = length-crypted e sixteen j text in
        let front : take (length text) left ≡ c = ap (take (length text)) is-left ∙ take_at c (drop (length text) out) (length text) n in
        let back : drop (length text + t) left ≡ drop (length text + t) out =
        ap (drop (length text + t)) is-left ∙ ap (λ m. drop (m + t) (c ++ drop (length text) out)) (sym n)
        ∙ drop-append-add c (drop (length text) out) t ∙ drop-drop t (length text) out in
        is-end ∙ rw (tag_is (take (length text) left) is-tag, front, back, j_is)

    module _
        (s out : List ℕ) {tag given : List ℕ} {ok : Bool} (enough : t ≤ length s)
        (is-tag : tag ≡ tag_by h e j ad (ciphertext_of t s)) (is-given : given ≡ tag_of t s) (is_ok : ok ≡ same given (take (length given) tag))
      where
        -- the comparison of tags is the judgement on the sealed bytes
        judged : ok ≡ genuine e iv ad t s
        unfolding genuine
        judged =
            let count : length (tag_of t s) ≡ t = length-drop (length s - t) s ∙ omega arith in
            is_ok ∙ rw (is-given, tag_is (ciphertext_of t s) is-tag, count)

        pub refused_in_place : not ok ≡ true → OpenedBy e iv ad t s out (Err TagDiffers) out
        refused_in_place differs =
            let false_tag = sym judged ∙ not-true ok differs in
            record {
              judged = sym (ap (λ g. cond g (Ok tt) (Err TagDiffers)) false_tag);
              bytes = sym (ap (λ g. cond g (opened_into e iv t s out) out) false_tag);
            }

        pub opened_in_place : {left : List ℕ} → not ok ≡ false → left ≡ crypted e j (ciphertext_of t s) ++ drop (length (ciphertext_of t s)) out
            → OpenedBy e iv ad t s out (Ok tt) left
        unfolding opened
        opened_in_place agrees is-left =
            let true_tag = sym judged ∙ not-false ok agrees in
            let count : length (ciphertext_of t s) ≡ length s - t = length-take-le (length s - t) s (omega arith) in
            record {
              judged = sym (ap (λ g. cond g (Ok tt) (Err TagDiffers)) true_tag);
              bytes = is-left ∙ rw (j_is, count, true_tag);
            }
