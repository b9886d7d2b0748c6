-- The theorems on sealing and opening at once. Each is over what `gcm::seal` and `gcm::open` promise, for any input whatever, with
-- `sealed`, `genuine` and `opened` over the AES cipher of the key.
use mathlib.Core.Path.{◌≡◌, refl, ◌∙◌, ap, ap₂, sym, subst}
use mathlib.Core.Bool.{Bool, true, false, not}
use mathlib.Core.List.{List, [], ◌∷◌, ◌++◌}
use mathlib.Core.Logic.{◌↔◌}
use Prim.Native.Nat.{ℕ, ◌+◌, ◌-◌, ◌≤◌, ◌<◌}
use native.Mathlib.Omega.{arith}
use borrow.Author.Tests.{not-false, le-ltb}
use lib.Dec.{ltb}
use lib.ListN.{length, get_or, take, drop}
use lib.Seq.{take_at}
use Rattle.std.specs.Prelude.{Result}
use Rattle.answer.specs.declared.Refusal.{Refusal}
use Rattle.answer.specs.Number.{number_of}
use Rattle.answer.specs.Values.{count_in}
use Rattle.answer.proofs.DoneLaws.{when_done}
use Rattle.answer.proofs.NumberLaws.{number_injective}
use Rattle.octets.specs.Block.{blocks_for}
use Rattle.aes.specs.Cipher.{enciphered}
use Rattle.aes.proofs.CipherLaws.{enciphered-sixteen}
use Rattle.mode.specs.Mode.{hash_key, first_block, sealed, genuine, opened}
use Rattle.counter.specs.Counter.{inputs}
use Rattle.rows.specs.Rows.{longest_text, lowest, Applies, seal_rows, open_length_rows, open_rows}
use Rattle.gcm.specs.Promise.{seal_number, open_number, SealPromise, OpenPromise}
use Rattle.counter.proofs.InputsLaws.{inputs-differ}
use Rattle.rows.proofs.LengthLaws.{seal_allows, open_allows}
use Rattle.mode.proofs.ModeLaws.{length-sealed}
use Rattle.mode.proofs.OpenLaws.{opens-sealed, sealed-genuine, genuine-sealed, refused_exactly, only_text}
use Rattle.rows.proofs.RowsLaws.{lowest_exactly, lowest_none}
use Rattle.gcm.proofs.PromiseLaws.{number_by_tag}

-- The cipher input blocks of a message, j and j stepped once for each block of its text, all differ, whatever the IV's length.
pub message_blocks_differ : (key iv text : List ℕ) → length text ≤ longest_text
    → (i k : ℕ) → i < k → k ≤ blocks_for (length text)
    → get_or (inputs (first_block (hash_key (enciphered key)) iv) (blocks_for (length text))) i []
    ≡ get_or (inputs (first_block (hash_key (enciphered key)) iv) (blocks_for (length text))) k []
    → ⊥
message_blocks_differ key iv text fits = inputs-differ _ (blocks_for (length text)) (omega arith)

-- two results with one number, one count and one output are equal
determined : {r r' : Result ℕ Refusal} {left left' bytes : List ℕ} {number count : ℕ}
    → number_of r ≡ number → count_in r ≡ count → left ≡ bytes
    → number_of r' ≡ number → count_in r' ≡ count → left' ≡ bytes
    → (r ≡ r') × (left ≡ left')
determined {r} {r'} answer count bytes answer' count' bytes' =
    (number_injective r r' 0 (answer ∙ sym answer') (count ∙ sym count'), bytes ∙ sym bytes')

module _ (key iv ad text : List ℕ) (t : ℕ) (out : List ℕ) {r : Result ℕ Refusal} {left : List ℕ} (kept : SealPromise key iv ad text t out r left) where
  -- A seal is refused with n exactly when row n applies: its fact holds, and no earlier row's does.
  pub seal_refused_exactly : (n : ℕ) → 0 < n
      → (number_of r ≡ n) ↔ Applies (seal_rows (length key) (length iv) (length ad) (length text) t (length out)) n
  unfolding seal_number
  seal_refused_exactly = lowest_exactly _ kept.answer

  -- A seal is done exactly when no row's fact holds.
  pub seal_done_exactly : (number_of r ≡ 0)
      ↔ ((m : ℕ) → get_or (seal_rows (length key) (length iv) (length ad) (length text) t (length out)) m false ≡ false)
  unfolding seal_number
  seal_done_exactly = lowest_none _ kept.answer

  -- Two results that a seal's promise allows for one input are equal.
  pub seal_determined : {r' : Result ℕ Refusal} {left' : List ℕ} → SealPromise key iv ad text t out r' left' → (r ≡ r') × (left ≡ left')
  seal_determined other = determined kept.answer kept.count kept.bytes other.answer other.count other.bytes

module _ (key iv ad s : List ℕ) (t : ℕ) (out : List ℕ) {r : Result ℕ Refusal} {left : List ℕ} (kept : OpenPromise key iv ad s t out r left) where
  -- An open is refused with n exactly when row n applies; row 8 is that the bytes are not genuine.
  pub open_refused_exactly : (n : ℕ) → 0 < n
      → (number_of r ≡ n)
      ↔ Applies (open_rows (length key) (length iv) (length ad) (length s) t (length out) (not (genuine (enciphered key) iv ad t s))) n
  unfolding open_number
  open_refused_exactly = lowest_exactly _ kept.answer

  -- An open is done exactly when no row's fact holds.
  pub open_done_exactly : (number_of r ≡ 0)
      ↔ ((m : ℕ) → get_or (open_rows (length key) (length iv) (length ad) (length s) t (length out) (not (genuine (enciphered key) iv ad t s))) m false ≡ false)
  unfolding open_number
  open_done_exactly = lowest_none _ kept.answer

  -- Two results that an open's promise allows for one input are equal.
  pub open_determined : {r' : Result ℕ Refusal} {left' : List ℕ} → OpenPromise key iv ad s t out r' left' → (r ≡ r') × (left ≡ left')
  open_determined other = determined kept.answer kept.count kept.bytes other.answer other.count other.bytes

  -- Once lengths pass, an open answers 8 exactly when no text exists whose sealed form the bytes are.
  pub refused_without_text : lowest 1 (open_length_rows (length key) (length iv) (length ad) (length s) t (length out)) ≡ 0
      → (number_of r ≡ 8) ↔ ((text : List ℕ) → sealed (enciphered key) iv ad t text ≡ s → ⊥)
  unfolding lowest
  refused_without_text pass =
      let tag = (open_allows (length key) (length iv) (length ad) (length s) t (length out) [] pass).0.rest.long_tag in
      let none = refused_exactly (enciphered key) (enciphered-sixteen key) iv ad t s tag in
      let number = kept.answer ∙ number_by_tag key iv ad s t out pass in (
        (λ eight. none.0 (false_tag (genuine (enciphered key) iv ad t s) (sym number ∙ eight))),
        (λ no_text. number ∙ ap (λ g. lowest 8 (not g ∷ [])) (none.1 no_text)),
      )
    where
      false_tag : (g : Bool) → lowest 8 (not g ∷ []) ≡ 8 → g ≡ false
      false_tag true zero-is-eight = absurd (omega arith)
      false_tag false e = refl

  -- With 0 an open writes a text whose sealed form the bytes are, it is the only one, and the rest of the output is as it was.
  pub opens_to_the_text : number_of r ≡ 0
      → (text : List ℕ)
      × (sealed (enciphered key) iv ad t text ≡ s)
      × ((other : List ℕ) → sealed (enciphered key) iv ad t other ≡ s → other ≡ text)
      × (count_in r ≡ length text)
      × (left ≡ text ++ drop (length text) out)
  unfolding open_number
  opens_to_the_text done =
      let e = enciphered key in
      let text = opened e iv t s in
      let clear : open_number key iv ad s t out ≡ 0 = sym kept.answer ∙ done in
      let tag = (open_allows (length key) (length iv) (length ad) (length s) t (length out) _ clear).0.rest.long_tag in
      let true-tag : genuine e iv ad t s ≡ true = not-false _ (open_done_exactly.0 done 7) in
      let form : sealed e iv ad t text ≡ s = genuine-sealed e (enciphered-sixteen key) iv ad t s true-tag in
      let long : length text + t ≡ length s = sym (length-sealed e (enciphered-sixteen key) iv ad t text tag) ∙ ap length form in
      let count : length s - t ≡ length text = omega arith in (
        text,
        form,
        (λ other q. only_text e (enciphered-sixteen key) iv ad t other text tag (q ∙ sym form)),
        kept.count ∙ when_done (length s - t) 0 clear ∙ count,
        kept.bytes ∙ when_done (text ++ drop (length s - t) out) out clear ∙ ap (λ n. text ++ drop n out) count,
      )

-- no row refuses the bytes of a seal that none refused
reopens : (key iv ad text : List ℕ) (t : ℕ) (out back : List ℕ) → seal_number key iv ad text t out ≡ 0 → t ≤ 16
    → length text ≤ length back
    → open_number key iv ad (sealed (enciphered key) iv ad t text) t back ≡ 0
unfolding seal_number open_number lowest
reopens key iv ad text t out back clear tag room =
    let no = (lowest_none (seal_rows (length key) (length iv) (length ad) (length text) t (length out)) refl).0 clear in
    let long = length-sealed (enciphered key) (enciphered-sixteen key) iv ad t text tag in
    let rest : length text + t - t ≡ length text = omega arith in
    let whole : ltb (length text + t) t ≡ false = le-ltb (length text + t) t (omega arith) in
    let fits : ltb (length back) (length text) ≡ false = le-ltb (length back) (length text) room in
    rw (long, sealed-genuine (enciphered key) iv ad t text tag, whole, rest, fits, no 0, no 1, no 2, no 3, no 4)

-- Opening what was sealed gives the text back: with the same arguments, and an output that has room for it.
pub opens_what_was_sealed : (key iv ad text : List ℕ) (t : ℕ) (out : List ℕ) {r : Result ℕ Refusal} {left : List ℕ}
    → SealPromise key iv ad text t out r left → number_of r ≡ 0
    → (back : List ℕ) {r' : Result ℕ Refusal} {left' : List ℕ}
    → OpenPromise key iv ad (take (count_in r) left) t back r' left' → length text ≤ length back
    → (number_of r' ≡ 0) × (take (count_in r') left' ≡ text)
unfolding seal_number
opens_what_was_sealed key iv ad text t out {r} {left} kept done back {r'} {left'} kept' room =
    let e = enciphered key in
    let s = sealed e iv ad t text in
    let n = length text + t in
    let clear : seal_number key iv ad text t out ≡ 0 = sym kept.answer ∙ done in
    let tag = (seal_allows (length key) (length iv) (length ad) (length text) t (length out) clear).0.rest.long_tag in
    let long : length s ≡ n = length-sealed e (enciphered-sixteen key) iv ad t text tag in
    let given : take (count_in r) left ≡ s =
    ap₂ take (kept.count ∙ when_done n 0 clear) (kept.bytes ∙ when_done _ out clear) ∙ take_at s (drop n out) n long in
    let kept'' : OpenPromise key iv ad s t back r' left' = subst (λ bytes. OpenPromise key iv ad bytes t back r' left') given kept' in
    let clear' = reopens key iv ad text t out back clear tag room in
    let rest : length s - t ≡ length text = omega arith in
    let count' : count_in r' ≡ length text = kept''.count ∙ when_done (length s - t) 0 clear' ∙ rest in
    let text' : left' ≡ text ++ drop (length s - t) back =
    kept''.bytes ∙ when_done _ back clear' ∙ ap (λ x. x ++ drop (length s - t) back) (opens-sealed e (enciphered-sixteen key) iv ad t text tag) in
    (kept''.answer ∙ clear', ap₂ take count' text' ∙ take_at text (drop (length s - t) back) (length text) refl)
