-- What keeps the promise of an open at each refusal: for a length, and for the tag.
use mathlib.Core.Path.{◌≡◌, refl, ◌∙◌, sym, ap, subst}
use mathlib.Core.Bool.{Bool, true, false, not, cond}
use mathlib.Core.List.{List, [], ◌∷◌}
use Prim.Native.Nat.{ℕ}
use lib.ListN.{length}
use Rattle.std.specs.Prelude.{Result, Ok, Err}
use Rattle.answer.specs.declared.Refusal.{Refusal}
use Rattle.answer.specs.declared.Refusal.TheVariants.{TagDiffers}
use Rattle.answer.specs.Number.{refusal_number}
use Rattle.aes.specs.Cipher.{enciphered}
use Rattle.mode.specs.Mode.{genuine}
use Rattle.rows.specs.Rows.{lowest, open_length_rows}
use Rattle.gcm.specs.Promise.{open_number, opened_into, OpenPromise, OpenedBy}
use Rattle.answer.proofs.DoneLaws.{when_refused}
use Rattle.answer.proofs.NumberLaws.{refusal_numbered}
use Rattle.rows.proofs.LengthLaws.{refused, second_answers}

module _ (key iv ad s : List ℕ) (t : ℕ) (out : List ℕ) where
  -- the number is that of a refusal
  refuses : {refusal : Refusal} {r : Result ℕ Refusal} → refusal_number refusal ≡ open_number key iv ad s t out → r ≡ Err refusal
      → OpenPromise key iv ad s t out r out
  refuses {refusal} {r} number is =
      let some = (refusal_numbered refusal).0 in
      subst (λ r. OpenPromise key iv ad s t out r out) (sym is)
      (record { answer = number; count = sym (when_refused _ _ 0 number some); bytes = sym (when_refused _ _ out number some) })

  pub open_refused : {refusal : Refusal} {r : Result ℕ Refusal}
      → refusal_number refusal ≡ lowest 1 (open_length_rows (length key) (length iv) (length ad) (length s) t (length out))
      → r ≡ Err refusal
      → OpenPromise key iv ad s t out r out
  unfolding open_number
  open_refused {refusal} number = refuses (refused refusal (open_length_rows (length key) (length iv) (length ad) (length s) t (length out)) _ number)

  -- where the lengths pass, the tag decides the number
  pub number_by_tag : lowest 1 (open_length_rows (length key) (length iv) (length ad) (length s) t (length out)) ≡ 0
      → open_number key iv ad s t out ≡ lowest 8 (not (genuine (enciphered key) iv ad t s) ∷ [])
  unfolding open_number
  number_by_tag pass = second_answers 0 (open_length_rows (length key) (length iv) (length ad) (length s) t (length out)) _ pass

  pub open_differs : {refusal : Refusal} {r : Result ℕ Refusal} {left : List ℕ}
      → 0 ≡ lowest 1 (open_length_rows (length key) (length iv) (length ad) (length s) t (length out))
      → OpenedBy (enciphered key) iv ad t s out (Err refusal) left
      → r ≡ Err refusal
      → OpenPromise key iv ad s t out r left
  unfolding lowest
  open_differs {refusal} {r} {left} pass did is = go (genuine (enciphered key) iv ad t s) refl
    where
      go : (g : Bool) → genuine (enciphered key) iv ad t s ≡ g → OpenPromise key iv ad s t out r left
      go true e =
          let opened : Err refusal ≡ Ok tt = did.judged ∙ ap (λ g. cond g (Ok tt) (Err TagDiffers)) e in
          absurd (cc)
      go false e =
          let differs : Err refusal ≡ Err TagDiffers = did.judged ∙ ap (λ g. cond g (Ok tt) (Err TagDiffers)) e in
          let eight : open_number key iv ad s t out ≡ 8 = number_by_tag (sym pass) ∙ ap (λ g. lowest 8 (not g ∷ [])) e in
          subst (λ left. OpenPromise key iv ad s t out r left)
          (sym (did.bytes ∙ ap (λ g. cond g (opened_into (enciphered key) iv t s out) out) e))
          (refuses {refusal = TagDiffers} (sym eight) (is ∙ cc))
