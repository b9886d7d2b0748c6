-- What a seal and an open promise for every input: the answer, the count, and every byte of the output as it is left.
use Rattle.std.specs.Prelude.{◌≡◌, not, cond, Result, Ok, Err, List, ◌++◌, ℕ, ◌+◌, ◌-◌, length, drop}
use Rattle.answer.specs.declared.Refusal.{Refusal}
use Rattle.answer.specs.declared.Refusal.TheVariants.{TagDiffers}
use Rattle.answer.specs.Number.{number_of, if_done}
use Rattle.answer.specs.Values.{count_in}
use Rattle.aes.specs.Cipher.{enciphered}
use Rattle.mode.specs.Mode.{sealed, genuine, opened}
use Rattle.rows.specs.Rows.{lowest, seal_rows, open_rows}

-- the output with the sealed form of the text in its front, and what stood behind that
abbrev pub sealed_into : (List ℕ → List ℕ) → List ℕ → List ℕ → ℕ → List ℕ → List ℕ → List ℕ
sealed_into e iv ad t text out = sealed e iv ad t text ++ drop (length text + t) out

-- the output with the text of the sealed bytes s in its front, and what stood behind that
abbrev pub opened_into : (List ℕ → List ℕ) → List ℕ → ℕ → List ℕ → List ℕ → List ℕ
opened_into e iv t s out = opened e iv t s ++ drop (length s - t) out

-- the number that answers a seal
unfoldable pub seal_number : List ℕ → List ℕ → List ℕ → List ℕ → ℕ → List ℕ → ℕ
seal_number key iv ad text t out = lowest 1 (seal_rows (length key) (length iv) (length ad) (length text) t (length out))

pub record SealPromise (key iv ad text : List ℕ) (t : ℕ) (out : List ℕ) (r : Result ℕ Refusal) (left : List ℕ) : Type 0 where
  pub answer : number_of r ≡ seal_number key iv ad text t out
  pub count : count_in r ≡ if_done (seal_number key iv ad text t out) (length text + t) 0
  pub bytes : left ≡ if_done (seal_number key iv ad text t out) (sealed_into (enciphered key) iv ad t text out) out

-- an open whose lengths pass, over any cipher e: r tells whether the bytes s are genuine, and only then is the text written
pub record OpenedBy (e : List ℕ → List ℕ) (iv ad : List ℕ) (t : ℕ) (s out : List ℕ) (r : Result (Unit {0}) Refusal) (left : List ℕ) : Type 0 where
  pub judged : r ≡ cond (genuine e iv ad t s) (Ok tt) (Err TagDiffers)
  pub bytes : left ≡ cond (genuine e iv ad t s) (opened_into e iv t s out) out

-- the number that answers an open of the sealed bytes s
unfoldable pub open_number : List ℕ → List ℕ → List ℕ → List ℕ → ℕ → List ℕ → ℕ
open_number key iv ad s t out =
    lowest 1 (open_rows (length key) (length iv) (length ad) (length s) t (length out) (not (genuine (enciphered key) iv ad t s)))

pub record OpenPromise (key iv ad s : List ℕ) (t : ℕ) (out : List ℕ) (r : Result ℕ Refusal) (left : List ℕ) : Type 0 where
  pub answer : number_of r ≡ open_number key iv ad s t out
  pub count : count_in r ≡ if_done (open_number key iv ad s t out) (length s - t) 0
  pub bytes : left ≡ if_done (open_number key iv ad s t out) (opened_into (enciphered key) iv t s out) out
