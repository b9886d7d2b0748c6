-- The number of each answer: rules R2.0 (done) to R2.11 (row 11, used).
use Rattle.std.specs.Prelude.{ℕ, zero, suc, Result, Ok, Err}
use Rattle.answer.specs.declared.Refusal.{Refusal}
use Rattle.answer.specs.declared.Refusal.TheVariants.{
  KeyLength,
  IvLength,
  TagLength,
  AdLong,
  TextLong,
  SealedShort,
  OutputShort,
  TagDiffers,
  WrongPhase,
  Stale,
  Used,
}

abbrev pub refusal_number : Refusal → ℕ
refusal_number KeyLength = 1
refusal_number IvLength = 2
refusal_number TagLength = 3
refusal_number AdLong = 4
refusal_number TextLong = 5
refusal_number SealedShort = 6
refusal_number OutputShort = 7
refusal_number TagDiffers = 8
refusal_number WrongPhase = 9
refusal_number Stale = 10
refusal_number Used = 11

-- the values that go with an answer are those of `Ok`; a refusal has none
abbrev pub number_of : {A : Type 0} → Result A Refusal → ℕ
number_of (Ok _) = 0
number_of (Err refusal) = refusal_number refusal

-- the first where the answer's number is 0, the second where it is a refusal's
abbrev pub if_done {ℓ} : {A : Type ℓ} → ℕ → A → A → A
if_done zero a b = a
if_done (suc n) a b = b
