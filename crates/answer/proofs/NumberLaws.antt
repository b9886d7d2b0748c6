-- What an answer's number tells of the answer: no two refusals have one number, and none has that of an answer that is done.
use mathlib.Core.Path.{◌≡◌, refl, sym, ap, ◌∙◌}
use mathlib.Core.List.{List, [], ◌∷◌}
use Prim.Native.Nat.{ℕ, ◌<◌}
use native.Mathlib.Omega.{arith}
use lib.ListN.{get_or}
use Rattle.std.specs.Prelude.{Result, Ok, Err}
use Rattle.std.specs.Result.{result_unwrap_or}
use Rattle.answer.specs.declared.Refusal.{Refusal}
use Rattle.answer.specs.declared.Refusal.TheVariants.{
  KeyLength,
  IvLength,
  TagLength,
  AdLong,
  TextLong,
  SealedShort,
  OutputShort,
  TagDiffers,
  WrongPhase,
  Stale,
  Used,
}
use Rattle.answer.specs.Number.{refusal_number, number_of}

-- the refusals in the order of their numbers, behind one that has the place of no number
abbrev refusals : List Refusal
refusals =
    KeyLength ∷ KeyLength ∷ IvLength ∷ TagLength ∷ AdLong ∷ TextLong ∷ SealedShort ∷ OutputShort ∷ TagDiffers ∷ WrongPhase
    ∷ Stale ∷ Used ∷ []

abbrev refusal_at : ℕ → Refusal
refusal_at n = get_or refusals n KeyLength

read_back : (refusal : Refusal) → refusal_at (refusal_number refusal) ≡ refusal
read_back KeyLength = refl
read_back IvLength = refl
read_back TagLength = refl
read_back AdLong = refl
read_back TextLong = refl
read_back SealedShort = refl
read_back OutputShort = refl
read_back TagDiffers = refl
read_back WrongPhase = refl
read_back Stale = refl
read_back Used = refl

pub refusal_number_injective : (a b : Refusal) → refusal_number a ≡ refusal_number b → a ≡ b
refusal_number_injective a b q = sym (read_back a) ∙ ap refusal_at q ∙ read_back b

-- a refusal's number is not that of an answer that is done, and there are eleven of them
pub refusal_numbered : (refusal : Refusal) → (0 < refusal_number refusal) × (refusal_number refusal < 12)
refusal_numbered KeyLength = (omega arith, omega arith)
refusal_numbered IvLength = (omega arith, omega arith)
refusal_numbered TagLength = (omega arith, omega arith)
refusal_numbered AdLong = (omega arith, omega arith)
refusal_numbered TextLong = (omega arith, omega arith)
refusal_numbered SealedShort = (omega arith, omega arith)
refusal_numbered OutputShort = (omega arith, omega arith)
refusal_numbered TagDiffers = (omega arith, omega arith)
refusal_numbered WrongPhase = (omega arith, omega arith)
refusal_numbered Stale = (omega arith, omega arith)
refusal_numbered Used = (omega arith, omega arith)

-- Two answers that have one number and one value are one answer: an answer can be read back from its number and its value.
pub number_injective : {A : Type 0} (a b : Result A Refusal) (none : A) → number_of a ≡ number_of b
    → result_unwrap_or a none ≡ result_unwrap_or b none
    → a ≡ b
number_injective (Ok x) (Ok y) none q value = ap Ok value
number_injective (Ok x) (Err b) none q value = let some = refusal_numbered b in absurd (omega arith)
number_injective (Err a) (Ok y) none q value = let some = refusal_numbered a in absurd (omega arith)
number_injective (Err a) (Err b) none q value = ap Err (refusal_number_injective a b q)

pub number_below : {A : Type 0} (a : Result A Refusal) → number_of a < 12
number_below (Ok x) = omega arith
number_below (Err refusal) = (refusal_numbered refusal).1
