-- Two results that a call's promise allows for one channel and one input are equal: answers by their numbers and values, channels
-- by the equations.
use mathlib.Core.Path.{◌≡◌, ◌∙◌, sym, refl}
use mathlib.Core.List.{List}
use Prim.Native.Nat.{ℕ}
use lib.ListN.{replicate}
use Rattle.std.specs.Result.{result_unwrap_or}
use Rattle.answer.specs.Number.{number_of}
use Rattle.answer.proofs.NumberLaws.{number_injective}
use Rattle.channel_state.specs.declared.Channel.{Channel}
use Rattle.channel.specs.declared.Step.{Step}
use Rattle.channel.specs.Promise.{OpeningPromise, BeginPromise, FeedPromise, FinishPromise, AbandonPromise}

same_step : {A : Type 0} {r r' : Step A} (none : A) → r.channel ≡ r'.channel → number_of r.answer ≡ number_of r'.answer
    → result_unwrap_or r.answer none ≡ result_unwrap_or r'.answer none
    → r ≡ r'
same_step {A} {r} {r'} none channel number value =
    let answer = number_injective r.answer r'.answer none number value in
    λ i. record { channel = channel i; answer = answer i }

pub opening_determined : (key mark : List ℕ) (t : ℕ) {r r' : Step (Unit {0})} → OpeningPromise key mark t r → OpeningPromise key mark t r' → r ≡ r'
opening_determined key mark t one two = same_step tt (one.channel ∙ sym two.channel) (one.answer ∙ sym two.answer) refl

pub begin_determined : (c : Channel) (n : ℕ) (ad : List ℕ) {r r' : Step (Unit {0})} → BeginPromise c n ad r → BeginPromise c n ad r' → r ≡ r'
begin_determined c n ad one two = same_step tt (one.channel ∙ sym two.channel) (one.answer ∙ sym two.answer) refl

pub feed_determined : (c : Channel) (piece out : List ℕ) {r r' : Step ℕ} {left left' : List ℕ} → FeedPromise c piece out r left
    → FeedPromise c piece out r' left'
    → (r ≡ r') × (left ≡ left')
feed_determined c piece out one two =
    (same_step 0 (one.channel ∙ sym two.channel) (one.answer ∙ sym two.answer) (one.count ∙ sym two.count), one.bytes ∙ sym two.bytes)

pub finish_determined : (c : Channel) {r r' : Step (List ℕ)} → FinishPromise c r → FinishPromise c r' → r ≡ r'
finish_determined c one two =
    same_step (replicate 16 0) (one.channel ∙ sym two.channel) (one.answer ∙ sym two.answer) (one.tag ∙ sym two.tag)

pub abandon_determined : (c : Channel) {r r' : Step (Unit {0})} → AbandonPromise c r → AbandonPromise c r' → r ≡ r'
abandon_determined c one two = same_step tt (one.channel ∙ sym two.channel) (one.answer ∙ sym two.answer) refl
