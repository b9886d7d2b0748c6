-- What a channel's calls promise where an answer is told as its number: what the calls by value do, and how their result is told.
use Rattle.std.specs.Prelude.{◌≡◌, List, ℕ}
use Rattle.answer.specs.Number.{number_of}
use Rattle.answer.specs.Values.{count_in, tag_in}
use Rattle.channel_state.specs.declared.Channel.{Channel}
use Rattle.channel.specs.declared.Step.{Step}
use Rattle.channel.specs.Promise.{OpeningPromise, BeginPromise, FeedPromise, FinishPromise, AbandonPromise}

-- `channel::open` keeps its promise with a step, and its number and its channel are told
pub record OpeningCall (key mark : List ℕ) (t number : ℕ) (after : Channel) : Type 0 where
  pub step : Step (Unit {0})
  pub promise : OpeningPromise key mark t step
  pub answer : number ≡ number_of step.answer
  pub channel : after ≡ step.channel

-- so does `channel::begin`,
pub record BeginCall (before : Channel) (n : ℕ) (ad : List ℕ) (number : ℕ) (after : Channel) : Type 0 where
  pub step : Step (Unit {0})
  pub promise : BeginPromise before n ad step
  pub answer : number ≡ number_of step.answer
  pub channel : after ≡ step.channel

-- `channel::feed`, whose count is told as well,
pub record FeedCall (before : Channel) (piece out : List ℕ) (number : ℕ) (after : Channel) (left : List ℕ) (count : ℕ) : Type 0 where
  pub fed : Step ℕ
  pub promise : FeedPromise before piece out fed left
  pub answer : number ≡ number_of fed.answer
  pub channel : after ≡ fed.channel
  pub written : count ≡ count_in fed.answer

-- `channel::finish`, whose tag is told as well,
pub record FinishCall (before : Channel) (number : ℕ) (after : Channel) (tag : List ℕ) : Type 0 where
  pub finished : Step (List ℕ)
  pub promise : FinishPromise before finished
  pub answer : number ≡ number_of finished.answer
  pub channel : after ≡ finished.channel
  pub told : tag ≡ tag_in finished.answer

-- and `channel::abandon`
pub record AbandonCall (before : Channel) (number : ℕ) (after : Channel) : Type 0 where
  pub step : Step (Unit {0})
  pub promise : AbandonPromise before step
  pub answer : number ≡ number_of step.answer
  pub channel : after ≡ step.channel
