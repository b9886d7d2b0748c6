-- What sealing and opening at once promise to C and Rust: what the calls by value do, with the answer as its number and the count
-- stored.
use Rattle.std.specs.Prelude.{◌≡◌, Result, List, ℕ}
use Rattle.answer.specs.declared.Refusal.{Refusal}
use Rattle.answer.specs.Number.{number_of}
use Rattle.answer.specs.Values.{count_in}
use Rattle.gcm.specs.Promise.{SealPromise, OpenPromise}

-- an outcome, reported as a number that is returned and a count that is stored
pub record Reported (outcome : Result ℕ Refusal) (number count : ℕ) : Type 0 where
  pub answer : number ≡ number_of outcome
  pub written : count ≡ count_in outcome

-- `gcm::seal` keeps its promise with an outcome, and that outcome is reported
pub record SealCall (key iv ad text : List ℕ) (t : ℕ) (out : List ℕ) (number count : ℕ) (left : List ℕ) : Type 0 where
  pub outcome : Result ℕ Refusal
  pub promise : SealPromise key iv ad text t out outcome left
  pub reported : Reported outcome number count

-- `gcm::open` keeps its promise with an outcome, and that outcome is reported
pub record OpenCall (key iv ad sealed : List ℕ) (t : ℕ) (out : List ℕ) (number count : ℕ) (left : List ℕ) : Type 0 where
  pub outcome : Result ℕ Refusal
  pub promise : OpenPromise key iv ad sealed t out outcome left
  pub reported : Reported outcome number count
