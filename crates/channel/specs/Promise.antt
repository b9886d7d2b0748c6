-- What each call of a channel promises, for every value of the channel's fields and every length: the number that it answers, the
-- channel that it hands back, and the bytes, count and tag that belong to it.
use Rattle.std.specs.Prelude.{◌≡◌, List, ℕ, length}
use Rattle.answer.specs.Number.{number_of, if_done}
use Rattle.answer.specs.Values.{count_in, tag_in}
use Rattle.channel_state.specs.declared.Channel.{Channel}
use Rattle.channel.specs.declared.Step.{Step}
use Rattle.channel_state.specs.State.{
  opening_number,
  opening_of,
  begin_number,
  begin_of,
  feed_number,
  feed_of,
  feed_out,
  end_number,
  end_of,
  tag_out,
}

pub record OpeningPromise (key mark : List ℕ) (t : ℕ) (r : Step (Unit {0})) : Type 0 where
  pub answer : number_of r.answer ≡ opening_number (length key) t
  pub channel : r.channel ≡ opening_of key mark t

pub record BeginPromise (c : Channel) (n : ℕ) (ad : List ℕ) (r : Step (Unit {0})) : Type 0 where
  pub answer : number_of r.answer ≡ begin_number c n (length ad)
  pub channel : r.channel ≡ begin_of c n ad

pub record FeedPromise (c : Channel) (piece out : List ℕ) (r : Step ℕ) (left : List ℕ) : Type 0 where
  pub answer : number_of r.answer ≡ feed_number c (length piece) (length out)
  pub channel : r.channel ≡ feed_of c piece (length out)
  pub count : count_in r.answer ≡ if_done (feed_number c (length piece) (length out)) (length piece) 0
  pub bytes : left ≡ feed_out c piece out

pub record FinishPromise (c : Channel) (r : Step (List ℕ)) : Type 0 where
  pub answer : number_of r.answer ≡ end_number c
  pub channel : r.channel ≡ end_of c
  pub tag : tag_in r.answer ≡ tag_out c

pub record AbandonPromise (c : Channel) (r : Step (Unit {0})) : Type 0 where
  pub answer : number_of r.answer ≡ end_number c
  pub channel : r.channel ≡ end_of c
