-- What a run over an input that comes in chunks took in, and what it handed out for that.
use Rattle.std.specs.Prelude.{◌≡◌, Bool, false, true, ℕ, ◌+◌, ◌<◌, length, take}
use mathlib.Core.List.{List, ◌++◌, Memᴰ}
use Rattle.octets.specs.Bytes.{joined}
use Rattle.records.specs.Records.{Answering, output_of}
use Rattle.records.specs.Reading.{State, more, start, written}
use Rattle.records.specs.Remembered.{Remembers, Followed}
use Rattle.records.specs.declared.reader.Reader.{Reader}

-- bytes were taken in and answered: whatever the reader remembered before, it remembers now with these bytes behind it, and what
-- was handed out is what they are answered by
pub record Answered (answer : Answering) (r : Reader) (bytes : List ℕ) (r' : Reader) : Type 0 where
  pub handed : List ℕ
  pub follows : Followed r bytes r'
  pub answers : (state : State) → Remembers r (more state) → handed ≡ written answer state bytes

-- as many turns as a run has
abbrev pub most_turns : ℕ
most_turns = 18446744073709551615

-- a run so far, with so many turns left: the chunks that were taken in, one at each turn and none of them empty, and what was
-- handed out for them, which is what they are answered by
pub record TakenIn (answer : Answering) (turns : ℕ) : Type 0 where
  pub chunks : List (List ℕ)
  pub handed : List ℕ
  pub none_empty : (chunk : List ℕ) → Memᴰ chunk chunks → 0 < length chunk
  pub counted : length chunks + turns ≡ most_turns
  pub answers : handed ≡ written answer start (joined chunks)

-- A run that is over. Where no write and no read failed and a turn is left, the input ended there: what was handed out for the
-- chunks, with so many bytes of the output, handed out last, is the output for the whole input. Where a read failed the rest of
-- the input is unread, and nothing was handed out last.
pub record Ended (answer : Answering) (turns last : ℕ) (failed unread : Bool) (out : List ℕ) : Type 0 where
  pub taken : TakenIn answer turns
  pub whole : failed ≡ false → unread ≡ false → 0 < turns
      → taken.handed ++ take last out ≡ output_of answer (joined taken.chunks)
  pub nothing_last : unread ≡ true → last ≡ 0
