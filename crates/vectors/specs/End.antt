-- What the results of a run and of its steps say.
use Rattle.std.specs.Prelude.{Result, Ok, Err, Bool, true, false, ⊤, List, ℕ, ◌-◌, length, codes}
use Rattle.records.specs.Input.{most_turns}
use Rattle.vectors.specs.declared.End.{End}
use Rattle.vectors.specs.declared.Failure.{Failure}
use Rattle.vectors.specs.declared.Failure.TheVariants.{Read, Write}
use Rattle.vectors.specs.declared.Unwritten.{Unwritten}
use Rattle.vectors.specs.declared.Stopped.{Stopped}

-- how many chunks were taken in,
abbrev pub chunks_of : Result End Failure → ℕ
chunks_of (Ok end) = end.chunks
chunks_of (Err (Read chunks)) = chunks
chunks_of (Err (Write chunks)) = chunks

-- and how many turns were left then
abbrev pub turns_left : Result End Failure → ℕ
turns_left result = most_turns - chunks_of result

-- how many bytes were handed out for what remained at the end of the input
abbrev pub last_of : Result End Failure → ℕ
last_of (Ok end) = end.last
last_of (Err failure) = 0

-- a write failed
abbrev pub is_unwritten : Result End Failure → Bool
is_unwritten (Ok end) = false
is_unwritten (Err (Read chunks)) = false
is_unwritten (Err (Write chunks)) = true

-- a read failed
abbrev pub is_unread : Result End Failure → Bool
is_unread (Ok end) = false
is_unread (Err (Read chunks)) = true
is_unread (Err (Write chunks)) = false

-- how many bytes were handed out, also where the write failed
abbrev pub handed_of : Result ℕ Unwritten → ℕ
handed_of (Ok count) = count
handed_of (Err unwritten) = unwritten.count

-- how far a chunk was taken in: all of it, where no write failed
abbrev pub taken_of : Result ⊤ Stopped → List ℕ → ℕ
taken_of (Ok _) chunk = length chunk
taken_of (Err stopped) chunk = stopped.at

-- what standard error is told
abbrev pub sentence : Failure → List ℕ
sentence (Read chunks) = codes "cannot read"
sentence (Write chunks) = codes "cannot write"
