-- What the reader of the code remembers of the input that was read.
use Rattle.std.specs.Prelude.{◌≡◌, List, [], ℕ, ◌-◌, ◌≤◌, ◌<◌, length, take, drop}
use Rattle.hexadecimal.specs.Hex.{longest_field}
use Rattle.hexadecimal.specs.Line.{line_of, InFront, Counted}
use Rattle.records.specs.Answers.{Wrote}
use Rattle.records.specs.Records.{Answering}
use Rattle.records.specs.Reading.{State, in_key, in_iv, in_ad, in_text, Next, more, whole, after, written, scanned, left_of}
use Rattle.records.specs.declared.reader.Reader.{Reader}
use Rattle.records.specs.declared.reader.Stage.{Stage}
use Rattle.records.specs.declared.reader.Stage.TheVariants.{Key, Iv, Ad, Text, Whole}

-- each buffer has room for a field
pub record FieldBuffers (key iv ad text : List ℕ) : Type 0 where
  pub for_key : longest_field ≤ length key
  pub for_iv : longest_field ≤ length iv
  pub for_ad : longest_field ≤ length ad
  pub for_text : longest_field ≤ length text

abbrev pub HasRoom : Reader → Type 0
HasRoom r = FieldBuffers r.key.now r.iv.now r.ad.now r.text.now

-- this line of a record is at hand, and so much of it was read
pub record At (r : Reader) (stage : Stage) (begun : List ℕ) : Type 0 where
  pub ended : r.progress.stage ≡ stage
  pub begins : r.progress.line ≡ line_of begun

abbrev pub Reads : Reader → Next → Type 0
Reads r (more (in_key l)) = At r Key l × InFront l r.key.now
Reads r (more (in_iv k l)) = At r Iv l × Counted r.progress.key r.key.now k × InFront l r.iv.now
Reads r (more (in_ad k i l)) =
    At r Ad l × Counted r.progress.key r.key.now k × Counted r.progress.iv r.iv.now i × InFront l r.ad.now
Reads r (more (in_text k i a l)) =
    At r Text l
    × Counted r.progress.key r.key.now k
    × Counted r.progress.iv r.iv.now i
    × Counted r.progress.ad r.ad.now a
    × InFront l r.text.now
Reads r (whole k i a t) =
    At r Whole []
    × Counted r.progress.key r.key.now k
    × Counted r.progress.iv r.iv.now i
    × Counted r.progress.ad r.ad.now a
    × Counted r.progress.text r.text.now t

-- the reader remembers that this was read
pub record Remembers (r : Reader) (read : Next) : Type 0 where
  pub room : HasRoom r
  pub reads : Reads r read

-- a scan of a chunk from index `at` up to `end`: whatever the reader remembered before, it remembers now what the bytes up to the
-- next whole record make of that, and stands behind those
pub record Scanned (r : Reader) (chunk : List ℕ) (at : ℕ) (r' : Reader) (end : ℕ) : Type 0 where
  pub remembers : (state : State) → Remembers r (more state) → Remembers r' (scanned state (drop at chunk))
  pub left : (state : State) → Remembers r (more state) → drop end chunk ≡ left_of state (drop at chunk)
  pub reached : at ≤ end
  pub further : at < length chunk → at < end
  pub within : at ≤ length chunk → end ≤ length chunk

-- the bytes of a chunk from one index up to another
abbrev pub bytes_from : List ℕ → ℕ → ℕ → List ℕ
bytes_from chunk at end = take (end - at) (drop at chunk)

-- whatever the reader remembered before, it remembers now with these bytes behind it
abbrev pub Followed : Reader → List ℕ → Reader → Type 0
Followed r bytes r' = (state : State) → Remembers r (more state) → Remembers r' (more (after state bytes))

-- a part of a chunk, from index `at` up to `end`, was taken in and answered: whatever the reader remembered before, it remembers
-- now with that part behind it, and what the part is answered by stands in front of the output
pub record Served
    (answer : Answering)
    (r : Reader)
    (chunk : List ℕ)
    (at : ℕ)
    (out : List ℕ)
    (r' : Reader)
    (end : ℕ)
    (out' : List ℕ)
    (count : ℕ) : Type 0 where
  pub remembers : Followed r (bytes_from chunk at end) r'
  pub writes : (state : State) → Remembers r (more state) → Wrote (written answer state (bytes_from chunk at end)) out out' count
  pub fits : count ≤ length out'
  pub reached : at ≤ end
  pub within : at ≤ length chunk → end ≤ length chunk
