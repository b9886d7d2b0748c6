-- What the reader of the code keeps of a record, and what one byte makes of it.
use Rattle.std.specs.Prelude.{Option, Some, None, is_some, unwrap_or, Bool, true, false, not, ◌&&◌, ◌||◌, cond, List, [], ℕ, min, eqb, take}
use Rattle.std.specs.Borrow.{MutBor}
use Rattle.hexadecimal.specs.Hex.{longest_field}
use Rattle.hexadecimal.specs.Line.{fresh_line, fed, stored, count_of}
use Rattle.records.specs.Records.{line_feed, cut_line}
use Rattle.hexadecimal.specs.declared.line.Line.{Line}
use Rattle.records.specs.declared.reader.Progress.{Progress}
use Rattle.records.specs.declared.reader.Reader.{Reader}
use Rattle.records.specs.declared.reader.Stage.{Stage}
use Rattle.records.specs.declared.reader.Stage.TheVariants.{Key, Iv, Ad, Text, Whole}

-- in front of a record
abbrev pub no_progress : Progress
no_progress = record { stage = Key; line = fresh_line; key = None; iv = None; ad = None; text = None }

-- a reader in front of a record, over these buffers
abbrev pub fresh_reader : MutBor (List ℕ) → MutBor (List ℕ) → MutBor (List ℕ) → MutBor (List ℕ) → Reader
fresh_reader key iv ad text = record { progress = no_progress; key = key; iv = iv; ad = ad; text = text }

-- a reader that is as far, its buffers as they are
abbrev pub with_progress : Reader → Progress → Reader
with_progress r progress = record { progress = progress; key = r.key; iv = r.iv; ad = r.ad; text = r.text }

-- a reader in front of a record, whatever the buffers hold
abbrev pub at_start : Reader → Reader
at_start r = with_progress r no_progress

-- the bytes that a field has in front of its buffer, no more than it can have at most
abbrev pub field_bytes : Option ℕ → List ℕ → List ℕ
field_bytes count buffer = take (min (unwrap_or count 0) longest_field) buffer

-- a record is whole
abbrev pub is_whole : Stage → Bool
is_whole Key = false
is_whole Iv = false
is_whole Ad = false
is_whole Text = false
is_whole Whole = true

-- each line of the record is good
abbrev pub all_good : Reader → Bool
all_good r = is_some r.progress.key && is_some r.progress.iv && is_some r.progress.ad && is_some r.progress.text

-- the line at hand is ended: its bytes are counted for its field, if it is good
abbrev pub ended_at : Stage → Progress → Option ℕ → Progress
ended_at Key p n = record { stage = Iv; line = fresh_line; key = n; iv = p.iv; ad = p.ad; text = p.text }
ended_at Iv p n = record { stage = Ad; line = fresh_line; key = p.key; iv = n; ad = p.ad; text = p.text }
ended_at Ad p n = record { stage = Text; line = fresh_line; key = p.key; iv = p.iv; ad = n; text = p.text }
ended_at Text p n = record { stage = Whole; line = fresh_line; key = p.key; iv = p.iv; ad = p.ad; text = n }
ended_at Whole p n = record { stage = Whole; line = fresh_line; key = p.key; iv = p.iv; ad = p.ad; text = n }

unfoldable pub line_ended : Progress → Progress
line_ended p = ended_at p.stage p (count_of p.line)

-- one byte more for the line at hand, and for the buffer of its field
abbrev pub more_of : MutBor (List ℕ) → Progress → ℕ → MutBor (List ℕ)
more_of buffer p b = record buffer { now = stored p.line b buffer.now }

abbrev pub fed_by : Progress → ℕ → Progress
fed_by p b = record p { line = fed p.line b }

abbrev pub fed_at : Stage → Reader → ℕ → Reader
fed_at Key r b = record { progress = fed_by r.progress b; key = more_of r.key r.progress b; iv = r.iv; ad = r.ad; text = r.text }
fed_at Iv r b = record { progress = fed_by r.progress b; key = r.key; iv = more_of r.iv r.progress b; ad = r.ad; text = r.text }
fed_at Ad r b = record { progress = fed_by r.progress b; key = r.key; iv = r.iv; ad = more_of r.ad r.progress b; text = r.text }
fed_at Text r b = record { progress = fed_by r.progress b; key = r.key; iv = r.iv; ad = r.ad; text = more_of r.text r.progress b }
fed_at Whole r b = record { progress = fed_by r.progress b; key = r.key; iv = r.iv; ad = r.ad; text = more_of r.text r.progress b }

-- the reader with one byte more
unfoldable pub byte_taken : Reader → ℕ → Reader
byte_taken r b = cond (eqb b line_feed) (with_progress r (line_ended r.progress)) (fed_at r.progress.stage r b)

-- something was read of a line
abbrev pub begun : Option Line → Bool
begun None = true
begun (Some line) = not (eqb line.bytes 0) || is_some line.half

-- something was read of a record that is not whole, or the record is whole
abbrev pub remains_at : Stage → Option Line → Bool
remains_at Key line = begun line
remains_at Iv line = true
remains_at Ad line = true
remains_at Text line = true
remains_at Whole line = true

unfoldable pub remaining : Reader → Bool
remaining r = remains_at r.progress.stage r.progress.line

-- what is written where the input ends there
abbrev pub last_line : Reader → List ℕ
last_line r = cond (remaining r) cut_line []
