-- The records of an input, taken in byte by byte.
use Rattle.std.specs.Prelude.{cond, List, [], ◌∷◌, ◌++◌, ℕ, eqb}
use Rattle.records.specs.Records.{line_feed, Answering, answer_to, cut_line, cut_of}

-- what was read of a record that is not whole: the lines that are ended, and the one begun
pub data State : Type 0 where
  in_key : (line : List ℕ) → State
  in_iv : (key line : List ℕ) → State
  in_ad : (key iv line : List ℕ) → State
  in_text : (key iv ad line : List ℕ) → State

-- what one byte more makes of it
pub data Next : Type 0 where
  more : State → Next
  whole : (key iv ad text : List ℕ) → Next

unfoldable pub step : State → ℕ → Next
step (in_key line) b = cond (eqb b line_feed) (more (in_iv line [])) (more (in_key (line ++ (b ∷ []))))
step (in_iv key line) b = cond (eqb b line_feed) (more (in_ad key line [])) (more (in_iv key (line ++ (b ∷ []))))
step (in_ad key iv line) b = cond (eqb b line_feed) (more (in_text key iv line [])) (more (in_ad key iv (line ++ (b ∷ []))))
step (in_text key iv ad line) b = cond (eqb b line_feed) (whole key iv ad line) (more (in_text key iv ad (line ++ (b ∷ []))))

abbrev pub start : State
start = in_key []

-- where reading goes on
unfoldable pub onward : Next → State
onward (more state) = state
onward (whole key iv ad text) = start

-- what is written then
unfoldable pub said : Answering → Next → List ℕ
said answer (more state) = []
said answer (whole key iv ad text) = answer_to answer key iv ad text

-- where reading goes on behind a chunk of the input
unfoldable pub after : State → List ℕ → State
after state [] = state
after state (b ∷ s) = after (onward (step state b)) s

-- what is written for a chunk
unfoldable pub written : Answering → State → List ℕ → List ℕ
written answer state [] = []
written answer state (b ∷ s) = said answer (step state b) ++ written answer (onward (step state b)) s

-- what is written where the input ends
unfoldable pub ending : State → List ℕ
ending (in_key line) = cut_of line
ending (in_iv key line) = cut_line
ending (in_ad key iv line) = cut_line
ending (in_text key iv ad line) = cut_line

-- what is written for chunk after chunk, and at the end
unfoldable pub written_by : Answering → State → List (List ℕ) → List ℕ
written_by answer state [] = ending state
written_by answer state (chunk ∷ chunks) = written answer state chunk ++ written_by answer (after state chunk) chunks

-- The bytes of a chunk up to the end of the first record that they make whole, or all of it: what they make of a state,
unfoldable pub scanned : State → List ℕ → Next
scanned state [] = more state
scanned state (b ∷ s) = elim (step state b) [ more next ↦ scanned next s | whole key iv ad text ↦ whole key iv ad text ]

-- those bytes themselves,
unfoldable pub taken_of : State → List ℕ → List ℕ
taken_of state [] = []
taken_of state (b ∷ s) = b ∷ elim (step state b) [ more next ↦ taken_of next s | whole key iv ad text ↦ [] ]

-- and what stands behind them
unfoldable pub left_of : State → List ℕ → List ℕ
left_of state [] = []
left_of state (b ∷ s) = elim (step state b) [ more next ↦ left_of next s | whole key iv ad text ↦ s ]
