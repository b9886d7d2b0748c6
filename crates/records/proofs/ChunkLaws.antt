-- Whatever chunks an input comes in, what is written for them is what is written for the whole of it. A state tells the lines
-- and the line begun that stand in front of what is to come: the law is an induction on the bytes to come, over all states.
use mathlib.Core.Path.{◌≡◌, refl, sym, ap, ap₂, ◌∙◌}
use mathlib.Core.Bool.{Bool, true, false}
use mathlib.Core.List.{List, [], ◌∷◌, ◌++◌, append_assoc, append-nil}
use Prim.Native.Nat.{ℕ}
use lib.Dec.{eqb}
use Rattle.octets.specs.Bytes.{joined}
use Rattle.records.specs.Records.{line_feed, lines_from, rest_from, Answering, answers, output_of}
use Rattle.records.specs.Reading.{State, in_key, in_iv, in_ad, in_text, Next, more, whole, step}
use Rattle.records.specs.Reading.{start, onward, said, after, written, ending, written_by, scanned, taken_of, left_of}

-- the lines of the record so far that are ended
ended : State → List (List ℕ)
ended (in_key line) = []
ended (in_iv key line) = key ∷ []
ended (in_ad key iv line) = key ∷ iv ∷ []
ended (in_text key iv ad line) = key ∷ iv ∷ ad ∷ []

-- and the one begun
begun : State → List ℕ
begun (in_key line) = line
begun (in_iv key line) = line
begun (in_ad key iv line) = line
begun (in_text key iv ad line) = line

-- the output for a state and what is to come
output_from : Answering → State → List ℕ → List ℕ
output_from answer state s = answers answer (ended state ++ lines_from (begun state) s) (rest_from (begun state) s)

-- one byte: what is said, and the rest from the next state on
output_more : (answer : Answering) (state : State) (b : ℕ) (s : List ℕ)
    → output_from answer state (b ∷ s) ≡ said answer (step state b) ++ output_from answer (onward (step state b)) s
unfolding output_from ended begun lines_from rest_from answers said step onward
output_more answer state b s = go state (eqb b line_feed) refl
  where
    go : (state : State) (p : Bool) → eqb b line_feed ≡ p
        → output_from answer state (b ∷ s) ≡ said answer (step state b) ++ output_from answer (onward (step state b)) s
    go (in_key line) true e = rw e
    go (in_key line) false e = rw e
    go (in_iv key line) true e = rw e
    go (in_iv key line) false e = rw e
    go (in_ad key iv line) true e = rw e
    go (in_ad key iv line) false e = rw e
    go (in_text key iv ad line) true e = rw e
    go (in_text key iv ad line) false e = rw e

output_end : (answer : Answering) (state : State) → output_from answer state [] ≡ ending state
unfolding output_from ended begun lines_from rest_from answers ending
output_end answer (in_key line) = refl
output_end answer (in_iv key line) = refl
output_end answer (in_ad key iv line) = refl
output_end answer (in_text key iv ad line) = refl

-- what is written for a chunk, and the output from there on
output_chunk : (answer : Answering) (state : State) (chunk s : List ℕ)
    → written answer state chunk ++ output_from answer (after state chunk) s ≡ output_from answer state (chunk ++ s)
unfolding written after
output_chunk answer state [] s = refl
output_chunk answer state (b ∷ chunk) s =
    append_assoc (said answer (step state b)) (written answer (onward (step state b)) chunk) _
    ∙ ap (λ r. said answer (step state b) ++ r) (output_chunk answer (onward (step state b)) chunk s)
    ∙ sym (output_more answer state b (chunk ++ s))

from_chunks : (answer : Answering) (state : State) (chunks : List (List ℕ))
    → written_by answer state chunks ≡ output_from answer state (joined chunks)
unfolding written_by joined
from_chunks answer state [] = sym (output_end answer state)
from_chunks answer state (chunk ∷ chunks) =
    ap (λ r. written answer state chunk ++ r) (from_chunks answer (after state chunk) chunks)
    ∙ output_chunk answer state chunk (joined chunks)

-- However an input is cut into chunks, what is written for them, joined, is the output of the whole.
pub any_chunks : (answer : Answering) (chunks : List (List ℕ)) → written_by answer start chunks ≡ output_of answer (joined chunks)
unfolding output_from output_of ended begun
any_chunks answer chunks = from_chunks answer start chunks

-- a chunk may be cut anywhere

pub after-append : (state : State) (s t : List ℕ) → after state (s ++ t) ≡ after (after state s) t
unfolding after
after-append state [] t = refl
after-append state (b ∷ s) t = after-append (onward (step state b)) s t

pub written-append : (answer : Answering) (state : State) (s t : List ℕ)
    → written answer state (s ++ t) ≡ written answer state s ++ written answer (after state s) t
unfolding written after
written-append answer state [] t = refl
written-append answer state (b ∷ s) t =
    rw (written-append answer (onward (step state b)) s t) (sym (append_assoc (said answer (step state b)) _ _))

-- the bytes up to the next whole record are one cut of it

module _ (state : State) (b : ℕ) (s : List ℕ) where
  pub scan_more : (next : State) → step state b ≡ more next → scanned state (b ∷ s) ≡ scanned next s
  unfolding scanned
  scan_more next e = rw (e, scanned)

  pub left-more : (next : State) → step state b ≡ more next → left_of state (b ∷ s) ≡ left_of next s
  unfolding left_of
  left-more next e = rw (e, left_of)

  taken_more : (next : State) → step state b ≡ more next → taken_of state (b ∷ s) ≡ b ∷ taken_of next s
  unfolding taken_of
  taken_more next e = rw (e, taken_of)

  pub scan_whole : (k i a t : List ℕ) → step state b ≡ whole k i a t → scanned state (b ∷ s) ≡ whole k i a t
  unfolding scanned
  scan_whole k i a t e = rw (e, scanned)

  pub left-whole : (k i a t : List ℕ) → step state b ≡ whole k i a t → left_of state (b ∷ s) ≡ s
  unfolding left_of
  left-whole k i a t e = rw (e, left_of)

  taken-whole : (k i a t : List ℕ) → step state b ≡ whole k i a t → taken_of state (b ∷ s) ≡ b ∷ []
  unfolding taken_of
  taken-whole k i a t e = rw (e, taken_of)

pub taken-left : (state : State) (s : List ℕ) → taken_of state s ++ left_of state s ≡ s
unfolding taken_of left_of
taken-left state [] = refl
taken-left state (b ∷ s) = go (λ next. taken-left next s) (step state b) refl
  where
    go : ((next : State) → taken_of next s ++ left_of next s ≡ s) → (n : Next) → step state b ≡ n
        → taken_of state (b ∷ s) ++ left_of state (b ∷ s) ≡ b ∷ s
    go rest (more next) e =
        ap₂ ◌++◌ (taken_more state b s next e) (left-more state b s next e) ∙ ap {B = List ℕ} (λ r. b ∷ r) (rest next)
    go rest (whole k i a t) e = ap₂ ◌++◌ (taken-whole state b s k i a t e) (left-whole state b s k i a t e)

pub after-taken : (state : State) (s : List ℕ) → after state (taken_of state s) ≡ onward (scanned state s)
unfolding taken_of scanned after onward
after-taken state [] = refl
after-taken state (b ∷ s) = go (λ next. after-taken next s) (step state b) refl
  where
    go : ((next : State) → after next (taken_of next s) ≡ onward (scanned next s)) → (n : Next) → step state b ≡ n
        → after state (taken_of state (b ∷ s)) ≡ onward (scanned state (b ∷ s))
    go rest (more next) e =
        ap (after state) (taken_more state b s next e)
        ∙ ap (λ n. after (onward n) (taken_of next s)) e
        ∙ rest next
        ∙ ap onward (sym (scan_more state b s next e))
    go rest (whole k i a t) e =
        ap (after state) (taken-whole state b s k i a t e) ∙ ap onward e ∙ ap onward (sym (scan_whole state b s k i a t e))

pub written-taken : (answer : Answering) (state : State) (s : List ℕ)
    → written answer state (taken_of state s) ≡ said answer (scanned state s)
unfolding taken_of scanned written said onward
written-taken answer state [] = refl
written-taken answer state (b ∷ s) = go (λ next. written-taken answer next s) (step state b) refl
  where
    go : ((next : State) → written answer next (taken_of next s) ≡ said answer (scanned next s)) → (n : Next) → step state b ≡ n
        → written answer state (taken_of state (b ∷ s)) ≡ said answer (scanned state (b ∷ s))
    go rest (more next) e =
        ap (written answer state) (taken_more state b s next e)
        ∙ ap (λ n. said answer n ++ written answer (onward n) (taken_of next s)) e
        ∙ rest next
        ∙ ap (said answer) (sym (scan_more state b s next e))
    go rest (whole k i a t) e =
        ap (written answer state) (taken-whole state b s k i a t e)
        ∙ append-nil (said answer (step state b))
        ∙ ap (said answer) (e ∙ sym (scan_whole state b s k i a t e))
