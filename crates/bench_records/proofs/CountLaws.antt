-- Scan after scan, the line feeds behind the reader are four for each record counted, and one for each ended line of the record
-- at hand.
use mathlib.Core.Path.{◌≡◌, refl, sym, ap, ◌∙◌}
use mathlib.Core.Bool.{Bool, true, false, false≢true, cond}
use mathlib.Core.List.{List, [], ◌∷◌}
use Prim.Native.Nat.{ℕ, ◌+◌, ◌*◌, ◌≤◌, ◌<◌}
use native.Mathlib.Omega.{arith}
use lib.Dec.{eqb}
use lib.ListN.{length, drop, drop_of_length-le}
use Rattle.records.specs.Records.{line_feed}
use Rattle.records.specs.Reading.{State, in_key, in_iv, in_ad, in_text, Next, more, whole, step, start, scanned, left_of}
use Rattle.records.specs.Kept.{at_start, is_whole}
use Rattle.records.specs.Remembered.{HasRoom, Remembers, Scanned}
use Rattle.records.specs.declared.reader.Reader.{Reader}
use Rattle.records.proofs.ChunkLaws.{scan_more, left-more, scan_whole, left-whole}
use Rattle.records.proofs.ScanLaws.{open_lines, whole_lines, remembers-start}
use Rattle.bench_records.specs.Count.{line_feeds, whole_records}

-- how many lines of a record are ended
abbrev ended_in : State → ℕ
ended_in (in_key line) = 0
ended_in (in_iv key line) = 1
ended_in (in_ad key iv line) = 2
ended_in (in_text key iv ad line) = 3

ended_few : (state : State) → ended_in state < 4
ended_few (in_key line) = omega arith
ended_few (in_iv key line) = omega arith
ended_few (in_ad key iv line) = omega arith
ended_few (in_text key iv ad line) = omega arith

abbrev ended_of : Next → ℕ
ended_of (more state) = ended_in state
ended_of (whole key iv ad text) = 4

step-feeds : (state : State) (b : ℕ) → ended_in state + cond (eqb b line_feed) 1 0 ≡ ended_of (step state b)
unfolding step
step-feeds state b = go state (eqb b line_feed) refl
  where
    go : (state : State) (p : Bool) → eqb b line_feed ≡ p → ended_in state + cond (eqb b line_feed) 1 0 ≡ ended_of (step state b)
    go (in_key line) true e = rw e
    go (in_key line) false e = rw e
    go (in_iv key line) true e = rw e
    go (in_iv key line) false e = rw e
    go (in_ad key iv line) true e = rw e
    go (in_ad key iv line) false e = rw e
    go (in_text key iv ad line) true e = rw e
    go (in_text key iv ad line) false e = rw e

feeds_kept : (state : State) (s : List ℕ) → ended_in state + line_feeds s ≡ ended_of (scanned state s) + line_feeds (left_of state s)
unfolding scanned left_of line_feeds
feeds_kept state [] = refl
feeds_kept state (b ∷ s) = go (λ next. feeds_kept next s) (step state b) refl
  where
    go : ((next : State) → ended_in next + line_feeds s ≡ ended_of (scanned next s) + line_feeds (left_of next s))
        → (n : Next) → step state b ≡ n
        → ended_in state + line_feeds (b ∷ s) ≡ ended_of (scanned state (b ∷ s)) + line_feeds (left_of state (b ∷ s))
    go rest (more next) e =
        rw (scan_more state b s next e, left-more state b s next e)
        (omega (arith, step-feeds state b ∙ ap ended_of e, rest next))
    go rest (whole k i a t) e =
        rw (scan_whole state b s k i a t e, left-whole state b s k i a t e) (omega (arith, step-feeds state b ∙ ap ended_of e))

pub record Counting (r : Reader) (input : List ℕ) (count at : ℕ) : Type 0 where
  pub state : State
  pub remembers : Remembers r (more state)
  pub feeds : count * 4 + (ended_in state + line_feeds (drop at input)) ≡ line_feeds input
  pub fewer : count ≤ at
  pub within : at ≤ length input

pub counting_none : (r : Reader) → HasRoom r → (input : List ℕ) → Counting (at_start r) input 0 0
counting_none r room input =
    record {
      state = start;
      remembers = remembers-start r room;
      feeds = omega arith;
      fewer = omega arith;
      within = omega arith;
    }

module _ {r r' : Reader} {input : List ℕ} {count at end : ℕ} (scan : Scanned r input at r' end)
    (counting : Counting r input count at) (inside : at < length input) where
  scanned-feeds : count * 4 + (ended_of (scanned counting.state (drop at input)) + line_feeds (drop end input)) ≡ line_feeds input
  scanned-feeds =
      rw (scan.left counting.state counting.remembers)
      (omega (arith, feeds_kept counting.state (drop at input), counting.feeds))

  -- no record is whole yet
  pub counting_on : is_whole r'.progress.stage ≡ false → Counting r' input count end
  counting_on few = go (scanned counting.state (drop at input)) refl
    where
      go : (n : Next) → scanned counting.state (drop at input) ≡ n → Counting r' input count end
      go (more next) e =
          record {
            state = next;
            remembers = rw e at (scan.remembers counting.state counting.remembers);
            feeds = rw e at scanned-feeds;
            fewer = omega (arith, counting.fewer, scan.reached);
            within = scan.within counting.within;
          }
      go (whole k i a t) e =
          absurd (false≢true (sym few ∙ whole_lines (rw e at (scan.remembers counting.state counting.remembers))))

  -- a record is whole
  pub counting_whole : is_whole r'.progress.stage ≡ true → Counting (at_start r') input (count + 1) end
  counting_whole four = go (scanned counting.state (drop at input)) refl
    where
      go : (n : Next) → scanned counting.state (drop at input) ≡ n → Counting (at_start r') input (count + 1) end
      go (more next) e =
          absurd (false≢true (sym (open_lines next (rw e at (scan.remembers counting.state counting.remembers))) ∙ four))
      go (whole k i a t) e =
          let feeds : count * 4 + (4 + line_feeds (drop end input)) ≡ line_feeds input = rw e at scanned-feeds in
          record {
            state = start;
            remembers = remembers-start r' (scan.remembers counting.state counting.remembers).room;
            feeds = omega (arith, feeds);
            fewer = omega (arith, counting.fewer, scan.further inside);
            within = scan.within counting.within;
          }

-- at the end of the input
pub counted : {r : Reader} {input : List ℕ} {count at : ℕ} → length input ≤ at → Counting r input count at
    → count ≡ whole_records input
unfolding line_feeds
counted {input = input} {count = count} {at = at} done counting =
    let feeds : count * 4 + (ended_in counting.state + 0) ≡ line_feeds input =
    rw (drop_of_length-le input done) at counting.feeds
    in
    rw (← feeds) (omega (arith, ended_few counting.state))
