-- Services of a chunk, one behind the other, make one service: each goes on where the one before it stopped, in the chunk as in
-- the output.
use mathlib.Core.Path.{◌≡◌, sym, ap, ap₂, ◌∙◌}
use mathlib.Core.List.{List, [], ◌++◌, append_assoc}
use Prim.Native.Nat.{ℕ, ◌+◌, ◌-◌, ◌≤◌, zero-le}
use native.Mathlib.Nat.{le_refl}
use native.Mathlib.Omega.{arith}
use lib.ListN.{length, take, drop, length-append, length-drop, take-append-drop}
use lib.Seq.{take-add, drop-drop, drop_at}
use Rattle.records.specs.Records.{Answering}
use Rattle.records.specs.Reading.{after, written}
use Rattle.records.specs.Answers.{Wrote}
use Rattle.records.specs.Remembered.{bytes_from, Served}
use Rattle.records.specs.declared.reader.Reader.{Reader}
use Rattle.records.proofs.AnswerLaws.{wrote_nothing, wrote_line}
use Rattle.records.proofs.ChunkLaws.{after-append, written-append}

bytes_none : (chunk : List ℕ) (at : ℕ) → bytes_from chunk at at ≡ []
bytes_none chunk at =
    let none : at - at ≡ 0 = omega arith in
    rw none

bytes_then : (chunk : List ℕ) (at mid end : ℕ) → at ≤ mid → mid ≤ end
    → bytes_from chunk at end ≡ bytes_from chunk at mid ++ bytes_from chunk mid end
bytes_then chunk at mid end first second =
    let both : end - at ≡ (mid - at) + (end - mid) = omega arith in
    let there : at + (mid - at) ≡ mid = omega arith in
    rw both
    (take-add (mid - at) (end - mid) (drop at chunk)
    ∙ ap (λ s. bytes_from chunk at mid ++ take (end - mid) s) (drop-drop (mid - at) at chunk ∙ ap (λ n. drop n chunk) there))

-- a line written behind another
wrote_then : {line next was now now' : List ℕ} {count extra : ℕ} → Wrote line was now count
    → Wrote next (drop count now) (drop count now') extra → take count now' ≡ take count now
    → Wrote (line ++ next) was now' (count + extra)
wrote_then {line} {next} {was} {now} {now'} {count} {extra} first second kept =
    let behind = ap (drop count) first.front ∙ drop_at line (drop (length line) was) count (sym first.counts) in
    record {
      counts = ap₂ (λ a b. a + b) first.counts second.counts ∙ sym (length-append line next);
      front =
          sym (take-append-drop count now')
          ∙ ap₂ (λ a b. a ++ b) (kept ∙ wrote_line first) (second.front ∙ ap (λ s. next ++ drop (length next) s) behind)
          ∙ ap (λ s. line ++ (next ++ s)) (drop-drop (length next) (length line) was ∙ ap (λ n. drop n was) (sym (length-append line next)))
          ∙ sym (append_assoc line next (drop (length (line ++ next)) was));
    }

module _ (answer : Answering) {r : Reader} (chunk : List ℕ) (at : ℕ) (out : List ℕ) where
  -- nothing taken in yet
  pub served_nothing : Served answer r chunk at out r at out 0
  unfolding after written
  served_nothing =
      record {
        remembers = λ state known. rw (bytes_none chunk at) known;
        writes = λ state known. rw (bytes_none chunk at) (wrote_nothing out);
        fits = zero-le;
        reached = le_refl at;
        within = λ h. h;
      }

  -- a service behind another
  pub served_then : {r' r'' : Reader} {out' out'' : List ℕ} {mid end count extra : ℕ}
      → Served answer r chunk at out r' mid out' count
      → Served answer r' chunk mid (drop count out') r'' end (drop count out'') extra
      → take count out'' ≡ take count out' → count ≤ length out''
      → Served answer r chunk at out r'' end out'' (count + extra)
  served_then {mid = mid} {end = end} first second kept inside =
      let bytes = bytes_then chunk at mid end first.reached second.reached in
      let part = bytes_from chunk at mid in
      let next = bytes_from chunk mid end in
      record {
        remembers = λ state known. rw (bytes, after-append state part next) (second.remembers (after state part) (first.remembers state known));
        writes = λ state known.
            rw (bytes, written-append answer state part next)
            (wrote_then (first.writes state known) (second.writes (after state part) (first.remembers state known)) kept);
        fits = omega (arith, rw length-drop at second.fits);
        reached = omega (arith, first.reached, second.reached);
        within = λ h. second.within (first.within h);
      }
