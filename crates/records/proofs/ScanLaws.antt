-- One byte takes what the reader remembers on to what that byte makes of it, and byte after byte make a scan: by cases on the
-- field that the byte belongs to.
use mathlib.Core.Path.{◌≡◌, refl, sym, ap, ◌∙◌}
use mathlib.Core.Bool.{Bool, true, false, false≢true}
use mathlib.Core.List.{List, [], ◌∷◌, ◌++◌, append_cancel_right}
use Prim.Native.Nat.{ℕ, ◌+◌, ◌-◌, ◌≤◌, ◌<◌, max}
use native.Mathlib.Nat.{le_refl, le_of_eq}
use native.Mathlib.Numerals.{add-one}
use native.Mathlib.Omega.{arith}
use lib.Dec.{eqb}
use lib.ListN.{length, get_or, drop, length-set, drop_of_length-le, take-append-drop}
use lib.Seq.{drop-cons, drop-drop}
use Rattle.std.specs.Prelude.{Option, Some, None}
use Rattle.std.specs.Borrow.{MutBor}
use Rattle.hexadecimal.specs.Hex.{longest_field}
use Rattle.hexadecimal.specs.Line.{Counted, InFront, line_of, fresh_line, taken, fed, stored, count_of, with_byte}
use Rattle.hexadecimal.specs.declared.line.Line.{Line}
use Rattle.records.specs.Records.{line_feed}
use Rattle.records.specs.Reading.{State, in_key, in_iv, in_ad, in_text, Next, more, whole}
use Rattle.records.specs.Reading.{step, start, scanned, taken_of, left_of}
use Rattle.records.specs.Kept.{fresh_reader, with_progress, at_start, is_whole, line_ended, fed_at, byte_taken}
use Rattle.records.specs.Remembered.{HasRoom, At, Reads, Remembers, Scanned, bytes_from}
use Rattle.records.specs.declared.reader.Reader.{Reader}
use Rattle.records.specs.declared.reader.Stage.{Stage}
use Rattle.records.specs.declared.reader.Stage.TheVariants.{Key, Iv, Ad, Text, Whole}
use Rattle.records.proofs.ChunkLaws.{scan_more, left-more, scan_whole, left-whole, taken-left}
use Rattle.hexadecimal.proofs.LineLaws.{line_fresh, line_more, in_front_none, in_front_more, counted}

-- what one byte does to the reader and to its buffers

module _ (r : Reader) (b : ℕ) where
  taken_on : eqb b line_feed ≡ false → byte_taken r b ≡ fed_at r.progress.stage r b
  unfolding byte_taken
  taken_on test = rw test

  taken_end : eqb b line_feed ≡ true → byte_taken r b ≡ with_progress r (line_ended r.progress)
  unfolding byte_taken
  taken_end test = rw test

length-with_byte : (count : ℕ) (half : Option ℕ) (value : ℕ) (bytes : List ℕ) → length (with_byte count half value bytes) ≡ length bytes
length-with_byte count None value bytes = refl
length-with_byte count (Some first) value bytes = simp length-set

length-stored : (line : Option Line) (b : ℕ) (bytes : List ℕ) → length (stored line b bytes) ≡ length bytes
unfolding stored
length-stored None b bytes = refl
length-stored (Some line) b bytes = go (taken (Some line) b) refl
  where
    go : (p : Bool) → taken (Some line) b ≡ p → length (stored (Some line) b bytes) ≡ length bytes
    go true e = rw e (length-with_byte line.bytes line.half _ bytes)
    go false e = rw e

-- the line at hand, with one byte more
begins_more : (r : Reader) (stage : Stage) (b : ℕ) (l : List ℕ) → At r stage l → fed r.progress.line b ≡ line_of (l ++ (b ∷ []))
begins_more r stage b l at = rw at.begins (sym (line_more l b))

in_front_byte : (r : Reader) (stage : Stage) (b : ℕ) (l bytes : List ℕ) → At r stage l → longest_field ≤ length bytes
    → InFront l bytes → InFront (l ++ (b ∷ [])) (stored r.progress.line b bytes)
in_front_byte r stage b l bytes at room held = rw at.begins (in_front_more l bytes b room held)

-- and ended
count : (r : Reader) (stage : Stage) (l bytes : List ℕ) → At r stage l → InFront l bytes → Counted (count_of r.progress.line) bytes l
count r stage l bytes at held = rw at.begins (counted l bytes held)

-- in front of the next one
at_next : {r : Reader} {stage : Stage} → r.progress.stage ≡ stage → r.progress.line ≡ fresh_line → At r stage []
at_next here fresh = record { ended = here; begins = fresh ∙ sym line_fresh }

module _ (r : Reader) (b : ℕ) (room : HasRoom r) where
  reads_digit : (state : State) → eqb b line_feed ≡ false → Reads r (more state) → Reads (fed_at r.progress.stage r b) (step state b)
  unfolding step
  reads_digit (in_key l) test reads =
      let at = reads.0 in
      rw (test, at.ended)
      (record { ended = refl; begins = begins_more r _ b l at }, in_front_byte r _ b l _ at room.for_key reads.1)
  reads_digit (in_iv k l) test reads =
      let at = reads.0 in
      rw (test, at.ended)
      (record { ended = refl; begins = begins_more r _ b l at }, reads.1, in_front_byte r _ b l _ at room.for_iv reads.2)
  reads_digit (in_ad k i l) test reads =
      let at = reads.0 in
      rw (test, at.ended)
      (record { ended = refl; begins = begins_more r _ b l at }, reads.1, reads.2, in_front_byte r _ b l _ at room.for_ad reads.3)
  reads_digit (in_text k i a l) test reads =
      let at = reads.0 in
      rw (test, at.ended) (
        record { ended = refl; begins = begins_more r _ b l at },
        reads.1,
        reads.2,
        reads.3,
        in_front_byte r _ b l _ at room.for_text reads.4,
      )

  reads_end : (state : State) → eqb b line_feed ≡ true → Reads r (more state) → Reads (with_progress r (line_ended r.progress)) (step state b)
  unfolding step line_ended
  reads_end (in_key l) test reads =
      let at = reads.0 in
      rw (test, at.ended) (at_next refl refl, count r _ l _ at reads.1, in_front_none r.iv.now)
  reads_end (in_iv k l) test reads =
      let at = reads.0 in
      rw (test, at.ended) (at_next refl refl, reads.1, count r _ l _ at reads.2, in_front_none r.ad.now)
  reads_end (in_ad k i l) test reads =
      let at = reads.0 in
      rw (test, at.ended) (at_next refl refl, reads.1, reads.2, count r _ l _ at reads.3, in_front_none r.text.now)
  reads_end (in_text k i a l) test reads =
      let at = reads.0 in
      rw (test, at.ended) (at_next refl refl, reads.1, reads.2, reads.3, count r _ l _ at reads.4)

-- the buffers keep their lengths

stored_room : (line : Option Line) (b : ℕ) (bytes : List ℕ) → longest_field ≤ length bytes → longest_field ≤ length (stored line b bytes)
stored_room line b bytes room = rw (length-stored line b bytes) room

room_fed : (r : Reader) (b : ℕ) (stage : Stage) → HasRoom r → HasRoom (fed_at stage r b)
room_fed r b Key room =
    record { for_key = stored_room r.progress.line b _ room.for_key; for_iv = room.for_iv; for_ad = room.for_ad; for_text = room.for_text }
room_fed r b Iv room =
    record { for_key = room.for_key; for_iv = stored_room r.progress.line b _ room.for_iv; for_ad = room.for_ad; for_text = room.for_text }
room_fed r b Ad room =
    record { for_key = room.for_key; for_iv = room.for_iv; for_ad = stored_room r.progress.line b _ room.for_ad; for_text = room.for_text }
room_fed r b Text room =
    record { for_key = room.for_key; for_iv = room.for_iv; for_ad = room.for_ad; for_text = stored_room r.progress.line b _ room.for_text }
room_fed r b Whole room =
    record { for_key = room.for_key; for_iv = room.for_iv; for_ad = room.for_ad; for_text = stored_room r.progress.line b _ room.for_text }

-- one byte taken

remembers_byte : {r r' : Reader} (b : ℕ) → r' ≡ byte_taken r b → (state : State) → Remembers r (more state) → Remembers r' (step state b)
unfolding line_ended
remembers_byte {r} b took state known = rw took (go (eqb b line_feed) refl)
  where
    go : (p : Bool) → eqb b line_feed ≡ p → Remembers (byte_taken r b) (step state b)
    go true e =
        rw (taken_end r b e)
        (record { room = known.room; reads = reads_end r b known.room state e known.reads })
    go false e =
        rw (taken_on r b e)
        (record { room = room_fed r b r.progress.stage known.room; reads = reads_digit r b known.room state e known.reads })

-- a reader that remembers a record not whole has a line of it at hand
pub open_lines : {r : Reader} (state : State) → Remembers r (more state) → is_whole r.progress.stage ≡ false
open_lines (in_key l) known = rw known.reads.0.ended
open_lines (in_iv k l) known = rw known.reads.0.ended
open_lines (in_ad k i l) known = rw known.reads.0.ended
open_lines (in_text k i a l) known = rw known.reads.0.ended

pub whole_lines : {r : Reader} {k i a t : List ℕ} → Remembers r (whole k i a t) → is_whole r.progress.stage ≡ true
whole_lines known = rw known.reads.0.ended

-- how far a scan came: what it remembers, from which the bytes to come make what was asked
pub record Underway (r : Reader) (read : Next) (behind s : List ℕ) : Type 0 where
  pub state : State
  pub remembers : Remembers r (more state)
  pub reads : scanned state s ≡ read
  pub left : left_of state s ≡ behind

module _ {r r' : Reader} {b : ℕ} {behind s : List ℕ} {read : Next}
    (took : r' ≡ byte_taken r b) (going : Underway r read behind (b ∷ s)) where
  remembered_next : Remembers r' (step going.state b)
  remembered_next = remembers_byte b took going.state going.remembers

  -- a byte that makes no record whole
  going_on : is_whole r'.progress.stage ≡ false → Underway r' read behind s
  going_on few = go (step going.state b) refl
    where
      go : (next : Next) → step going.state b ≡ next → Underway r' read behind s
      go (more state) e =
          record {
            state = state;
            remembers = rw e at remembered_next;
            reads = sym (scan_more going.state b s state e) ∙ going.reads;
            left = sym (left-more going.state b s state e) ∙ going.left;
          }
      go (whole k i a t) e = absurd (false≢true (sym few ∙ whole_lines (rw e at remembered_next)))

  -- a byte that does
  going_stops : is_whole r'.progress.stage ≡ true → Remembers r' read × (s ≡ behind)
  going_stops four = go (step going.state b) refl
    where
      go : (next : Next) → step going.state b ≡ next → Remembers r' read × (s ≡ behind)
      go (more state) e = absurd (false≢true (sym (open_lines state (rw e at remembered_next)) ∙ four))
      go (whole k i a t) e =
          let all = sym going.reads ∙ scan_whole going.state b s k i a t e in
          (rw all (rw e at remembered_next), sym (left-whole going.state b s k i a t e) ∙ going.left)

-- the end of the chunk
going_ends : {r : Reader} {behind : List ℕ} {read : Next} → Underway r read behind [] → Remembers r read × ([] ≡ behind)
unfolding scanned left_of
going_ends going = (rw (← going.reads) going.remembers, going.left)

-- a scan that began with r₀ at index `at` and came to index i
pub record Scanning (r₀ : Reader) (chunk : List ℕ) (at : ℕ) (r : Reader) (i : ℕ) : Type 0 where
  pub going : (state : State) → Remembers r₀ (more state)
      → Underway r (scanned state (drop at chunk)) (left_of state (drop at chunk)) (drop i chunk)
  pub reached : at ≤ i
  pub within : i ≤ max at (length chunk)

module _ (r₀ : Reader) (chunk : List ℕ) (at : ℕ) where
  -- nothing taken in yet
  pub scanning_starts : Scanning r₀ chunk at r₀ at
  scanning_starts =
      record {
        going = λ state known. record { state = state; remembers = known; reads = refl; left = refl };
        reached = le_refl at;
        within = omega arith;
      }

  module _ {r r' : Reader} (i : ℕ) (inside : i < length chunk) (took : r' ≡ byte_taken r (get_or chunk i 0))
      (scanning : Scanning r₀ chunk at r i) where
    -- the byte at hand stands in front of what is to come
    next_byte : (state : State) → Remembers r₀ (more state)
        → Underway r (scanned state (drop at chunk)) (left_of state (drop at chunk)) (get_or chunk i 0 ∷ drop (i + 1) chunk)
    next_byte state known = rw (add-one i, ← (drop-cons chunk i 0 inside)) (scanning.going state known)

    pub scanning_more : is_whole r'.progress.stage ≡ false → Scanning r₀ chunk at r' (i + 1)
    scanning_more few =
        record {
          going = λ state known. going_on took (next_byte state known) few;
          reached = omega (arith, scanning.reached);
          within = omega arith;
        }

    pub scanning_stops : is_whole r'.progress.stage ≡ true → Scanned r₀ chunk at r' (i + 1)
    scanning_stops four =
        record {
          remembers = λ state known. (going_stops took (next_byte state known) four).0;
          left = λ state known. (going_stops took (next_byte state known) four).1;
          reached = omega (arith, scanning.reached);
          further = λ h. omega (arith, scanning.reached);
          within = λ h. omega arith;
        }

  pub scanning_ends : (r : Reader) (i : ℕ) → length chunk ≤ i → Scanning r₀ chunk at r i → Scanned r₀ chunk at r (max at (length chunk))
  scanning_ends r i done scanning =
      let end : max at (length chunk) ≡ i = omega (arith, scanning.reached, scanning.within) in
      let none = drop_of_length-le chunk done in
      rw end
      (record {
        remembers = λ state known. (going_ends (rw none at (scanning.going state known))).0;
        left = λ state known. none ∙ (going_ends (rw none at (scanning.going state known))).1;
        reached = scanning.reached;
        further = λ h. omega arith;
        within = λ h. omega (arith, scanning.within);
      })

-- in front of a record, whatever the buffers hold
pub remembers-start : (r : Reader) → HasRoom r → Remembers (at_start r) (more start)
remembers-start r room = record { room = room; reads = (at_next refl refl, in_front_none r.key.now) }

-- a new reader over buffers of so many bytes has room, and is in front of a record
pub begins_new : (r : Reader) (key iv ad text : MutBor (List ℕ)) → r ≡ fresh_reader key iv ad text
    → length key.now ≡ 4096 → length iv.now ≡ 4096 → length ad.now ≡ 4096 → length text.now ≡ 4096
    → HasRoom r × (at_start r ≡ r)
begins_new r key iv ad text new k i a t =
    rw new (
      record { for_key = le_of_eq (sym k); for_iv = le_of_eq (sym i); for_ad = le_of_eq (sym a); for_text = le_of_eq (sym t) },
      refl,
    )

-- the bytes that a scan took are those from where it began to where it stopped
pub scanned-bytes : {r : Reader} {chunk : List ℕ} {at : ℕ} {r' : Reader} {end : ℕ} → Scanned r chunk at r' end
    → (state : State) → Remembers r (more state) → bytes_from chunk at end ≡ taken_of state (drop at chunk)
scanned-bytes {chunk = chunk} {at = at} {end = end} scan state known =
    let there : at + (end - at) ≡ end = omega (arith, scan.reached) in
    let rest = left_of state (drop at chunk) in
    let behind : drop (end - at) (drop at chunk) ≡ rest = rw (drop-drop, there) (scan.left state known) in
    append_cancel_right _ _ rest
    (ap (λ t. bytes_from chunk at end ++ t) (sym behind)
    ∙ take-append-drop (end - at) (drop at chunk)
    ∙ sym (taken-left state (drop at chunk)))
