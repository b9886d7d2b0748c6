-- A run, chunk after chunk: what each is answered by stands behind what those before it are answered by, and the reader
-- remembers them all. So what it says at the end is what the whole input asks for.
use mathlib.Core.Path.{◌≡◌, refl, sym, ap, ap₂, ◌∙◌}
use mathlib.Core.Bool.{Bool, false, false≢true}
use mathlib.Core.Logic.{⊎_elim}
use mathlib.Core.List.{List, [], ◌∷◌, ◌++◌, append_assoc, append-nil}
use mathlib.Core.List.Memᴰ
use Prim.Native.Nat.{ℕ, ◌+◌, ◌-◌, ◌<◌}
use native.Mathlib.Omega.{arith}
use lib.ListN.{length, take, length-append}
use lib.Seq.{take-add, length-take-le}
use Rattle.octets.specs.Bytes.{joined}
use Rattle.records.specs.Records.{Answering, output_of}
use Rattle.records.specs.Reading.{more, start, after, written, written_by}
use Rattle.records.specs.Answers.{Wrote}
use Rattle.records.specs.Kept.{at_start, last_line}
use Rattle.records.specs.Remembered.{HasRoom, Remembers, bytes_from, Served}
use Rattle.records.specs.Input.{Answered, most_turns, TakenIn, Ended}
use Rattle.records.specs.declared.reader.Reader.{Reader}
use Rattle.records.proofs.AnswerLaws.{wrote_line}
use Rattle.records.proofs.ChunkLaws.{any_chunks, after-append, written-append}
use Rattle.records.proofs.ScanLaws.{remembers-start}
use Rattle.records.proofs.ServeLaws.{ending_remembered}

joined-more : (chunks : List (List ℕ)) (chunk : List ℕ) → joined (chunks ++ (chunk ∷ [])) ≡ joined chunks ++ chunk
unfolding joined
joined-more [] chunk = append-nil chunk
joined-more (first ∷ chunks) chunk = rw (joined-more chunks chunk) (sym (append_assoc first (joined chunks) chunk))

-- the last of some chunks; nothing, where there is none
unfoldable pub last_of : List (List ℕ) → List ℕ
last_of [] = []
last_of (chunk ∷ []) = chunk
last_of (first ∷ chunk ∷ chunks) = last_of (chunk ∷ chunks)

last_more : (chunks : List (List ℕ)) (chunk : List ℕ) → last_of (chunks ++ (chunk ∷ [])) ≡ chunk
unfolding last_of
last_more [] chunk = refl
last_more (first ∷ []) chunk = refl
last_more (first ∷ second ∷ chunks) chunk = last_more (second ∷ chunks) chunk

-- A run that goes on: its chunks are remembered, and the last of them still stands in front of the buffer that it was read into,
-- so that a reader which forgot it would not do, whatever else it remembers.
pub record Carried (answer : Answering) (turns : ℕ) (buffer : List ℕ) (r : Reader) : Type 0 where
  pub taken : TakenIn answer turns
  pub remembers : Remembers r (more (after start (joined taken.chunks)))
  pub latest : take (length (last_of taken.chunks)) buffer ≡ last_of taken.chunks

module _ (answer : Answering) where
  pub answered_nothing : {r : Reader} → Answered answer r [] r
  unfolding after written
  answered_nothing = record { handed = []; follows = λ state known. known; answers = λ state known. refl }

  -- a service behind what was taken in of its chunk before, and all that it wrote handed out
  pub answered_then : {r r' r'' : Reader} {out out' : List ℕ}
      {count given : ℕ} (chunk : List ℕ) (at end : ℕ)
      → Answered answer r (take at chunk) r'
      → Served answer r' chunk at out r'' end out' count
      → given ≡ length (take count out')
      → Answered answer r (take end chunk) r''
  answered_then {out' = out'} {count = count} {given = given} chunk at end first next all =
      let part = take at chunk in
      let service = bytes_from chunk at end in
      let there : at + (end - at) ≡ end = omega (arith, next.reached) in
      let bytes : take end chunk ≡ part ++ service = ap (λ n. take n chunk) (sym there) ∙ take-add at (end - at) chunk in
      let line : take given out' ≡ take count out' = ap (λ n. take n out') (all ∙ length-take-le count out' next.fits) in
      record {
        handed = first.handed ++ take given out';
        follows = λ state known.
            rw (bytes, after-append state part service) (next.remembers (after state part) (first.follows state known));
        answers = λ state known.
            rw (bytes, written-append answer state part service)
            (ap₂ ◌++◌
            (first.answers state known)
            (line ∙ wrote_line (next.writes (after state part) (first.follows state known))));
      }

  -- a run is begun with a reader in front of a record
  pub carried_start : (buffer : List ℕ) (r : Reader) → HasRoom r
      → Carried answer most_turns buffer (at_start r)
  unfolding after written joined last_of
  carried_start buffer r room =
      record {
        taken =
            record {
              chunks = [];
              handed = [];
              none_empty = λ chunk none. absurd (Memᴰ.not-nil none);
              counted = refl;
              answers = refl;
            };
        remembers = remembers-start r room;
        latest = refl;
      }

  module _ {turns : ℕ} {buffer : List ℕ} {r : Reader} (was : Carried answer turns buffer r) where
    -- it goes on with the bytes of one more chunk
    module _ {bytes : List ℕ} {r' : Reader}
        (next : Answered answer r bytes r') (some : 0 < length bytes) (left : 0 < turns) where
      pub taken_then : TakenIn answer (turns - 1)
      taken_then =
          let taken = was.taken in
          record {
            chunks = taken.chunks ++ (bytes ∷ []);
            handed = taken.handed ++ next.handed;
            none_empty = λ chunk member.
                ⊎_elim (taken.none_empty chunk)
                (λ one. omega (arith, ap length (Memᴰ.eq_of_singleton one)))
                (Memᴰ.append_cases taken.chunks member);
            counted = simp length-append (omega (arith, taken.counted));
            answers =
                rw (joined-more taken.chunks bytes, written-append answer start (joined taken.chunks) bytes)
                (ap₂ ◌++◌ taken.answers (next.answers _ was.remembers));
          }

      pub carried_then : (read : List ℕ) → take (length bytes) read ≡ bytes
          → Carried answer (turns - 1) read r'
      unfolding taken_then
      carried_then read front =
          let before = was.taken.chunks in
          record {
            taken = taken_then;
            remembers =
                rw (joined-more before bytes, after-append start (joined before) bytes) (next.follows _ was.remembers);
            latest = rw (last_more before bytes) front;
          }

    -- the input ends, and what remains of it is answered
    pub ended-whole : {failed : Bool} {before out : List ℕ} {count : ℕ} → Wrote (last_line r) before out count
        → Ended answer turns count failed false out
    unfolding written_by joined
    ended-whole wrote =
        let input = joined was.taken.chunks in
        record {
          taken = was.taken;
          whole = λ fine read left.
              ap₂ ◌++◌ was.taken.answers (wrote_line wrote ∙ sym (ending_remembered _ was.remembers))
              ∙ any_chunks answer (input ∷ [])
              ∙ ap (output_of answer) (append-nil input);
          nothing_last = λ unread. absurd (false≢true unread);
        }

  -- it is over before: a write or a read failed, or no turn is left
  pub ended_before : {turns : ℕ} {failed unread : Bool} {out : List ℕ} → TakenIn answer turns
      → (failed ≡ false → unread ≡ false → 0 < turns → ⊥) → Ended answer turns 0 failed unread out
  ended_before taken early =
      record { taken = taken; whole = λ fine read left. absurd (early fine read left); nothing_last = λ unread. refl }
