-- Any calls from an opening, refusals and abandoned messages included: the ledger tells the numbers of the messages begun, the
-- newest message is the one in progress, and each has the bytes of the seal at once. Each call keeps all of that.
use mathlib.Core.Path.{◌≡◌, refl, sym, ap, ap₂, ◌∙◌, subst}
use mathlib.Core.Bool.{Bool, true, false, cond, false≢true, true≢false}
use mathlib.Core.List.{List, [], ◌∷◌, ◌++◌}
use Prim.Native.Nat.{ℕ, zero, suc, ◌+◌, ◌%◌, ◌≤◌}
use native.Mathlib.Omega.{arith}
use lib.Dec.{eqb}
use lib.ListN.{length, get_or, replicate, length-append}
use Rattle.answer.specs.Number.{if_done}
use Rattle.hash_field.specs.declared.Element.{Element}
use Rattle.hash_field.specs.Element.{value_of, element_of}
use Rattle.hash_field.proofs.ElementLaws.{value_element}
use Rattle.ledger.specs.History.{used_in, verdict_in}
use Rattle.ledger.specs.Ledger.{verdict_of, Tells}
use Rattle.ledger.proofs.HistoryLaws.{
  answers-stale,
  answers-used,
  answers-done,
  fresh_tells,
  verdict_tells,
  accept_tells,
}
use Rattle.mode.specs.Mode.{sealed_by, sealed}
use Rattle.rows.specs.Rows.{longest_text, ad_bad}
use Rattle.counter.proofs.CounterLaws.{crypted-nil}
use Rattle.channel_state.specs.declared.Channel.{Channel}
use Rattle.message.specs.declared.Message.{Message}
use Rattle.channel_state.specs.State.{
  with_message,
  dead_channel,
  busy,
  idle,
  cipher_of,
  opening_number,
  opening_of,
  new_channel,
  begin_number,
  begun_with,
  begin_of,
  feed_number,
  piece_of,
  message_with,
  feed_of,
  end_number,
  end_of,
  tag_out,
}
use Rattle.message.specs.Message.{no_message, message_after}
use Rattle.runs.specs.Run.{
  Call,
  begin,
  feed,
  finish,
  abandon,
  after,
  run,
  Sent,
  longer_by,
  sent_with,
  sent_after,
  messages,
  numbers_of,
  accepted,
  Newest,
  Every,
  Judged,
  Crypted,
  SealedWith,
}
use Rattle.channel_state.proofs.StateLaws.{begin-done, feed-done, end_done}
use Rattle.runs.proofs.MessageLaws.{ciphertext_in, Holds, begun-start, piece_behind, fed-more, unused_zero}
use Rattle.runs.proofs.CutLaws.{
  whichever,
  Kept,
  kept_all,
  kept_then,
  kept_message,
  kept_begun,
  ciphertext_kept,
  ciphertext_opened,
  tag-out,
}

-- the newest message is the one in progress, if any is
abbrev Current : Channel → List Sent → Type 0
Current c [] = eqb c.message.phase 0 ≡ true
Current c (m ∷ sent) = eqb c.message.phase 0 ≡ false → Holds c m.number m.ad m.text

-- the bytes of a message are the ciphertext of its text, under c's key and mark
abbrev CryptedIn : Channel → Sent → Type 0
CryptedIn c m = m.bytes ≡ ciphertext_in c m.number m.text

-- its text is within the limit
abbrev pub Short : Sent → Type 0
Short m = length m.text ≤ longest_text

-- no number is there twice
abbrev pub Once : List Sent → Type 0
Once [] = Unit
Once (m ∷ sent) = (used_in (numbers_of sent) m.number ≡ false) × Once sent

-- the two halves of an element follow from its value
abbrev pub Halved : Element → Type 0
Halved e = e ≡ element_of (value_of e)

pub halved : (n : ℕ) → Halved (element_of n)
halved n = ap element_of (sym (value_element n))

-- what holds of a channel and its messages after any calls
pub record Going (start c : Channel) (sent : List Sent) : Type 0 where
  pub kept : Kept start c
  pub tells : Tells c.ledger (numbers_of sent)
  pub newest : Current c sent
  pub halves : Halved c.message.sum
  pub quiet : eqb c.message.phase 0 ≡ true → c.message ≡ no_message
  pub bytes : Every (CryptedIn start) sent
  pub short : Every Short sent
  pub once : Once sent

-- ---- each call keeps it

begun_going : (start c : Channel) (sent : List Sent) (n : ℕ) (ad : List ℕ) → Going start c sent
    → begin_number c n (length ad) ≡ 0
    → Going start (begun_with c n ad) (record { number = n; ad = ad; text = []; bytes = [] } ∷ sent)
unfolding begun_with numbers_of
begun_going start c sent n ad g e =
    let verdict = sym (verdict_tells n g.tells) ∙ (begin-done c n (length ad) e).3 in
    record {
      kept = kept_then g.kept (kept_begun c n ad);
      tells = accept_tells n g.tells;
      newest = λ phase. begun-start c n ad e;
      halves = halved _;
      quiet = λ phase. absurd (false≢true phase);
      bytes = (sym (crypted-nil (cipher_of start) _), g.bytes);
      short = (omega arith, g.short);
      once = (((answers-done (numbers_of sent) n).0 verdict).1, g.once);
    }

fed_going : (start c : Channel) (sent : List Sent) (piece : List ℕ) (room : ℕ) → Going start c sent
    → feed_number c (length piece) room ≡ 0
    → Going start (with_message c (message_with c (piece_of c piece))) (longer_by piece (piece_of c piece) sent)
unfolding longer_by message_after numbers_of
fed_going start c [] piece room g e = absurd (true≢false (sym g.newest ∙ (feed-done c (length piece) room e).1))
fed_going start c (m ∷ sent) piece room g e =
    let done = feed-done c (length piece) room e in
    let holds = g.newest done.1 in
    let size : c.message.text ≡ length m.text = holds.text in
    let fits : c.message.text + length piece ≤ longest_text = done.2 in
    let all : length (m.text ++ piece) ≡ length m.text + length piece = length-append m.text piece in
    record {
      kept = kept_then g.kept (kept_message c (message_with c (piece_of c piece)));
      tells = g.tells;
      quiet = λ phase. absurd (false≢true (sym done.1 ∙ phase));
      newest = λ phase. fed-more c m.number m.ad m.text piece holds;
      halves = halved _;
      bytes = (
        ap (λ (s : List ℕ). s ++ piece_of c piece) (g.bytes.0 ∙ sym (ciphertext_kept g.kept m.number m.text))
            ∙ sym (piece_behind c m.number m.ad m.text piece holds)
            ∙ ciphertext_kept g.kept m.number (m.text ++ piece),
        g.bytes.1,
      );
      short = (omega arith, g.short.1);
      once = g.once;
    }

ended_newest : (c : Channel) (sent : List Sent) → Current (with_message c no_message) sent
ended_newest c [] = refl
ended_newest c (m ∷ sent) = λ phase. absurd (true≢false phase)

ended_going : (start c : Channel) (sent : List Sent) → Going start c sent → Going start (with_message c no_message) sent
unfolding value_of element_of
ended_going start c sent g =
    record {
      kept = kept_then g.kept (kept_message c no_message);
      tells = g.tells;
      newest = ended_newest c sent;
      halves = refl;
      quiet = λ phase. refl;
      bytes = g.bytes;
      short = g.short;
      once = g.once;
    }

either_going : (k : ℕ) {start c d : Channel} {sent more : List Sent} → (k ≡ 0 → Going start d more) → Going start c sent
    → Going start (if_done k d c) (if_done k more sent)
either_going zero done g = done refl
either_going (suc k) done g = g

after_going : (start c : Channel) (sent : List Sent) (call : Call) → Going start c sent
    → Going start (after c call) (sent_with c sent call)
unfolding after sent_with begin_of feed_of end_of
after_going start c sent (begin n ad) g =
    either_going (begin_number c n (length ad)) (begun_going start c sent n ad g) g
after_going start c sent (feed piece room) g =
    either_going (feed_number c (length piece) room) (fed_going start c sent piece room g) g
after_going start c sent finish g =
    whichever (λ (d : Channel). Going start d sent) (end_number c) _ c (ended_going start c sent g) g
after_going start c sent abandon g =
    whichever (λ (d : Channel). Going start d sent) (end_number c) _ c (ended_going start c sent g) g

run_going : (start c : Channel) (sent : List Sent) (calls : List Call) → Going start c sent
    → Going start (run c calls) (sent_after c sent calls)
unfolding run sent_after
run_going start c sent [] g = g
run_going start c sent (call ∷ calls) g =
    run_going start (after c call) (sent_with c sent call) calls (after_going start c sent call g)

-- All of it holds after any calls on a new channel.
pub going : (key mark : List ℕ) (t : ℕ) (calls : List Call)
    → Going (new_channel key mark t) (run (new_channel key mark t) calls) (messages (new_channel key mark t) calls)
unfolding new_channel numbers_of value_of element_of
going key mark t calls =
    let c = new_channel key mark t in
    run_going c c [] calls
    (record {
      kept = kept_all c;
      tells = fresh_tells;
      newest = refl;
      halves = refl;
      quiet = λ phase. refl;
      bytes = tt;
      short = tt;
      once = tt;
    })

-- ---- the message in progress

-- the newest message is the one in progress
pub record InProgress (start c : Channel) (sent : List Sent) : Type 0 where
  pub message : Sent
  pub older : List Sent
  pub newest : sent ≡ message ∷ older
  pub holds : Holds c message.number message.ad message.text
  pub halves : Halved c.message.sum
  pub bytes : CryptedIn start message
  pub short : Short message

-- While a message is open, there is a newest one, and the channel holds it.
in_progress : {start c : Channel} (sent : List Sent) → Going start c sent → eqb c.message.phase 0 ≡ false
    → InProgress start c sent
in_progress [] g active = absurd (true≢false (sym g.newest ∙ active))
in_progress (m ∷ older) g active =
    record {
      message = m;
      older = older;
      newest = refl;
      holds = g.newest active;
      halves = g.halves;
      bytes = g.bytes.0;
      short = g.short.0;
    }

-- So after any calls on a new channel.
pub open_message : (key mark : List ℕ) (t : ℕ) (calls : List Call)
    → eqb (run (new_channel key mark t) calls).message.phase 0 ≡ false
    → InProgress (new_channel key mark t) (run (new_channel key mark t) calls) (messages (new_channel key mark t) calls)
open_message key mark t calls = in_progress (messages (new_channel key mark t) calls) (going key mark t calls)

-- ---- the numbers

-- After any calls the ledger tells the numbers accepted.
pub run_tells : (key mark : List ℕ) (t : ℕ) (calls : List Call)
    → Tells (run (new_channel key mark t) calls).ledger (accepted (new_channel key mark t) calls)
run_tells key mark t calls = (going key mark t calls).tells

-- At any point of any calls from an opening, a begin that passes phase and length checks answers 10 exactly when some accepted
-- number is 128 or more above its own, 11 exactly when not stale and accepted before, else 0.
pub begin_exactly : (key mark : List ℕ) (t : ℕ) (calls : List Call) (n ad : ℕ)
    → busy (run (new_channel key mark t) calls) ≡ false
    → ad_bad ad ≡ false
    → Judged (accepted (new_channel key mark t) calls) n (begin_number (run (new_channel key mark t) calls) n ad)
unfolding begin_number
begin_exactly key mark t calls n ad free fits =
    let h = accepted (new_channel key mark t) calls in
    subst (Judged h n) (sym verdict)
    (record { stale = answers-stale h n; used = answers-used h n; done = answers-done h n })
  where
    verdict : begin_number (run (new_channel key mark t) calls) n ad ≡ verdict_in (accepted (new_channel key mark t) calls) n
    verdict =
        let c = run (new_channel key mark t) calls in
        ap (λ (b : Bool). cond b 9 (cond (ad_bad ad) 4 (verdict_of c.ledger n))) free
        ∙ ap (λ (b : Bool). cond b 4 (verdict_of c.ledger n)) fits
        ∙ verdict_tells n (run_tells key mark t calls)

-- ---- the bytes

-- The bytes of a message are the ciphertext of its text under the opened key.
pub crypted-opened : (key mark : List ℕ) (t : ℕ) → opening_number (length key) t ≡ 0 → (m : Sent) → CryptedIn (new_channel key mark t) m
    → Crypted key mark m
crypted-opened key mark t opened m is =
    let start = new_channel key mark t in
    is ∙ ciphertext_opened key mark t opened start (kept_all start) m.number m.text

-- In each message, also one abandoned or still open, the bytes written are the ciphertext of the text fed.
pub messages-crypted : (key mark : List ℕ) (t : ℕ) → opening_number (length key) t ≡ 0 → (calls : List Call)
    → Every (Crypted key mark) (messages (new_channel key mark t) calls)
messages-crypted key mark t opened calls = go (messages (new_channel key mark t) calls) (going key mark t calls).bytes
  where
    go : (sent : List Sent) → Every (CryptedIn (new_channel key mark t)) sent → Every (Crypted key mark) sent
    go [] b = tt
    go (m ∷ sent) b = (crypted-opened key mark t opened m b.0, go sent b.1)

-- At any point of any calls from an opening where finish answers 0, the bytes written for the newest message, followed by
-- finish's tag cut to the tag length, are the seal at once of the text fed to it.
pub finish-sealed : (key mark : List ℕ) (t : ℕ) → opening_number (length key) t ≡ 0 → (calls : List Call)
    → end_number (run (new_channel key mark t) calls) ≡ 0
    → Newest (SealedWith key mark t (tag_out (run (new_channel key mark t) calls))) (messages (new_channel key mark t) calls)
unfolding sealed sealed_by
finish-sealed key mark t opened calls e =
    let c = run (new_channel key mark t) calls in
    let now = open_message key mark t calls (end_done c e).1 in
    let m = now.message in
    let kept = (going key mark t calls).kept in
    subst (Newest (SealedWith key mark t (tag_out c))) (sym now.newest)
    (ap₂ (λ (s tag : List ℕ). s ++ tag) (crypted-opened key mark t opened m now.bytes)
    (tag-out key mark t opened c kept m.number m.ad m.text now.holds))

-- ---- the fields at rest

-- At any point of any calls from an opening where no message is open, every message field is zero.
pub rest-zero : (key mark : List ℕ) (t : ℕ) (calls : List Call)
    → eqb (run (new_channel key mark t) calls).message.phase 0 ≡ true
    → (run (new_channel key mark t) calls).message ≡ no_message
rest-zero key mark t calls = (going key mark t calls).quiet

zeros : (n i : ℕ) → get_or {A = ℕ} (replicate n 0) i 0 ≡ 0
zeros zero i = refl
zeros (suc n) zero = refl
zeros (suc n) (suc i) = zeros n i

-- At any point of any calls from an opening the unused bytes of the part block are zero.
pub part-zero : (key mark : List ℕ) (t : ℕ) (calls : List Call) (i : ℕ)
    → (run (new_channel key mark t) calls).message.text % 16 ≤ i
    → get_or (run (new_channel key mark t) calls).message.part i 0 ≡ 0
part-zero key mark t calls i unused = go (eqb c.message.phase 0) refl
  where
    c : Channel
    c = run (new_channel key mark t) calls

    go : (b : Bool) → eqb (run (new_channel key mark t) calls).message.phase 0 ≡ b
        → get_or (run (new_channel key mark t) calls).message.part i 0 ≡ 0
    go true e = ap (λ (m : Message). get_or m.part i 0) (rest-zero key mark t calls e) ∙ zeros 16 i
    go false e = unused_zero c _ _ _ (open_message key mark t calls e).holds i unused

-- ---- a refused opening

-- An opening that answers 0 hands back the new channel,
pub opening_new : (key mark : List ℕ) (t : ℕ) → opening_number (length key) t ≡ 0 → opening_of key mark t ≡ new_channel key mark t
unfolding opening_of
opening_new key mark t e = ap (λ (k : ℕ). if_done k (new_channel key mark t) dead_channel) e

dead_after : (call : Call) → after dead_channel call ≡ dead_channel
unfolding after begin_of begin_number busy feed_of feed_number end_of end_number idle
dead_after (begin n ad) = refl
dead_after (feed piece room) = refl
dead_after finish = refl
dead_after abandon = refl

-- and a dead channel stays dead, whatever is called, and has no messages.
pub dead_run : (calls : List Call) → run dead_channel calls ≡ dead_channel
unfolding run
dead_run [] = refl
dead_run (call ∷ calls) = ap (λ (c : Channel). run c calls) (dead_after call) ∙ dead_run calls

dead_sent : (call : Call) → sent_with dead_channel [] call ≡ []
unfolding sent_with begin_number busy feed_number idle
dead_sent (begin n ad) = refl
dead_sent (feed piece room) = refl
dead_sent finish = refl
dead_sent abandon = refl

pub dead_messages : (calls : List Call) → messages dead_channel calls ≡ []
unfolding sent_after
dead_messages [] = refl
dead_messages (call ∷ calls) =
    ap₂ (λ (c : Channel) (sent : List Sent). sent_after c sent calls) (dead_after call) (dead_sent call) ∙ dead_messages calls
