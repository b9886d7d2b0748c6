-- A text cut into pieces, under a channel's key from its opening to its finish: no call changes key, mark or tag length, and the
-- pieces' ciphertext is the whole text's, piece by piece.
use mathlib.Core.Path.{◌≡◌, refl, sym, ap, ap₂, ◌∙◌, subst}
use mathlib.Core.Bool.{Bool, true, false, not, cond, ◌&&◌, true≢false}
use mathlib.Core.List.{List, [], ◌∷◌, ◌++◌, append_assoc, append-nil}
use Prim.Native.Nat.{ℕ, zero, suc, ◌+◌, ◌/◌, ◌≤◌}
use native.Mathlib.Omega.{arith}
use borrow.Author.Tests.{ltb-false, le-ltb, eqb-true}
use lib.Dec.{eqb, ltb}
use lib.ListN.{length, take, drop, replicate, length-append}
use lib.Seq.{length-take-le}
use Rattle.answer.specs.Number.{if_done}
use Rattle.schedule.specs.Schedule.{round_keys}
use Rattle.aes.specs.Cipher.{enciphered_by, enciphered}
use Rattle.hash_field.specs.Element.{value_of}
use Rattle.hash_field.proofs.ElementLaws.{value_element}
use Rattle.mode.specs.Mode.{hash_key, first_block, tag_by, whole_tag, sealed_by, sealed}
use Rattle.counter.specs.Counter.{crypted}
use Rattle.rows.specs.Rows.{longest_text, key_bad, tag_bad, text_bad, too_short}
use Rattle.counter.proofs.CounterLaws.{crypted-nil}
use Rattle.mode.proofs.ModeLaws.{length-tag}
use Rattle.channel_state.specs.declared.Channel.{Channel}
use Rattle.message.specs.declared.Message.{Message}
use Rattle.pieces.specs.Piece.{iv_of, sixteen}
use Rattle.channel_state.specs.State.{
  with_message,
  cipher_of,
  key_of,
  opening_number,
  new_channel,
  begin_number,
  begun_with,
  begin_of,
  feed_number,
  piece_of,
  message_with,
  feed_of,
  feed_out,
  end_number,
  end_of,
  message_tag,
  tag_out,
}
use Rattle.message.specs.Message.{no_message}
use Rattle.runs.specs.Run.{
  Call,
  begin,
  feed,
  finish,
  abandon,
  after,
  run,
  wrote,
  written,
  Piece,
  feeds,
  text_of,
  Roomy,
}
use Rattle.pieces.proofs.HeldLaws.{sixteen-take}
use Rattle.channel_state.proofs.StateLaws.{past, neither, piece_size}
use Rattle.runs.proofs.MessageLaws.{
  ciphertext_in,
  Holds,
  held_open,
  begun_holds,
  piece_behind,
  fed_holds,
  finish-tag,
}

-- What is so of both is so of the one that a number picks.
pub whichever : {A : Type 0} (P : A → Type 0) (number : ℕ) (a b : A) → P a → P b → P (if_done number a b)
whichever P zero a b of-a of-b = of-a
whichever P (suc n) a b of-a of-b = of-b

-- ---- what no call changes

pub record Kept (c d : Channel) : Type 0 where
  pub words : d.words ≡ c.words
  pub h : d.h ≡ c.h
  pub mark : d.mark ≡ c.mark
  pub rounds : d.rounds ≡ c.rounds
  pub tag : d.tag ≡ c.tag

pub kept_all : (c : Channel) → Kept c c
kept_all c = record { words = refl; h = refl; mark = refl; rounds = refl; tag = refl }

pub kept_then : {c d e : Channel} → Kept c d → Kept d e → Kept c e
kept_then k l =
    record {
      words = l.words ∙ k.words;
      h = l.h ∙ k.h;
      mark = l.mark ∙ k.mark;
      rounds = l.rounds ∙ k.rounds;
      tag = l.tag ∙ k.tag;
    }

pub kept_message : (c : Channel) (m : Message) → Kept c (with_message c m)
kept_message c m = record { words = refl; h = refl; mark = refl; rounds = refl; tag = refl }

pub kept_begun : (c : Channel) (n : ℕ) (ad : List ℕ) → Kept c (begun_with c n ad)
unfolding begun_with
kept_begun c n ad = record { words = refl; h = refl; mark = refl; rounds = refl; tag = refl }

-- No call changes a channel's key, mark or tag length,
after_keeps : (c : Channel) (call : Call) → Kept c (after c call)
unfolding after begin_of feed_of end_of
after_keeps c (begin n ad) = whichever (Kept c) (begin_number c n (length ad)) _ c (kept_begun c n ad) (kept_all c)
after_keeps c (feed piece room) =
    whichever (Kept c) (feed_number c (length piece) room) _ c (kept_message c (message_with c (piece_of c piece))) (kept_all c)
after_keeps c finish = whichever (Kept c) (end_number c) _ c (kept_message c no_message) (kept_all c)
after_keeps c abandon = whichever (Kept c) (end_number c) _ c (kept_message c no_message) (kept_all c)

-- and no list of calls does.
pub run_keeps : (c : Channel) (calls : List Call) → Kept c (run c calls)
unfolding run
run_keeps c [] = kept_all c
run_keeps c (call ∷ calls) = kept_then (after_keeps c call) (run_keeps (after c call) calls)

cipher_kept : {c d : Channel} → Kept c d → cipher_of d ≡ cipher_of c
cipher_kept k =
    ap₂ (λ (w : List ℕ) (r : ℕ). enciphered_by w (cond (eqb r 14) 14 10)) k.words k.rounds

-- The ciphertext of a text is the same under both.
pub ciphertext_kept : {c d : Channel} → Kept c d → (n : ℕ) (x : List ℕ) → ciphertext_in d n x ≡ ciphertext_in c n x
ciphertext_kept {c} {d} k n x =
    ap (λ (e : List ℕ → List ℕ). crypted e (first_block (key_of d) (iv_of d.mark n)) x) (cipher_kept k)
    ∙ ap₂ (λ (h : ℕ) (m : List ℕ). crypted (cipher_of c) (first_block h (iv_of m n)) x) (ap value_of k.h) k.mark

-- ---- a message that is held

-- Finish answers 0,
pub finish-done : (c : Channel) (n : ℕ) (ad x : List ℕ) → Holds c n ad x → end_number c ≡ 0
unfolding end_number
finish-done c n ad x m = ap (λ (b : Bool). cond b 9 0) (held_open c n ad x m)

-- and a piece with room enough, where no text is too long, is not refused.
pub feed-taken : (c : Channel) (n : ℕ) (ad x piece : List ℕ) (room : ℕ) → Holds c n ad x → length piece ≤ room
    → length x + length piece ≤ longest_text
    → feed_number c (length piece) room ≡ 0
unfolding feed_number
feed-taken c n ad x piece room m enough fits =
    let size = m.text in
    ap (λ (b : Bool). cond b 9 (cond (text_bad (c.message.text + length piece)) 5 (cond (too_short room (length piece)) 7 0)))
    (held_open c n ad x m)
    ∙ ap₂ (λ (a b : Bool). cond a 5 (cond b 7 0)) (le-ltb longest_text (c.message.text + length piece) (omega arith))
    (le-ltb room (length piece) enough)

-- ---- the key of an opening that answers 0

rounds-of : (n : ℕ) → key_bad n ≡ false → cond (eqb (n / 4 + 6) 14) 14 10 ≡ n / 4 + 6
unfolding key_bad
rounds-of n e = go (eqb n 16) (eqb n 32) refl refl e
  where
    at : (m : ℕ) → n ≡ m → cond (eqb (m / 4 + 6) 14) 14 10 ≡ m / 4 + 6 → cond (eqb (n / 4 + 6) 14) 14 10 ≡ n / 4 + 6
    at m q = subst (λ (k : ℕ). cond (eqb (k / 4 + 6) 14) 14 10 ≡ k / 4 + 6) (sym q)

    go : (p q : Bool) → eqb n 16 ≡ p → eqb n 32 ≡ q → (not p && not q) ≡ false → cond (eqb (n / 4 + 6) 14) 14 10 ≡ n / 4 + 6
    go true q a b f = at 16 (eqb-true n 16 a) refl
    go false true a b f = at 32 (eqb-true n 32 b) refl
    go false false a b f = absurd (true≢false f)

module _ (key mark : List ℕ) (t : ℕ) (opened : opening_number (length key) t ≡ 0) where
  long_key : key_bad (length key) ≡ false
  unfolding opening_number
  long_key = (past 0 (key_bad (length key)) _ opened).0

  tag_fits : tag_bad t ≡ false
  unfolding opening_number
  tag_fits = (past 2 (tag_bad t) 0 (past 0 (key_bad (length key)) _ opened).1).0

  short_tag : t ≤ 16
  unfolding tag_bad
  short_tag = ltb-false 16 t (neither (ltb t 12) (ltb 16 t) tag_fits).1

  module _ (c : Channel) (k : Kept (new_channel key mark t) c) where
    -- An opened channel's cipher and hash key are those of its key, whatever was called.
    pub cipher_opened : cipher_of c ≡ enciphered key
    unfolding new_channel enciphered
    cipher_opened =
        cipher_kept k ∙ ap (enciphered_by (round_keys key)) (rounds-of (length key) long_key)

    pub key_opened : key_of c ≡ hash_key (enciphered key)
    unfolding new_channel
    key_opened = ap value_of k.h ∙ value_element (hash_key (enciphered key))

    mark-opened : c.mark ≡ mark
    unfolding new_channel
    mark-opened = k.mark

    tag-opened : c.tag ≡ t
    unfolding new_channel
    tag-opened = k.tag

    -- The first block of a message, and what stands for its text, are those of the seal at once.
    first_opened : (n : ℕ) → first_block (key_of c) (iv_of c.mark n) ≡ first_block (hash_key (enciphered key)) (iv_of mark n)
    first_opened n = ap₂ (λ (h : ℕ) (m : List ℕ). first_block h (iv_of m n)) key_opened mark-opened

    pub ciphertext_opened : (n : ℕ) (x : List ℕ)
        → ciphertext_in c n x ≡ crypted (enciphered key) (first_block (hash_key (enciphered key)) (iv_of mark n)) x
    ciphertext_opened n x = ap₂ (λ (e : List ℕ → List ℕ) (j : List ℕ). crypted e j x) cipher_opened (first_opened n)

    module _ (n : ℕ) (ad x : List ℕ) (m : Holds c n ad x) where
      whole-tag : message_tag c
          ≡ whole_tag (enciphered key) (first_block (hash_key (enciphered key)) (iv_of mark n)) ad
          (crypted (enciphered key) (first_block (hash_key (enciphered key)) (iv_of mark n)) x)
      unfolding whole_tag
      whole-tag =
          finish-tag c n ad x m
          ∙ ap₂ (λ (h : ℕ) (e : List ℕ → List ℕ). tag_by h e (first_block (key_of c) (iv_of c.mark n)) ad (ciphertext_in c n x))
          key_opened cipher_opened
          ∙ ap₂ (λ (j d : List ℕ). tag_by (hash_key (enciphered key)) (enciphered key) j ad d)
          (first_opened n) (ciphertext_opened n x)

      -- Finish gives the tag of the text so far, cut to the tag length.
      pub tag-out : take t (tag_out c)
          ≡ take t
          (whole_tag (enciphered key) (first_block (hash_key (enciphered key)) (iv_of mark n)) ad
          (crypted (enciphered key) (first_block (hash_key (enciphered key)) (iv_of mark n)) x))
      unfolding tag_out
      tag-out =
          let j = first_block (hash_key (enciphered key)) (iv_of mark n) in
          let tag = whole_tag (enciphered key) j ad (crypted (enciphered key) j x) in
          let size : length (take t tag) ≡ t =
          length-take-le t tag (rw (length-tag (enciphered key) j ad (crypted (enciphered key) j x)) short_tag) in
          ap (λ (k : ℕ). take t (if_done k (sixteen (take c.tag (message_tag c))) (replicate 16 0))) (finish-done c n ad x m)
          ∙ ap₂ (λ (k : ℕ) (s : List ℕ). take t (sixteen (take k s))) tag-opened whole-tag
          ∙ ap (λ (k : ℕ). take k (sixteen (take t tag))) (sym size)
          ∙ sixteen-take (take t tag) (rw size short_tag)

-- ---- the pieces

-- what feeding a list of pieces gives, where the text before them is x
pub record Cut (c : Channel) (n : ℕ) (ad x : List ℕ) (pieces : List Piece) : Type 0 where
  pub holds : Holds (run c (feeds pieces)) n ad (x ++ text_of pieces)
  pub bytes : ciphertext_in c n (x ++ text_of pieces) ≡ ciphertext_in c n x ++ written c (feeds pieces)

-- After each feed the bytes written so far are the leading ciphertext bytes of the text so far.
pub cut : (c : Channel) (n : ℕ) (ad x : List ℕ) (pieces : List Piece) → Holds c n ad x → Roomy pieces
    → length x + length (text_of pieces) ≤ longest_text
    → Cut c n ad x pieces
unfolding run feeds text_of Roomy written wrote after
cut c n ad x [] m roomy fits =
    record {
      holds = subst (λ (s : List ℕ). Holds c n ad s) (sym (append-nil x)) m;
      bytes = ap (ciphertext_in c n) (append-nil x) ∙ sym (append-nil (ciphertext_in c n x));
    }
cut c n ad x (p ∷ pieces) m roomy fits =
    let piece = p.text in
    let rest = text_of pieces in
    let all = length-append p.text (text_of pieces) in
    let front = length-append x p.text in
    let taken = feed-taken c n ad x piece p.room m roomy.0 (omega arith) in
    let next = feed_of c piece p.room in
    let more = fed_holds c n ad x piece p.room m taken in
    let then = cut next n ad (x ++ piece) pieces more roomy.1 (omega arith) in
    let kept = after_keeps c (feed piece p.room) in
    record {
      holds = subst (λ (s : List ℕ). Holds (run next (feeds pieces)) n ad s) (append_assoc x piece rest) then.holds;
      bytes =
          ap (ciphertext_in c n) (sym (append_assoc x piece rest))
          ∙ sym (ciphertext_kept kept n (x ++ piece ++ rest))
          ∙ then.bytes
          ∙ ap (λ (s : List ℕ). s ++ written next (feeds pieces))
          (ciphertext_kept kept n (x ++ piece) ∙ piece_behind c n ad x piece m)
          ∙ append_assoc (ciphertext_in c n x) (piece_of c piece) (written next (feeds pieces))
          ∙ ap (λ (k : ℕ). ciphertext_in c n x ++ (if_done k (piece_of c piece) [] ++ written next (feeds pieces))) (sym taken);
    }

-- The same of a message from its accepted begin.
pub all_cut : (c : Channel) (n : ℕ) (ad : List ℕ) → begin_number c n (length ad) ≡ 0 → (pieces : List Piece) → Roomy pieces
    → length (text_of pieces) ≤ longest_text
    → Cut (begin_of c n ad) n ad [] pieces
all_cut c n ad accepted pieces roomy fits =
    cut (begin_of c n ad) n ad [] pieces (begun_holds c n ad accepted) roomy (omega arith)

-- What a feed leaves in its output: the bytes that it writes, and behind them what stood there.
pub feed-writes : (c : Channel) (piece out : List ℕ)
    → feed_out c piece out
    ≡ wrote c (feed piece (length out)) ++ drop (length (wrote c (feed piece (length out)))) out
unfolding feed_out wrote
feed-writes c piece out = go (feed_number c (length piece) (length out))
  where
    go : (k : ℕ)
        → if_done k (piece_of c piece ++ drop (length piece) out) out
        ≡ if_done k (piece_of c piece) [] ++ drop (length (if_done k (piece_of c piece) [])) out
    go zero = ap (λ (n : ℕ). piece_of c piece ++ drop n out) (sym (piece_size c piece))
    go (suc k) = refl

module _ (key mark : List ℕ) (t : ℕ) (opened : opening_number (length key) t ≡ 0) (calls : List Call) where
  module _ (n : ℕ) (ad : List ℕ) (accepted : begin_number (run (new_channel key mark t) calls) n (length ad) ≡ 0) where
    kept_begin : Kept (new_channel key mark t) (begin_of (run (new_channel key mark t) calls) n ad)
    unfolding after
    kept_begin =
        let c = run (new_channel key mark t) calls in
        kept_then (run_keeps (new_channel key mark t) calls) (after_keeps c (begin n ad))

    module _ (cuts : List Piece) (roomy : Roomy cuts) (fits : length (text_of cuts) ≤ longest_text) where
      fed : Cut (begin_of (run (new_channel key mark t) calls) n ad) n ad [] cuts
      fed = all_cut (run (new_channel key mark t) calls) n ad accepted cuts roomy fits

      -- After each feed of a message begun in a channel that an opening and any calls gave, whatever follows, the bytes written
      -- so far are the leading ciphertext bytes of the text so far.
      pub so_far : written (begin_of (run (new_channel key mark t) calls) n ad) (feeds cuts)
          ≡ crypted (enciphered key) (first_block (hash_key (enciphered key)) (iv_of mark n)) (text_of cuts)
      so_far =
          let b = begin_of (run (new_channel key mark t) calls) n ad in
          let nothing : ciphertext_in b n [] ≡ [] = crypted-nil (cipher_of b) _ in
          sym (ap (λ (s : List ℕ). s ++ written b (feeds cuts)) nothing)
          ∙ sym fed.bytes
          ∙ ciphertext_opened key mark t opened b kept_begin n (text_of cuts)

      -- For any cut of a text into pieces, empty ones too, the outputs joined, followed by finish's tag cut to the tag length,
      -- are the seal at once of the whole text under the IV mark then number, the AD and the tag length.
      pub pieces : written (begin_of (run (new_channel key mark t) calls) n ad) (feeds cuts)
          ++ take t (tag_out (run (begin_of (run (new_channel key mark t) calls) n ad) (feeds cuts)))
          ≡ sealed (enciphered key) (iv_of mark n) ad t (text_of cuts)
      unfolding sealed sealed_by
      pieces =
          let b = begin_of (run (new_channel key mark t) calls) n ad in
          let d = run b (feeds cuts) in
          let kept = kept_then kept_begin (run_keeps b (feeds cuts)) in
          ap₂ (λ (s e : List ℕ). s ++ e) so_far
          (tag-out key mark t opened d kept n ad (text_of cuts) fed.holds)
