-- Demand 1, from the promises. An answer's number is the lowest row's, by cases over the facts of the rows, or 9 before them; and
-- what a call leaves is chosen by that number. For sealing and opening at once the rows are theorems of `gcm`.
use mathlib.Core.Path.{◌≡◌, refl, sym, ap, ◌∙◌, subst}
use mathlib.Core.Bool.{Bool, true, false, cond, false≢true, true≢false}
use mathlib.Core.List.{List, [], ◌++◌}
use Prim.Native.Nat.{ℕ, ◌+◌, ◌-◌, ◌≤◌}
use native.Mathlib.Omega.{arith}
use borrow.Author.Tests.{ltb-true, ltb-false}
use lib.Dec.{ltb}
use lib.ListN.{length, get_or, take, drop, length-append, length-take, length-drop, get_or-eq_default}
use lib.Seq.{drop_at}
use Rattle.std.specs.Prelude.{Result}
use Rattle.answer.specs.declared.Refusal.{Refusal}
use Rattle.answer.specs.Number.{number_of}
use Rattle.answer.specs.Values.{count_in}
use Rattle.answer.proofs.DoneLaws.{when_done, when_refused}
use Rattle.aes.specs.Cipher.{enciphered}
use Rattle.aes.proofs.CipherLaws.{enciphered-sixteen}
use Rattle.ledger.specs.History.{stale_in, used_in, answer_for, verdict_in}
use Rattle.ledger.proofs.HistoryLaws.{verdict_tells}
use Rattle.mode.specs.Mode.{sealed}
use Rattle.mode.proofs.ModeLaws.{length-sealed}
use Rattle.rows.specs.Rows.{key_bad, tag_bad, ad_bad, text_bad, too_short, lowest}
use Rattle.rows.proofs.RowsLaws.{lowest_exactly, lowest_none}
use Rattle.rows.proofs.LengthLaws.{seal_allows, open_allows}
use Rattle.gcm.specs.Promise.{seal_number, open_number}
use Rattle.gcm.proofs.Theorems.{
  seal_refused_exactly,
  seal_done_exactly,
  seal_determined,
  open_refused_exactly,
  open_done_exactly,
  open_determined,
  opens_to_the_text,
}
use Rattle.pieces.specs.Piece.{sixteen}
use Rattle.pieces.proofs.SixteenLaws.{sixteen_at, length-sixteen}
use Rattle.channel_state.specs.State.{
  busy,
  idle,
  opening_number,
  opening_of,
  begin_number,
  begin_of,
  feed_number,
  piece_of,
  feed_of,
  feed_out,
  end_number,
  end_of,
  message_tag,
  tag_out,
}
use Rattle.channel_state.proofs.StateLaws.{piece_size, feed-fits}
use Rattle.channel.proofs.DeterminedLaws.{
  opening_determined,
  begin_determined,
  feed_determined,
  finish_determined,
  abandon_determined,
}
use Rattle.claims.specs.Demand1.{
  ByRows,
  NineFirst,
  opening_rows,
  begin_rows,
  feed_rows,
  OnlyFront,
  SealAnswersByTheRows,
  OpenAnswersByTheRows,
  OpeningAnswersByTheRows,
  BeginAnswersByTheRows,
  FeedAnswersByTheRows,
  FinishAnswersByTheRows,
  AbandonAnswersByTheRows,
  DeadChannelAnswersNine,
  ResultsAreDetermined,
  DemandOne,
}

-- ---- the rows

by_rows : {A : Type 0} (rows : List Bool) (answer : Result A Refusal) → number_of answer ≡ lowest 1 rows → ByRows rows answer
by_rows rows answer is = (lowest_exactly rows is, lowest_none rows is)

-- 9 before the rows, where row 9 is not among them
nine_first : {A : Type 0} (wrong : Bool) (rows : List Bool) (answer : Result A Refusal) → get_or rows 8 false ≡ false
    → number_of answer ≡ cond wrong 9 (lowest 1 rows)
    → NineFirst wrong rows answer
nine_first true rows answer absent is = ((λ e. refl, λ e. is), λ passes. absurd (true≢false passes))
nine_first false rows answer absent is = (
  (
    λ e. absurd (false≢true (sym absent ∙ ((lowest_exactly rows is 9 (omega arith)).0 e).0)),
    λ e. absurd (false≢true e),
  ),
  λ passes. by_rows rows answer is,
)

opening_lowest : (key tag : ℕ) → opening_number key tag ≡ lowest 1 (opening_rows key tag)
unfolding opening_number lowest
opening_lowest key tag = go (key_bad key) (tag_bad tag) refl refl
  where
    go : (a b : Bool) → key_bad key ≡ a → tag_bad tag ≡ b
        → cond (key_bad key) 1 (cond (tag_bad tag) 3 0) ≡ lowest 1 (opening_rows key tag)
    go true b e f = rw e
    go false true e f = rw (e, f)
    go false false e f = rw (e, f)

begin-lowest : (ad : ℕ) (stale used : Bool) → cond (ad_bad ad) 4 (answer_for stale used) ≡ lowest 1 (begin_rows ad stale used)
unfolding lowest
begin-lowest ad stale used = go (ad_bad ad) stale used refl
  where
    go : (a s u : Bool) → ad_bad ad ≡ a → cond (ad_bad ad) 4 (answer_for s u) ≡ lowest 1 (begin_rows ad s u)
    go true s u e = rw e
    go false true u e = rw e
    go false false true e = rw e
    go false false false e = rw e

feed-lowest : (total piece room : ℕ)
    → cond (text_bad total) 5 (cond (too_short room piece) 7 0) ≡ lowest 1 (feed_rows total piece room)
unfolding lowest
feed-lowest total piece room = go (text_bad total) (too_short room piece) refl refl
  where
    go : (a b : Bool) → text_bad total ≡ a → too_short room piece ≡ b
        → cond (text_bad total) 5 (cond (too_short room piece) 7 0) ≡ lowest 1 (feed_rows total piece room)
    go true b e f = rw e
    go false true e f = rw (e, f)
    go false false e f = rw (e, f)

-- ---- done or refused

-- n bytes in front, what stood behind them, and a count of n
front : (n : ℕ) {count : ℕ} (written out : List ℕ) {left : List ℕ} → length written ≡ n → n ≤ length out → count ≡ n
    → left ≡ written ++ drop n out
    → (count ≡ n) × OnlyFront count out left
front n {count} written out {left} size room counts is =
    let whole : length (written ++ drop n out) ≡ length out =
    rw (length-append written (drop n out), length-drop n out, size) (omega arith) in
    let only : OnlyFront n out left = (room, ap length is ∙ whole, ap (drop n) is ∙ drop_at written (drop n out) n size) in
    (counts, subst (λ (k : ℕ). OnlyFront k out left) (sym counts) only)

-- the first bytes of a tag, and zeros past them
zero_past : (size : ℕ) (tag : List ℕ) (i : ℕ) → size ≤ i → get_or (sixteen (take size tag)) i 0 ≡ 0
zero_past size tag i past = go (ltb i 16) refl
  where
    go : (b : Bool) → ltb i 16 ≡ b → get_or (sixteen (take size tag)) i 0 ≡ 0
    go true e =
        let long = length-take size tag in
        sixteen_at (take size tag) i (ltb-true i 16 e) ∙ get_or-eq_default (take size tag) 0 (omega arith)
    go false e =
        let long = length-sixteen (take size tag) in
        let beyond = ltb-false i 16 e in
        get_or-eq_default (sixteen (take size tag)) 0 (omega arith)

-- ---- the calls

pub seal_answers_by_the_rows : SealAnswersByTheRows
unfolding seal_number
seal_answers_by_the_rows key iv ad text t out r left kept = (
  (seal_refused_exactly key iv ad text t out kept, seal_done_exactly key iv ad text t out kept),
  λ done.
      let e = enciphered key in
      let n = length text + t in
      let clear : seal_number key iv ad text t out ≡ 0 = sym kept.answer ∙ done in
      let allowed =
      seal_allows (length key) (length iv) (length ad) (length text) t (length out) clear in
      let size = length-sealed e (enciphered-sixteen key) iv ad t text allowed.0.rest.long_tag in
      front n (sealed e iv ad t text) out size allowed.1 (kept.count ∙ when_done n 0 clear)
      (kept.bytes ∙ when_done _ out clear),
  λ refused. (
    kept.count ∙ when_refused _ _ _ kept.answer refused,
    kept.bytes ∙ when_refused _ _ _ kept.answer refused,
  ),
)

pub open_answers_by_the_rows : OpenAnswersByTheRows
unfolding open_number
open_answers_by_the_rows key iv ad s t out r left kept = (
  (open_refused_exactly key iv ad s t out kept, open_done_exactly key iv ad s t out kept),
  λ done.
      let n = length s - t in
      let clear : open_number key iv ad s t out ≡ 0 = sym kept.answer ∙ done in
      let allowed = open_allows (length key) (length iv) (length ad) (length s) t (length out) _ clear in
      let opens = opens_to_the_text key iv ad s t out kept done in
      let count : count_in r ≡ length s - t = kept.count ∙ when_done n 0 clear in
      let size : length opens.0 ≡ length s - t = sym opens.3 ∙ count in
      front n opens.0 out size allowed.1.1 count (opens.4 ∙ ap (λ (k : ℕ). opens.0 ++ drop k out) size),
  λ refused. (
    kept.count ∙ when_refused _ _ _ kept.answer refused,
    kept.bytes ∙ when_refused _ _ _ kept.answer refused,
  ),
)

pub opening_answers_by_the_rows : OpeningAnswersByTheRows
unfolding opening_of
opening_answers_by_the_rows key mark t r kept = (
  by_rows (opening_rows (length key) t) r.answer (kept.answer ∙ opening_lowest (length key) t),
  λ done. kept.channel ∙ when_done _ _ (sym kept.answer ∙ done),
  λ refused. kept.channel ∙ when_refused _ _ _ kept.answer refused,
)

pub begin_answers_by_the_rows : BeginAnswersByTheRows
unfolding begin_number verdict_in begin_of
begin_answers_by_the_rows c history tells n ad r kept =
    let stale = stale_in history n in
    let used = used_in history n in (
      nine_first (busy c) (begin_rows (length ad) stale used) r.answer refl
          (kept.answer
          ∙ ap (λ (verdict : ℕ). cond (busy c) 9 (cond (ad_bad (length ad)) 4 verdict)) (verdict_tells n tells)
          ∙ ap (cond (busy c) 9) (begin-lowest (length ad) stale used)),
      λ done. kept.channel ∙ when_done _ _ (sym kept.answer ∙ done),
      λ refused. kept.channel ∙ when_refused _ _ _ kept.answer refused,
    )

pub feed_answers_by_the_rows : FeedAnswersByTheRows
unfolding feed_number feed_of feed_out
feed_answers_by_the_rows c piece out r left kept =
    let n = length piece in
    let total = c.message.text + length piece in (
      nine_first (idle c) (feed_rows total n (length out)) r.answer refl
          (kept.answer ∙ ap (cond (idle c) 9) (feed-lowest total n (length out))),
      λ done.
          let clear : feed_number c (length piece) (length out) ≡ 0 = sym kept.answer ∙ done in
          let room = (feed-fits c n (length out) clear).1 in
          front n (piece_of c piece) out (piece_size c piece) room (kept.count ∙ when_done n 0 clear)
          (kept.bytes ∙ when_done _ out clear),
      λ refused. (
        kept.channel ∙ when_refused _ _ _ kept.answer refused,
        kept.count ∙ when_refused _ _ _ kept.answer refused,
        kept.bytes ∙ when_refused _ _ _ kept.answer refused,
      ),
    )

pub finish_answers_by_the_rows : FinishAnswersByTheRows
unfolding end_number lowest end_of tag_out
finish_answers_by_the_rows c r kept = (
  nine_first (idle c) [] r.answer refl kept.answer,
  λ done.
      let clear : end_number c ≡ 0 = sym kept.answer ∙ done in (
        kept.channel ∙ when_done _ _ clear,
        λ i past.
            ap (λ (s : List ℕ). get_or s i 0) (kept.tag ∙ when_done _ _ clear)
            ∙ zero_past c.tag (message_tag c) i past,
      ),
  λ refused. (
    kept.channel ∙ when_refused _ _ _ kept.answer refused,
    kept.tag ∙ when_refused _ _ _ kept.answer refused,
  ),
)

pub abandon_answers_by_the_rows : AbandonAnswersByTheRows
unfolding end_number lowest end_of
abandon_answers_by_the_rows c r kept = (
  nine_first (idle c) [] r.answer refl kept.answer,
  λ done. kept.channel ∙ when_done _ _ (sym kept.answer ∙ done),
  λ refused. kept.channel ∙ when_refused _ _ _ kept.answer refused,
)

pub dead_channel_answers_nine : DeadChannelAnswersNine
unfolding begin_number busy feed_number end_number idle
dead_channel_answers_nine =
    record {
      begins = λ n ad r kept. kept.answer;
      feeds = λ piece out r left kept. kept.answer;
      finishes = λ r kept. kept.answer;
      abandons = λ r kept. kept.answer;
    }

pub results_are_determined : ResultsAreDetermined
results_are_determined =
    record {
      seals = λ key iv ad text t out r r' left left' one two. seal_determined key iv ad text t out one two;
      opens = λ key iv ad s t out r r' left left' one two. open_determined key iv ad s t out one two;
      openings = λ key mark t r r' one two. opening_determined key mark t one two;
      begins = λ c n ad r r' one two. begin_determined c n ad one two;
      feeds = λ c piece out r r' left left' one two. feed_determined c piece out one two;
      finishes = λ c r r' one two. finish_determined c one two;
      abandons = λ c r r' one two. abandon_determined c one two;
    }

-- ---- the demand

pub demand_one : DemandOne
demand_one =
    record {
      seals = seal_answers_by_the_rows;
      opens = open_answers_by_the_rows;
      openings = opening_answers_by_the_rows;
      begins = begin_answers_by_the_rows;
      feeds = feed_answers_by_the_rows;
      finishes = finish_answers_by_the_rows;
      abandons = abandon_answers_by_the_rows;
      dead-channel = dead_channel_answers_nine;
      results = results_are_determined;
    }
