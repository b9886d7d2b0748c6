-- A ledger that tells a history gives the whole history's verdict on every number, and accepting a number keeps it telling. Above
-- the highest number nothing was accepted; a shift brings the mark of each number to its new place; one mark is set.
use mathlib.Core.Path.{◌≡◌, refl, sym, ap, ap₂, ◌∙◌, subst}
use mathlib.Core.Bool.{Bool, true, false, ◌||◌, cond, or_comm, false≢true, true≢false}
use mathlib.Core.List.{List, [], ◌∷◌}
use mathlib.Core.Logic.{◌↔◌}
use Prim.Native.Nat.{ℕ, ◌+◌, ◌-◌, ◌*◌, ◌%◌, ◌^◌, ◌<◌, ◌≤◌, max}
use native.Mathlib.Omega.{arith}
use borrow.Author.Tests.{ltb-true, ltb-false, leb-true, leb-false, le-leb, lt-leb, eqb-true, eqb-false, eq-eqb, ne_eqb}
use lib.Bits.{bit_or}
use lib.Dec.{eqb, leb, ltb}
use Rattle.ledger.specs.declared.Ledger.{Ledger}
use Rattle.ledger.specs.History.{reach, stale_in, used_in, answer_for, verdict_in, highest_of}
use Rattle.ledger.specs.Ledger.{fresh_ledger, window_of, ledger_of, mark_at, with_mark, shifted_by}
use Rattle.ledger.specs.Ledger.{raised_to, marked_at, accepted_by, verdict_of, Tells}
use Rattle.ledger.proofs.MarkLaws.{mark_none, mark-cut, mark_up, mark_emptied, mark_or, mark_power}
use Rattle.ledger.proofs.WindowLaws.{window_ledger}

-- ---- histories

either_leb : (n a b : ℕ) → (leb n a || leb n b) ≡ leb n (max a b)
either_leb n a b = go (leb n a) (leb n b) refl refl
  where
    go : (p q : Bool) → leb n a ≡ p → leb n b ≡ q → (p || q) ≡ leb n (max a b)
    go true q e f = let over = leb-true n a e in sym (le-leb n (max a b) (omega arith))
    go false true e f = let over = leb-true n b f in sym (le-leb n (max a b) (omega arith))
    go false false e f =
        let under = leb-false n a e in
        let under-too = leb-false n b f in
        sym (lt-leb n (max a b) (omega arith))

-- A number is stale where the highest accepted number minus this one is 128 or more.
pub stale-highest : (h : List ℕ) (n : ℕ) → stale_in h n ≡ leb (n + reach) (highest_of h)
unfolding stale_in highest_of
stale-highest [] n = sym (lt-leb (n + reach) 0 (omega arith))
stale-highest (a ∷ h) n =
    ap (λ (b : Bool). leb (n + reach) a || b) (stale-highest h n) ∙ either_leb (n + reach) a (highest_of h)

-- Above the highest accepted number none was accepted.
pub unused_above : (h : List ℕ) (n : ℕ) → highest_of h < n → used_in h n ≡ false
unfolding used_in highest_of
unused_above [] n above = refl
unused_above (a ∷ h) n above =
    ap₂ ◌||◌ (ne_eqb a n (λ e. omega arith)) (unused_above h n (omega arith))

-- Answer 10 is given exactly when the number is stale,
pub answers-stale : (h : List ℕ) (n : ℕ) → (verdict_in h n ≡ 10) ↔ (stale_in h n ≡ true)
unfolding verdict_in
answers-stale h n = go (stale_in h n) (used_in h n)
  where
    go : (s u : Bool) → (answer_for s u ≡ 10) ↔ (s ≡ true)
    go true u = (λ e. refl, λ e. refl)
    go false true = (λ e. absurd (omega arith), λ e. absurd (false≢true e))
    go false false = (λ e. absurd (omega arith), λ e. absurd (false≢true e))

-- answer 11 when it is not stale, and was accepted before,
pub answers-used : (h : List ℕ) (n : ℕ) → (verdict_in h n ≡ 11) ↔ ((stale_in h n ≡ false) × (used_in h n ≡ true))
unfolding verdict_in
answers-used h n = go (stale_in h n) (used_in h n)
  where
    go : (s u : Bool) → (answer_for s u ≡ 11) ↔ ((s ≡ false) × (u ≡ true))
    go true u = (λ e. absurd (omega arith), λ e. absurd (true≢false e.0))
    go false true = (λ e. (refl, refl), λ e. refl)
    go false false = (λ e. absurd (omega arith), λ e. absurd (false≢true e.1))

-- and 0 when it is neither: no number is accepted twice.
pub answers-done : (h : List ℕ) (n : ℕ) → (verdict_in h n ≡ 0) ↔ ((stale_in h n ≡ false) × (used_in h n ≡ false))
unfolding verdict_in
answers-done h n = go (stale_in h n) (used_in h n)
  where
    go : (s u : Bool) → (answer_for s u ≡ 0) ↔ ((s ≡ false) × (u ≡ false))
    go true u = (λ e. absurd (omega arith), λ e. absurd (true≢false e.0))
    go false true = (λ e. absurd (omega arith), λ e. absurd (true≢false e.1))
    go false false = (λ e. (refl, refl), λ e. refl)

-- ---- a ledger that tells

-- The fresh ledger tells the empty history.
pub fresh_tells : Tells fresh_ledger []
unfolding highest_of window_of used_in
fresh_tells = record { highest = refl; marks = λ d below within. mark_none d }

-- The verdict of a ledger that tells a history is what the whole history says.
pub verdict_tells : {l : Ledger} {h : List ℕ} (n : ℕ) → Tells l h → verdict_of l n ≡ verdict_in h n
unfolding verdict_of verdict_in
verdict_tells {l} {h} n t = go (ltb l.high n) (leb reach (l.high - n)) refl refl
  where
    stale : stale_in h n ≡ leb (n + reach) l.high
    stale = stale-highest h n ∙ ap (leb (n + reach)) (sym t.highest)

    go : (p q : Bool) → ltb l.high n ≡ p → leb reach (l.high - n) ≡ q
        → cond p 0 (answer_for q (mark_at (window_of l) (l.high - n))) ≡ answer_for (stale_in h n) (used_in h n)
    go true q e f =
        let above = ltb-true l.high n e in
        let highest = t.highest in
        sym (ap₂ answer_for (stale ∙ lt-leb (n + reach) l.high (omega arith)) (unused_above h n (omega arith)))
    go false true e f =
        let far = leb-true reach (l.high - n) f in
        sym (ap (λ (a : Bool). answer_for a (used_in h n)) (stale ∙ le-leb (n + reach) l.high (omega arith)))
    go false false e f =
        let within = ltb-false l.high n e in
        let near = leb-false reach (l.high - n) f in
        let back : l.high - (l.high - n) ≡ n = omega arith in
        ap (answer_for false) (t.marks (l.high - n) near (omega arith) ∙ ap (used_in h) back)
        ∙ sym (ap (λ (a : Bool). answer_for a (used_in h n)) (stale ∙ lt-leb (n + reach) l.high (omega arith)))

-- ---- accepting: a raise to n, then the mark of n

-- each number in the window below `top` is marked just when it was accepted
abbrev Marks : ℕ → ℕ → List ℕ → Type 0
Marks top w h = (d : ℕ) → d < reach → d ≤ top → mark_at w d ≡ used_in h (top - d)

-- seen from a higher number n, the marks of old numbers have moved up, and the new ones are not set
shifted_marks : (top n w : ℕ) (h : List ℕ) → highest_of h ≡ top → top < n → Marks top w h → Marks n (shifted_by w (n - top)) h
unfolding shifted_by
shifted_marks top n w h highest above marks d below within = go (ltb (n - top) reach) (ltb d (n - top)) refl refl
  where
    go : (p q : Bool) → ltb (n - top) reach ≡ p → ltb d (n - top) ≡ q
        → mark_at (cond p (w * 2 ^ (n - top) % 2 ^ reach) 0) d ≡ used_in h (n - d)
    go false q e f =
        let far = ltb-false (n - top) reach e in
        mark_none d ∙ sym (unused_above h (n - d) (omega arith))
    go true true e f =
        let new = ltb-true d (n - top) f in
        mark-cut reach d (w * 2 ^ (n - top)) below
        ∙ mark_emptied w (n - top) d new ∙ sym (unused_above h (n - d) (omega arith))
    go true false e f =
        let old = ltb-false d (n - top) f in
        let place = d - (n - top) in
        let moved : n - top + (d - (n - top)) ≡ d = omega arith in
        let same : top - (d - (n - top)) ≡ n - d = omega arith in
        mark-cut reach d (w * 2 ^ (n - top)) below
        ∙ ap (mark_at (w * 2 ^ (n - top))) (sym moved) ∙ mark_up w (n - top) place
        ∙ marks place (omega arith) (omega arith) ∙ ap (used_in h) same

-- the mark of n is set, if the window reaches it
marked_marks : (top n w : ℕ) (h : List ℕ) → n ≤ top → Marks top w h → Marks top (with_mark w (top - n)) (n ∷ h)
unfolding with_mark used_in
marked_marks top n w h at_most marks d below within = go (ltb (top - n) reach) refl
  where
    place : eqb (top - n) d ≡ eqb n (top - d)
    place = pick (eqb (top - n) d) refl
      where
        pick : (b : Bool) → eqb (top - n) d ≡ b → b ≡ eqb n (top - d)
        pick true e = let q = eqb-true (top - n) d e in sym (eq-eqb n (top - d) (omega arith))
        pick false e = sym (ne_eqb n (top - d) (λ q. eqb-false (top - n) d e (omega arith)))

    go : (p : Bool) → ltb (top - n) reach ≡ p
        → mark_at (cond p (bit_or w (2 ^ (top - n))) w) d ≡ (eqb n (top - d) || used_in h (top - d))
    go true e =
        mark_or w (2 ^ (top - n)) d
        ∙ or_comm (mark_at w d) (mark_at (2 ^ (top - n)) d)
        ∙ ap₂ ◌||◌ (mark_power (top - n) d ∙ place) (marks d below within)
    go false e =
        let far = ltb-false (top - n) reach e in
        marks d below within
        ∙ ap (λ (b : Bool). b || used_in h (top - d)) (sym (ne_eqb n (top - d) (λ q. omega arith)))

-- The highest number after a raise to n.
pub raised_high : (l : Ledger) (n : ℕ) → (raised_to l n).high ≡ max n l.high
unfolding raised_to ledger_of
raised_high l n = go (ltb l.high n) refl
  where
    go : (p : Bool) → ltb l.high n ≡ p
        → (cond p (ledger_of n (shifted_by (window_of l) (n - l.high))) l).high ≡ max n l.high
    go true e = let above = ltb-true l.high n e in omega arith
    go false e = let within = ltb-false l.high n e in omega arith

-- raised to n, the ledger marks the same numbers
raised_marks : (l : Ledger) (h : List ℕ) (n : ℕ) → Tells l h → Marks (raised_to l n).high (window_of (raised_to l n)) h
unfolding raised_to ledger_of
raised_marks l h n t = go (ltb l.high n) refl
  where
    shifted : ℕ
    shifted = shifted_by (window_of l) (n - l.high)

    go : (p : Bool) → ltb l.high n ≡ p
        → Marks (cond p (ledger_of n shifted) l).high (window_of (cond p (ledger_of n shifted) l)) h
    go true e =
        subst (λ (w : ℕ). Marks n w h) (sym (window_ledger n shifted))
        (shifted_marks l.high n (window_of l) h (sym t.highest) (ltb-true l.high n e) t.marks)
    go false e = t.marks

-- Accepting a number, whatever its verdict, keeps the ledger telling the history with that number added.
pub accept_tells : {l : Ledger} {h : List ℕ} (n : ℕ) → Tells l h → Tells (accepted_by l n) (n ∷ h)
unfolding accepted_by marked_at ledger_of highest_of
accept_tells {l} {h} n t =
    let raised = raised_to l n in
    let top = raised.high in
    let w = window_of raised in
    let reached : n ≤ (raised_to l n).high = omega (arith, raised_high l n) in
    record {
      highest = raised_high l n ∙ ap (max n) t.highest;
      marks =
          subst (λ (v : ℕ). Marks top v (n ∷ h)) (sym (window_ledger top (with_mark w (top - n))))
          (marked_marks top n w h reached (raised_marks l h n t));
    }
