-- A turn's service goes on where the ones before it stopped, and takes in one byte at least. It writes behind what they wrote.
use Rattle.std.proofs.Common.{◌≡◌, refl, ap, ◌∙◌, inl, inr, List, ℕ, ◌-◌, ◌≤◌, ◌++◌, length, take, drop, le_of_eq, arith}
use Rattle.std.proofs.Common.{drop_of_length-le}
use mathlib.Core.List.{append-nil}
use lib.ListN.{length-append, length-drop}
use lib.Seq.{drop_at, length-take-le}
use Rattle.std.proofs.lemmas.List.{take_rest}
use Rattle.std.proofs.lemmas.Slice.{take-put_mid_below}
use borrow.Rule.Slice.PartMut.{put_mid}
use Rattle.records.proofs.TurnLaws.{served_nothing, served_then}
use Rattle.vector_lines.specs.Line.{answer_line}
use Rattle.vector_chunks.proofs.serve_chunk.Goals as goal

module _ (count : ℕ) (out part : List ℕ) (within : count ≤ length out) where
  behind : drop count (put_mid count (length out - count) out part) ≡ part
  behind =
      let none = drop_of_length-le (drop count out) (le_of_eq (length-drop count out)) in
      drop_at (take count out) _ count (length-take-le count out within) ∙ ap (λ s. part ++ s) none ∙ append-nil part

  room : count ≤ length (put_mid count (length out - count) out part)
  room =
      let front = length-take-le count out within in
      simp length-append (omega (arith, front))

pub loop-i-init : goal.loop-i-init
loop-i-init c = (served_nothing answer_line _ _ _, inr refl)

pub loop-i-preserved : goal.loop-i-preserved
loop-i-preserved c =
    let now = c.loop-i in
    let service = c.serve-service in
    let further = service.ensures.at_lt_at c.loop-i-test.true in
    let inside : now.count ≤ length now.out = omega arith in (
      served_then answer_line _ _ _ now.invariant.0
          (rw (behind now.count now.out service.new.out inside) (rw (take_rest now.out now.count) at service.ensures.served))
          (take-put_mid_below now.count _ now.out service.new.out now.count (le_of_eq refl) inside)
          (room now.count now.out service.new.out inside),
      inl (omega (arith, now.invariant.0.reached, further)),
    )
