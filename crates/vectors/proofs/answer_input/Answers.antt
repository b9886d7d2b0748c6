-- The bytes that a read brought are no empty chunk; the laws of runs put them behind those before them. What remains is answered
-- where the input ends alone.
use Rattle.std.proofs.Common.{◌≡◌, ◌<◌, ◌-◌, ◌+◌, ◌∙◌, ap, arith, le_of_eq, rules, subst, Ok, length, length-take, refl, sym, take, take_all, true≢false}
use Rattle.std.proofs.lemmas.Result.{err_from_is_err_and, MatchResult-at_err}
use Rattle.records.specs.Input.{most_turns}
use Rattle.records.proofs.InputLaws.{Carried, carried_start, taken_then, carried_then, ended-whole, ended_before}
use Rattle.records.proofs.ScanLaws.{begins_new}
use Rattle.vector_lines.specs.Line.{answer_line}
use Rattle.vectors.specs.End.{taken_of}
use Rattle.std.specs.Io.{ReadsAtMost}
use Rattle.vectors.specs.declared.Failure.TheVariants.{Read, Write}
use Rattle.vectors.proofs.ResultLaws.{not_ok}
use Rattle.vectors.proofs.answer_input.Goals as goal

pub loop-chunks-init : goal.loop-chunks-init
loop-chunks-init g c =
    let begun = begins_new _ _ _ _ _ c.new-reader.ensures refl refl refl refl in
    (refl, refl, subst (Carried answer_line _ _) begun.1 (carried_start answer_line _ c.new-reader.result begun.0))

pub returns-then-n-eq0 : goal.returns-then-n-eq0
returns-then-n-eq0 g c =
    let done : c.answer_rest.result ≡ Ok c.in_ok-last.last = search rules in
    ended-whole answer_line c.loop-chunks.invariant.2 (rw done at c.answer_rest.ensures)

pub returns-in_err-n : goal.returns-in_err-n
returns-in_err-n g c =
    let p = err_from_is_err_and c.from_residual.result c.from_residual.ensures.1 in
    let e = not_ok c.read_chunk.result c.in_err-n.ensures.variant in
    let q = MatchResult-at_err _ _ e.0 e.1 c.in_err-n.ensures.cases in
    let same : c.in_err-n.field-0.0 ≡ Read c.loop-chunks.chunks-counter = search rules in
    rw (p.1, p.2, same) (ended_before answer_line c.loop-chunks.invariant.2.taken (λ fine unread. absurd (true≢false unread)))

pub returns-in_err-last : goal.returns-in_err-last
returns-in_err-last g c =
    let p = err_from_is_err_and c.from_residual-in_err-last.result c.from_residual-in_err-last.ensures.1 in
    let e = not_ok c.answer_rest.result c.in_err-last.ensures.variant in
    let q = MatchResult-at_err _ _ e.0 e.1 c.in_err-last.ensures.cases in
    let same : c.in_err-last.field-0.0 ≡ Write c.loop-chunks.chunks-counter = search rules in
    rw (p.1, p.2, same) (ended_before answer_line c.loop-chunks.invariant.2.taken (λ fine. absurd (true≢false fine)))

pub returns-in_err-map_err : goal.returns-in_err-map_err
returns-in_err-map_err g c =
    let p = err_from_is_err_and c.from_residual-in_err-map_err.result c.from_residual-in_err-map_err.ensures.1 in
    let e = not_ok c.answer_chunk.result c.in_err-map_err.ensures.variant in
    let q = MatchResult-at_err _ _ e.0 e.1 c.in_err-map_err.ensures.cases in
    let same : c.in_err-map_err.field-0.0 ≡ Write (c.loop-chunks.chunks-counter + 1) = search rules in
    let answers = c.answer_chunk.ensures in
    let buffer = c.read_chunk.new.chunk in
    let read : c.read_chunk.result ≡ Ok c.in_ok-n.n = search rules in
    let reads = subst (λ r. ReadsAtMost r buffer) read c.read_chunk.ensures in
    let chunk = take c.in_ok-n.n buffer in
    let part = take (taken_of c.answer_chunk.result chunk) chunk in
    let some : 0 < length chunk = omega (arith, c.if-n-eq0.false, reads.1) in
    let begun = answers.at_nonzero some in
    let turn : most_turns - (c.loop-chunks.chunks-counter + 1) ≡ most_turns - c.loop-chunks.chunks-counter - 1 = omega arith in
    rw (p.1, p.2, same, turn)
    (ended_before answer_line {out = c.answer_chunk.new.out}
    (taken_then answer_line
    c.loop-chunks.invariant.2
    {bytes = part}
    answers.answered
    (simp length-take (omega (arith, begun, some)))
    (omega (arith, c.loop-chunks-test.true)))
    (λ fine. absurd (true≢false fine)))

pub loop-chunks-preserved : goal.loop-chunks-preserved
loop-chunks-preserved g c =
    let inv = c.loop-chunks.invariant in
    let buffer = c.read_chunk.new.chunk in
    let n = c.in_ok-n.n in
    let read : c.read_chunk.result ≡ Ok n = search rules in
    let reads = subst (λ r. ReadsAtMost r buffer) read c.read_chunk.ensures in
    let done : c.answer_chunk.result ≡ Ok _ = search rules in
    let answered = rw done at c.answer_chunk.ensures.answered in
    let some : 0 < length (take n buffer) = omega (arith, c.if-n-eq0.false, reads.1) in
    let whole = take_all _ (take n buffer) (le_of_eq refl) in
    let front = ap (λ n. take n buffer) (sym reads.1) in
    let turn : most_turns - (c.loop-chunks.chunks-counter + 1) ≡ most_turns - c.loop-chunks.chunks-counter - 1 = omega arith in (
      c.answer_chunk.auto.out ∙ inv.0,
      c.read_chunk.auto.chunk ∙ inv.1,
      rw turn
          (carried_then answer_line inv.2 (rw whole at answered) some (omega (arith, c.loop-chunks-test.true)) buffer front),
    )
