-- A service is put behind what was taken in of the chunk before it: it counts as handed out as many bytes as it wrote.
use Rattle.std.proofs.Common.{◌≡◌, ◌∙◌, ap, arith, refl, zero-le, Err, rules}
use Rattle.std.proofs.lemmas.Result.{err_from_is_err_and, MatchResult-at_err}
use Rattle.records.proofs.InputLaws.{answered_nothing, answered_then}
use Rattle.vector_lines.specs.Line.{answer_line}
use Rattle.vectors.proofs.ResultLaws.{not_ok}
use Rattle.vectors.proofs.answer_chunk.Given.{Over}
use Rattle.vectors.proofs.answer_chunk.Goals as goal

pub loop-at-init : goal.loop-at-init
loop-at-init g c = (refl, zero-le, answered_nothing answer_line)

-- a write that failed stops where the service did
stopped : (g : Over) (c : goal.After-from_residual g) → c.from_residual.result ≡ Err (record { at = c.serve_chunk-service.result.at })
stopped g c =
    let p = err_from_is_err_and c.from_residual.result c.from_residual.ensures.1 in
    let e = not_ok c.hand_out.result c.in_err-map_err.ensures.variant in
    let q = MatchResult-at_err _ _ e.0 e.1 c.in_err-map_err.ensures.cases in
    let same : c.in_err-map_err.field-0.0 ≡ record { at = c.serve_chunk-service.result.at } = search rules in
    p.1 ∙ ap Err (p.2 ∙ same)

pub returns-in_err-map_err-clause-answered : goal.returns-in_err-map_err-clause-answered
returns-in_err-map_err-clause-answered g c =
    rw (stopped g c) (answered_then answer_line _ _ _ c.loop-at.invariant.2 c.serve_chunk-service.ensures.served c.hand_out.ensures)

pub returns-in_err-map_err-clause-at_nonzero : goal.returns-in_err-map_err-clause-at_nonzero
returns-in_err-map_err-clause-at_nonzero g c =
    rw (stopped g c) (λ some. omega (arith, c.serve_chunk-service.ensures.at_lt_at c.loop-at-test.true))

pub loop-at-preserved : goal.loop-at-preserved
loop-at-preserved g c =
    let served = c.serve_chunk-service.ensures.served in (
      c.serve_chunk-service.auto.out ∙ c.loop-at.invariant.0,
      served.within c.loop-at.invariant.1,
      answered_then answer_line _ _ _ c.loop-at.invariant.2 served c.hand_out.ensures,
    )
