-- Each turn writes the two digits of one byte more.
use Rattle.std.proofs.Common.{rules, ap, ◌∙◌, sym, add-one, take, slice_index_or}
use Rattle.std.proofs.Output.{has_written_append, has_written_of_eq}
use Rattle.hexadecimal.specs.Hex.{encoded}
use Rattle.case_lines.proofs.HexLaws.{encoded_more, two_digits}
use Rattle.case_lines.proofs.HexDisplay.fmt.Goals as goal

pub loop-b-init : goal.loop-b-init
unfolding encoded
loop-b-init g c = search rules

pub loop-b-preserved : goal.loop-b-preserved
loop-b-preserved g c = λ plain.
    let bytes = c.args.self.now.0.now in
    let i = c.loop-b.b-index in
    let more = encoded_more bytes i c.loop-b-test.true ∙ ap (λ n. encoded (take n bytes)) (sym (add-one i)) in
    let digits = two_digits (slice_index_or bytes i 0) (search rules) in
    has_written_of_eq _ _ _ _ _ more
    (has_written_append _ _ _ _ _ _ (c.loop-b.invariant plain) (has_written_of_eq _ _ _ _ _ digits (search rules)))
