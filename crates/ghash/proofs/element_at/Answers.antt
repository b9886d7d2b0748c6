-- Sixteen bytes make their two halves; of fewer, zeros behind them fill the block up.
use Rattle.std.proofs.Common.{◌-◌, ℕ, List, ◌++◌, length, take, drop, replicate, ap, ◌∙◌}
use borrow.Author.Rules.{part_to_end}
use Rattle.octets.specs.Block.{number_at}
use Rattle.octets.proofs.BlockLaws.{number-drop, number_filled}
use Rattle.hash_field.specs.Element.{value_of}
use Rattle.ghash.proofs.element_at.Goals as goal

pub returns-then-s-at-ge16 : goal.returns-then-s-at-ge16
unfolding value_of
returns-then-s-at-ge16 c = rw (c.long_at-then-s-at-ge16.ensures, c.long_at.ensures)

pub returns : goal.returns
returns c =
    let s = c.args.s.now in
    let at = c.args.at in
    let rest = take (length s - at) (drop at s) in
    c.from.ensures
    ∙ ap (λ (t : List ℕ). number_at (t ++ drop (length rest) (replicate 16 0)) 0) c.copy_from_slice.ensures.after
    ∙ number_filled rest (length rest) 16
    ∙ ap (λ (t : List ℕ). number_at t 0) (part_to_end s at)
    ∙ number-drop s at
