-- `Hex` prints its bytes as hex. The invariant: the first of them are written.
use Rattle.std.proofs.Common.{take}
use Rattle.std.specs.Fmt.{HasWritten, IsPlainFormatter}
use Rattle.hexadecimal.specs.Hex.{encoded}
use Rattle.case_lines.proofs.HexDisplay.fmt.Given as goal

abbrev pub invariant-loop-b : goal.invariant-loop-b
invariant-loop-b g l =
    IsPlainFormatter l.initial.f → HasWritten g.W.Write.write_str_gives l.initial.f (encoded (take l.b-index l.b-items)) l.f
