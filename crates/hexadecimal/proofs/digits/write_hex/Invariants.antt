-- `hexadecimal::digits::write_hex` meets its contract. The invariant: the digits of the first i bytes stand in front of the output.
use Rattle.std.proofs.Common.{◌≡◌, ◌*◌, ◌++◌, take, drop}
use Rattle.hexadecimal.specs.Hex.{encoded}
use Rattle.hexadecimal.proofs.digits.write_hex.Given as goal

abbrev pub invariant-loop-i : goal.invariant-loop-i
invariant-loop-i l = l.out ≡ take (l.i * 2) (encoded l.bytes) ++ drop (l.i * 2) l.fn.out
