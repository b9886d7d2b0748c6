-- `counter::xor_into` meets its contract. The invariant: the first i bytes of the xor stand in the output.
use Rattle.std.proofs.Common.{◌≡◌, ◌≤◌, ◌++◌, length, take, drop}
use Rattle.octets.specs.Bytes.{xored}
use Rattle.counter.proofs.xor_into.Given as goal

abbrev pub invariant-loop-i : goal.invariant-loop-i
invariant-loop-i l = (l.i ≤ length l.text) × (l.out ≡ take l.i (xored l.text l.block) ++ drop l.i l.fn.out)
