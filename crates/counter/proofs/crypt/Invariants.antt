-- `counter::crypt` meets its contract. The invariant: the place reached, with what stands in front of it and what is still to
-- come.
use Rattle.std.proofs.Common.{◌*◌, min, length}
use Rattle.aes.specs.Under.{enciphered_under}
use Rattle.counter.proofs.CryptLaws.{Reached}
use Rattle.counter.proofs.crypt.Given as goal

abbrev pub invariant-loop-k : goal.invariant-loop-k
invariant-loop-k l = Reached (enciphered_under l.cipher) l.fn.j l.text l.fn.out l.counter l.out (min (16 * l.k) (length l.text))
