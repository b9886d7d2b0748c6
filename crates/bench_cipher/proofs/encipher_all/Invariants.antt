-- `bench_cipher::encipher_all` meets its contract. The invariant: the place reached, with what is enciphered in front of it and what
-- is still to come.
use Rattle.std.proofs.Common.{◌*◌}
use Rattle.aes.specs.Under.{enciphered_under}
use Rattle.bench_cipher.proofs.EachLaws.{Enciphering}
use Rattle.bench_cipher.proofs.encipher_all.Given as goal

abbrev pub invariant-loop-k : goal.invariant-loop-k
invariant-loop-k l = Enciphering (enciphered_under l.cipher) l.fn.blocks l.blocks (16 * l.k)
