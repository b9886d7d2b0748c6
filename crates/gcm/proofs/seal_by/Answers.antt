-- Its steps are those of a seal in place.
use Rattle.std.proofs.Common.{arith}
use Rattle.std.proofs.lemmas.Grind.{common_steps}
use Rattle.aes.proofs.CipherLaws.{length-enciphered}
use Rattle.gcm.proofs.SealLaws.{sealed_in_place}
use Rattle.gcm.proofs.seal_by.Goals as goal

pub returns : goal.returns
returns c =
    let given = c.args in
    sealed_in_place _ (length-enciphered given.cipher.words.now given.cipher.rounds) given.iv.now given.ad.now given.tag_len
    c.hash_key-h.ensures c.first_block-j.ensures given.text.now given.out.now
    c.crypt.ensures c.tag-whole.ensures (grind (arith, common_steps))
