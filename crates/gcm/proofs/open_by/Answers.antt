-- Its steps are those of an open in place, refused or done.
use Rattle.std.proofs.Common.{◌-◌, length, ap, not}
use borrow.Author.Rules.{part_to_end}
use Rattle.aes.proofs.CipherLaws.{length-enciphered}
use Rattle.gcm.proofs.SealLaws.{refused_in_place, opened_in_place}
use Rattle.gcm.proofs.open_by.Goals as goal

pub returns-then-not-same_tag : goal.returns-then-not-same_tag
returns-then-not-same_tag c =
    let given = c.args in
    refused_in_place _ (length-enciphered given.cipher.words.now given.cipher.rounds)
    given.iv.now given.ad.now given.tag_len c.hash_key-h.ensures c.first_block-j.ensures
    given.sealed.now given.out.now c.requires.tag_len_in_bounds.0 c.tag-whole.ensures
    (part_to_end given.sealed.now (length given.sealed.now - given.tag_len)) c.same_tag.ensures (ap not c.if-not-same_tag.true)

pub returns : goal.returns
returns c =
    let given = c.args in
    opened_in_place _ (length-enciphered given.cipher.words.now given.cipher.rounds)
    given.iv.now given.ad.now given.tag_len c.hash_key-h.ensures c.first_block-j.ensures
    given.sealed.now given.out.now c.requires.tag_len_in_bounds.0 c.tag-whole.ensures
    (part_to_end given.sealed.now (length given.sealed.now - given.tag_len)) c.same_tag.ensures (ap not c.if-not-same_tag.false)
    c.crypt.ensures
