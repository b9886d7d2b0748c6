-- Refused for a length, or for the tag.
use Rattle.std.proofs.Common.{rules}
use Rattle.gcm.proofs.PromiseLaws.{open_refused, open_differs}
use Rattle.gcm.proofs.open.Goals as goal

pub returns-in_err-open_answer : goal.returns-in_err-open_answer
returns-in_err-open_answer c =
    let given = c.args in
    open_refused given.key.now given.iv.now given.ad.now given.sealed.now given.tag_len given.out.now
    c.in_err-open_answer.ensures.numbered (search rules)

pub returns-in_err-open_allowed : goal.returns-in_err-open_allowed
returns-in_err-open_allowed c =
    let given = c.args in
    open_differs given.key.now given.iv.now given.ad.now given.sealed.now given.tag_len given.out.now
    c.in_ok-open_answer.ensures.numbered c.in_err-open_allowed.ensures (search rules)
