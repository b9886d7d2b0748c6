-- `vector_lines::answer_bytes` meets its contract: a seal that is done leaves its sealed form in front, and one that is refused
-- has a number.
use Rattle.std.proofs.Common.{◌+◌, ◌≤◌, ℕ, length, replicate, arith}
use Rattle.std.proofs.lemmas.List.{length-replicate}
use Rattle.vector_lines.proofs.AnswerLaws.{done_line, refused_line}
use Rattle.vector_lines.proofs.answer_bytes.Goals as goal

-- the buffer has room for the longest text and its tag
enough : (n : ℕ) → n ≤ 4096 → n + 16 ≤ length {A = ℕ} (replicate 4112 0)
enough n few =
    let room = length-replicate {A = ℕ} 4112 0 in
    omega (arith, room)

pub returns-in-Ok : goal.returns-in-Ok
returns-in-Ok c = rw (done_line _ _ _ _ _ (enough _ c.requires.0) c.in-Ok.ensures) c.write_sealed.ensures

pub returns-in-Err : goal.returns-in-Err
returns-in-Err c =
    rw (refused_line _ _ _ _ _ (enough _ c.requires.0) c.in-Err.ensures, ← c.from.ensures) c.write_number.ensures
