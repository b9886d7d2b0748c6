-- What the program writes depends on the bytes of its input alone, and not on how they came: by the law of `records` for any
-- answer, at the answers of the vector program.
use mathlib.Core.Path.{◌≡◌, refl, ap, ◌∙◌}
use mathlib.Core.List.{List, [], ◌∷◌, ◌++◌, append-nil}
use Prim.Native.Nat.{ℕ}
use Rattle.octets.specs.Bytes.{joined}
use Rattle.records.specs.Reading.{start, after, written_by}
use Rattle.records.specs.Records.{lines_from, rest_from, cut_of, answers, output_of}
use Rattle.records.specs.Input.{TakenIn}
use Rattle.records.proofs.ChunkLaws.{any_chunks}
use Rattle.vector_lines.specs.Line.{answer_line, program_output}

-- However the input is cut into chunks, what is written for them, one after the other, is the output for the whole of it.
pub output_of_chunks : (chunks : List (List ℕ)) → written_by answer_line start chunks ≡ program_output (joined chunks)
output_of_chunks chunks = any_chunks answer_line chunks

-- What a run handed out is what the output begins with for every input that begins with its chunks, also where a write failed.
pub output_begins : {turns : ℕ} (taken : TakenIn answer_line turns) (rest : List ℕ)
    → taken.handed ++ written_by answer_line (after start (joined taken.chunks)) (rest ∷ [])
    ≡ program_output (joined taken.chunks ++ rest)
unfolding written_by joined
output_begins taken rest =
    let input = joined taken.chunks in
    ap (λ s. s ++ written_by answer_line (after start input) (rest ∷ [])) taken.answers
    ∙ output_of_chunks (input ∷ rest ∷ [])
    ∙ ap (λ s. program_output (input ++ s)) (append-nil rest)

-- Empty input writes nothing.
pub output_of_nothing : program_output [] ≡ []
unfolding output_of lines_from rest_from answers cut_of
output_of_nothing = refl
