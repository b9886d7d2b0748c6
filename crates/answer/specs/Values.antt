-- The values that go with an answer: those of `Ok`, and zero with a refusal (rule R3.4).
use Rattle.std.specs.Prelude.{Result, List, ℕ, replicate}
use Rattle.std.specs.Result.{result_unwrap_or}
use Rattle.answer.specs.declared.Refusal.{Refusal}

-- how many bytes were written
abbrev pub count_in : Result ℕ Refusal → ℕ
count_in answer = result_unwrap_or answer 0

-- a tag's sixteen bytes
abbrev pub tag_in : Result (List ℕ) Refusal → List ℕ
tag_in answer = result_unwrap_or answer (replicate 16 0)
