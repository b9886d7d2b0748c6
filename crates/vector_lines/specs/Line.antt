-- The line that answers a record of the vector program.
use Rattle.std.specs.Prelude.{cond, List, ℕ, ◌+◌, length}
use Rattle.aes.specs.Cipher.{enciphered}
use Rattle.mode.specs.Mode.{sealed}
use Rattle.answer.specs.Number.{if_done}
use Rattle.rows.specs.Rows.{lowest, seal_rows}
use Rattle.records.specs.Answers.{sealed_line, number_line}
use Rattle.records.specs.Records.{Answering, bad_line, output_of}
use Rattle.records.specs.Kept.{all_good, field_bytes}
use Rattle.records.specs.declared.reader.Reader.{Reader}

-- the number that answers a seal with a tag of 16 bytes and room for what it writes
unfoldable pub answer_number : List ℕ → List ℕ → List ℕ → List ℕ → ℕ
answer_number key iv ad text = lowest 1 (seal_rows (length key) (length iv) (length ad) (length text) 16 (length text + 16))

-- `0 ` and the sealed bytes, or the refusal's number alone
unfoldable pub answer_line : Answering
answer_line key iv ad text =
    if_done (answer_number key iv ad text)
    (sealed_line (sealed (enciphered key) iv ad 16 text))
    (number_line (answer_number key iv ad text))

-- the answer to the whole record that was read
abbrev pub record_line : Reader → List ℕ
record_line r =
    cond (all_good r)
    (answer_line (field_bytes r.progress.key r.key.now) (field_bytes r.progress.iv r.iv.now)
    (field_bytes r.progress.ad r.ad.now) (field_bytes r.progress.text r.text.now))
    bad_line

-- what the vector program writes for an input: a line for each record, and `cut` for what remains
abbrev pub program_output : List ℕ → List ℕ
program_output = output_of answer_line
