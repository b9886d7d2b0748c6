-- What the answer to the shared rows says of a longer list of rows, and of the lengths themselves where it is 0. Each is an
-- induction on the rows, or a look at one of them.
use mathlib.Core.Path.{◌≡◌, refl, ◌∙◌, sym, ap}
use mathlib.Core.Bool.{Bool, true, false, true≢false, not, ◌&&◌, ◌||◌}
use mathlib.Core.List.{List, [], ◌∷◌, ◌++◌}
use Prim.Native.Nat.{ℕ, suc, ◌+◌, ◌-◌, ◌≤◌, ◌<◌}
use native.Mathlib.Nat.{zero-add, suc-add, add-suc}
use native.Mathlib.Omega.{arith}
use borrow.Author.Tests.{ltb-false, eqb-true}
use lib.Dec.{eqb, ltb}
use lib.ListN.{length}
use Rattle.answer.specs.declared.Refusal.{Refusal}
use Rattle.answer.specs.Number.{refusal_number}
use Rattle.answer.proofs.NumberLaws.{refusal_numbered}
use Rattle.rows.specs.Passed.{Passed}
use Rattle.rows.specs.Rows.{longest_iv, longest_ad, longest_text, key_bad, iv_bad, tag_bad, lowest, length_rows, seal_rows, open_length_rows}
use Rattle.rows.proofs.RowsLaws.{lowest_none}

-- a row of the first list answers for both
first_answers : (n : ℕ) (a b : List Bool) → 0 < lowest n a → lowest n (a ++ b) ≡ lowest n a
unfolding lowest
first_answers n [] b some = absurd (omega arith)
first_answers n (true ∷ a) b some = refl
first_answers n (false ∷ a) b some = first_answers (suc n) a b some

-- where no row of the first list holds, the second answers
pub second_answers : (n : ℕ) (a b : List Bool) → lowest (suc n) a ≡ 0 → lowest (suc n) (a ++ b) ≡ lowest (length a + suc n) b
unfolding lowest
second_answers n [] b none = rw zero-add
second_answers n (true ∷ a) b none = absurd (omega arith)
second_answers n (false ∷ a) b none = second_answers (suc n) a b none ∙ ap (λ m. lowest m b) (add-suc (length a) (suc n) ∙ sym (suc-add (length a) (suc n)))

-- the shared rows refused: theirs is the answer to all rows
pub refused : (refusal : Refusal) (rows more : List Bool) → refusal_number refusal ≡ lowest 1 rows → refusal_number refusal ≡ lowest 1 (rows ++ more)
refused refusal rows more answer =
    let some = refusal_numbered refusal in
    answer ∙ sym (first_answers 1 rows more (omega arith))

pub key_fits : (n : ℕ) → key_bad n ≡ false → (16 ≤ n) × (n ≤ 32)
unfolding key_bad
key_fits n good = go (eqb n 16) (eqb n 32) refl refl good
  where
    go : (a b : Bool) → eqb n 16 ≡ a → eqb n 32 ≡ b → (not a && not b) ≡ false → (16 ≤ n) × (n ≤ 32)
    go true b e f good = let h : n ≡ 16 = eqb-true n 16 e in omega arith
    go false true e f good = let h : n ≡ 32 = eqb-true n 32 f in omega arith
    go false false e f good = absurd (true≢false good)

-- a length that is neither below the least nor above the most
pub within : (n low high : ℕ) → (ltb n low || ltb high n) ≡ false → n ≤ high
within n low high good = go (ltb n low) (ltb high n) refl good
  where
    go : (a b : Bool) → ltb high n ≡ b → (a || b) ≡ false → n ≤ high
    go true b f good = absurd (true≢false good)
    go false true f good = absurd (true≢false good)
    go false false f good = ltb-false high n f

-- what lengths that no row refuses may be relied on for, whatever rows come after
pub passed : (key iv ad text tag : ℕ) (more : List Bool) → lowest 1 (length_rows key iv ad text tag ++ more) ≡ 0 → Passed key iv ad text tag
unfolding iv_bad tag_bad
passed key iv ad text tag more none =
    let no = (lowest_none (length_rows key iv ad text tag ++ more) refl).0 none in
    record {
      short_key = (key_fits key (no 0)).0;
      long_key = (key_fits key (no 0)).1;
      rest = record {
        long_iv = within iv 1 longest_iv (no 1);
        long_ad = ltb-false longest_ad ad (no 3);
        long_text = ltb-false longest_text text (no 4);
        long_tag = within tag 12 16 (no 2);
      };
    }

-- what a seal that no row refuses may rely on
pub seal_allows : (key iv ad text tag room : ℕ) → lowest 1 (seal_rows key iv ad text tag room) ≡ 0
    → Passed key iv ad text tag × (text + tag ≤ room)
seal_allows key iv ad text tag room none =
    let no = (lowest_none (seal_rows key iv ad text tag room) refl).0 none in
    (passed key iv ad text tag _ none, ltb-false room (text + tag) (no 6))

-- what an open that no row about lengths refuses may rely on, whatever rows come after
pub open_allows : (key iv ad sealed tag room : ℕ) (more : List Bool) → lowest 1 (open_length_rows key iv ad sealed tag room ++ more) ≡ 0
    → Passed key iv ad (sealed - tag) tag × ((tag ≤ sealed) × (sealed - tag ≤ room))
open_allows key iv ad sealed tag room more none =
    let no = (lowest_none (open_length_rows key iv ad sealed tag room ++ more) refl).0 none in
    (passed key iv ad (sealed - tag) tag _ none, (ltb-false sealed tag (no 5), ltb-false room (sealed - tag) (no 6)))
