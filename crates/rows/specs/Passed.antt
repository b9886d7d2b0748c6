-- Lengths that the rows let pass, as the work behind the rows needs them.
use Rattle.std.specs.Prelude.{ℕ, ◌≤◌}
use Rattle.rows.specs.Rows.{longest_iv, longest_ad, longest_text}

pub record Fitting (iv ad text tag : ℕ) : Type 0 where
  pub long_iv : iv ≤ longest_iv
  pub long_ad : ad ≤ longest_ad
  pub long_text : text ≤ longest_text
  pub long_tag : tag ≤ 16

pub record Passed (key iv ad text tag : ℕ) : Type 0 where
  pub short_key : 16 ≤ key
  pub long_key : key ≤ 32
  pub rest : Fitting iv ad text tag
