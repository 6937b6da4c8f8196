-- What is written is read back: digits of a number behind which no digit stands.
use Rattle.std.specs.Prelude.{◌≡◌, false, List, ◌++◌, ℕ, length}
use Rattle.stage.specs.Decimal.{is_digit, decimal, digit_count, after_digits, numeral}
use Rattle.stage.specs.Pixmap.{first}

pub record NumeralRead (n : ℕ) (rest : List ℕ) : Type 0 where
  pub value_is : decimal 0 (numeral n ++ rest) ≡ n
  pub count_is : digit_count (numeral n ++ rest) ≡ length (numeral n)
  pub rest_is : after_digits (numeral n ++ rest) ≡ rest

abbrev pub NumeralsRead : Type 0
NumeralsRead = (n : ℕ) (rest : List ℕ) → is_digit (first rest) ≡ false → NumeralRead n rest
