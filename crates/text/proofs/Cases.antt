-- The cases, computed.
use mathlib.Core.Path.{refl}
use Rattle.stage.specs.Decimal.{is_digit, decimal, digit_count, after_digits, digits, numeral}
use Rattle.text.specs.Cases.{NumeralsHold, ReadingsHold}

pub numerals_hold : NumeralsHold
unfolding digits numeral
numerals_hold = refl

pub readings_hold : ReadingsHold
unfolding is_digit decimal digit_count after_digits
readings_hold = refl
