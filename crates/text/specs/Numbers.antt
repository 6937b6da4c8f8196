-- What the functions that read promise.
use Rattle.std.specs.Prelude.{◌≡◌, List, ℕ, ◌+◌, ◌<◌, min, take, drop, Option, None, Some}
use Rattle.stage.specs.Decimal.{decimal, digit_count}
use Rattle.text.specs.declared.reading.Number.{Number}

-- The number that the first digits at a place are, at most `most` of them, kept to a limit; how many these are; and the place behind
-- them.
pub record NumberAt (text : List ℕ) (at most limit : ℕ) (r : Number) : Type 0 where
  pub value_is : r.value ≡ min (decimal 0 (take most (drop at text))) limit
  pub digits_is : r.digits ≡ digit_count (take most (drop at text))
  pub end_is : r.at ≡ at + digit_count (take most (drop at text))
  pub some : 0 < r.digits

-- There is none where no digit stands at the place.
abbrev pub NumberRead : (text : List ℕ) (at most limit : ℕ) → Option Number → Type 0
NumberRead text at most limit None = digit_count (take most (drop at text)) ≡ 0
NumberRead text at most limit (Some r) = NumberAt text at most limit r
