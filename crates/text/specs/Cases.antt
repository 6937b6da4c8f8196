-- Numbers and their text, and what the definitions give.
use Rattle.std.specs.Prelude.{◌≡◌, List, [], ◌∷◌, map, ℕ}
use Rattle.stage.specs.Decimal.{decimal, digit_count, after_digits, numeral}

abbrev pub NumeralsHold : Type 0
NumeralsHold =
    map numeral (0 ∷ 10 ∷ 1785 ∷ [])
    ≡ (48 ∷ [])
    ∷ (49 ∷ 48 ∷ [])
    ∷ (49 ∷ 55 ∷ 56 ∷ 53 ∷ [])
    ∷ []

-- a text, the number in front of it, how many digits that has, and what is left
pub record Case : Type 0 where
  pub text : List ℕ
  pub value : ℕ
  pub count : ℕ
  pub rest : List ℕ

abbrev reads : List ℕ → ℕ → ℕ → List ℕ → Case
reads t v n r = record { text = t; value = v; count = n; rest = r }

abbrev cases : List Case
cases =
    -- leading zeros, and a number behind a blank
    reads (48 ∷ 48 ∷ 55 ∷ 32 ∷ 53 ∷ []) 7 3 (32 ∷ 53 ∷ [])
    -- the bytes next to the digits
    ∷ reads (57 ∷ 47 ∷ []) 9 1 (47 ∷ [])
    ∷ reads (57 ∷ 58 ∷ []) 9 1 (58 ∷ [])
    -- no digit in front
    ∷ reads (32 ∷ 53 ∷ []) 0 0 (32 ∷ 53 ∷ [])
    ∷ reads [] 0 0 []
    ∷ []

abbrev pub ReadingsHold : Type 0
ReadingsHold = map (λ (c : Case). reads c.text (decimal 0 c.text) (digit_count c.text) (after_digits c.text)) cases ≡ cases
