-- Decimal numbers as text, ASCII codes: the digits of a number, and the number that digits in front of a text are. l is a text, b a
-- byte, n a number.
use Rattle.std.specs.Prelude.{Bool, cond, List, [], ◌∷◌, ◌++◌, ℕ, zero, suc, ◌+◌, ◌-◌, ◌*◌, ◌/◌, ◌%◌, ltb}
use Rattle.stage.specs.Answers.{between}

-- a decimal digit: 48 to 57
unfoldable pub is_digit : ℕ → Bool
is_digit b = between 48 57 b

-- ---- what stands in front of a text
-- the number of the digits in front, without limit, where those before them gave n
unfoldable pub decimal : ℕ → List ℕ → ℕ
decimal n [] = n
decimal n (b ∷ l) = cond (is_digit b) (decimal (10 * n + (b - 48)) l) n

-- how many they are
unfoldable pub digit_count : List ℕ → ℕ
digit_count [] = 0
digit_count (b ∷ l) = cond (is_digit b) (suc (digit_count l)) 0

-- what is left behind them
unfoldable pub after_digits : List ℕ → List ℕ
after_digits [] = []
after_digits (b ∷ l) = cond (is_digit b) (after_digits l) (b ∷ l)

-- ---- the text of a number
-- the decimal digits of n, at most k + 1 of them: those of n / 10, then n % 10
unfoldable pub digits : ℕ → ℕ → List ℕ
digits zero n = (48 + n) ∷ []
digits (suc k) n = cond (ltb n 10) ((48 + n) ∷ []) (digits k (n / 10) ++ (48 + n % 10) ∷ [])

-- all of them: n has at most n + 1 digits
unfoldable pub numeral : ℕ → List ℕ
numeral n = digits n n
