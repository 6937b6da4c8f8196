-- The report's lines as text: lists of ASCII codes (01, "Pixmaps and the report").
use Rattle.std.specs.Prelude.{List, [], ◌∷◌, ◌++◌, ℕ, ◌/◌, ◌%◌}
use Rattle.stage.specs.Decimal.{numeral}
use Rattle.stage.specs.declared.Estimated.{Estimated}

-- numbers, the first behind the byte s, the others each behind a comma [44]
unfoldable pub separated : ℕ → List ℕ → List ℕ
separated s [] = []
separated s (f ∷ l) = s ∷ numeral f ++ separated 44 l

-- "estimate in sixty-fourths, and N", and the "two last fields, `each` and `rest`: the estimate divided by N, rounded down, and the exact
-- remainder" (02, request 8); each number behind a blank [32]
unfoldable pub numbers : Estimated → List ℕ
numbers e =
    (32 ∷ numeral e.estimate) ++ (32 ∷ numeral e.samples)
    ++ (32 ∷ numeral (e.estimate / e.samples)) ++ (32 ∷ numeral (e.estimate % e.samples))

-- "transform name, filters by place", the numbers, and a line feed [10]
unfoldable pub line : List ℕ → List ℕ → Estimated → List ℕ
line name φ e = name ++ separated 32 φ ++ numbers e ++ 10 ∷ []

-- `transform filters estimate samples each rest`, and a line feed
abbrev pub title : List ℕ
title =
    116 ∷ 114 ∷ 97 ∷ 110 ∷ 115 ∷ 102 ∷ 111 ∷ 114 ∷ 109 ∷ 32 ∷ 102 ∷ 105 ∷ 108 ∷ 116 ∷ 101 ∷ 114 ∷ 115 ∷ 32
    ∷ 101 ∷ 115 ∷ 116 ∷ 105 ∷ 109 ∷ 97 ∷ 116 ∷ 101 ∷ 32 ∷ 115 ∷ 97 ∷ 109 ∷ 112 ∷ 108 ∷ 101 ∷ 115 ∷ 32
    ∷ 101 ∷ 97 ∷ 99 ∷ 104 ∷ 32 ∷ 114 ∷ 101 ∷ 115 ∷ 116 ∷ 10 ∷ []

-- the transforms' names
abbrev pub rct : List ℕ
rct = 82 ∷ 67 ∷ 84 ∷ []

abbrev pub ycocg_r : List ℕ
ycocg_r = 89 ∷ 67 ∷ 111 ∷ 67 ∷ 103 ∷ 45 ∷ 82 ∷ []

abbrev pub rdgdb : List ℕ
rdgdb = 82 ∷ 68 ∷ 103 ∷ 68 ∷ 98 ∷ []

abbrev pub ldgeb : List ℕ
ldgeb = 76 ∷ 68 ∷ 103 ∷ 69 ∷ 98 ∷ []

-- "Any refusal prints only `refused`, a blank and its number", and a line feed
unfoldable pub refusal_line : ℕ → List ℕ
refusal_line n = (114 ∷ 101 ∷ 102 ∷ 117 ∷ 115 ∷ 101 ∷ 100 ∷ []) ++ (32 ∷ numeral n) ++ 10 ∷ []
