-- What the pieces of a line are, as bytes of ASCII.
use Rattle.std.specs.Prelude.{List, [], ◌∷◌, ◌++◌, ℕ, ℤ, codes}
use Rattle.std.specs.Fmt.{decimal, signed_decimal}
use Rattle.stage.specs.declared.Settings.{Settings}

-- numbers, each behind a blank
abbrev pub numbers_text : List ℤ → List ℕ
numbers_text [] = []
numbers_text (z ∷ l) = 32 ∷ signed_decimal z ++ numbers_text l

-- filters behind a separator, with commas between
abbrev pub separated : List ℕ → List ℕ → List ℕ
separated separator [] = []
separated separator (n ∷ l) = separator ++ (decimal n ++ separated (codes ",") l)

-- a word and a number, and what follows
abbrev pub field : List ℕ → ℕ → List ℕ → List ℕ
field word n rest = word ++ (decimal n ++ rest)

abbrev pub settings_text : Settings → List ℕ
settings_text s =
    field (codes "transform ") s.transform
    (field (codes " width ") s.width
    (field (codes " height ") s.height
    (field (codes " depths ") s.depths.c1
    (field (codes " ") s.depths.c2
    (field (codes " ") s.depths.c3 [])))))
