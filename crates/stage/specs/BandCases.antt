-- Cases of bands (02, request 11), calculated by hand as their comments show: pictures of one column, at depth 8.
use Rattle.std.specs.Prelude.{List, [], ◌∷◌, map, ℕ, ◌*◌, ℤ, pos}
use Rattle.stage.specs.Settings.{Form, Plain, Wrapped, Bands, One, Of, band_count, each, settings_of}
use Rattle.stage.specs.Planes.{Planes, triple}
use Rattle.stage.specs.Transform.{choice_at, forward, inverse}
use Rattle.stage.specs.Case.{Value, Case, ◌gives◌, Hold, call, counts, minus, accepted, refuses}

-- a column of h rows through transform t, and back
abbrev there : Form → Bands → (h t : ℕ) → List ℕ → Planes → Value
there κ β h t φ p = call (forward κ β (settings_of 1 h (each 8) t) φ p)

abbrev back : Form → Bands → (h t : ℕ) → List ℕ → Planes → Value
back κ β h t φ q = call (inverse κ β (settings_of 1 h (each 8) t) φ q)

abbrev three : ℤ → ℤ → ℤ → List ℤ
three x y z = x ∷ y ∷ z ∷ []

abbrev two : ℤ → ℤ → List ℤ
two x y = x ∷ y ∷ []

-- three rows; RDgDb, whose places are in steps of their own, leaves plane 1
abbrev column : Planes
column = triple (three (pos 10) (pos 20) (pos 30)) (three (pos 200) (pos 0) (pos 255)) (three (pos 35) (pos 6) (pos 7))

abbrev after : List ℤ → List ℤ → Planes
after b c = triple (three (pos 10) (pos 20) (pos 30)) b c

-- Bands of 1. Row 1's windows reach into the bands above and below: (200 + 0 + 255) / 3 is 152, (10 + 2 × 20 + 30) / 4 is 20. Row 2's first
-- place is null, which leaves 7.
abbrev bands_of1 : List ℕ
bands_of1 = 0 ∷ 0 ∷ 1 ∷ 2 ∷ 12 ∷ 0 ∷ []

abbrev after1 : Planes
after1 = after (three (minus 190) (pos 20) (minus 225)) (three (pos 165) (pos 146) (pos 7))

-- Bands of 2, the last of one row, whose window reads across the edge: (0 + 16 × 255) / 17 is 240. Its second place is null, which leaves 255.
abbrev bands_of2 : List ℕ
bands_of2 = 0 ∷ 1 ∷ 5 ∷ 12 ∷ []

abbrev after2 : Planes
after2 = after (three (minus 185) (pos 20) (pos 255)) (three (pos 165) (minus 6) (pos 233))

-- A mask between two other bands: row 1 stays as it is. (0 + 255) / 2 is 128.
abbrev mask : List ℕ
mask = 1 ∷ 1 ∷ 12 ∷ 12 ∷ 1 ∷ 1 ∷ []

abbrev after_mask : Planes
after_mask = after (three (minus 185) (pos 0) (minus 230)) (three (pos 65) (pos 6) (pos 121))

-- LDgEb in bands of 1. Plane 2 becomes −90, −30 in all rows before plane 1 reads it: row 0's mean −60 halved is −30, row 1's −30 is −15.
abbrev whole_steps : List ℕ
whole_steps = 0 ∷ 1 ∷ 0 ∷ 0 ∷ 0 ∷ 0 ∷ []

abbrev pair : Planes
pair = triple (two (pos 10) (pos 20)) (two (pos 100) (pos 50)) (two (pos 7) (pos 9))

-- RCT in bands of 1: its third step is skipped in row 0, where both places are null, and not in row 1: −70 / 4 rounded down is −18.
abbrev quarters : List ℕ
quarters = 0 ∷ 0 ∷ 12 ∷ 12 ∷ 0 ∷ 0 ∷ 12 ∷ 0 ∷ []

abbrev grey : Planes
grey = triple (two (pos 10) (pos 20)) (two (pos 200) (pos 100)) (two (pos 60) (pos 30))

unfoldable pub band_cases : List Case
band_cases =
    -- "the last band possibly shorter": bands of 1, 2, 3 and 4 in 8 rows, and of 3 in 7, 9 and 10
    (counts (map (λ n. band_count n 8) (1 ∷ 2 ∷ 3 ∷ 4 ∷ [])) gives counts (8 ∷ 4 ∷ 3 ∷ 2 ∷ []))
    ∷ (counts (map (band_count 3) (7 ∷ 9 ∷ 10 ∷ [])) gives counts (3 ∷ 3 ∷ 4 ∷ []))
    -- which choice is RDgDb's second place's in rows 0 to 6 of a picture 5 wide, in bands of 3; at the first and the last column
    ∷ (counts (map (λ y. choice_at (Of 3) (settings_of 5 7 (each 8) 2) 1 (y * 5)) (0 ∷ 1 ∷ 2 ∷ 3 ∷ 4 ∷ 5 ∷ 6 ∷ [])) gives counts (1 ∷ 1 ∷ 1 ∷ 3 ∷ 3 ∷ 3 ∷ 5 ∷ []))
    ∷ (counts (map (choice_at (Of 3) (settings_of 5 7 (each 8) 2) 1) (14 ∷ 15 ∷ 29 ∷ 30 ∷ 34 ∷ [])) gives counts (1 ∷ 3 ∷ 3 ∷ 5 ∷ 5 ∷ []))
    ∷ (there Plain (Of 1) 3 2 bands_of1 column gives accepted after1)
    ∷ (back Plain (Of 1) 3 2 bands_of1 after1 gives accepted column)
    ∷ (there Plain (Of 2) 3 2 bands_of2 column gives accepted after2)
    ∷ (back Plain (Of 2) 3 2 bands_of2 after2 gives accepted column)
    ∷ (there Plain (Of 1) 3 2 mask column gives accepted after_mask)
    ∷ (back Plain (Of 1) 3 2 mask after_mask gives accepted column)
    -- "wrapped forms may be banded too": the same modulo 256
    ∷ (there Wrapped (Of 2) 3 2 bands_of2 column gives accepted (after (three (pos 71) (pos 20) (pos 255)) (three (pos 165) (pos 250) (pos 233))))
    ∷ (back Wrapped (Of 2) 3 2 bands_of2 (after (three (pos 71) (pos 20) (pos 255)) (three (pos 165) (pos 250) (pos 233))) gives accepted column)
    -- "unreachable planes are known": 256 in the mask's row, which comes back as it is, is no sample
    ∷ (back Plain (Of 1) 3 2 mask (after (three (minus 185) (pos 256) (minus 230)) (three (pos 65) (pos 6) (pos 121)))
    gives refuses 12 (after (three (minus 185) (pos 256) (minus 230)) (three (pos 65) (pos 6) (pos 121))))
    ∷ []

-- "each step still covers the whole picture first", and "a step is skipped row by row"
unfoldable pub band_step_cases : List Case
band_step_cases =
    (there Plain (Of 1) 2 3 whole_steps pair gives accepted (triple (two (pos 40) (pos 35)) (two (minus 90) (minus 30)) (two (minus 33) (minus 26))))
    ∷ (there Plain (Of 1) 2 0 quarters grey gives accepted (triple (two (minus 190) (minus 80)) (two (pos 200) (pos 82)) (two (minus 140) (minus 70))))
    ∷ []

-- "17 if the band height is 0 or above the picture's, after 6; 7 also if the choices .. aren't exactly places × bands in number"
unfoldable pub band_refusal_cases : List Case
band_refusal_cases =
    (there Plain (Of 0) 3 4 [] column gives refuses 6 column)
    ∷ (there Plain (Of 0) 3 2 [] column gives refuses 17 column)
    ∷ (there Plain (Of 4) 3 2 (13 ∷ []) column gives refuses 17 column)
    ∷ (there Plain (Of 3) 3 2 (1 ∷ 1 ∷ []) column gives there Plain One 3 2 (1 ∷ 1 ∷ []) column)
    ∷ (there Plain (Of 1) 3 2 (0 ∷ 0 ∷ 0 ∷ 0 ∷ 0 ∷ []) column gives refuses 7 column)
    ∷ (there Plain (Of 2) 3 2 bands_of1 column gives refuses 7 column)
    ∷ (there Plain (Of 1) 3 2 bands_of2 column gives refuses 7 column)
    ∷ (there Plain (Of 2) 3 2 (0 ∷ 1 ∷ 5 ∷ 13 ∷ []) column gives refuses 7 column)
    ∷ (there Plain (Of 2) 4 2 bands_of2 column gives refuses 8 column)
    ∷ (there Wrapped (Of 0) 3 2 bands_of2 column gives refuses 17 column)
    ∷ (back Plain (Of 0) 3 2 bands_of2 column gives refuses 17 column)
    ∷ (back Plain (Of 2) 3 2 bands_of1 column gives refuses 7 column)
    ∷ (back Wrapped (Of 4) 3 2 bands_of2 column gives refuses 17 column)
    ∷ []

abbrev pub BandCasesHold : Type 0
BandCasesHold = Hold band_cases × Hold band_step_cases × Hold band_refusal_cases
