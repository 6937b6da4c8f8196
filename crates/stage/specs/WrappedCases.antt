-- Cases of the wrapped forms (02, request 9). Those that the paper does not give are calculated by hand, as their comments show.
use Rattle.std.specs.Prelude.{List, [], ◌∷◌, ℕ, pos}
use Rattle.integers.specs.Parts.{floor_mod}
use Rattle.stage.specs.Settings.{Depths, depths_of, each, settings_of, Wrapped, One}
use Rattle.stage.specs.Planes.{Planes, triple}
use Rattle.stage.specs.Transform.{forward, inverse}
use Rattle.stage.specs.Case.{Value, Case, ◌gives◌, Hold, call, samples, minus, pixel, accepted, refuses}

-- one pixel at depth b through transform t with the filters φ, and back
abbrev there : (b t : ℕ) → List ℕ → Planes → Value
there b t φ p = call (forward Wrapped One (settings_of 1 1 (each b) t) φ p)

abbrev back : (b t : ℕ) → List ℕ → Planes → Value
back b t φ q = call (inverse Wrapped One (settings_of 1 1 (each b) t) φ q)

-- "The pixel 10, 200, 60"
abbrev one : Planes
one = pixel (pos 10) (pos 200) (pos 60)

abbrev zeros : List ℕ
zeros = 0 ∷ 0 ∷ 0 ∷ 0 ∷ []

unfoldable pub wrapped_cases : List Case
wrapped_cases =
    -- modulo 256, as 0 to 255
    (samples (floor_mod (minus 190) 256 ∷ floor_mod (minus 256) 256 ∷ floor_mod (minus 1) 256 ∷ floor_mod (pos 255) 256 ∷ floor_mod (pos 256) 256 ∷ floor_mod (pos 513) 256 ∷ [])
    gives samples (pos 66 ∷ pos 0 ∷ pos 255 ∷ pos 255 ∷ pos 0 ∷ pos 1 ∷ []))
    -- "at depth 8 gives 10, 66, 140 under RDgDb and 233, 66, 83 under LDgEb"; and back
    ∷ (there 8 2 (0 ∷ 0 ∷ []) one gives accepted (pixel (pos 10) (pos 66) (pos 140)))
    ∷ (back 8 2 (0 ∷ 0 ∷ []) (pixel (pos 10) (pos 66) (pos 140)) gives accepted one)
    ∷ (there 8 3 (0 ∷ 0 ∷ 0 ∷ []) one gives accepted (pixel (pos 233) (pos 66) (pos 83)))
    ∷ (back 8 3 (0 ∷ 0 ∷ 0 ∷ []) (pixel (pos 233) (pos 66) (pos 83)) gives accepted one)
    -- RCT: −190 is 66, −140 is 116, 200 + (66 + 116) / 4 is 245
    ∷ (there 8 0 zeros one gives accepted (pixel (pos 66) (pos 245) (pos 116)))
    ∷ (back 8 0 zeros (pixel (pos 66) (pos 245) (pos 116)) gives accepted one)
    -- YCoCg-R: −50 is 206, 60 + 206 / 2 is 163, 200 − 163 is 37, 163 + 37 / 2 is 181
    ∷ (there 8 1 zeros one gives accepted (pixel (pos 206) (pos 37) (pos 181)))
    ∷ (back 8 1 zeros (pixel (pos 206) (pos 37) (pos 181)) gives accepted one)
    -- "RCT's sum of two filtered values is divided before anything is reduced": 380 / 4 is 95, while 380 reduced first, 124, gives 31
    ∷ (there 8 0 zeros (pixel (pos 200) (pos 0) (pos 180)) gives accepted (pixel (pos 200) (pos 95) (pos 180)))
    ∷ (back 8 0 zeros (pixel (pos 200) (pos 95) (pos 180)) gives accepted (pixel (pos 200) (pos 0) (pos 180)))
    -- depth 16, RCT: −1 is 65,535, twice, and 65,535 + 131,070 / 4 is 98,302, less 65,536
    ∷ (there 16 0 zeros (pixel (pos 65534) (pos 65535) (pos 65534)) gives accepted (pixel (pos 65535) (pos 32766) (pos 65535)))
    ∷ (back 16 0 zeros (pixel (pos 65535) (pos 32766) (pos 65535)) gives accepted (pixel (pos 65534) (pos 65535) (pos 65534)))
    -- and three samples 65,535, which differ by 0
    ∷ (there 16 0 zeros (pixel (pos 65535) (pos 65535) (pos 65535)) gives accepted (pixel (pos 0) (pos 65535) (pos 0)))
    -- planes that no picture goes to by the plain RDgDb: 0 − 255 is 1
    ∷ (back 8 2 (0 ∷ 0 ∷ []) (pixel (pos 0) (pos 0) (pos 255)) gives accepted (pixel (pos 0) (pos 0) (pos 1)))
    -- null steps are skipped here too
    ∷ (there 8 2 (12 ∷ 12 ∷ []) one gives accepted one)
    ∷ (back 8 2 (12 ∷ 12 ∷ []) one gives accepted one)
    ∷ (there 8 2 (12 ∷ 0 ∷ []) one gives accepted (pixel (pos 10) (pos 66) (pos 60)))
    ∷ (there 8 0 (0 ∷ 0 ∷ 12 ∷ 12 ∷ []) one gives accepted (pixel (pos 66) (pos 200) (pos 116)))
    -- 200 + 116 / 4: one null of two places
    ∷ (there 8 0 (0 ∷ 0 ∷ 12 ∷ 0 ∷ []) one gives accepted (pixel (pos 66) (pos 229) (pos 116)))
    ∷ []

-- "filters, halves and quarters use that number": two pixels through LDgEb with filter 1. The means of plane 1 are 15, so plane 2 is 171 and
-- 170, by −85 and −86. Their means are 171, whose half is 85: plane 1 is 181 and 191, by −75 and −65. Their means are 186: plane 3 is 77 and
-- 79, by −179 and −177. Of −85 and −86 the half of the means would be −43.
abbrev two : Planes
two = triple (pos 10 ∷ pos 20 ∷ []) (pos 100 ∷ pos 101 ∷ []) (pos 7 ∷ pos 9 ∷ [])

abbrev two_ldgeb : Planes
two_ldgeb = triple (pos 181 ∷ pos 191 ∷ []) (pos 171 ∷ pos 170 ∷ []) (pos 77 ∷ pos 79 ∷ [])

unfoldable pub kept_cases : List Case
kept_cases =
    (call (forward Wrapped One (settings_of 2 1 (each 8) 3) (1 ∷ 1 ∷ 1 ∷ []) two) gives accepted two_ldgeb)
    ∷ (call (inverse Wrapped One (settings_of 2 1 (each 8) 3) (1 ∷ 1 ∷ 1 ∷ []) two_ldgeb) gives accepted two)
    ∷ []

-- "16 if the three depths differ, after 5": a call that every test refuses, and one test fewer each time, both ways
abbrev bright : Planes
bright = pixel (pos 256) (pos 0) (pos 0)

abbrev refusal : (w t : ℕ) → Depths → List ℕ → Planes → Value
refusal w t d φ p = call (forward Wrapped One (settings_of w 1 d t) φ p)

abbrev refusal_back : (w t : ℕ) → Depths → List ℕ → Planes → Value
refusal_back w t d φ p = call (inverse Wrapped One (settings_of w 1 d t) φ p)

unfoldable pub refusal_cases : List Case
refusal_cases =
    (refusal 0 4 (depths_of 1 8 7) (13 ∷ []) bright gives refuses 2 bright)
    ∷ (refusal 2 4 (depths_of 1 8 7) (13 ∷ []) bright gives refuses 5 bright)
    ∷ (refusal 2 4 (depths_of 8 8 7) (13 ∷ []) bright gives refuses 16 bright)
    ∷ (refusal 2 4 (depths_of 7 8 8) (13 ∷ []) bright gives refuses 16 bright)
    ∷ (refusal 2 4 (depths_of 8 7 8) (13 ∷ []) bright gives refuses 16 bright)
    ∷ (refusal 2 4 (each 8) (13 ∷ []) bright gives refuses 6 bright)
    ∷ (refusal 2 2 (each 8) (13 ∷ []) bright gives refuses 7 bright)
    ∷ (refusal 2 2 (each 8) (0 ∷ 12 ∷ []) bright gives refuses 8 bright)
    ∷ (refusal 1 2 (each 8) (0 ∷ 12 ∷ []) bright gives refuses 11 bright)
    ∷ (refusal_back 0 4 (depths_of 1 8 7) (13 ∷ []) bright gives refuses 2 bright)
    ∷ (refusal_back 2 4 (depths_of 1 8 7) (13 ∷ []) bright gives refuses 5 bright)
    ∷ (refusal_back 2 4 (depths_of 8 8 7) (13 ∷ []) bright gives refuses 16 bright)
    ∷ (refusal_back 2 4 (each 8) (13 ∷ []) bright gives refuses 6 bright)
    ∷ (refusal_back 2 2 (each 8) (13 ∷ []) bright gives refuses 7 bright)
    ∷ (refusal_back 2 2 (each 8) (0 ∷ 12 ∷ []) bright gives refuses 8 bright)
    ∷ (refusal_back 1 2 (each 8) (0 ∷ 12 ∷ []) bright gives refuses 11 bright)
    ∷ (refusal_back 1 2 (each 8) (0 ∷ 12 ∷ []) (pixel (pos 0) (pos 0) (minus 1)) gives refuses 11 (pixel (pos 0) (pos 0) (minus 1)))
    ∷ []

abbrev pub WrappedCasesHold : Type 0
WrappedCasesHold = Hold wrapped_cases × Hold kept_cases × Hold refusal_cases
