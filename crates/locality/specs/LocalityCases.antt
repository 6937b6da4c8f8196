-- Cases of filters' radii and of a picture cut out of a picture, by hand.
use Rattle.std.specs.Prelude.{List, [], ◌∷◌, map, ℕ, pos}
use Rattle.stage.specs.declared.Form.TheVariants.{Plain}
use Rattle.stage.specs.declared.Bands.TheVariants.{One}
use Rattle.stage.specs.Settings.{each, settings_of}
use Rattle.stage.specs.Planes.{Planes, triple}
use Rattle.stage.specs.Steps.{Setup}
use Rattle.stage.specs.Transform.{setup, forward}
use Rattle.stage.specs.Case.{Case, ◌gives◌, Hold, call, counts, samples, minus, accepted}
use Rattle.locality.specs.Reach.{radius}
use Rattle.locality.specs.Parts.{Corner, apart, cut_plane, cut_out}

-- a setup of width w and height h, and the part that begins after one column and after y rows
abbrev sized : (w h : ℕ) → Setup
sized w h = setup Plain One (settings_of w h (each 8) 2) (1 ∷ 1 ∷ [])

abbrev after_one : (y : ℕ) → Corner
after_one y = record { left = 1; top = y }

-- four pixels in a row
abbrev four : Planes
four = triple (pos 10 ∷ pos 20 ∷ pos 30 ∷ pos 40 ∷ []) (pos 100 ∷ pos 101 ∷ pos 102 ∷ pos 103 ∷ []) (pos 7 ∷ pos 9 ∷ pos 11 ∷ pos 13 ∷ [])

unfoldable pub part_cases : List Case
part_cases =
    -- filters 0 to 12
    (counts (map radius (0 ∷ 1 ∷ 2 ∷ 3 ∷ 4 ∷ 5 ∷ 6 ∷ 7 ∷ 8 ∷ 9 ∷ 10 ∷ 11 ∷ 12 ∷ []))
    gives counts (0 ∷ 1 ∷ 1 ∷ 1 ∷ 1 ∷ 1 ∷ 1 ∷ 1 ∷ 1 ∷ 1 ∷ 1 ∷ 1 ∷ 0 ∷ []))
    -- columns 3 and 7 are 4 apart, either way
    ∷ (counts (apart 3 7 ∷ apart 7 3 ∷ apart 3 3 ∷ []) gives counts (4 ∷ 4 ∷ 0 ∷ []))
    -- 2 by 2 out of 4 by 3, after one column and one row
    ∷ (samples (cut_plane (sized 4 3) (after_one 1) 2 2 (map pos (0 ∷ 1 ∷ 2 ∷ 3 ∷ 4 ∷ 5 ∷ 6 ∷ 7 ∷ 8 ∷ 9 ∷ 10 ∷ 11 ∷ [])))
    gives samples (pos 5 ∷ pos 6 ∷ pos 9 ∷ pos 10 ∷ []))
    -- the four pixels by RDgDb with filter 1, and three of them alone: the same but at the cut, where 25 stands for the mean 20 and 102 for 101
    ∷ (call (forward Plain One (settings_of 4 1 (each 8) 2) (1 ∷ 1 ∷ []) four)
    gives accepted (triple (pos 10 ∷ pos 20 ∷ pos 30 ∷ pos 40 ∷ []) (minus 85 ∷ minus 81 ∷ minus 72 ∷ minus 68 ∷ []) (pos 94 ∷ pos 92 ∷ pos 91 ∷ pos 90 ∷ [])))
    ∷ (call (forward Plain One (settings_of 3 1 (each 8) 2) (1 ∷ 1 ∷ []) (cut_out (sized 4 1) (after_one 0) 3 1 four))
    gives accepted (triple (pos 20 ∷ pos 30 ∷ pos 40 ∷ []) (minus 76 ∷ minus 72 ∷ minus 68 ∷ []) (pos 93 ∷ pos 91 ∷ pos 90 ∷ [])))
    ∷ []

abbrev pub PartCasesHold : Type 0
PartCasesHold = Hold part_cases
