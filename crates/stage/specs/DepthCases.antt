-- Cases of pictures whose planes have depths of their own (02, request 7): ranges and D calculated by hand, a picture's samples, acceptance
-- on the way back, and refusal 5.
use Rattle.std.specs.Prelude.{List, [], ◌∷◌, ℕ, pos}
use Rattle.stage.specs.Settings.{Depths, depths_of, each, settings_of, Plain, One}
use Rattle.stage.specs.Planes.{Planes}
use Rattle.stage.specs.Ranges.{range_row, finished_ranges}
use Rattle.stage.specs.Transform.{forward, inverse}
use Rattle.stage.specs.Search.{counters_call}
use Rattle.stage.specs.Case.{Value, Case, ◌gives◌, Hold, call, count, ranges, minus, pixel, accepted, refuses}

-- "Five, six and five bits", and the deepest beside the shallowest
abbrev mobile : Depths
mobile = depths_of 5 6 5

abbrev far : Depths
far = depths_of 16 2 9

abbrev at : Depths → ℕ → Value
at d t = ranges (finished_ranges (settings_of 1 1 d t))

unfoldable pub depth_range_cases : List Case
depth_range_cases =
    (at mobile 0 gives ranges (range_row 63 31 32 78 63 31))
    ∷ (at mobile 1 gives ranges (range_row 31 31 46 79 39 85))
    ∷ (at mobile 2 gives ranges (range_row 0 31 63 63 31 63))
    ∷ (at mobile 3 gives ranges (range_row 31 63 63 63 63 62))
    ∷ (at far 0 gives ranges (range_row 3 65535 2 16514 3 511))
    ∷ (at far 1 gives ranges (range_row 511 65535 33278 259 16895 33407))
    ∷ (at far 2 gives ranges (range_row 0 65535 3 65535 511 511))
    ∷ (at far 3 gives ranges (range_row 32767 65537 3 65535 65537 33278))
    -- the counters: D is the extent of plane 2, 2, 2, 2 and of plane 1, 1, 2, 3
    ∷ (count (counters_call mobile 0) gives count 221)
    ∷ (count (counters_call mobile 1) gives count 251)
    ∷ (count (counters_call mobile 2) gives count 253)
    ∷ (count (counters_call mobile 3) gives count 253)
    ∷ (count (counters_call far 0) gives count 131077)
    ∷ (count (counters_call far 1) gives count 132093)
    ∷ (count (counters_call far 2) gives count 131077)
    ∷ (count (counters_call far 3) gives count 197631)
    -- none where a depth or the transform would be refused
    ∷ (count (counters_call (depths_of 1 6 5) 0) gives count 0)
    ∷ (count (counters_call (depths_of 5 17 5) 0) gives count 0)
    ∷ (count (counters_call (depths_of 5 6 1) 0) gives count 0)
    ∷ (count (counters_call mobile 4) gives count 0)
    ∷ []

-- one pixel through RDgDb with filters 0, and back
abbrev there : Depths → Planes → Value
there d p = call (forward Plain One (settings_of 1 1 d 2) (0 ∷ 0 ∷ []) p)

abbrev back : Depths → Planes → Value
back d q = call (inverse Plain One (settings_of 1 1 d 2) (0 ∷ 0 ∷ []) q)

abbrev black : Planes
black = pixel (pos 0) (pos 0) (pos 0)

unfoldable pub depth_cases : List Case
depth_cases =
    -- a sample is within its own plane's depth: 32 passes as G, not as R or B
    (there mobile (pixel (pos 31) (pos 63) (pos 31)) gives accepted (pixel (pos 31) (minus 32) (pos 32)))
    ∷ (there mobile (pixel (pos 0) (pos 32) (pos 0)) gives accepted (pixel (pos 0) (minus 32) (pos 32)))
    ∷ (there mobile (pixel (pos 32) (pos 0) (pos 0)) gives refuses 11 (pixel (pos 32) (pos 0) (pos 0)))
    ∷ (there mobile (pixel (pos 0) (pos 0) (pos 32)) gives refuses 11 (pixel (pos 0) (pos 0) (pos 32)))
    ∷ (there mobile (pixel (pos 0) (pos 64) (pos 0)) gives refuses 11 (pixel (pos 0) (pos 64) (pos 0)))
    -- "Acceptance on the way back means a picture within its own three depths": the planes of the pixel 10, 20, 40, each within its range
    ∷ (there (each 6) (pixel (pos 10) (pos 20) (pos 40)) gives accepted (pixel (pos 10) (minus 10) (minus 20)))
    ∷ (back (each 6) (pixel (pos 10) (minus 10) (minus 20)) gives accepted (pixel (pos 10) (pos 20) (pos 40)))
    ∷ (back mobile (pixel (pos 10) (minus 10) (minus 20)) gives refuses 12 (pixel (pos 10) (minus 10) (minus 20)))
    -- "each 2 to 16"
    ∷ (there (depths_of 2 16 2) black gives accepted black)
    ∷ (there (depths_of 1 6 5) black gives refuses 5 black)
    ∷ (there (depths_of 5 1 5) black gives refuses 5 black)
    ∷ (there (depths_of 5 6 1) black gives refuses 5 black)
    ∷ (there (depths_of 17 6 5) black gives refuses 5 black)
    ∷ (there (depths_of 5 17 5) black gives refuses 5 black)
    ∷ (there (depths_of 5 6 17) black gives refuses 5 black)
    ∷ (back (depths_of 5 6 17) black gives refuses 5 black)
    ∷ []

abbrev pub DepthCasesHold : Type 0
DepthCasesHold = Hold depth_range_cases × Hold depth_cases
