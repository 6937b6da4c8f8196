-- Cases of `forward` and `inverse` beyond 01's marked ones: its trap of halves, its limits, the order of refusals, the ranges at depth
-- 8, and null steps. The planes of six pixels come from a second implementation of 01.
use Rattle.std.specs.Prelude.{List, [], ◌∷◌, ℕ, ℤ, pos}
use Rattle.stage.specs.Answers.{number}
use Rattle.stage.specs.Settings.{each, settings_of, Plain, One}
use Rattle.stage.specs.Planes.{Planes, triple}
use Rattle.stage.specs.Ranges.{range_row, finished_ranges, bounded}
use Rattle.stage.specs.Transform.{forward, inverse}
use Rattle.stage.specs.Search.{counters_needed}
use Rattle.stage.specs.Case.{Value, Case, ◌gives◌, Hold, call, count, ranges, minus, pixel, there, back, accepted, refuses}

-- one pixel at depth b through RDgDb with filters 0
abbrev one : ℕ → Planes → Value
one b p = call (forward Plain One (settings_of 1 1 (each b) 2) (0 ∷ 0 ∷ []) p)

-- the same sample in all planes, which RDgDb takes to it, 0 and 0
abbrev grey : ℤ → Planes
grey z = pixel z z z

abbrev six : Planes
six =
    triple
    (pos 10 ∷ pos 20 ∷ pos 30 ∷ pos 40 ∷ pos 50 ∷ pos 60 ∷ [])
    (pos 200 ∷ pos 0 ∷ pos 255 ∷ pos 3 ∷ pos 99 ∷ pos 1 ∷ [])
    (pos 35 ∷ pos 6 ∷ pos 7 ∷ pos 255 ∷ pos 255 ∷ pos 0 ∷ [])

-- six, through RCT as 3 by 2, and through YCoCg-R as 2 by 3
abbrev six_rct : Planes
six_rct =
    triple
    (minus 66 ∷ minus 73 ∷ minus 59 ∷ minus 36 ∷ minus 43 ∷ minus 29 ∷ [])
    (pos 179 ∷ minus 24 ∷ pos 221 ∷ pos 27 ∷ pos 109 ∷ minus 23 ∷ [])
    (minus 65 ∷ minus 74 ∷ minus 115 ∷ pos 194 ∷ pos 161 ∷ minus 71 ∷ [])

abbrev six_ycocg_r : Planes
six_ycocg_r =
    triple
    (minus 34 ∷ minus 1 ∷ minus 2 ∷ minus 169 ∷ minus 179 ∷ pos 33 ∷ [])
    (pos 160 ∷ minus 34 ∷ pos 206 ∷ minus 81 ∷ minus 19 ∷ minus 66 ∷ [])
    (pos 9 ∷ minus 20 ∷ minus 23 ∷ pos 225 ∷ pos 215 ∷ minus 40 ∷ [])

-- no picture at depth 8, and no picture goes to it by RDgDb
abbrev bright : Planes
bright = grey (pos 256)

unfoldable pub plane_cases : List Case
plane_cases =
    -- "Halving −25 to −12: rounding down gives −13"
    (call (forward Plain One (settings_of 1 1 (each 8) 1) (0 ∷ 0 ∷ 0 ∷ 0 ∷ []) (pixel (pos 10) (pos 200) (pos 35)))
    gives accepted (pixel (minus 25) (pos 178) (pos 111)))
    ∷ (call (inverse Plain One (settings_of 1 1 (each 8) 1) (0 ∷ 0 ∷ 0 ∷ 0 ∷ []) (pixel (minus 25) (pos 178) (pos 111)))
    gives accepted (pixel (pos 10) (pos 200) (pos 35)))
    -- "Each filtered value is a place with its own filter", at a size whose width is not its height; and back
    ∷ (call (forward Plain One (settings_of 3 2 (each 8) 0) (1 ∷ 2 ∷ 3 ∷ 4 ∷ []) six) gives accepted six_rct)
    ∷ (call (inverse Plain One (settings_of 3 2 (each 8) 0) (1 ∷ 2 ∷ 3 ∷ 4 ∷ []) six_rct) gives accepted six)
    ∷ (call (forward Plain One (settings_of 2 3 (each 8) 1) (5 ∷ 1 ∷ 2 ∷ 12 ∷ []) six) gives accepted six_ycocg_r)
    ∷ (call (inverse Plain One (settings_of 2 3 (each 8) 1) (5 ∷ 1 ∷ 2 ∷ 12 ∷ []) six_ycocg_r) gives accepted six)
    -- "Values at depth 8 in brackets": RCT, plane 2 "−128 to 382"
    ∷ (ranges (finished_ranges (settings_of 1 1 (each 8) 0)) gives ranges (range_row 255 255 128 382 255 255))
    -- YCoCg-R, plane 2 "−382 to 383", plane 3 "−319 to 573"
    ∷ (ranges (finished_ranges (settings_of 1 1 (each 8) 1)) gives ranges (range_row 255 255 382 383 319 573))
    -- RDgDb, "plane 1, 0 to M"
    ∷ (ranges (finished_ranges (settings_of 1 1 (each 8) 2)) gives ranges (range_row 0 255 255 255 255 255))
    -- LDgEb, plane 1 "−127 to 383", plane 3 "−383 to 382"
    ∷ (ranges (finished_ranges (settings_of 1 1 (each 8) 3)) gives ranges (range_row 127 383 255 255 383 382))
    -- ±2^19, which holds every number met
    ∷ (ranges bounded gives ranges (range_row 524288 524288 524288 524288 524288 524288))
    -- "2 × D + 1 counters .. 1,785 counters (depth 8, YCoCg-R)"
    ∷ (count (counters_needed (settings_of 1 1 (each 8) 1)) gives count 1785)
    ∷ []

-- the pixel comes back
abbrev again : Value
again = accepted (pixel (pos 10) (pos 200) (pos 60))

-- 02: "a step whose places are all null leaves its plane unchanged, both ways"
unfoldable pub null_cases : List Case
null_cases =
    (back 2 (12 ∷ 12 ∷ []) (pixel (pos 10) (pos 200) (pos 60)) gives again)
    ∷ (back 3 (12 ∷ 12 ∷ 12 ∷ []) (pixel (pos 10) (pos 200) (pos 60)) gives again)
    -- planes that 01 by itself would have given, and that no picture goes to any more
    ∷ (back 2 (12 ∷ 12 ∷ []) (pixel (pos 10) (minus 200) (minus 60)) gives refuses 12 (pixel (pos 10) (minus 200) (minus 60)))
    -- RDgDb with one null of its two places, each in a step of its own
    ∷ (there 2 (12 ∷ 0 ∷ []) gives accepted (pixel (pos 10) (minus 190) (pos 60)))
    ∷ (back 2 (12 ∷ 0 ∷ []) (pixel (pos 10) (minus 190) (pos 60)) gives again)
    ∷ (there 2 (0 ∷ 12 ∷ []) gives accepted (pixel (pos 10) (pos 200) (pos 140)))
    ∷ (back 2 (0 ∷ 12 ∷ []) (pixel (pos 10) (pos 200) (pos 140)) gives again)
    -- LDgEb: plane 2, not negated, is halved into plane 1
    ∷ (there 3 (12 ∷ 0 ∷ 0 ∷ []) gives accepted (pixel (minus 90) (pos 200) (pos 150)))
    ∷ (back 3 (12 ∷ 0 ∷ 0 ∷ []) (pixel (minus 90) (pos 200) (pos 150)) gives again)
    -- RCT's third step: not skipped with one null of two places, −140/4 and −190/4 rounded down; skipped with both
    ∷ (there 0 (0 ∷ 0 ∷ 12 ∷ 0 ∷ []) gives accepted (pixel (minus 190) (pos 165) (minus 140)))
    ∷ (back 0 (0 ∷ 0 ∷ 12 ∷ 0 ∷ []) (pixel (minus 190) (pos 165) (minus 140)) gives again)
    ∷ (there 0 (0 ∷ 0 ∷ 0 ∷ 12 ∷ []) gives accepted (pixel (minus 190) (pos 152) (minus 140)))
    ∷ (back 0 (0 ∷ 0 ∷ 0 ∷ 12 ∷ []) (pixel (minus 190) (pos 152) (minus 140)) gives again)
    ∷ (there 0 (0 ∷ 0 ∷ 12 ∷ 12 ∷ []) gives accepted (pixel (minus 190) (pos 200) (minus 140)))
    ∷ []

unfoldable pub limit_cases : List Case
limit_cases =
    -- "Width 8,192 passes, 8,193 gives 2": what passes is refused later, for its length
    (call (forward Plain One (settings_of 8192 1 (each 8) 2) (0 ∷ 0 ∷ []) bright) gives refuses 8 bright)
    ∷ (call (forward Plain One (settings_of 1 8192 (each 8) 2) (0 ∷ 0 ∷ []) bright) gives refuses 8 bright)
    ∷ (call (forward Plain One (settings_of 8193 1 (each 8) 2) (0 ∷ 0 ∷ []) bright) gives refuses 2 bright)
    ∷ (call (forward Plain One (settings_of 1 8193 (each 8) 2) (0 ∷ 0 ∷ []) bright) gives refuses 2 bright)
    ∷ (call (forward Plain One (settings_of 0 1 (each 8) 2) (0 ∷ 0 ∷ []) bright) gives refuses 2 bright)
    ∷ (call (forward Plain One (settings_of 1 0 (each 8) 2) (0 ∷ 0 ∷ []) bright) gives refuses 2 bright)
    -- "Depth 2 and 16 pass, 1 and 17 give 5"
    ∷ (one 2 (grey (pos 3)) gives accepted (pixel (pos 3) (pos 0) (pos 0)))
    ∷ (one 16 (grey (pos 65535)) gives accepted (pixel (pos 65535) (pos 0) (pos 0)))
    ∷ (one 1 (grey (pos 0)) gives refuses 5 (grey (pos 0)))
    ∷ (one 17 (grey (pos 0)) gives refuses 5 (grey (pos 0)))
    -- "Sample 255 passes at depth 8, 256 gives 11", in each plane; so does −1
    ∷ (one 8 (grey (pos 255)) gives accepted (pixel (pos 255) (pos 0) (pos 0)))
    ∷ (one 8 (pixel (pos 256) (pos 0) (pos 0)) gives refuses 11 (pixel (pos 256) (pos 0) (pos 0)))
    ∷ (one 8 (pixel (pos 0) (pos 256) (pos 0)) gives refuses 11 (pixel (pos 0) (pos 256) (pos 0)))
    ∷ (one 8 (pixel (pos 0) (pos 0) (pos 256)) gives refuses 11 (pixel (pos 0) (pos 0) (pos 256)))
    ∷ (one 8 (pixel (pos 0) (minus 1) (pos 0)) gives refuses 11 (pixel (pos 0) (minus 1) (pos 0)))
    -- "8 a plane's length not width × height", of each plane
    ∷ (one 8 (triple [] (pos 0 ∷ []) (pos 0 ∷ [])) gives refuses 8 (triple [] (pos 0 ∷ []) (pos 0 ∷ [])))
    ∷ (one 8 (triple (pos 0 ∷ []) [] (pos 0 ∷ [])) gives refuses 8 (triple (pos 0 ∷ []) [] (pos 0 ∷ [])))
    ∷ (one 8 (triple (pos 0 ∷ []) (pos 0 ∷ []) []) gives refuses 8 (triple (pos 0 ∷ []) (pos 0 ∷ []) []))
    ∷ []

-- "Tested in that order": a call that every test refuses, and one test fewer each time
unfoldable pub order_cases : List Case
order_cases =
    (call (forward Plain One (settings_of 0 1 (each 1) 4) (13 ∷ []) bright) gives refuses 2 bright)
    ∷ (call (forward Plain One (settings_of 2 1 (each 1) 4) (13 ∷ []) bright) gives refuses 5 bright)
    ∷ (call (forward Plain One (settings_of 2 1 (each 8) 4) (13 ∷ []) bright) gives refuses 6 bright)
    -- "7 wrong number of choices, or one above 12"
    ∷ (call (forward Plain One (settings_of 2 1 (each 8) 2) (13 ∷ []) bright) gives refuses 7 bright)
    ∷ (call (forward Plain One (settings_of 2 1 (each 8) 2) (0 ∷ 0 ∷ 0 ∷ []) bright) gives refuses 7 bright)
    ∷ (call (forward Plain One (settings_of 2 1 (each 8) 2) (0 ∷ 13 ∷ []) bright) gives refuses 7 bright)
    ∷ (call (forward Plain One (settings_of 2 1 (each 8) 2) (0 ∷ 12 ∷ []) bright) gives refuses 8 bright)
    ∷ (call (forward Plain One (settings_of 1 1 (each 8) 2) (0 ∷ 12 ∷ []) bright) gives refuses 11 bright)
    -- "gives its number alone", and C callers see 0 for success
    ∷ (count (number (forward Plain One (settings_of 1 1 (each 8) 2) (0 ∷ 12 ∷ []) bright).reply) gives count 11)
    ∷ (count (number (forward Plain One (settings_of 1 1 (each 8) 2) (0 ∷ 12 ∷ []) (grey (pos 0))).reply) gives count 0)
    -- the inverse
    ∷ (call (inverse Plain One (settings_of 0 1 (each 1) 4) (13 ∷ []) bright) gives refuses 2 bright)
    ∷ (call (inverse Plain One (settings_of 2 1 (each 1) 4) (13 ∷ []) bright) gives refuses 5 bright)
    ∷ (call (inverse Plain One (settings_of 2 1 (each 8) 4) (13 ∷ []) bright) gives refuses 6 bright)
    ∷ (call (inverse Plain One (settings_of 2 1 (each 8) 2) (13 ∷ []) bright) gives refuses 7 bright)
    ∷ (call (inverse Plain One (settings_of 2 1 (each 8) 2) (0 ∷ 13 ∷ []) bright) gives refuses 7 bright)
    ∷ (call (inverse Plain One (settings_of 2 1 (each 8) 2) (0 ∷ 12 ∷ []) bright) gives refuses 8 bright)
    ∷ (call (inverse Plain One (settings_of 1 1 (each 8) 2) (0 ∷ 12 ∷ []) bright) gives refuses 12 bright)
    ∷ []

abbrev pub TransformCasesHold : Type 0
TransformCasesHold = Hold plane_cases × Hold null_cases × Hold limit_cases × Hold order_cases
