-- The cases that 01 marks ◆, as one list, and the proposition that the definitions satisfy it. 02 replaces the one of null filters.
use Rattle.std.specs.Prelude.{List, [], ◌∷◌, ℕ, ℤ, pos}
use Rattle.stage.specs.Settings.{each, settings_of, Plain, One}
use Rattle.stage.specs.Planes.{triple}
use Rattle.stage.specs.Filter.{filtered}
use Rattle.stage.specs.Transform.{forward}
use Rattle.stage.specs.Logarithm.{L}
use Rattle.stage.specs.Estimate.{med, estimate_of_counts}
use Rattle.stage.specs.Case.{Value, Case, ◌gives◌, Hold, call, sample, count, minus, pixel, there, back, accepted, refuses}

-- "3 by 3 zeros with centre" z: the filter's value at an index
abbrev centred : ℕ → ℤ → ℕ → Value
centred f z i =
    sample (filtered 3 3 f (pos 0 ∷ pos 0 ∷ pos 0 ∷ pos 0 ∷ z ∷ pos 0 ∷ pos 0 ∷ pos 0 ∷ pos 0 ∷ []) i)

unfoldable pub marked : List Case
marked =
    -- "filters 0 .. RCT −190, 117, −140"
    (there 0 (0 ∷ 0 ∷ 0 ∷ 0 ∷ [])
    gives accepted (pixel (minus 190) (pos 117) (minus 140)))
    -- "YCoCg-R −50, 165, 117"
    ∷ (there 1 (0 ∷ 0 ∷ 0 ∷ 0 ∷ [])
    gives accepted (pixel (minus 50) (pos 165) (pos 117)))
    -- "RDgDb 10, −190, 140"
    ∷ (there 2 (0 ∷ 0 ∷ [])
    gives accepted (pixel (pos 10) (minus 190) (pos 140)))
    -- "LDgEb 105, −190, −45"
    ∷ (there 3 (0 ∷ 0 ∷ 0 ∷ [])
    gives accepted (pixel (pos 105) (minus 190) (minus 45)))
    -- 02: "The pixel 10, 200, 60 under RDgDb or LDgEb with all nulls gives 10, 200, 60"
    ∷ (there 2 (12 ∷ 12 ∷ [])
    gives accepted (pixel (pos 10) (pos 200) (pos 60)))
    ∷ (there 3 (12 ∷ 12 ∷ 12 ∷ [])
    gives accepted (pixel (pos 10) (pos 200) (pos 60)))
    -- "2 by 1, RDgDb, filter 1 twice, R 10 20, G 100 101, B 7 9: plane 2 is −85 −86, plane 3 is 94 92"
    ∷ (call (forward Plain One (settings_of 2 1 (each 8) 2) (1 ∷ 1 ∷ []) (triple (pos 10 ∷ pos 20 ∷ []) (pos 100 ∷ pos 101 ∷ []) (pos 7 ∷ pos 9 ∷ [])))
    gives accepted (triple (pos 10 ∷ pos 20 ∷ []) (minus 85 ∷ minus 86 ∷ []) (pos 94 ∷ pos 92 ∷ [])))
    -- "3 by 3 zeros with centre 9: filter 1 gives 1 at the centre, 2 at an edge's middle, 2 at a corner"
    ∷ (centred 1 (pos 9) 4 gives sample (pos 1))
    ∷ (centred 1 (pos 9) 1 gives sample (pos 2))
    ∷ (centred 1 (pos 9) 0 gives sample (pos 2))
    -- "filter 2 gives 2 at the centre"
    ∷ (centred 2 (pos 9) 4 gives sample (pos 2))
    -- "Centre −9, filter 1, edge's middle: −1"
    ∷ (centred 1 (minus 9) 1 gives sample (minus 1))
    -- "MED of (a, e, c): 10, 20, 5 gives 20; 10, 20, 25 gives 10; 10, 20, 15 gives 15"
    ∷ (sample (med (pos 10) (pos 20) (pos 5)) gives sample (pos 20))
    ∷ (sample (med (pos 10) (pos 20) (pos 25)) gives sample (pos 10))
    ∷ (sample (med (pos 10) (pos 20) (pos 15)) gives sample (pos 15))
    -- "L(1), L(2), L(3), L(4096) are 0, 64, 101, 768"
    ∷ (count (L 1) gives count 0)
    ∷ (count (L 2) gives count 64)
    ∷ (count (L 3) gives count 101)
    ∷ (count (L 4096) gives count 768)
    -- "Counts 3 and 1 give 209"
    ∷ (count (estimate_of_counts (3 ∷ 1 ∷ [])) gives count 209)
    -- "Back through RDgDb, 0, 0, 255: 12"
    ∷ (back 2 (0 ∷ 0 ∷ []) (pixel (pos 0) (pos 0) (pos 255))
    gives refuses 12 (pixel (pos 0) (pos 0) (pos 255)))
    -- "RCT 255, −128, 255: 12"
    ∷ (back 0 (0 ∷ 0 ∷ 0 ∷ 0 ∷ []) (pixel (pos 255) (minus 128) (pos 255))
    gives refuses 12 (pixel (pos 255) (minus 128) (pos 255)))
    ∷ []

abbrev pub CasesHold : Type 0
CasesHold = Hold marked
