-- Cases of filters, prediction and counted samples beyond 01's marked ones. The numbers that 01 and 02 don't give come from a second
-- implementation of them.
use Rattle.std.specs.Prelude.{List, [], ◌∷◌, map, ℕ, ◌-◌, ◌^◌, ℤ, pos, replicate}
use Rattle.stage.specs.Planes.{Planes, triple}
use Rattle.stage.specs.Filter.{centre_weights, filtered}
use Rattle.stage.specs.Estimate.{prediction, residual, counted, counted_index, plane_estimate, picture_estimate}
use Rattle.stage.specs.Case.{Case, ◌gives◌, Hold, count, counts, sample, samples, minus}

abbrev indices : List ℕ
indices = 0 ∷ 1 ∷ 2 ∷ 3 ∷ 4 ∷ 5 ∷ []

-- six samples, as 3 by 2 or as 2 by 3
abbrev six : List ℤ
six = pos 1000 ∷ minus 20 ∷ pos 300 ∷ minus 4000 ∷ pos 50000 ∷ pos 600 ∷ []

-- 3 by 2
abbrev plane : List ℤ
plane = pos 10 ∷ pos 20 ∷ pos 5 ∷ pos 7 ∷ pos 50 ∷ pos 1 ∷ []

-- 3 by 3 zeros with centre 1,000,000: the filter's value there
abbrev million : ℕ → ℤ
million f = filtered 3 3 f (pos 0 ∷ pos 0 ∷ pos 0 ∷ pos 0 ∷ pos 1000000 ∷ pos 0 ∷ pos 0 ∷ pos 0 ∷ pos 0 ∷ []) 4

unfoldable pub filter_cases : List Case
filter_cases =
    -- "Centre weights are 1, 2, 4 .. 1024 in that order": the powers of two
    (counts centre_weights
    gives counts (map (λ k. 2 ^ k) (0 ∷ 1 ∷ 2 ∷ 3 ∷ 4 ∷ 5 ∷ 6 ∷ 7 ∷ 8 ∷ 9 ∷ 10 ∷ [])))
    -- "Filter 0 gives the sample itself. Filters 1 to 11 give the weighted mean"
    ∷ (samples (map million (0 ∷ 1 ∷ 2 ∷ 3 ∷ 4 ∷ 5 ∷ []))
    gives samples (pos 1000000 ∷ pos 111111 ∷ pos 200000 ∷ pos 333333 ∷ pos 500000 ∷ pos 666667 ∷ []))
    ∷ (samples (map million (6 ∷ 7 ∷ 8 ∷ 9 ∷ 10 ∷ 11 ∷ []))
    gives samples (pos 800000 ∷ pos 888889 ∷ pos 941176 ∷ pos 969697 ∷ pos 984615 ∷ pos 992248 ∷ []))
    -- "Filter 12, null, gives 0"
    ∷ (samples (map (filtered 3 2 12 six) indices)
    gives samples (pos 0 ∷ pos 0 ∷ pos 0 ∷ pos 0 ∷ pos 0 ∷ pos 0 ∷ []))
    -- "At a border only positions inside the picture count": filter 3, 3 by 2 and 2 by 3
    ∷ (samples (map (filtered 3 2 3 six) indices)
    gives samples (pos 7140 ∷ pos 5313 ∷ pos 7397 ∷ pos 4997 ∷ pos 21987 ∷ pos 7526 ∷ []))
    ∷ (samples (map (filtered 2 3 3 six) indices)
    gives samples (pos 40 ∷ minus 397 ∷ pos 5420 ∷ pos 3987 ∷ pos 28129 ∷ pos 6957 ∷ []))
    -- "rounded down, also below zero": −4, 0 by filter 1 is −2 + 2/4
    ∷ (sample (filtered 2 1 1 (minus 4 ∷ pos 0 ∷ []) 0) gives sample (minus 2))
    -- "The first row uses a alone, the first column e alone, the first sample 0"
    ∷ (samples (map (prediction 3 plane) indices)
    gives samples (pos 0 ∷ pos 10 ∷ pos 20 ∷ pos 10 ∷ pos 17 ∷ pos 35 ∷ []))
    ∷ (samples (map (residual 3 plane) indices)
    gives samples (pos 10 ∷ pos 10 ∷ minus 15 ∷ minus 3 ∷ pos 33 ∷ minus 34 ∷ []))
    -- "N becomes exactly the lesser of t and 4,096": t of 1, 4,095, 4,096, 4,097, 8,192, 8,193 and 8192 × 8192
    ∷ (counts (map counted (1 ∷ 4095 ∷ 4096 ∷ 4097 ∷ 8192 ∷ 8193 ∷ 67108864 ∷ []))
    gives counts (1 ∷ 4095 ∷ 4096 ∷ 4096 ∷ 4096 ∷ 4096 ∷ 4096 ∷ []))
    -- "sample i, from 0, has index i × t / N rounded down": the second and the last sample of each of these t but the first
    ∷ (counts (map (λ t. counted_index t 1) (4095 ∷ 4096 ∷ 4097 ∷ 8192 ∷ 8193 ∷ 67108864 ∷ []))
    gives counts (1 ∷ 1 ∷ 1 ∷ 2 ∷ 2 ∷ 16384 ∷ []))
    ∷ (counts (map (λ t. counted_index t (counted t - 1)) (4095 ∷ 4096 ∷ 4097 ∷ 8192 ∷ 8193 ∷ 67108864 ∷ []))
    gives counts (4094 ∷ 4095 ∷ 4095 ∷ 8190 ∷ 8190 ∷ 67092480 ∷ []))
    -- of 5,000 samples, where the rises are 1 and 2: the first six
    ∷ (counts (map (counted_index 5000) indices)
    gives counts (0 ∷ 1 ∷ 2 ∷ 3 ∷ 4 ∷ 6 ∷ []))
    -- a plane's estimate
    ∷ (count (plane_estimate 3 plane) gives count 862)
    ∷ (count (plane_estimate 2 (pos 3 ∷ pos 3 ∷ pos 3 ∷ pos 5 ∷ [])) gives count 384)
    ∷ []

-- a picture of one colour
abbrev pub one_colour : ℕ → Planes
one_colour t = triple (replicate t (pos 10)) (replicate t (pos 200)) (replicate t (pos 60))

-- "A picture of 4,097 pixels is counted at only 2,049 of them": by 01's rule the second of these has an estimate of 2112
unfoldable pub counted_cases : List Case
counted_cases =
    (count (picture_estimate 64 (one_colour 4096)) gives count 14589)
    ∷ (count (picture_estimate 17 (one_colour 4097)) gives count 14589)
    ∷ []

abbrev pub FilterCasesHold : Type 0
FilterCasesHold = Hold filter_cases × Hold counted_cases
