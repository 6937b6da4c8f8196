-- What is proved of the definitions beside demand 3: each statement a named proposition. The proofs are in proofs/. n is a number of
-- steps or of filters, k a place's number.
use Rattle.std.specs.Prelude.{◌≡◌, ◌⊎◌, List, ℕ, ◌*◌, ◌-◌, ◌^◌, ◌≤◌, ◌<◌, T, ℤ, take, drop, set, get_or}
use Rattle.integers.specs.Parts.{In}
use Rattle.integers.specs.Lists.{AllIn}
use Rattle.stage.specs.Settings.{Settings, Plain, Bands, One, each, depth_at, pixels, Allowed}
use Rattle.stage.specs.Planes.{Plane, Planes}
use Rattle.stage.specs.Filter.{mean, filtered}
use Rattle.stage.specs.Steps.{Setup, steps, places, run, undo, YCoCg-R}
use Rattle.stage.specs.Ranges.{AllInside, max_sample, ranges, sample_ranges, finished_ranges, depth_table, three_rows, bounded, widest, InRanges, KeepsRanges}
use Rattle.stage.specs.Transform.{choices_fit, lengths, setup, transformed, untransformed, Picture}
use Rattle.stage.specs.Demand3.{GoesTo}
use Rattle.stage.specs.Search.{counters_needed, counters_call, winner, searched, all_at_least, estimate_call, search_call, estimate_in_place, search_in_place}

-- Running the steps and undoing them cancel, both ways, on any three planes of whole numbers.
abbrev pub StepsCancel : Type 0
StepsCancel =
    (β : Bands) (s : Settings) (φ : List ℕ) (p : Planes) → (untransformed Plain β s φ (transformed Plain β s φ p) ≡ p) × (transformed Plain β s φ (untransformed Plain β s φ p) ≡ p)

-- A filter keeps a plane's range: the mean for every centre weight and at every border, and so each of the filters.
abbrev pub MeanKeepsRange : Type 0
MeanKeepsRange =
    (w h centre below above : ℕ) (a : List ℤ) → AllIn below above a → (i : ℕ) → In below above (mean w h centre a i)

abbrev pub FilterKeepsRange : Type 0
FilterKeepsRange =
    (w h f below above : ℕ) (a : List ℤ) → AllIn below above a → (i : ℕ) → In below above (filtered w h f a i)

-- "Equal depths give 01's ranges": where each plane has depth b, the ranges computed from the steps are the transform's row of 01's table.
abbrev pub RangesAreTable : Type 0
RangesAreTable =
    (s : Settings) (b : ℕ) → 2 ≤ b → s.depths ≡ each b → finished_ranges s ≡ get_or (depth_table b) s.transform (sample_ranges s)

-- At any depths they are the transform's row by the planes' highest samples.
abbrev pub RangesAreRows : Type 0
RangesAreRows =
    (s : Settings)
    → finished_ranges s
    ≡ get_or (three_rows (max_sample s.depths.c1) (max_sample s.depths.c2) (max_sample s.depths.c3)) s.transform (sample_ranges s)

-- Deeper planes have ranges as wide or wider, so that D grows with the depths.
abbrev pub DeeperIsWider : Type 0
DeeperIsWider =
    (s S : Settings) → s.transform ≡ S.transform → ((c : Plane) → depth_at s c ≤ depth_at S c)
    → AllInside (finished_ranges s) (finished_ranges S) × (widest s ≤ widest S)

-- Where no depth is above b, 14 × H − 7 counters are enough for every transform: as many as YCoCg-R needs where each plane has depth b.
abbrev pub CountersEnough : Type 0
CountersEnough = (s : Settings) (b : ℕ) → 2 ≤ b → ((c : Plane) → depth_at s c ≤ b) → counters_needed s ≤ 14 * 2 ^ (b - 1) - 7

-- The call `counters` tells as many counters as the estimate and the search ask for, at every size.
abbrev pub CountersTold : Type 0
CountersTold = (s : Settings) → Allowed s → counters_call s.depths s.transform ≡ counters_needed s

-- After YCoCg-R's second step plane 3 lies in −H to 3H − 2 where each plane has depth b.
abbrev pub SecondStepRange : Type 0
SecondStepRange =
    (s : Settings) (b : ℕ) → 2 ≤ b → s.depths ≡ each b
    → (ranges (take 2 YCoCg-R) (sample_ranges s)).c3 ≡ record { below = 2 ^ (b - 1); above = 3 * 2 ^ (b - 1) - 2 }

-- After its first n steps a picture's samples lie within the ranges computed from these steps, in every setup that keeps ranges.
abbrev pub StepsKeepRanges : Type 0
StepsKeepRanges =
    (s : Settings) (σ : Setup) (n : ℕ) (p : Planes) → KeepsRanges (sample_ranges s) σ → InRanges (sample_ranges s) p
    → InRanges (ranges (take n (steps s.transform)) (sample_ranges s)) (run σ (take n (steps s.transform)) p)

-- "After its second step plane 3 lies in −H to 3H − 2": so do the samples of every picture.
abbrev pub SecondStepSamples : Type 0
SecondStepSamples =
    (β : Bands) (s : Settings) (b : ℕ) (φ : List ℕ) (p : Planes) → 2 ≤ b → s.depths ≡ each b → Picture s p
    → AllIn (2 ^ (b - 1)) (3 * 2 ^ (b - 1) - 2) (run (setup Plain β s φ) (take 2 YCoCg-R) p).c3

-- Demand 3's "each of their numbers lies within the range stated for its plane", with the ranges as 01 states them.
abbrev pub WithinTable : Type 0
WithinTable =
    (β : Bands) (s : Settings) (b : ℕ) (φ : List ℕ) (p q : Planes) → 2 ≤ b → s.depths ≡ each b → GoesTo Plain β s φ p q
    → InRanges (get_or (depth_table b) s.transform (sample_ranges s)) q

-- Every number met lies within ±2^19: before and after each step of a picture's way forward, and of the way back of planes that
-- lie within their ranges, in every setup that keeps ranges.
abbrev pub MetForward : Type 0
MetForward =
    (s : Settings) (σ : Setup) (n : ℕ) (p : Planes) → ((c : Plane) → depth_at s c ≤ 16) → KeepsRanges (sample_ranges s) σ
    → InRanges (sample_ranges s) p → InRanges bounded (run σ (take n (steps s.transform)) p)

abbrev pub MetBack : Type 0
MetBack =
    (s : Settings) (σ : Setup) (n : ℕ) (q : Planes) → ((c : Plane) → depth_at s c ≤ 16) → KeepsRanges (sample_ranges s) σ
    → InRanges (finished_ranges s) q → InRanges bounded (undo σ (drop n (steps s.transform)) q)

-- The winner f at place k of filters 0 to n − 1, by the estimates e: it is one of them or the present filter; no filter's estimate is
-- lower; the present filter stays if it ties; else the lowest number wins.
pub record Wins (e : List ℕ → ℕ) (φ : List ℕ) (k n f : ℕ) : Type 0 where
  pub tried : (f < n) ⊎ (f ≡ get_or φ k 0)
  pub lowest : (g : ℕ) → g < n → e (set φ k f) ≤ e (set φ k g)
  pub present : e (set φ k f) ≤ e (set φ k (get_or φ k 0))
  pub stays : e (set φ k f) ≡ e (set φ k (get_or φ k 0)) → f ≡ get_or φ k 0
  pub first : e (set φ k f) < e (set φ k (get_or φ k 0)) → (g : ℕ) → g < f → e (set φ k f) < e (set φ k g)

abbrev pub WinnerWins : Type 0
WinnerWins = (e : List ℕ → ℕ) (φ : List ℕ) (k n : ℕ) → Wins e φ k n (winner e φ k n)

-- The choices that a search leaves pass the test of choices, whatever the estimates.
abbrev pub SearchedFit : Type 0
SearchedFit = (s : Settings) (e : List ℕ → ℕ) (rounds : ℕ) → T (choices_fit One s (searched e (places (steps s.transform)) rounds))

-- 02, request 5: "Filters, estimate and N equal those of the first search on every picture." Lent the same picture p, choices φ and counters l, the
-- call in place answers what the call with trial planes t answers, where these have room, and leaves the same choices and counters. So it
-- is where they refuse, and for planes that hold no picture. The planes are as lent.
abbrev pub EstimateSameInPlace : Type 0
EstimateSameInPlace =
    (s : Settings) (φ : List ℕ) (p t : Planes) (l : List ℕ) → T (all_at_least (pixels s) (lengths t))
    → let first = estimate_call s p φ (record { trials = t; counters = l }) in
    estimate_in_place s φ (record { trials = p; counters = l }) ≡ record { reply = first.reply; memory = record { trials = p; counters = first.memory.counters } }

abbrev pub SearchSameInPlace : Type 0
SearchSameInPlace =
    (s : Settings) (rounds : ℕ) (φ : List ℕ) (p t : Planes) (l : List ℕ) → T (all_at_least (pixels s) (lengths t))
    → let first = search_call s p rounds (record { choices = φ; scratch = record { trials = t; counters = l } }) in
    search_in_place s rounds (record { choices = φ; scratch = record { trials = p; counters = l } })
    ≡ record { reply = first.reply; memory = record { choices = first.memory.choices; scratch = record { trials = p; counters = first.memory.scratch.counters } } }
