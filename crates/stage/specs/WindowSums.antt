-- Window sums in 32 bits. 02, request 3: "No weighted sum of samples within the ranges, doubled and rounded, needs more than 32 signed
-- bits." S is the weighted sum of a window, W the sum of its weights, and n a number of steps.
use Rattle.std.specs.Prelude.{◌↔◌, List, [], ◌∷◌, ℕ, ◌-◌, ◌^◌, ◌≤◌, T, ℤ, take, drop}
use Rattle.std.specs.Int.{w32}
use Rattle.std.proofs.Common.{SFits}
use Rattle.integers.specs.Parts.{In}
use Rattle.integers.specs.Lists.{AllIn}
use Rattle.stage.specs.Settings.{Settings, Form, Plain, Bands, One, each, settings_of, depth_at, depths_suit}
use Rattle.stage.specs.Planes.{Plane, Planes, get}
use Rattle.stage.specs.Filter.{weight, weight_sum, weighted_sum, window_sample, rounded_sum}
use Rattle.stage.specs.Steps.{Setup, steps, run, undo}
use Rattle.stage.specs.Ranges.{sample_ranges, finished_ranges, InRanges, KeepsRanges}
use Rattle.stage.specs.Transform.{setup}

-- z needs no more than so many signed bits; for 32 of them that is to say that an i32 holds z
abbrev pub SignedBits : (bits : ℕ) (z : ℤ) → Type 0
SignedBits bits z = In (2 ^ (bits - 1)) (2 ^ (bits - 1) - 1) z

abbrev pub BitsOfI32 : Type 0
BitsOfI32 = (z : ℤ) → SignedBits 32 z ↔ SFits w32 z

-- 2 × S + W of the window around every sample of plane a, for every centre weight, which is at most 1,024
abbrev pub WindowSumsFit : (bits w h : ℕ) (a : List ℤ) → Type 0
WindowSumsFit bits w h a =
    (centre i : ℕ) → centre ≤ 1024
    → SignedBits bits (rounded_sum (weighted_sum (weight w h centre i) (window_sample w a i) 9) (weight_sum (weight w h centre i) 9))

-- So in every plane, whichever a step filters, before each step and after the last: forward of a picture, and back of planes within their
-- ranges.
pub record RunSumsFit (bits : ℕ) (s : Settings) (σ : Setup) : Type 0 where
  pub forward : (n : ℕ) (c : Plane) (p : Planes) → InRanges (sample_ranges s) p
      → WindowSumsFit bits σ.width σ.height (get (run σ (take n (steps s.transform)) p) c)
  pub back : (n : ℕ) (c : Plane) (q : Planes) → InRanges (finished_ranges s) q
      → WindowSumsFit bits σ.width σ.height (get (undo σ (drop n (steps s.transform)) q) c)

-- samples within ±2^19, which holds every number met
abbrev pub WindowFits : Type 0
WindowFits = (w h : ℕ) (a : List ℤ) → AllIn (2 ^ 19) (2 ^ 19) a → WindowSumsFit 32 w h a

-- The request: for every transform and all depths, in every setup that keeps ranges, and so in the calls of both forms, in all bands, with every
-- choice of filters.
pub record SumsIn32Bits : Type 0 where
  pub every : (s : Settings) (σ : Setup) → ((c : Plane) → depth_at s c ≤ 16) → KeepsRanges (sample_ranges s) σ → RunSumsFit 32 s σ
  pub calls : (κ : Form) (β : Bands) (s : Settings) (φ : List ℕ) → ((c : Plane) → depth_at s c ≤ 16) → T (depths_suit κ s.depths) → RunSumsFit 32 s (setup κ β s φ)

-- 29 bits are too few. Three planes of one number each, −65,535, −98,302 and 147,453, lie within the ranges of YCoCg-R at depth 16. With
-- filters 0 plane 3 is 229,372 throughout before the last step back, which filters it: for centre weight 1,024 a whole window there has
-- 2 × S + W = 473,424,840, and 29 signed bits end at 268,435,455.
abbrev pub BitsTooFew : Type 0
BitsTooFew = let s = settings_of 3 3 (each 16) 1 in RunSumsFit 29 s (setup Plain One s (0 ∷ 0 ∷ 0 ∷ 0 ∷ [])) → ⊥
