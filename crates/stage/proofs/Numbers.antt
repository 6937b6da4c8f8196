-- Every number that the calls meet lies within ±2^19.
use mathlib.Core.Bool.{Bool, ◌&&◌}
use Prim.Native.Nat.{ℕ, zero, suc, ◌^◌, ◌≤◌}
use native.Mathlib.Omega.{arith}
use lib.Dec.{T, leb, leb→le}
use lib.ListN.{take, drop}
use Rattle.integers.specs.Lists.{AllIn}
use Rattle.integers.proofs.Booleans.{and_iff}
use Rattle.stage.specs.Settings.{Settings, depth_at}
use Rattle.stage.specs.Planes.{Plane, C1, C2, C3, Triple, Planes, get}
use Rattle.stage.specs.Steps.{steps}
use Rattle.stage.specs.Ranges.{Range, Inside, AllInside, ranges, undone_ranges, sample_ranges, finished_ranges, bounded, extent, widest, InRanges}
use Rattle.stage.specs.Theorems.{MetForward, MetBack}
use Rattle.stage.proofs.Triples.{each_plane, each_test}
use Rattle.stage.proofs.StepRanges.{inside_trans, ranges_grow, keeps_wider, take_inside, drop_inside, undone_ranges_inside, in_inside, run_in, undo_in}
use Rattle.stage.proofs.DeeperPlanes.{at_depth, up_to}

-- ---- ranges within a range, as a test that computes
inside_test : Range → Range → Bool
inside_test r R = leb r.below R.below && leb r.above R.above

all_inside_test : Triple Range → Triple Range → Bool
all_inside_test r R = inside_test r.c1 R.c1 && (inside_test r.c2 R.c2 && inside_test r.c3 R.c3)

inside_by : (r R : Range) → T (inside_test r R) → Inside r R
unfolding inside_test
inside_by r R t =
    let k = (and_iff (leb r.below R.below) (leb r.above R.above)).0 t in
    record { low = leb→le r.below R.below k.0; high = leb→le r.above R.above k.1 }

all_inside_by : (r R : Triple Range) → T (all_inside_test r R) → AllInside r R
unfolding all_inside_test
all_inside_by r R t = λ c. inside_by (get r c) (get R c) ((each_test (λ (c : Plane). inside_test (get r c) (get R c))).0 t c)

-- ---- depth 16 holds all depths: deepest t are the settings of transform t there
abbrev deepest : ℕ → Settings
deepest t = at_depth 16 t

-- the ranges of finished planes at depth 16, and all steps undone from there
abbrev finished : ℕ → Triple Range
finished t = finished_ranges (deepest t)

abbrev undone : ℕ → Triple Range
undone t = undone_ranges (steps t) (finished t)

-- one computed test a transform; a higher number has no steps
pub record Deepest (t : ℕ) : Type 0 where
  pub finished_bounded : AllInside (finished t) bounded
  pub undone_bounded : AllInside (undone t) bounded
  pub widest_most : widest (deepest t) ≤ 262144

deepest_by : (t : ℕ) → T (all_inside_test (finished t) bounded) → T (all_inside_test (undone t) bounded) → T (leb (widest (deepest t)) 262144) → Deepest t
deepest_by t x y z = record {
  finished_bounded = all_inside_by (finished t) bounded x;
  undone_bounded = all_inside_by (undone t) bounded y;
  widest_most = leb→le (widest (deepest t)) 262144 z;
}

at_deepest : (t : ℕ) → Deepest t
unfolding inside_test all_inside_test
at_deepest zero = deepest_by 0 tt tt tt
at_deepest (suc zero) = deepest_by 1 tt tt tt
at_deepest (suc (suc zero)) = deepest_by 2 tt tt tt
at_deepest (suc (suc (suc zero))) = deepest_by 3 tt tt tt
at_deepest (suc (suc (suc (suc t)))) = deepest_by (suc (suc (suc (suc t)))) tt tt tt

pub finished_within : (s : Settings) → ((c : Plane) → depth_at s c ≤ 16) → AllInside (finished_ranges s) bounded
finished_within s h = inside_trans _ (finished s.transform) _ (up_to s 16 h).0 (at_deepest s.transform).finished_bounded

pub bounded_in : (p : Planes) → InRanges bounded p → (c : Plane) → AllIn (2 ^ 19) (2 ^ 19) (get p c)
bounded_in p h = each_plane (λ (c : Plane). AllIn (2 ^ 19) (2 ^ 19) (get p c)) (h C1) (h C2) (h C3)

pub met_forward : MetForward
met_forward s σ n p d k i =
    let l = steps s.transform in
    in_inside (ranges (take n l) (sample_ranges s)) bounded
    (inside_trans _ (finished_ranges s) _ (take_inside l n (sample_ranges s)) (finished_within s d))
    _ (run_in σ (take n l) (sample_ranges s) p k i)

pub met_back : MetBack
met_back s σ n q d k i =
    let l = steps s.transform in
    in_inside (undone_ranges (drop n l) (finished_ranges s)) bounded
    (inside_trans _ (undone_ranges l (finished_ranges s)) _ (drop_inside l n (finished_ranges s))
    (inside_trans _ (undone s.transform) _
    (undone_ranges_inside l (finished_ranges s) (finished s.transform) (up_to s 16 d).0) (at_deepest s.transform).undone_bounded))
    _ (undo_in σ (drop n l) (finished_ranges s) q (keeps_wider σ (sample_ranges s) _ (ranges_grow l (sample_ranges s)) k) i)

-- ---- D, the widest range
pub extent_widest : (s : Settings) (c : Plane) → extent (get (finished_ranges s) c) ≤ widest s
extent_widest s C1 = omega arith
extent_widest s C2 = omega arith
extent_widest s C3 = omega arith

pub widest_most : (s : Settings) → ((c : Plane) → depth_at s c ≤ 16) → widest s ≤ 262144
widest_most s h = omega (arith, (up_to s 16 h).1, (at_deepest s.transform).widest_most)
