-- Deeper planes have wider ranges; so the counters that the deepest plane's depth asks for are enough.
use mathlib.Core.Path.{◌≡◌, refl, subst}
use Prim.Native.Nat.{ℕ, zero, suc, ◌+◌, ◌*◌, ◌-◌, ◌^◌, ◌≤◌}
use native.Mathlib.Omega.{arith}
use lib.Pow.{pow_pos, pow_mono}
use lib.ListN.{get_or}
use Rattle.stage.specs.Settings.{Settings, each, settings_of, depth_at}
use Rattle.stage.specs.Planes.{Plane, C1, C2, C3, Triple, get}
use Rattle.stage.specs.Steps.{steps}
use Rattle.stage.specs.Ranges.{Range, Inside, AllInside, ranges, sample_range, sample_ranges, finished_ranges, range_table, depth_table, extent, widest}
use Rattle.stage.specs.Theorems.{DeeperIsWider, CountersEnough}
use Rattle.stage.proofs.Triples.{each_plane}
use Rattle.stage.proofs.StepRanges.{ranges_inside}
use Rattle.stage.proofs.RangeTable.{pow_split, ranges_are_table}

sample_inside : {b B : ℕ} → b ≤ B → Inside (sample_range b) (sample_range B)
sample_inside {b} {B} h = let m = pow_mono {i = b} {j = B} h in omega arith

pub deeper_is_wider : DeeperIsWider
deeper_is_wider s S same deeper = (inside, omega (arith, inside C1, inside C2, inside C3))
  where
    samples : AllInside (sample_ranges s) (sample_ranges S)
    samples =
        each_plane (λ (c : Plane). Inside (get (sample_ranges s) c) (get (sample_ranges S) c))
        (sample_inside (deeper C1)) (sample_inside (deeper C2)) (sample_inside (deeper C3))

    inside : AllInside (finished_ranges s) (finished_ranges S)
    inside =
        subst (λ (t : ℕ). AllInside (finished_ranges s) (ranges (steps t) (sample_ranges S))) same
        (ranges_inside (steps s.transform) (sample_ranges s) (sample_ranges S) samples)

-- ---- so depth b for each plane holds all depths up to b: at_depth b t are the settings of transform t there
abbrev pub at_depth : ℕ → ℕ → Settings
at_depth b t = settings_of 1 1 (each b) t

pub up_to : (s : Settings) (b : ℕ) → ((c : Plane) → depth_at s c ≤ b) → AllInside (finished_ranges s) (finished_ranges (at_depth b s.transform)) × (widest s ≤ widest (at_depth b s.transform))
up_to s b h = deeper_is_wider s (at_depth b s.transform) refl (each_plane (λ (c : Plane). depth_at s c ≤ depth_at (at_depth b s.transform) c) (h C1) (h C2) (h C3))

-- ---- counters that are enough: no range of 01's table is wider than YCoCg-R's third
abbrev Narrow : ℕ → Triple Range → Type 0
Narrow b r =
    let most = 14 * 2 ^ (b - 2) in
    (extent r.c1 + 4 ≤ most) × (extent r.c2 + 4 ≤ most) × (extent r.c3 + 4 ≤ most)

narrow : (b t : ℕ) → 2 ≤ b → Narrow b (finished_ranges (at_depth b t))
unfolding range_table
narrow b t h = rw (ranges_are_table (at_depth b t) b h refl) (by t (pow_pos (b - 2)) (pow_split b 2 h) (pow_split b 1 (omega arith)))
  where
    by : (t : ℕ) → 1 ≤ 2 ^ (b - 2) → 2 ^ b ≡ 2 ^ (b - 2) * 4 → 2 ^ b ≡ 2 ^ (b - 1) * 2
        → Narrow b (get_or (depth_table b) t (sample_ranges (at_depth b t)))
    by zero q m n = omega arith
    by (suc zero) q m n = omega arith
    by (suc (suc zero)) q m n = omega arith
    by (suc (suc (suc zero))) q m n = omega arith
    by (suc (suc (suc (suc t)))) q m n = omega arith

pub counters_enough : CountersEnough
counters_enough s b h d =
    let m = pow_split b 2 h in
    let n = pow_split b 1 (omega arith) in
    omega (arith, (up_to s b d).1, narrow b s.transform h)
