-- The distances of the four transforms, computed; so what is proved of all steps of a transform.
use mathlib.Core.Path.{◌≡◌, refl}
use mathlib.Core.Bool.{Bool, true, false, cond, ◌||◌}
use Prim.Native.Nat.{ℕ, zero, suc, ◌≤◌}
use native.Mathlib.Omega.{arith}
use lib.Dec.{eqb}
use Rattle.stage.specs.declared.Plane.{Plane}
use Rattle.stage.specs.declared.Plane.TheVariants.{C1, C2, C3}
use Rattle.stage.specs.declared.Triple.{Triple}
use Rattle.stage.specs.Planes.{get}
use Rattle.stage.specs.Steps.{Setup, steps}
use Rattle.locality.specs.Reach.{RadiiUpTo, radius_one, Way, there, back, reach_along, none, furthest, distance}
use Rattle.locality.specs.Locality.{ReachTable, TransformCutOut, TransformLocal, DamageStays}
use Rattle.locality.proofs.Parts.{spot_lesser}
use Rattle.locality.proofs.CutOuts.{cut_out_same}
use Rattle.locality.proofs.Spots.{planes_local, agree_less, agree_away}

distance_is : (way : Way) (t : ℕ) → distance way t ≡ furthest (reach_along way radius_one (steps t) none)
distance_is there zero = refl
distance_is there (suc zero) = refl
distance_is there (suc (suc zero)) = refl
distance_is there (suc (suc (suc zero))) = refl
distance_is there (suc (suc (suc (suc t)))) = refl
distance_is back zero = refl
distance_is back (suc zero) = refl
distance_is back (suc (suc zero)) = refl
distance_is back (suc (suc (suc zero))) = refl
distance_is back (suc (suc (suc (suc t)))) = refl

pub reach_table : ReachTable
reach_table = record { planes_there = refl; planes_back = refl; all = distance_is; from_step = refl; pointwise = refl }

-- no filter has a greater radius than 1, and no plane reaches further than the furthest
radii_one : (σ : Setup) → RadiiUpTo radius_one σ
radii_one σ k i = by (eqb (σ.filter k i) 0) (eqb (σ.filter k i) 12)
  where
    by : (none null : Bool) → cond (none || null) 0 1 ≤ 1
    by true null = omega arith
    by false true = omega arith
    by false false = omega arith

most : (r : Triple ℕ) (c : Plane) → get r c ≤ furthest r
most r C1 = omega arith
most r C2 = omega arith
most r C3 = omega arith

within : (way : Way) (t : ℕ) (c : Plane) → get (reach_along way radius_one (steps t) none) c ≤ distance way t
within way t c = rw (distance_is way t) (most (reach_along way radius_one (steps t) none) c)

pub transform_cut_out : TransformCutOut
transform_cut_out way t σ a u v f p m x y h c = cut_out_same way radius_one σ (radii_one σ) a u v f (steps t) p m c x y (spot_lesser (within way t c) h)

pub transform_local : TransformLocal
transform_local way t σ p q m n x y i j agree c =
    planes_local way radius_one σ (radii_one σ) (steps t) p q m n x y i j c (agree_less (within way t c) agree)

pub damage_stays : DamageStays
damage_stays way t σ p q m n x y agree x' y' i j far = transform_local way t σ p q m n x' y' i j (agree_away agree far)
