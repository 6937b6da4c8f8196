use mathlib.Core.Path.{◌≡◌, refl, ap₂}
use mathlib.Core.Bool.{Bool, true, false, ◌||◌}
use Prim.Native.Nat.{ℕ, ◌+◌}
use native.Mathlib.Omega.{arith}
use Rattle.std.proofs.lemmas.Bool.{true≢false}
use Rattle.stage.specs.declared.Plane.TheVariants.{C1, C2, C3}
use Rattle.stage.specs.Planes.{Planes, triple, samples}
use Rattle.ranges.proofs.Ends.{up_to_16}
use Rattle.trials.specs.Trials.{part_estimate}
use Rattle.trials.proofs.trial.part_estimate.Goals as goal

-- the estimate of no plane
none : (w : ℕ) (a b c : Bool) (p : Planes) → ◌≡◌ {A = Bool} (a || b || c) false → 0 ≡ part_estimate w (triple a b c) p
unfolding part_estimate
none w true b c p h = absurd (true≢false h)
none w false true c p h = absurd (true≢false h)
none w false false true p h = absurd (true≢false h)
none w false false false p h = refl

pub returns-then-not-set : goal.returns-then-not-set
returns-then-not-set c =
    let a = c.args in
    record {
      answer = record { value = none a.settings.width a.set.c1 a.set.c2 a.set.c3 (samples a.planes) c.if-not-set.true; bound = omega arith };
      counters = c.requires.counters;
    }

pub widest-d-requires : goal.widest-d-requires
widest-d-requires c = let a = c.requires.allowed in (up_to_16 a, a.transform_most)

pub chosen_estimate-e1-requires : goal.chosen_estimate-e1-requires
chosen_estimate-e1-requires c = let p = c.requires in record { plane = rw c.widest-d.ensures (p.planes C1); counters = rw c.widest-d.ensures p.counters }

pub chosen_estimate-e2-requires : goal.chosen_estimate-e2-requires
chosen_estimate-e2-requires c = record { plane = rw c.widest-d.ensures (c.requires.planes C2); counters = c.chosen_estimate-e1.ensures.counters }

pub chosen_estimate-e3-requires : goal.chosen_estimate-e3-requires
chosen_estimate-e3-requires c = record { plane = rw c.widest-d.ensures (c.requires.planes C3); counters = c.chosen_estimate-e2.ensures.counters }

pub returns : goal.returns
unfolding part_estimate
returns c =
    let e = c.chosen_estimate-e1.ensures in
    let f = c.chosen_estimate-e2.ensures in
    let g = c.chosen_estimate-e3.ensures in
    record {
      answer = record {
        value = ap₂ ◌+◌ (ap₂ ◌+◌ e.value f.value) g.value;
        bound = omega (arith, e.bound, f.bound, g.bound);
      };
      counters = rw c.widest-d.ensures at g.counters;
    }
