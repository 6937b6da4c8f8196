use mathlib.Core.Path.{◌≡◌, refl, sym, ap₂, ◌∙◌}
use mathlib.Core.List.{List}
use Prim.Native.Nat.{ℕ, ◌<◌}
use native.Mathlib.Omega.{arith}
use borrow.Author.Rules.{rules}
use lib.ListN.{length, get_or}
use lib.Seq.{set-get_or}
use Rattle.stage.specs.declared.Settings.{Settings}
use Rattle.stage.specs.Planes.{Planes}
use Rattle.stage.specs.Steps.{steps}
use Rattle.stage.specs.declared.Bands.TheVariants.{One}
use Rattle.stage.proofs.Choices.{choices}
use Rattle.lifting.specs.Passes.{step_of}
use Rattle.trials.specs.declared.place.Place.{Place}
use Rattle.trials.specs.Trials.{trial_estimate, base_estimate, TrialReady, PartAnswer, PlaceReady, ChooseReady}
use Rattle.trials.proofs.Filters.{trying_none, trying_ready, trying_more}
use Rattle.trials.proofs.trial.Trial.choose.Goals as goal

module _ {s : Settings} {k x : ℕ} {q : Planes} {φ l : List ℕ} (p : ChooseReady s k x q φ l) where
  known : k < length φ
  known = omega (arith, p.place, (choices One s φ p.choices).count)

  -- the place, as it stands in the loop
  abbrev at : ℕ → ℕ → Place
  at j b = record { place = k; step = j; base = b; present = record { filter = get_or φ k 0; estimate = x } }

  -- what is known of it
  ready : {j b : ℕ} → j ≡ step_of (steps s.transform) k → PartAnswer (base_estimate s j q) b → PlaceReady s q φ (at j b)
  ready {j} {b} e h = record {
    choices = p.choices;
    place = known;
    base = h;
    present = p.estimate ∙ ap₂ (λ (i : ℕ) (ψ : List ℕ). trial_estimate s i q ψ) (sym e) (sym (set-get_or φ k 0));
  }

  standing : {j : ℕ} → j ≡ step_of (steps s.transform) k → TrialReady s j q l
  standing e = rw e p.trial

pub loop-filter-init : goal.loop-filter-init
loop-filter-init c =
    let f = c.base_estimate-base.ensures in
    record { same = search rules; trying = rw f.planes (trying_none (ready c.requires c.step_of-step.ensures f.found.answer) refl _ f.found.counters) }

pub try_filter-e-requires : goal.try_filter-e-requires
try_filter-e-requires c =
    let f = c.base_estimate-base.ensures in
    let l = c.loop-filter.invariant in
    let e = l.same.settings ∙ f.same.settings in
    let z = standing c.requires c.step_of-step.ensures in
    let t = l.trying in
    rw e (record {
      trial = record { allowed = z.allowed; step = z.step; planes = rw t.planes z.planes; counters = t.counters };
      place = trying_ready (ready c.requires c.step_of-step.ensures f.found.answer) t;
      filter = omega arith;
    })

pub loop-filter-preserved : goal.loop-filter-preserved
loop-filter-preserved c =
    let f = c.base_estimate-base.ensures in
    let l = c.loop-filter.invariant in
    let e = l.same.settings ∙ f.same.settings in
    record {
      same = search rules;
      trying = trying_more (ready c.requires c.step_of-step.ensures f.found.answer) (omega arith) l.trying (rw e at c.try_filter-e.ensures.tried) _ c.better-best.ensures;
    }
