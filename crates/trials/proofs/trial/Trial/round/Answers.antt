use mathlib.Core.Path.{◌≡◌, refl, sym, ap, ◌∙◌}
use mathlib.Core.List.{List}
use Prim.Native.Nat.{ℕ, ◌<◌}
use native.Mathlib.Omega.{arith}
use borrow.Author.Rules.{rules}
use lib.ListN.{length}
use Rattle.integers.specs.Slices.{slice}
use Rattle.stage.specs.declared.Settings.{Settings}
use Rattle.stage.specs.declared.Plane.TheVariants.{C1}
use Rattle.stage.specs.declared.Form.TheVariants.{Plain}
use Rattle.stage.specs.declared.Bands.TheVariants.{One}
use Rattle.stage.specs.Planes.{Planes, samples_mut}
use Rattle.stage.specs.Steps.{Step, steps, places, run, undo}
use Rattle.stage.specs.Transform.{setup}
use Rattle.stage.specs.Search.{round, choices_estimate}
use Rattle.stage.proofs.Choices.{choices}
use Rattle.stage.proofs.StepLists.{slice_undone}
use Rattle.lifting.specs.Passes.{step_of}
use Rattle.lifting.specs.Steps.{StepsFit, AtStep}
use Rattle.lifting.proofs.Table.{step_inside}
use Rattle.lifting.proofs.Readiness.{at_next, ready_run, ready_undo}
use Rattle.trials.specs.Trials.{RoundReady}
use Rattle.trials.proofs.Rounds.{before, AtPlace, first_place, next_place, before_next, rest_estimate}
use Rattle.trials.proofs.trial.Trial.round.Goals as goal

module _ {s : Settings} {x : ℕ} {p : Planes} {φ l : List ℕ} (a : RoundReady s x p φ l) where
  abbrev list : List Step
  list = steps s.transform

  -- as many places as choices
  as_many : length φ ≡ places list
  as_many = (choices One s φ a.choices).count

  module _ {k i y : ℕ} {q : Planes} {ψ m : List ℕ} (v : AtPlace s p k i q φ ψ y m) where
    -- the planes as they stand in the loop
    at : AtStep s i q
    at = at_next Plain One tt a.trial.planes i ψ _ (omega arith) v.planes

    -- the steps up to the place's own
    fit : {j : ℕ} → k < places list → j ≡ step_of list k → StepsFit One s ψ i j
    fit {j} h e = record {
      transform = a.trial.allowed.transform_most;
      depth = a.trial.allowed.depth_most C1;
      order = omega (arith, e, v.order h);
      last = omega (arith, e, step_inside list k);
      bands = tt;
      choices = v.fit;
    }

    -- the planes before the place's step
    arrived : {j : ℕ} {r : Planes} → k < places list → j ≡ step_of list k → r ≡ run (setup Plain One s ψ) (slice list i j) q → r ≡ before s p ψ (step_of list k)
    arrived {j} h e ran = rw (← e) (before_next s p ψ i j q _ (fit h e).order v.planes ran)

    -- the planes with all steps undone
    restored : {r : Planes} → r ≡ undo (setup Plain One s ψ) (slice list 0 i) q → r ≡ p
    restored undone = undone ∙ ap (undo (setup Plain One s ψ) (slice list 0 i)) v.planes ∙ slice_undone One s ψ 0 i p

pub loop-place-init : goal.loop-place-init
loop-place-init c =
    let a = c.args in
    let p = c.requires in
    record { same = search rules; at = first_place a.self.now.settings (samples_mut a.self.now.planes.now) a.choices.now a.estimate a.self.now.counters.now p.choices p.estimate p.trial.counters }

pub run_steps-requires : goal.run_steps-requires
run_steps-requires c =
    let p = c.requires in
    let l = c.loop-place in
    let h : l.place < places (steps c.args.self.now.settings.transform) = omega (arith, as_many p) in
    rw c.from-plan.ensures (ready_run p.trial.allowed.depth_most Plain One tt (fit p l.invariant.at h c.step_of-step.ensures) (at p l.invariant.at))

pub choose-e-requires : goal.choose-e-requires
choose-e-requires c =
    let s = c.args.self.now.settings in
    let p = c.requires in
    let l = c.loop-place in
    let v = l.invariant.at in
    let k = step_of (steps s.transform) l.place in
    let h : l.place < places (steps s.transform) = omega (arith, as_many p) in
    let r = arrived p v h c.step_of-step.ensures (rw c.from-plan.ensures at c.run_steps.ensures.made) in
    rw l.invariant.same.settings (record {
      trial = record {
        allowed = p.trial.allowed;
        step = step_inside (steps s.transform) l.place;
        planes = at_next Plain One tt p.trial.planes k l.choices _ (omega arith) r;
        counters = v.counters;
      };
      choices = v.fit;
      place = h;
      estimate = v.estimate ∙ sym (rest_estimate s (samples_mut c.args.self.now.planes.now) l.choices k _ r);
    })

pub loop-place-preserved : goal.loop-place-preserved
loop-place-preserved c =
    let s = c.args.self.now.settings in
    let p = c.requires in
    let l = c.loop-place in
    let v = l.invariant.at in
    let h : l.place < places (steps s.transform) = omega (arith, as_many p) in
    let r = arrived p v h c.step_of-step.ensures (rw c.from-plan.ensures at c.run_steps.ensures.made) in
    record {
      same = search rules;
      at = rw c.step_of-step.ensures (next_place s (samples_mut c.args.self.now.planes.now) v h refl r (rw l.invariant.same.settings at c.choose-e.ensures.chosen));
    }

pub undo_steps-requires : goal.undo_steps-requires
undo_steps-requires c =
    let p = c.requires in
    let v = c.loop-place.invariant.at in
    rw c.from-plan.ensures (ready_undo p.trial.allowed.depth_most
    (record { transform = p.trial.allowed.transform_most; depth = p.trial.allowed.depth_most C1; order = omega arith; last = v.inside; bands = tt; choices = v.fit }) p.trial.planes v.planes)

pub returns-clause-done : goal.returns-clause-done
returns-clause-done c =
    let a = c.args in
    let s = a.self.now.settings in
    let p = samples_mut a.self.now.planes.now in
    let l = c.loop-place in
    let v = l.invariant.at in
    let e : l.place ≡ places (steps s.transform) = omega (arith, as_many c.requires) in
    record {
      choices = v.choices ∙ ap (λ (k : ℕ). round (choices_estimate s p) k a.choices.now) e;
      fit = v.fit;
      estimate = v.estimate;
      planes = restored c.requires v (rw c.from-plan.ensures at c.undo_steps.ensures.made);
      counters = v.counters;
    }
