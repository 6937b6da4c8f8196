use mathlib.Core.Path.{◌≡◌, ◌∙◌}
use mathlib.Core.Bool.{Bool}
use mathlib.Core.List.{List}
use Prim.Native.Nat.{ℕ}
use lib.ListN.{length}
use Rattle.stage.specs.declared.Settings.{Settings}
use borrow.Author.Rules.{rules}
use Rattle.stage.specs.Planes.{Planes, samples_mut}
use Rattle.stage.specs.Ranges.{widest}
use Rattle.estimate.specs.Counting.{Counters}
use Rattle.trials.specs.declared.trial.Trial.{Trial}
use Rattle.trials.specs.Trials.{TrialFound}
use Rattle.trials.specs.Searches.{EstimateFound}
use Rattle.trials.proofs.Rounds.{zero_same, trial_first, all_steps}
use Rattle.trials.proofs.estimate_picture.Goals as goal

-- a trial of all steps finds the picture's estimate
whole : {s : Settings} {u : Bool} {p q : Planes} {φ l m : List ℕ} {r : ℕ} → Counters (widest s) l → TrialFound s 0 u p φ r q m → length m ≡ length l → EstimateFound s u p l φ r q m
whole {s} {u} {p} {q} {φ} z f e = record {
  estimate = f.estimate ∙ trial_first s p φ;
  planes = f.planes ∙ all_steps s u p φ;
  counters = zero_same z f.counters e;
}

-- what is lent, as the trial leaves it
left : {s : Settings} {u : Bool} {p : Planes} {φ l m' : List ℕ} {r : ℕ} {q' : Planes} (t : Trial) → EstimateFound s u p l φ r (samples_mut t.planes.now) t.counters.now
    → q' ≡ samples_mut t.planes.now → m' ≡ t.counters.now → EstimateFound s u p l φ r q' m'
left t f e g = rw (e, g) f

pub returns-then-undone-clause-found : goal.returns-then-undone-clause-found
returns-then-undone-clause-found c =
    let b = c.base_estimate-base.ensures in
    let t = c.estimate.ensures in
    let f = rw (b.same.settings, b.planes) at t.found in
    rw c.if-undone.true (left c.estimate.new.self (whole c.requires.picture_ready.counters f (t.same.long ∙ b.same.long)) (search rules) (search rules))

pub returns-else-undone-clause-found : goal.returns-else-undone-clause-found
returns-else-undone-clause-found c =
    let b = c.base_estimate-base.ensures in
    let t = c.finished_estimate.ensures in
    let f = rw (b.same.settings, b.planes) at t.found in
    rw c.if-undone.false (left c.finished_estimate.new.self (whole c.requires.picture_ready.counters f (t.same.long ∙ b.same.long)) (search rules) (search rules))
