use mathlib.Core.Path.{◌≡◌, ap, ap₂, ◌∙◌}
use mathlib.Core.Bool.{Bool}
use mathlib.Core.List.{List}
use Prim.Native.Nat.{ℕ}
use lib.ListN.{length}
use Rattle.std.specs.Prelude.{Ok}
use Rattle.std.proofs.lemmas.Result.{err_from_is_err_and}
use Rattle.stage.specs.declared.Settings.{Settings}
use Rattle.stage.specs.declared.Estimated.{Estimated}
use Rattle.stage.specs.declared.Triple.{Triple}
use Rattle.stage.specs.Answers.{refusal, number_of, outcome_of}
use Rattle.stage.specs.Planes.{Planes, samples, samples_mut}
use Rattle.stage.specs.Transform.{lengths}
use Rattle.stage.specs.Search.{Scratch, cleared_scratch, scratch_fits, estimated, estimate_call}
use Rattle.stage.proofs.Answers.{err_outcome, ok_outcome}
use Rattle.search.specs.Calls.{scratch_of, estimate_tests}
use Rattle.search.proofs.Calls.{estimate_ready, answered}
use Rattle.search.proofs.estimate.Goals as goal

module _ (s : Settings) (φ : List ℕ) (p t : Planes) (l : List ℕ) where
  abbrev fits : Bool
  fits = scratch_fits s (lengths t) (length l)

  -- the tests, of trial planes that are lent on to be read
  made : {r : Triple ℕ} {u : Planes} (n : ℕ) → r ≡ lengths u → u ≡ t → n ≡ refusal (estimate_tests s φ p (scratch_fits s r (length l))) → n ≡ refusal (estimate_tests s φ p fits)
  made n e f k = k ∙ ap (λ (r : Triple ℕ). refusal (estimate_tests s φ p (scratch_fits s r (length l)))) (e ∙ ap lengths f)

pub returns-in_err-check_estimate-clause-gives : goal.returns-in_err-check_estimate-clause-gives
unfolding estimate_call
returns-in_err-check_estimate-clause-gives c =
    let a = c.args in
    let s = a.settings in
    let φ = a.choices.now in
    let p = samples a.picture in
    let t = samples_mut a.trials.now in
    let m = scratch_of t a.counters.now in
    let r = err_from_is_err_and c.from_residual.result c.from_residual.ensures.1 in
    rw (r.1, r.2) (err_outcome (estimate_tests s φ p (fits s φ p t a.counters.now)) (estimated s p φ) (cleared_scratch m) m c.in_err-check_estimate.field-0.0
    (made s φ p t a.counters.now (number_of c.in_err-check_estimate.field-0.0) c.lengths-room.ensures c.shared.ensures c.in_err-check_estimate.ensures))

pub estimate_copy-e-requires-clause-ready : goal.estimate_copy-e-requires-clause-ready
estimate_copy-e-requires-clause-ready c =
    let a = c.args in
    let s = a.settings in
    let φ = a.choices.now in
    let p = samples a.picture in
    let t = samples_mut a.trials.now in
    estimate_ready s φ p t a.counters.now (made s φ p t a.counters.now 0 c.lengths-room.ensures c.shared.ensures c.in_ok-check_estimate.ensures)

pub returns-clause-gives : goal.returns-clause-gives
unfolding estimate_call
returns-clause-gives c =
    let a = c.args in
    let s = a.settings in
    let φ = a.choices.now in
    let p = samples a.picture in
    let t = samples_mut a.trials.now in
    let m = scratch_of t a.counters.now in
    let k = made s φ p t a.counters.now 0 c.lengths-room.ensures c.shared.ensures c.in_ok-check_estimate.ensures in
    let e = answered φ _ (estimate_ready s φ p t a.counters.now k).picture c.estimate_copy-e.ensures.estimate c.found.ensures in
    ap₂ (λ (v : Estimated) (n : Scratch). outcome_of (Ok v) n) e c.estimate_copy-e.ensures.cleared
    ∙ ok_outcome (estimate_tests s φ p (fits s φ p t a.counters.now)) (estimated s p φ) (cleared_scratch m) m k
