use borrow.Author.Rules.{rules}
use mathlib.Core.Path.{◌≡◌, ap, ◌∙◌}
use mathlib.Core.List.{List}
use Prim.Native.Nat.{ℕ}
use lib.ListN.{length, replicate}
use Rattle.std.specs.Prelude.{Ok}
use Rattle.std.proofs.lemmas.Result.{err_from_is_err_and}
use Rattle.stage.specs.declared.Settings.{Settings}
use Rattle.stage.specs.declared.Triple.{Triple}
use Rattle.stage.specs.Answers.{refusal, number_of, outcome_of}
use Rattle.stage.specs.Planes.{Planes, samples_mut}
use Rattle.stage.specs.Transform.{lengths}
use Rattle.stage.specs.Estimate.{counted}
use Rattle.stage.specs.Search.{cleared_counters, counters_fit, scratch_fits, estimated, estimate_in_place}
use Rattle.stage.proofs.Answers.{err_outcome, ok_outcome}
use Rattle.search.specs.Calls.{scratch_of, estimate_tests}
use Rattle.search.proofs.Calls.{counters_ready, estimate_ready, answered}
use Rattle.in_place.proofs.Calls.{estimate_same, made}
use Rattle.in_place.proofs.estimate.Goals as goal

-- the number of the first test that fails, of planes q and lengths r as they were lent on
abbrev first : Settings → List ℕ → ℕ → Planes → Triple ℕ → ℕ
first s φ n q r = refusal (estimate_tests s φ q (scratch_fits s r n))

pub returns-in_err-check_estimate-clause-gives : goal.returns-in_err-check_estimate-clause-gives
unfolding estimate_in_place
returns-in_err-check_estimate-clause-gives c =
    let a = c.args in
    let s = a.settings in
    let φ = a.choices.now in
    let p = samples_mut a.planes.now in
    let l = a.counters.now in
    let e = c.in_err-check_estimate.field-0.0 in
    let r = err_from_is_err_and c.from_residual.result c.from_residual.ensures.1 in
    let k = made s p (length l) (first s φ (length l)) (number_of e) c.lengths-room.ensures c.shared.ensures c.shared-2.ensures c.in_err-check_estimate.ensures in
    rw (r.1, r.2) (err_outcome (estimate_tests s φ p (counters_fit s (length l))) (estimated s p φ) (cleared_counters (scratch_of p l)) (scratch_of p l) e (k ∙ estimate_same s p (length l) φ))

pub estimate_picture-e-requires-clause-picture_ready : goal.estimate_picture-e-requires-clause-picture_ready
estimate_picture-e-requires-clause-picture_ready c =
    let a = c.args in
    let s = a.settings in
    let φ = a.choices.now in
    let p = samples_mut a.planes.now in
    let l = a.counters.now in
    let k = made s p (length l) (first s φ (length l)) 0 c.lengths-room.ensures c.shared.ensures c.shared-2.ensures c.in_ok-check_estimate.ensures in
    let r = estimate_ready s φ p p l k in
    let zeros : c.fill.new.self ≡ replicate (length l) 0 = search rules in
    record { allowed = r.allowed; picture = r.picture; counters = counters_ready s l r.enough zeros }

pub returns-clause-gives : goal.returns-clause-gives
unfolding estimate_in_place
returns-clause-gives c =
    let a = c.args in
    let s = a.settings in
    let φ = a.choices.now in
    let p = samples_mut a.planes.now in
    let l = a.counters.now in
    let k = made s p (length l) (first s φ (length l)) 0 c.lengths-room.ensures c.shared.ensures c.shared-2.ensures c.in_ok-check_estimate.ensures in
    let f = c.estimate_picture-e.ensures.found in
    let zeros : c.fill.new.self ≡ replicate (length l) 0 = search rules in
    let room = ap (λ (r : Triple ℕ). record { estimate = c.estimate_picture-e.result; samples = counted r.c1 }) (c.lengths-room.ensures ∙ ap lengths c.shared.ensures) in
    let e = answered φ _ (estimate_ready s φ p p l k).picture f.estimate (c.found.ensures ∙ room) in
    (λ i. outcome_of (Ok (e i)) (scratch_of (f.planes i) ((f.counters ∙ zeros) i)))
    ∙ ok_outcome (estimate_tests s φ p (counters_fit s (length l))) (estimated s p φ) (cleared_counters (scratch_of p l)) (scratch_of p l) (k ∙ estimate_same s p (length l) φ)
