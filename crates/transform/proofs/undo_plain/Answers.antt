use Rattle.std.proofs.Common.{◌≡◌, refl, sym, ap, ◌∙◌, true, false, List, ℕ, Bool, cond}
use Rattle.std.proofs.lemmas.Result.{err_from_is_err_and}
use Rattle.std.specs.Prelude.{Result, Ok, Err}
use Rattle.stage.specs.declared.Bands.{Bands}
use Rattle.stage.specs.declared.Form.TheVariants.{Plain}
use Rattle.stage.specs.declared.Refusal.{Refusal}
use Rattle.stage.specs.declared.Refusal.TheVariants.{Unreached}
use Rattle.stage.specs.declared.Settings.{Settings}
use Rattle.stage.specs.declared.Triple.{Triple}
use Rattle.stage.specs.Answers.{number_of, refusal, outcome_of}
use Rattle.stage.specs.Planes.{Planes, samples_mut}
use Rattle.stage.specs.Ranges.{finished_ranges, within_ranges}
use Rattle.stage.specs.Transform.{choices_fit, lengths, settings_tests}
use Rattle.stage.proofs.Answers.{Holds}
use Rattle.transform.proofs.Calls.{tests, made, held, valid, undo_all, undone_test, restored, inverse_outside, inverse_ready, again_ready, inverse_refused, inverse_last, inverse_done}
use Rattle.transform.proofs.undo_plain.Goals as goal

-- the settings' tests as they are made of planes that are lent on to be read
pub past : (β : Bands) (s : Settings) (φ : List ℕ) (p : Planes) {fit : Bool} {n : Triple ℕ} {u : Planes}
    → 0 ≡ refusal (settings_tests Plain β s fit n) → fit ≡ choices_fit β s φ → n ≡ lengths u → u ≡ p → Holds (tests Plain β s φ p)
past β s φ p e f k m = held Plain β s φ p (made Plain β s φ p 0 e f (k ∙ ap lengths m))

pub returns-in_err-check-clause-gives : goal.returns-in_err-check-clause-gives
returns-in_err-check-clause-gives c =
    let a = c.args in
    let p = samples_mut a.planes.now in
    let e = c.in_err-check.field-0.0 in
    let r = err_from_is_err_and c.from_residual.result c.from_residual.ensures.1 in
    rw (r.1, r.2) (inverse_refused a.plan.bands a.plan.settings a.choices.now p e
    (made Plain a.plan.bands a.plan.settings a.choices.now p (number_of e) c.in_err-check.ensures c.choices_fit-fit.ensures (c.lengths.ensures ∙ ap lengths c.shared.ensures)))

pub in_finished_ranges-requires : goal.in_finished_ranges-requires
in_finished_ranges-requires c =
    let a = c.args in
    let p = samples_mut a.planes.now in
    (valid Plain a.plan.bands a.plan.settings a.choices.now p (past a.plan.bands a.plan.settings a.choices.now p c.in_ok-check.ensures c.choices_fit-fit.ensures c.lengths.ensures c.shared.ensures)).allowed

-- whether the planes lie in their ranges, by the test that is required
inside : (s : Settings) (b : Bool) {u p : Planes} → b ≡ within_ranges (finished_ranges s) u → u ≡ p → {v : Bool} → b ≡ v → within_ranges (finished_ranges s) p ≡ v
inside s b e k f = ap (within_ranges (finished_ranges s)) (sym k) ∙ sym e ∙ f

abbrev Answer : Type 0
Answer = Result (Unit {0}) Refusal

required : (b : Bool) {v : Unit {0}} → ◌≡◌ {A = Answer} (Ok v) (cond b (Ok tt) (Err Unreached)) → b ≡ true
required true k = refl
required false k = cc

failed : (b : Bool) (e : Refusal) → ◌≡◌ {A = Answer} (Err e) (cond b (Ok tt) (Err Unreached)) → (b ≡ false) × (e ≡ Unreached)
failed true e k = cc
failed false e k = (refl, cc)

pub returns-in_err-require-clause-gives : goal.returns-in_err-require-clause-gives
returns-in_err-require-clause-gives c =
    let a = c.args in
    let p = samples_mut a.planes.now in
    let r = err_from_is_err_and c.from_residual-in_err-require.result c.from_residual-in_err-require.ensures.1 in
    let h = past a.plan.bands a.plan.settings a.choices.now p c.in_ok-check.ensures c.choices_fit-fit.ensures c.lengths.ensures c.shared.ensures in
    let f = failed c.in_finished_ranges.result c.in_err-require.field-0.0 c.in_err-require.ensures in
    rw (r.1, r.2, f.1) (inverse_outside a.plan.bands a.plan.settings a.choices.now p h (inside a.plan.settings c.in_finished_ranges.result c.in_finished_ranges.ensures c.shared-2.ensures f.0))

pub undo_steps-requires : goal.undo_steps-requires
undo_steps-requires c =
    let a = c.args in
    let p = samples_mut a.planes.now in
    let h = past a.plan.bands a.plan.settings a.choices.now p c.in_ok-check.ensures c.choices_fit-fit.ensures c.lengths.ensures c.shared.ensures in
    inverse_ready a.plan.bands a.plan.settings a.choices.now p h _ c.step_count-to.ensures
    (inside a.plan.settings c.in_finished_ranges.result c.in_finished_ranges.ensures c.shared-2.ensures (required c.in_finished_ranges.result c.in_ok-require.ensures))

pub is_picture-requires : goal.is_picture-requires
is_picture-requires c =
    let a = c.args in
    let p = samples_mut a.planes.now in
    (valid Plain a.plan.bands a.plan.settings a.choices.now p (past a.plan.bands a.plan.settings a.choices.now p c.in_ok-check.ensures c.choices_fit-fit.ensures c.lengths.ensures c.shared.ensures)).allowed

pub returns-then-is_picture-clause-gives : goal.returns-then-is_picture-clause-gives
returns-then-is_picture-clause-gives c =
    let a = c.args in
    let p = samples_mut a.planes.now in
    let h = past a.plan.bands a.plan.settings a.choices.now p c.in_ok-check.ensures c.choices_fit-fit.ensures c.lengths.ensures c.shared.ensures in
    let n = c.step_count-to.ensures in
    ap (λ (q : Planes). outcome_of (Ok tt) q) (c.undo_steps.ensures.made ∙ undo_all Plain a.plan.bands a.plan.settings a.choices.now p _ n p)
    ∙ inverse_done a.plan.bands a.plan.settings a.choices.now p h
    (undone_test a.plan.bands a.plan.settings a.choices.now p _ n (c.shared-3.ensures ∙ c.undo_steps.ensures.made) c.is_picture.ensures c.if-is_picture.true)

pub run_steps-requires : goal.run_steps-requires
run_steps-requires c =
    let a = c.args in
    let p = samples_mut a.planes.now in
    let h = past a.plan.bands a.plan.settings a.choices.now p c.in_ok-check.ensures c.choices_fit-fit.ensures c.lengths.ensures c.shared.ensures in
    again_ready a.plan.bands a.plan.settings a.choices.now p h _ c.step_count-to.ensures
    (inside a.plan.settings c.in_finished_ranges.result c.in_finished_ranges.ensures c.shared-2.ensures (required c.in_finished_ranges.result c.in_ok-require.ensures)) _ c.undo_steps.ensures.made

pub returns-clause-gives : goal.returns-clause-gives
returns-clause-gives c =
    let a = c.args in
    let p = samples_mut a.planes.now in
    let h = past a.plan.bands a.plan.settings a.choices.now p c.in_ok-check.ensures c.choices_fit-fit.ensures c.lengths.ensures c.shared.ensures in
    let n = c.step_count-to.ensures in
    ap (λ (q : Planes). outcome_of (Err Unreached) q) (restored a.plan.bands a.plan.settings a.choices.now p _ n c.undo_steps.ensures.made c.run_steps.ensures.made)
    ∙ inverse_last a.plan.bands a.plan.settings a.choices.now p h
    (undone_test a.plan.bands a.plan.settings a.choices.now p _ n (c.shared-3.ensures ∙ c.undo_steps.ensures.made) c.is_picture.ensures c.if-is_picture.false)
