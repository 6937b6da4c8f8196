use Rattle.std.proofs.Common.{ap, ◌∙◌}
use Rattle.std.proofs.lemmas.Result.{err_from_is_err_and}
use Rattle.stage.specs.Answers.{outcome_of}
use Rattle.stage.specs.Planes.{Planes, samples_mut}
use Rattle.stage.specs.Transform.{untransformed}
use Rattle.stage.proofs.Answers.{err_outcome, ok_outcome}
use Rattle.std.specs.Prelude.{Ok}
use Rattle.transform.specs.Calls.{picture_tests}
use Rattle.transform.proofs.Calls.{past, moved, inverse_wrapped, undo_all, back_ready}
use Rattle.transform.proofs.undo_wrapped.Goals as goal

pub returns-in_err-check_picture-clause-gives : goal.returns-in_err-check_picture-clause-gives
returns-in_err-check_picture-clause-gives c =
    let a = c.args in
    let p = samples_mut a.planes.now in
    let r = err_from_is_err_and c.from_residual.result c.from_residual.ensures.1 in
    rw (r.1, r.2) (err_outcome (picture_tests a.plan.form a.plan.bands a.plan.settings a.choices.now p) tt (untransformed a.plan.form a.plan.bands a.plan.settings a.choices.now p) p
    c.in_err-check_picture.field-0.0 (moved a.plan.form a.plan.bands a.plan.settings a.choices.now p _ c.shared.ensures c.in_err-check_picture.ensures)
    ∙ inverse_wrapped a.plan.form a.plan.bands a.plan.settings a.choices.now p c.requires)

pub undo_steps-requires : goal.undo_steps-requires
undo_steps-requires c =
    let a = c.args in
    let p = samples_mut a.planes.now in
    let h = past a.plan.form a.plan.bands a.plan.settings a.choices.now p (moved a.plan.form a.plan.bands a.plan.settings a.choices.now p 0 c.shared.ensures c.in_ok-check_picture.ensures) in
    back_ready a.plan.form a.plan.bands a.plan.settings a.choices.now p h.0 _ c.step_count-to.ensures h.1

pub returns-clause-gives : goal.returns-clause-gives
returns-clause-gives c =
    let a = c.args in
    let p = samples_mut a.planes.now in
    let e = c.undo_steps.ensures.made ∙ undo_all a.plan.form a.plan.bands a.plan.settings a.choices.now p _ c.step_count-to.ensures p in
    ap (λ (q : Planes). outcome_of (Ok tt) q) e
    ∙ ok_outcome (picture_tests a.plan.form a.plan.bands a.plan.settings a.choices.now p) tt (untransformed a.plan.form a.plan.bands a.plan.settings a.choices.now p) p (moved a.plan.form a.plan.bands a.plan.settings a.choices.now p 0 c.shared.ensures c.in_ok-check_picture.ensures)
    ∙ inverse_wrapped a.plan.form a.plan.bands a.plan.settings a.choices.now p c.requires
