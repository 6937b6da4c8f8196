use Rattle.std.proofs.Common.{[], ◌∷◌}
use Rattle.std.proofs.lemmas.Result.{err_from_is_err_and}
use Rattle.stage.specs.declared.Refusal.TheVariants.{Sample}
use Rattle.stage.specs.Answers.{◌else◌, number_of}
use Rattle.stage.specs.Planes.{samples}
use Rattle.stage.specs.Transform.{is_picture}
use Rattle.stage.proofs.Answers.{refusal_first, number_positive, last_made}
use Rattle.transform.proofs.Calls.{tests, made, held, valid}
use Rattle.transform.proofs.check_picture.Goals as goal

pub returns-in_err-check : goal.returns-in_err-check
returns-in_err-check c =
    let a = c.args in
    let s = a.plan.settings in
    let p = samples a.planes in
    let e = c.in_err-check.field-0.0 in
    let r = err_from_is_err_and c.from_residual.result c.from_residual.ensures.1 in
    rw (r.1, r.2) (refusal_first (tests a.plan.form a.plan.bands s a.choices.now p) ((is_picture s p else 11) ∷ []) (number_of e)
    (made a.plan.form a.plan.bands s a.choices.now p (number_of e) c.in_err-check.ensures c.choices_fit-fit.ensures c.lengths.ensures) (number_positive e))

pub is_picture-requires : goal.is_picture-requires
is_picture-requires c =
    let a = c.args in
    let p = samples a.planes in
    let h = made a.plan.form a.plan.bands a.plan.settings a.choices.now p 0 c.in_ok-check.ensures c.choices_fit-fit.ensures c.lengths.ensures in
    (valid a.plan.form a.plan.bands a.plan.settings a.choices.now p (held a.plan.form a.plan.bands a.plan.settings a.choices.now p h)).allowed

pub returns : goal.returns
returns c =
    let a = c.args in
    let p = samples a.planes in
    let h = made a.plan.form a.plan.bands a.plan.settings a.choices.now p 0 c.in_ok-check.ensures c.choices_fit-fit.ensures c.lengths.ensures in
    last_made (tests a.plan.form a.plan.bands a.plan.settings a.choices.now p) (is_picture a.plan.settings p) Sample (held a.plan.form a.plan.bands a.plan.settings a.choices.now p h) (rw c.is_picture.ensures at c.require.ensures)
