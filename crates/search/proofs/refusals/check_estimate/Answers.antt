use Rattle.std.proofs.Common.{[], ◌∷◌}
use Rattle.std.proofs.lemmas.Result.{err_from_is_err_and}
use Rattle.stage.specs.declared.Bands.TheVariants.{One}
use Rattle.stage.specs.declared.Refusal.TheVariants.{Sample}
use Rattle.stage.specs.Answers.{◌else◌, number_of}
use Rattle.stage.specs.Planes.{samples}
use Rattle.stage.specs.Transform.{choices_fit, lengths, is_picture}
use Rattle.stage.specs.Search.{scratch_fits, scratch_tests}
use Rattle.stage.proofs.Answers.{refusal_first, number_positive, last_made}
use Rattle.search.proofs.Calls.{scratch_held, scratch_passed}
use Rattle.search.proofs.refusals.check_estimate.Goals as goal

pub returns-in_err-check_scratch : goal.returns-in_err-check_scratch
returns-in_err-check_scratch c =
    let a = c.args in
    let p = samples a.picture in
    let e = c.in_err-check_scratch.field-0.0 in
    let r = err_from_is_err_and c.from_residual.result c.from_residual.ensures.1 in
    let k = rw (c.choices_fit-fit.ensures, c.lengths.ensures) at c.in_err-check_scratch.ensures in
    rw (r.1, r.2) (refusal_first (scratch_tests a.settings (choices_fit One a.settings a.choices.now) (lengths p) (scratch_fits a.settings a.trials a.counters))
    ((is_picture a.settings p else 11) ∷ []) (number_of e) k (number_positive e))

pub is_picture-requires : goal.is_picture-requires
is_picture-requires c =
    let a = c.args in
    let fits = scratch_fits a.settings a.trials a.counters in
    (scratch_passed a.settings c.choices_fit-fit.result c.lengths.result fits (scratch_held a.settings c.choices_fit-fit.result c.lengths.result fits c.in_ok-check_scratch.ensures)).0.allowed

pub returns : goal.returns
returns c =
    let a = c.args in
    let p = samples a.picture in
    let fit = choices_fit One a.settings a.choices.now in
    let fits = scratch_fits a.settings a.trials a.counters in
    let k = rw (c.choices_fit-fit.ensures, c.lengths.ensures) at c.in_ok-check_scratch.ensures in
    last_made (scratch_tests a.settings fit (lengths p) fits) (is_picture a.settings p) Sample (scratch_held a.settings fit (lengths p) fits k) (rw c.is_picture.ensures at c.require.ensures)
