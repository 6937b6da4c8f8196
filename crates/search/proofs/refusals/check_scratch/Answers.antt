use Rattle.std.proofs.Common.{[], ◌∷◌}
use Rattle.std.proofs.lemmas.Result.{err_from_is_err_and}
use Rattle.stage.specs.declared.Refusal.TheVariants.{Scratch}
use Rattle.stage.specs.Answers.{◌else◌, number_of}
use Rattle.stage.specs.declared.Form.TheVariants.{Plain}
use Rattle.stage.specs.declared.Bands.TheVariants.{One}
use Rattle.stage.specs.declared.Plane.TheVariants.{C1}
use Rattle.stage.specs.Transform.{settings_tests}
use Rattle.stage.specs.Search.{scratch_fits}
use Rattle.stage.proofs.Answers.{refusal_first, number_positive, last_made}
use Rattle.search.proofs.Calls.{settings_held, settings_valid, fits_is}
use Rattle.search.proofs.refusals.check_scratch.Goals as goal

pub returns-in_err-check : goal.returns-in_err-check
returns-in_err-check c =
    let a = c.args in
    let e = c.in_err-check.field-0.0 in
    let r = err_from_is_err_and c.from_residual.result c.from_residual.ensures.1 in
    let k = rw c.from.ensures at c.in_err-check.ensures in
    rw (r.1, r.2) (refusal_first (settings_tests Plain One a.settings a.choices a.lengths) ((scratch_fits a.settings a.trials a.counters else 9) ∷ []) (number_of e) k (number_positive e))

pub counters_fit-requires : goal.counters_fit-requires
counters_fit-requires c =
    let a = c.args in
    (settings_valid a.settings a.choices a.lengths (rw c.from.ensures at c.in_ok-check.ensures)).allowed

pub returns : goal.returns
returns c =
    let a = c.args in
    let e = rw c.from.ensures at c.in_ok-check.ensures in
    let n = (settings_valid a.settings a.choices a.lengths e).size C1 in
    last_made (settings_tests Plain One a.settings a.choices a.lengths) (scratch_fits a.settings a.trials a.counters) Scratch (settings_held a.settings a.choices a.lengths e)
    (rw (fits_is a.settings a.trials a.counters n c.planes_fit.ensures c.counters_fit.ensures) at c.require.ensures)
