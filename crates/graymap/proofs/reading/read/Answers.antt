-- The plane, then the width of its range, then the file.
use Rattle.std.proofs.Common.{ap, ◌∙◌}
use Rattle.std.proofs.lemmas.Result.{err_from_is_err_and}
use Rattle.stage.specs.declared.Range.{Range}
use Rattle.graymap.specs.Parts.{read_file}
use Rattle.graymap.proofs.PlanesWritten.{range_is, narrow_is}
use Rattle.graymap.proofs.PlanesRead.{plane_refused, wide_refused, file_read}
use Rattle.graymap.proofs.reading.read.Goals as goal

pub returns-in_err-c : goal.returns-in_err-c
returns-in_err-c c =
    let a = c.args in
    let r = err_from_is_err_and c.from_residual.result c.from_residual.ensures.1 in
    rw (r.1, r.2) (plane_refused a.depths a.transform a.plane a.file.now a.samples.now _ c.in_err-c.ensures.tests)

pub returns-in_err-require : goal.returns-in_err-require
returns-in_err-require c =
    let a = c.args in
    let r = err_from_is_err_and c.from_residual-in_err-require.result c.from_residual-in_err-require.ensures.1 in
    rw (r.1, r.2)
    (wide_refused a.depths a.transform a.plane a.file.now a.samples.now c.in_ok-c.ensures.tests _ (range_is a.depths a.transform a.plane c.in_ok-c.ensures.plane c.finished_range-range.ensures.0) _
    c.in_err-require.ensures)

pub returns : goal.returns
returns c =
    let a = c.args in
    let r = range_is a.depths a.transform a.plane c.in_ok-c.ensures.plane c.finished_range-range.ensures.0 in
    c.read_file.ensures
    ∙ ap (λ (x : Range). read_file x a.file.now a.samples.now) r
    ∙ file_read a.depths a.transform a.plane a.file.now a.samples.now c.in_ok-c.ensures.tests (narrow_is r c.in_ok-require.ensures)
