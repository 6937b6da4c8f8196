-- The size, then the width of the range, then the rest.
use Rattle.std.proofs.Common.{ap, ◌∙◌}
use Rattle.std.proofs.lemmas.Result.{err_from_is_err_and}
use Rattle.stage.specs.declared.Range.{Range}
use Rattle.graymap.specs.Parts.{written_plane}
use Rattle.graymap.proofs.PlanesWritten.{range_is, narrow_is, size_refused, wide_refused, plane_sized, plane_written}
use Rattle.graymap.proofs.writing.write.Goals as goal

pub returns-in_err-c : goal.returns-in_err-c
returns-in_err-c c =
    let a = c.args in
    let r = err_from_is_err_and c.from_residual.result c.from_residual.ensures.1 in
    rw (r.1, r.2) (size_refused a.settings a.plane a.samples.now a.file.now _ c.in_err-c.ensures.tests)

pub returns-in_err-require : goal.returns-in_err-require
returns-in_err-require c =
    let a = c.args in
    let r = err_from_is_err_and c.from_residual-in_err-require.result c.from_residual-in_err-require.ensures.1 in
    rw (r.1, r.2)
    (wide_refused a.settings a.plane a.samples.now a.file.now c.in_ok-c.ensures.tests _ (range_is a.settings.depths a.settings.transform a.plane c.in_ok-c.ensures.plane c.finished_range-range.ensures.0) _
    c.in_err-require.ensures)

pub write_plane-requires : goal.write_plane-requires
write_plane-requires c =
    let a = c.args in
    let r = range_is a.settings.depths a.settings.transform a.plane c.in_ok-c.ensures.plane c.finished_range-range.ensures.0 in
    rw r (plane_sized a.settings a.plane a.samples.now a.file.now c.in_ok-c.ensures.tests (narrow_is r c.in_ok-require.ensures))

pub returns : goal.returns
returns c =
    let a = c.args in
    let r = range_is a.settings.depths a.settings.transform a.plane c.in_ok-c.ensures.plane c.finished_range-range.ensures.0 in
    c.write_plane.ensures
    ∙ ap (λ (x : Range). written_plane a.settings.width a.settings.height x a.samples.now a.file.now) r
    ∙ plane_written a.settings a.plane a.samples.now a.file.now c.in_ok-c.ensures.tests (narrow_is r c.in_ok-require.ensures)
