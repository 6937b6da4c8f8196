-- The length, then the range, then the file.
use Rattle.std.proofs.lemmas.Result.{err_from_is_err_and}
use Rattle.graymap.proofs.PlanesWritten.{short_refused, sample_refused, puttable, plane_put}
use Rattle.graymap.proofs.writing.write_plane.Goals as goal

pub returns-in_err-require : goal.returns-in_err-require
returns-in_err-require c =
    let a = c.args in
    let r = err_from_is_err_and c.from_residual.result c.from_residual.ensures.1 in
    rw (r.1, r.2) (short_refused a.width a.height a.range a.samples.now a.file.now c.requires _ c.file_length-length.ensures.0 _ c.in_err-require.ensures)

pub returns-in_err-require-2 : goal.returns-in_err-require-2
returns-in_err-require-2 c =
    let a = c.args in
    let r = err_from_is_err_and c.from_residual-in_err-require-2.result c.from_residual-in_err-require-2.ensures.1 in
    rw (r.1, r.2)
    (sample_refused a.width a.height a.range a.samples.now a.file.now c.requires _ c.file_length-length.ensures.0 c.in_ok-require.ensures _ c.all_within-within.ensures _
    c.in_err-require-2.ensures)

pub put_graymap-requires : goal.put_graymap-requires
put_graymap-requires c =
    let a = c.args in
    puttable a.width a.height a.range a.samples.now a.file.now c.requires _ c.file_length-length.ensures.0 c.in_ok-require.ensures _ c.all_within-within.ensures c.in_ok-require-2.ensures

pub returns : goal.returns
returns c =
    let a = c.args in
    plane_put a.width a.height a.range a.samples.now a.file.now c.requires _ c.file_length-length.ensures.0 c.in_ok-require.ensures _ c.all_within-within.ensures c.in_ok-require-2.ensures _
    c.put_graymap.ensures
