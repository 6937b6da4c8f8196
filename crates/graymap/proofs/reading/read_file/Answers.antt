-- The header, then the plane's length, then the samples.
use Rattle.std.proofs.Common.{arith}
use Rattle.std.proofs.lemmas.Result.{err_from_is_err_and}
use Rattle.graymap.proofs.PlanesRead.{samples_count, sample_refused, plane_restored}
use Rattle.graymap.proofs.reading.read_file.Goals as goal

pub returns-in_err-require-2 : goal.returns-in_err-require-2
returns-in_err-require-2 c =
    let a = c.args in
    let r = err_from_is_err_and c.from_residual-in_err-require-2.result c.from_residual-in_err-require-2.ensures.1 in
    rw (r.1, r.2) (sample_refused a.range a.file a.samples.now _ c.in_ok-p.ensures c.in_ok-require.ensures _ c.all_up_to.ensures _ c.in_err-require-2.ensures)

pub fill-requires : goal.fill-requires
fill-requires c = record {
  enough = omega (arith, samples_count c.args.range c.args.file c.args.samples.now _ c.in_ok-p.ensures c.in_ok-require.ensures);
  within = omega arith;
  small = omega (arith, c.requires.extent_most);
}

pub returns : goal.returns
returns c = plane_restored c.args.range c.args.file c.args.samples.now _ c.in_ok-p.ensures c.in_ok-require.ensures _ c.all_up_to.ensures c.in_ok-require-2.ensures c.fill.ensures
