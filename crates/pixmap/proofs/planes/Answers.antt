-- The header decides; then the lengths; then each plane is filled.
use Rattle.std.proofs.Common.{lit≤}
use Rattle.std.proofs.lemmas.Result.{err_from_is_err_and}
use Rattle.stage.specs.declared.Plane.TheVariants.{C1, C2, C3}
use Rattle.stage.specs.Planes.{samples_mut}
use Rattle.pixmap.proofs.Filling.{planes_refused, planes_other, fills, planes_done}
use Rattle.pixmap.proofs.planes.Goals as goal

pub returns-in_err-p-clause-filled : goal.returns-in_err-p-clause-filled
returns-in_err-p-clause-filled c =
    let r = err_from_is_err_and c.from_residual.result c.from_residual.ensures.1 in
    rw (r.1, r.2) (planes_refused c.args.file (samples_mut c.args.planes.now) _ c.in_err-p.ensures.refusal_is)

pub returns-in_err-require-clause-filled : goal.returns-in_err-require-clause-filled
returns-in_err-require-clause-filled c =
    let r = err_from_is_err_and c.from_residual-in_err-require.result c.from_residual-in_err-require.ensures.1 in
    rw (r.1, r.2)
    (planes_other c.args.file (samples_mut c.args.planes.now) _ c.in_ok-p.ensures _ _ c.shared.ensures (rw c.lengths.ensures at c.all_equal.ensures) _ c.in_err-require.ensures)

pub fill-requires : goal.fill-requires
fill-requires c =
    fills c.args.file (samples_mut c.args.planes.now) _ c.in_ok-p.ensures _ _ c.shared.ensures (rw c.lengths.ensures at c.all_equal.ensures) c.in_ok-require.ensures C1 0 (lit≤ tt)

pub fill-requires-2 : goal.fill-requires-2
fill-requires-2 c =
    fills c.args.file (samples_mut c.args.planes.now) _ c.in_ok-p.ensures _ _ c.shared.ensures (rw c.lengths.ensures at c.all_equal.ensures) c.in_ok-require.ensures C2 1 (lit≤ tt)

pub fill-requires-3 : goal.fill-requires-3
fill-requires-3 c =
    fills c.args.file (samples_mut c.args.planes.now) _ c.in_ok-p.ensures _ _ c.shared.ensures (rw c.lengths.ensures at c.all_equal.ensures) c.in_ok-require.ensures C3 2 (lit≤ tt)

pub returns-clause-filled : goal.returns-clause-filled
returns-clause-filled c =
    planes_done c.args.file (samples_mut c.args.planes.now) _ c.in_ok-p.ensures _ _ c.shared.ensures (rw c.lengths.ensures at c.all_equal.ensures) c.in_ok-require.ensures _ _ _
    c.fill.ensures c.fill-2.ensures c.fill-3.ensures
