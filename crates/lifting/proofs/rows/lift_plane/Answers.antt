use Rattle.std.proofs.Common.{arith}
use Rattle.stage.specs.Planes.{samples_mut}
use Rattle.lifting.specs.Passes.{pass_at}
use Rattle.lifting.proofs.TransformPasses.{reads_second, pass_liftable, pass_skipped}
use Rattle.lifting.proofs.rows.lift_plane.Goals as goal

pub returns-then-null-clause-rows : goal.returns-then-null-clause-rows
returns-then-null-clause-rows c =
    let a = c.args in
    pass_skipped a.plan.form a.plan.settings a.back a.filter a.from a.to (pass_at a.plan.settings.transform a.place) (samples_mut a.planes.now) (omega arith)

pub pass_at-x-requires : goal.pass_at-x-requires
pass_at-x-requires c = c.requires.place

pub lift_rows-requires : goal.lift_rows-requires
lift_rows-requires c =
    pass_liftable c.requires (record { pass_is = c.pass_at-x.ensures; kept_is = c.kept-n.ensures; changed_is = c.in-C1.is; read_is = c.in-C2-read.is })

pub lift_rows-requires-in_default : goal.lift_rows-requires-in_default
lift_rows-requires-in_default c =
    pass_liftable c.requires (record { pass_is = c.pass_at-x.ensures; kept_is = c.kept-n.ensures; changed_is = c.in-C1.is; read_is = reads_second _ _ c.requires.place c.pass_at-x.ensures c.in-C1.is c.in_default.not-C2 })

pub lift_rows-requires-in-C1-read : goal.lift_rows-requires-in-C1-read
lift_rows-requires-in-C1-read c =
    pass_liftable c.requires (record { pass_is = c.pass_at-x.ensures; kept_is = c.kept-n.ensures; changed_is = c.in-C2.is; read_is = c.in-C1-read.is })

pub lift_rows-requires-in_default-read : goal.lift_rows-requires-in_default-read
lift_rows-requires-in_default-read c =
    pass_liftable c.requires (record { pass_is = c.pass_at-x.ensures; kept_is = c.kept-n.ensures; changed_is = c.in-C2.is; read_is = reads_second _ _ c.requires.place c.pass_at-x.ensures c.in-C2.is c.in_default-read.not-C1 })

pub lift_rows-requires-in-C1-read-2 : goal.lift_rows-requires-in-C1-read-2
lift_rows-requires-in-C1-read-2 c =
    pass_liftable c.requires (record { pass_is = c.pass_at-x.ensures; kept_is = c.kept-n.ensures; changed_is = c.in-C3.is; read_is = c.in-C1-read-2.is })

pub lift_rows-requires-in_default-read-2 : goal.lift_rows-requires-in_default-read-2
lift_rows-requires-in_default-read-2 c =
    pass_liftable c.requires (record { pass_is = c.pass_at-x.ensures; kept_is = c.kept-n.ensures; changed_is = c.in-C3.is; read_is = reads_second _ _ c.requires.place c.pass_at-x.ensures c.in-C3.is c.in_default-read-2.not-C1 })
