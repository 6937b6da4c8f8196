use Prim.Native.Nat.{◌*◌}
use Rattle.integers.specs.Lists.{Changed}
use Rattle.lifting.specs.Passes.{quarter_at}
use Rattle.lifting.proofs.rows.lift_quarter.Given as goal

abbrev pub invariant-loop-y : goal.invariant-loop-y
invariant-loop-y l =
    let p = l.fn.plan in
    Changed (quarter_at p.form p.settings.depths.c1 p.settings.width p.settings.height l.back l.f l.g l.a l.b) (l.from * p.settings.width) (l.y * p.settings.width) l.initial.c l.c
