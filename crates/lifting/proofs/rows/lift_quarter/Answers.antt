use Rattle.std.proofs.Common.{◌≡◌, ℕ, ◌+◌, ◌*◌, ◌≤◌, Bool, false, ◌&&◌, eqb, List, ℤ, refl, ap, ◌∙◌, lit<, mul-le-mul_right, arith}
use Rattle.integers.specs.Lists.{Changed}
use Rattle.integers.proofs.Changes.{changed_none}
use Rattle.stage.specs.declared.Plan.{Plan}
use Rattle.stage.specs.declared.Form.TheVariants.{Plain}
use Rattle.kernel.specs.declared.pass.KeptPass.{KeptPass}
use Rattle.kernel.specs.Pass.{kept_pass}
use Rattle.lifting.specs.declared.passes.Pass.{Pass}
use Rattle.lifting.specs.Passes.{pass_at, way, quarter_at}
use Rattle.lifting.specs.Steps.{QuarterReady}
use Rattle.lifting.proofs.Quarter.{null_quarter, Turn, turn}
use Rattle.lifting.proofs.rows.lift_quarter.Goals as goal

-- the two passes of row y, where those before it are done
module _ (plan : Plan) (back : Bool) {f g from to y : ℕ} {a b before c : List ℤ} {one two : Pass} {first second : KeptPass} (r : QuarterReady plan.settings f g from to a b before)
    (e : one ≡ pass_at 0 2) (k : first ≡ kept_pass (way back one) Plain plan.settings.depths.c1)
    (h : two ≡ pass_at 0 3) (l : second ≡ kept_pass (way back two) plan.form plan.settings.depths.c1)
    (unskipped : (eqb f 12 && eqb g 12) ≡ false)
    (done : Changed (quarter_at plan.form plan.settings.depths.c1 plan.settings.width plan.settings.height back f g a b) (from * plan.settings.width) (y * plan.settings.width) before c)
    (low : from ≤ y) where
  turn_at : let s = plan.settings in
      Turn plan.form s.depths.c1 s.width s.height f g back a b before c first second (from * s.width) (y * s.width) ((y + 1) * s.width)
  turn_at =
      let d = plan.settings.depths.c1 in
      turn (record {
        unskipped = unskipped;
        depth = r.depth;
        first_is = k ∙ ap (λ (x : Pass). kept_pass (way back x) Plain d) e;
        second_is = l ∙ ap (λ (x : Pass). kept_pass (way back x) plan.form d) h;
        first_range = r.first;
        second_range = r.second;
        own_range = r.changed;
      }) done (mul-le-mul_right plan.settings.width low) (omega arith)

pub returns-then-null : goal.returns-then-null
returns-then-null c =
    let s = c.args in
    let p = s.plan in
    null_quarter p.form p.settings.depths.c1 p.settings.width p.settings.height s.f s.g _ _ s.back s.a.now s.b.now s.c.now c.if-null.true

pub pass_at-requires : goal.pass_at-requires
pass_at-requires c = lit< tt

pub pass_at-requires-2 : goal.pass_at-requires-2
pass_at-requires-2 c = lit< tt

pub loop-y-init : goal.loop-y-init
loop-y-init c = changed_none _ _ refl

pub lift_rows-requires : goal.lift_rows-requires
lift_rows-requires c =
    let p = c.requires in
    let u = c.loop-y.invariant in
    let t = turn_at c.args.plan c.args.back p c.pass_at.ensures c.kept-first.ensures c.pass_at-2.ensures c.kept-second.ensures c.if-null.false u c.loop-y.auto.y in
    record {
      filter = p.first_filter;
      pass = t.first_allowed;
      order = omega arith;
      rows = omega (arith, p.rows);
      read_size = p.first_size;
      changed_size = u.long ∙ p.changed_size;
      read = p.first;
      changed = t.range;
    }

pub lift_rows-requires-in-loop-y : goal.lift_rows-requires-in-loop-y
lift_rows-requires-in-loop-y c =
    let p = c.requires in
    let u = c.loop-y.invariant in
    let v = c.lift_rows.ensures in
    let t = turn_at c.args.plan c.args.back p c.pass_at.ensures c.kept-first.ensures c.pass_at-2.ensures c.kept-second.ensures c.if-null.false u c.loop-y.auto.y in
    record {
      filter = p.second_filter;
      pass = t.second_allowed;
      order = omega arith;
      rows = omega (arith, p.rows);
      read_size = p.second_size;
      changed_size = v.long ∙ u.long ∙ p.changed_size;
      read = p.second;
      changed = t.range_between v;
    }

pub loop-y-preserved : goal.loop-y-preserved
loop-y-preserved c =
    let u = c.loop-y.invariant in
    let t = turn_at c.args.plan c.args.back c.requires c.pass_at.ensures c.kept-first.ensures c.pass_at-2.ensures c.kept-second.ensures c.if-null.false u c.loop-y.auto.y in
    t.made c.lift_rows.ensures c.lift_rows-in-loop-y.ensures

pub shape_of-c : goal.shape_of-c
shape_of-c c = c.loop-y.invariant.long
