use Rattle.std.proofs.Common.{◌≡◌, true, ◌&&◌, refl}
use Rattle.integers.proofs.Booleans.{both_true}
use Rattle.integers.proofs.Changes.{changed_as}
use Rattle.kernel.specs.declared.window.Border.{Border}
use Rattle.kernel.proofs.row.lift_between_ends.Goals as goal

-- all neighbours are there
record All (b : Border) : Type 0 where
  left : b.left ≡ true
  right : b.right ≡ true
  above : b.above ≡ true
  below : b.below ≡ true

all : (b : Border) → (b.left && b.right && b.above && b.below) ≡ true → All b
all b e =
    let x = both_true (b.left && b.right && b.above) b.below e in
    let y = both_true (b.left && b.right) b.above x.0 in
    let z = both_true b.left b.right y.0 in
    record { left = z.0; right = z.1; above = y.1; below = x.1 }

pub lift_many-requires : goal.lift_many-requires
lift_many-requires c =
    let s = c.requires in
    let h = all c.args.window c.if-whole.true in
    record {
      windows = λ k p q. rw (h.left, h.right, h.above, h.below) at (s.windows k p q);
      pass = s.pass;
      order = s.order;
      end = s.end;
      changed = s.changed;
    }

pub returns-then-whole : goal.returns-then-whole
returns-then-whole c =
    let h = all c.args.window c.if-whole.true in
    changed_as _ _ c.lift_many.ensures refl refl (λ k z p q. rw (h.left, h.right, h.above, h.below) refl)
