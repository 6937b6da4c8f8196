use Rattle.std.proofs.Common.{ℕ, ◌*◌, ◌≤◌, List, ℤ, refl, ap, mul-le-mul_right, arith, rules}
use Rattle.integers.proofs.Changes.{changed_as}
use Rattle.kernel.specs.Pass.{KeptPass, applied}
use Rattle.kernel.specs.Lifting.{Liftable}
use Rattle.kernel.proofs.Segments.{rows_segment}
use Rattle.kernel.proofs.Windows.{filtered_itself, filtered_nothing}
use Rattle.kernel.proofs.lift_rows.Goals as goal

-- the rows' ends are in the plane
record Ends (w h from to : ℕ) : Type 0 where
  order : from * w ≤ to * w
  last : to * w ≤ w * h

ends : {w h f from to : ℕ} {p : KeptPass} {a c : List ℤ} → Liftable w h f p from to a c → Ends w h from to
ends {w} r = let h = mul-le-mul_right w r.rows in record { order = mul-le-mul_right w r.order; last = omega arith }

pub overflow_mul-from : goal.overflow_mul-from
overflow_mul-from c = let e = ends c.requires in search rules

pub overflow_mul-to : goal.overflow_mul-to
overflow_mul-to c = let e = ends c.requires in search rules

pub lift_many-requires : goal.lift_many-requires
lift_many-requires c = rows_segment c.requires

pub lift_many-requires-in-12 : goal.lift_many-requires-in-12
lift_many-requires-in-12 c = rows_segment c.requires

pub lift_means-requires : goal.lift_means-requires
lift_means-requires c =
    record { least = grind arith; most = grind arith; whole = c.requires }

pub returns-in-0 : goal.returns-in-0
returns-in-0 c =
    let s = c.args in
    changed_as _ _ c.lift_many.ensures refl refl
    (λ i x p q. ap (applied s.pass x) (filtered_itself s.width s.height s.filter s.a.now i c.in-0.is))

pub returns-in-12 : goal.returns-in-12
returns-in-12 c =
    let s = c.args in
    changed_as _ _ c.lift_many-in-12.ensures refl refl
    (λ i x p q. ap (applied s.pass x) (filtered_nothing s.width s.height s.filter s.a.now i c.in-12.is))
