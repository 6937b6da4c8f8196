use Rattle.std.proofs.Common.{◌≡◌, ℕ, ◌+◌, ◌*◌, ◌<◌, ◌≤◌, List, ℤ, refl, ap, ◌∙◌, mul-le-mul_right, arith}
use Rattle.integers.proofs.Changes.{changed_none, changed_join, changed_as}
use Rattle.stage.specs.Filter.{mean}
use Rattle.kernel.specs.Pass.{KeptPass, applied}
use Rattle.kernel.specs.Centre.{CentreWeight}
use Rattle.kernel.specs.Lifting.{Liftable, MeanRow, Lifted}
use Rattle.kernel.specs.declared.centre.Centre.{Centre}
use Rattle.kernel.proofs.Segments.{rows_segment, segment_rest}
use Rattle.kernel.proofs.Windows.{filtered_mean}
use Rattle.kernel.proofs.lift_means.Goals as goal

-- rows from .. to y − 1 are done, and row y is ready
module _ {w h f from to y : ℕ} {p : KeptPass} (k : ℕ) {a before c : List ℤ} (r : Liftable w h f p from to a before)
    (done : Lifted p (mean w h k a) (from * w) (y * w) before c) (low : from ≤ y) (high : y < to) where
  ready : {centre : Centre} → CentreWeight centre → MeanRow centre w h y p a c
  ready x =
      let m = mul-le-mul_right w high in
      let n = mul-le-mul_right w low in
      let s = rows_segment r in
      record {
        row = omega (arith, r.rows);
        size = r.read_size;
        segment = segment_rest s done (λ i u v. s.windows i (omega arith) (omega arith)) n (omega arith) (omega arith);
        read = r.read;
        weights = x;
      }

  more : {d : List ℤ} → Lifted p (mean w h k a) (y * w) (y * w + w) c d → Lifted p (mean w h k a) (from * w) ((y + 1) * w) before d
  more u = changed_join done (changed_as _ _ u refl (omega arith) (λ n x g q. refl)) (mul-le-mul_right w low) (omega arith)

pub loop-y-init : goal.loop-y-init
loop-y-init c = changed_none _ _ refl

pub lift_row-requires : goal.lift_row-requires
lift_row-requires c = ready _ c.requires.whole c.loop-y.invariant c.loop-y.auto.y c.loop-y-test.true c.centre_at-centre.ensures.sound

pub loop-y-preserved : goal.loop-y-preserved
loop-y-preserved c = more c.centre_at-centre.result.weight c.requires.whole c.loop-y.invariant c.loop-y.auto.y c.loop-y-test.true c.lift_row.ensures

pub shape_of-c : goal.shape_of-c
shape_of-c c = c.loop-y.invariant.long

pub returns : goal.returns
returns c =
    let s = c.args in
    let o = c.loop-y.auto.y-end c.requires.whole.order in
    let e : c.loop-y.y ≡ s.to = omega arith in
    changed_as _ _ c.loop-y.invariant refl (ap (λ (n : ℕ). n * s.width) e)
    (λ i x p q. ap (applied s.pass x) (ap (λ (m : ℕ). mean s.width s.height m s.a.now i) c.centre_at-centre.ensures.is ∙ filtered_mean s.width s.height s.filter s.a.now i c.requires.least c.requires.most))
