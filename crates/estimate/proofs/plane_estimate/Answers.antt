use native.Mathlib.Omega.{arith}
use Rattle.estimate.proofs.Estimates.{plane_size, plane_difference}
use Rattle.estimate.proofs.plane_estimate.Goals as goal

pub log-requires : goal.log-requires
log-requires c = let s = plane_size c.requires.plane c.counted-n.ensures in (s.some, s.most)

pub overflow_mul-result : goal.overflow_mul-result
overflow_mul-result c =
    let e = plane_difference c.requires.plane c.counted-n.ensures c.log.ensures.value c.residual_sum-sum.ensures.value in
    record { fits = omega (arith, e.small) }

pub overflow_sub-result : goal.overflow_sub-result
overflow_sub-result c = (plane_difference c.requires.plane c.counted-n.ensures c.log.ensures.value c.residual_sum-sum.ensures.value).below

pub returns : goal.returns
returns c =
    let e = plane_difference c.requires.plane c.counted-n.ensures c.log.ensures.value c.residual_sum-sum.ensures.value in
    record {
      value = e.value;
      bound = omega arith;
      counters = c.residual_sum-sum.ensures.counters;
    }
