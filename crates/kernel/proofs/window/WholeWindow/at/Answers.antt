use Rattle.std.proofs.Common.{ℕ, ◌+◌, List, ℤ, pos, ◌+ℤ◌, ◌*ℤ◌, ap, ◌∙◌, to_z-of_z}
use Rattle.integers.specs.Lists.{at}
use Rattle.integers.proofs.Ranges.{sfits_shr}
use Rattle.stage.specs.Filter.{rounded_mean}
use Rattle.kernel.specs.Window.{MeanWindows, ValueIn, neighbour_sum}
use Rattle.kernel.specs.declared.centre.Centre.{Centre}
use Rattle.kernel.proofs.Borders.{interior_window}
use Rattle.kernel.proofs.Interior.{SampleIn, InteriorIn, base_fits, rest_fits, InteriorResult, interior_result}
use Rattle.kernel.proofs.window.WholeWindow.at.Goals as goal
use Rattle.kernel.proofs.window.WholeWindow.at.Goals.{After-fixed_quotient}

module _ {centre : Centre} {w i : ℕ} {a : List ℤ} (r : MeanWindows centre w 1 1 1 1 i (i + 1) a) where
  own : SampleIn centre (at a i)
  own = record { weights = r.weights; range = r.windows.samples.each i }

  -- with the neighbours
  window : {n : ℤ} → ValueIn 4194304 (neighbour_sum w a i) n → InteriorIn centre n (at a i)
  window v = record { own = own; sum = v.range }

pub overflow_cast-base : goal.overflow_cast-base
overflow_cast-base c = (base_fits (own c.requires)).offset

pub overflow_sub-base : goal.overflow_sub-base
overflow_sub-base c = let k = base_fits (own c.requires) in simp (to_z-of_z, k.own, k.offset) k.difference

pub overflow_mul-base : goal.overflow_mul-base
overflow_mul-base c = let k = base_fits (own c.requires) in simp (to_z-of_z, k.own, k.offset, k.difference) k.product

pub overflow_sub-rest : goal.overflow_sub-rest
overflow_sub-rest c =
    let k = base_fits (own c.requires) in
    let r = rest_fits (window c.requires c.neighbour_sum.ensures) in
    simp (to_z-of_z, k.own, k.offset, k.difference, k.product, r.sum) r.difference

pub overflow_add-rest-2 : goal.overflow_add-rest-2
overflow_add-rest-2 c =
    let k = base_fits (own c.requires) in
    let r = rest_fits (window c.requires c.neighbour_sum.ensures) in
    simp (to_z-of_z, k.own, k.offset, k.difference, k.product, r.sum, r.difference, r.half) r.total

pub overflow_cast-rest-2 : goal.overflow_cast-rest-2
overflow_cast-rest-2 c =
    let k = base_fits (own c.requires) in
    let r = rest_fits (window c.requires c.neighbour_sum.ensures) in
    simp (to_z-of_z, k.own, k.offset, k.difference, k.product, r.sum, r.difference, r.half, r.total) (r.sign, r.size)

pub fixed_quotient-requires : goal.fixed_quotient-requires
fixed_quotient-requires c =
    let k = base_fits (own c.requires) in
    let r = rest_fits (window c.requires c.neighbour_sum.ensures) in
    record {
      divisor = c.requires.weights.divides;
      dividend = simp (to_z-of_z, k.own, k.offset, k.difference, k.product, r.sum, r.difference, r.half, r.total) r.below;
    }

result : (c : After-fixed_quotient) → InteriorResult (window c.requires c.neighbour_sum.ensures) c.fixed_quotient.result
result c =
    let k = base_fits (own c.requires) in
    let r = rest_fits (window c.requires c.neighbour_sum.ensures) in
    let e = simp (to_z-of_z, k.own, k.offset, k.difference, k.product, r.sum, r.difference, r.half, r.total) at c.fixed_quotient.ensures in
    interior_result (window c.requires c.neighbour_sum.ensures) c.fixed_quotient.result e

pub overflow_cast-result : goal.overflow_cast-result
overflow_cast-result c = (result c).own

pub overflow_add-result : goal.overflow_add-result
overflow_add-result c =
    let k = base_fits (own c.requires) in
    let r = result c in
    simp (to_z-of_z, k.own, k.offset, k.difference, k.product, r.own) r.sum

pub returns : goal.returns
returns c =
    let s = c.args in
    let k = base_fits (own c.requires) in
    let r = result c in
    let w = s.self.centre.weight in
    let e = ap (λ (z : ℤ). rounded_mean (z +ℤ pos w *ℤ at s.plane.now s.i) (8 + w)) c.neighbour_sum.ensures.is in
    simp (to_z-of_z, k.own, k.offset, k.difference, k.product, r.own, r.sum, sfits_shr 8 r.sum)
    (record {
      is = r.value.is ∙ e ∙ interior_window s.self.width w s.i s.plane.now c.requires.weights.least;
      range = r.value.range;
    })
