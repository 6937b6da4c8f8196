use Rattle.std.proofs.Common.{◌≡◌, refl, ℕ, ◌^◌, ℤ, pos, sym, ap, ◌∙◌, subst, ap₂, arith, lit<, lit≤, to_z-of_z, w32, SFits, to_z, of_z, rules}
use Rattle.integers.specs.Parts.{In, floor_div, floor_mod}
use Rattle.integers.proofs.Ranges.{in_wider, in_fits}
use Rattle.kernel.specs.Pass.{Operands, made}
use Rattle.kernel.proofs.LowBits.{LowOperands, low_add, low_subtract, low_negate, low_add_half, low_subtract_half, made_in}
use Rattle.kernel.proofs.pass.Lift.wrapped_result.Goals as goal
use Rattle.kernel.proofs.pass.Lift.wrapped_result.Goals.{After-low_bits-halved, After-result}

-- the lowest bits are those of the operand
low : {z : ℤ} {r : ℕ} → SFits w32 z → floor_mod (to_z w32 (of_z w32 z)) (2 ^ 16) ≡ pos r → floor_mod z (2 ^ 16) ≡ pos r
low f e = ap (λ (z : ℤ). floor_mod z (2 ^ 16)) (sym (to_z-of_z f)) ∙ e

record Known (c f : ℤ) : Type 0 where
  sample : In 33554432 33554432 c
  value : In 33554432 33554432 f
  sample_fits : SFits w32 c
  value_fits : SFits w32 f

known : {c f : ℤ} → Operands c f → Known c f
known o = record {
  sample = in_wider o.sample (lit≤ tt) (lit≤ tt);
  value = in_wider o.value (lit≤ tt) (lit≤ tt);
  sample_fits = in_fits o.sample (lit≤ tt) (lit< tt);
  value_fits = in_fits o.value (lit≤ tt) (lit< tt);
}

pub low_bits-sample-requires : goal.low_bits-sample-requires
low_bits-sample-requires c = let k = known c.requires in search rules

pub low_bits-value-requires : goal.low_bits-value-requires
low_bits-value-requires c = let k = known c.requires in search rules

pub half-requires : goal.half-requires
half-requires c = let k = known c.requires in search rules

pub low_bits-halved-requires : goal.low_bits-halved-requires
low_bits-halved-requires c = let r = in_wider {m = 33554432} {n = 33554432} c.half.ensures.range (lit≤ tt) (lit≤ tt) in search rules

operands : (t : After-low_bits-halved) → LowOperands t.args.c t.args.f t.low_bits-sample.result t.low_bits-value.result t.low_bits-halved.result
operands t =
    let k = known t.requires in
    let v = t.half.ensures in
    let e : t.half.result ≡ floor_div t.args.f 2 = v.is ∙ ap (λ (z : ℤ). floor_div z 2) (to_z-of_z k.value_fits) in
    record {
      sample = low k.sample_fits t.low_bits-sample.ensures;
      value = low k.value_fits t.low_bits-value.ensures;
      halved = ap (λ (z : ℤ). floor_mod z (2 ^ 16)) (sym e) ∙ low (in_fits v.range (lit≤ tt) (lit< tt)) t.low_bits-halved.ensures;
    }

pub result-requires : goal.result-requires
result-requires c = let k = known c.requires in search rules

-- what the pass makes, and its range
whole : (t : After-result) → t.result.result ≡ made t.args.self t.args.c t.args.f
whole t = let k = known t.requires in t.result.ensures ∙ ap₂ (made t.args.self) (to_z-of_z k.sample_fits) (to_z-of_z k.value_fits)

reach : (t : After-result) → In 33554432 33554432 t.result.result
reach t = subst (In 33554432 33554432) (sym (whole t)) (made_in t.args.self t.args.c t.args.f t.requires.sample t.requires.value)

pub low_bits-requires : goal.low_bits-requires
low_bits-requires c = let r = reach c in search rules

pub returns-in-Add : goal.returns-in-Add
returns-in-Add c = rw c.in-Add.is (low_add (operands c.before) refl)

pub returns-in-Subtract : goal.returns-in-Subtract
returns-in-Subtract c = rw c.in-Subtract.is (low_subtract (operands c.before) (omega arith) (omega arith))

pub returns-in-Negate : goal.returns-in-Negate
returns-in-Negate c = rw c.in-Negate.is (low_negate (operands c.before) (omega arith) (omega arith))

pub returns-in-AddHalf : goal.returns-in-AddHalf
returns-in-AddHalf c = rw c.in-AddHalf.is (low_add_half (operands c.before) refl)

pub returns-in-SubtractHalf : goal.returns-in-SubtractHalf
returns-in-SubtractHalf c = rw c.in-SubtractHalf.is (low_subtract_half (operands c.before) (omega arith) (omega arith))

pub returns-in_default : goal.returns-in_default
returns-in_default c = ap (λ (z : ℤ). floor_mod z (2 ^ 16)) (sym (whole c.before)) ∙ low (in_fits (reach c.before) (lit≤ tt) (lit< tt)) c.low_bits.ensures
