use Rattle.std.proofs.Common.{◌≡◌, ◌^◌, ℤ, sym, ap, ◌∙◌, ap₂, lit<, lit≤, to_z-of_z, w32, to_z, of_z, rules}
use Rattle.integers.specs.Parts.{floor_mod}
use Rattle.integers.proofs.Ranges.{in_fits, to_z_nat}
use Rattle.kernel.specs.Pass.{Lift, Operands, made, applied}
use Rattle.kernel.proofs.LowBits.{depth_bits, small_depth}
use Rattle.kernel.proofs.pass.KeptPass.apply.Goals as goal

-- the operands are numbers of 32 bits
own : {c f : ℤ} → Operands c f → (n : Lift) → made n (to_z w32 (of_z w32 c)) (to_z w32 (of_z w32 f)) ≡ made n c f
own o n = ap₂ (made n) (to_z-of_z {w = w32} (in_fits o.sample (lit≤ tt) (lit< tt))) (to_z-of_z {w = w32} (in_fits o.value (lit≤ tt) (lit< tt)))

pub overflow_cast-result-in-Wrapped : goal.overflow_cast-result-in-Wrapped
overflow_cast-result-in-Wrapped c = small_depth c.args.self.depth c.wrapped_result.result c.requires.pass.depth

pub returns-in-Plain : goal.returns-in-Plain
unfolding applied
returns-in-Plain c =
    let e = c.result.ensures ∙ own c.requires.operands c.args.self.lift in
    rw c.in-Plain.is (search rules)

pub returns-in-Wrapped : goal.returns-in-Wrapped
unfolding applied
returns-in-Wrapped c =
    let a = c.args in
    let e = ap (λ (z : ℤ). floor_mod z (2 ^ 16)) (sym (own c.requires.operands a.self.lift)) ∙ c.wrapped_result.ensures in
    rw c.in-Wrapped.is
    (to_z_nat (small_depth a.self.depth c.wrapped_result.result c.requires.pass.depth) ∙ depth_bits a.self.depth (made a.self.lift a.c a.f) c.requires.pass.depth e)
