use Rattle.std.proofs.Common.{◌≡◌, ℤ, pos, ◌+ℤ◌, ◌-ℤ◌, ◌*ℤ◌, neg_ℤ, ap, ◌∙◌, arith, lit<, lit≤, to_z-of_z, w32, SFits, to_z, of_z, rules}
use lib.IntN.{+ℤ_comm}
use Rattle.integers.specs.Parts.{floor_div}
use Rattle.integers.proofs.Linear.{fits_lin, flat, count}
use Rattle.integers.proofs.Ranges.{in_fits, in_sums}
use Rattle.kernel.specs.Pass.{made}
use Rattle.kernel.specs.Window.{ValueIn}
use Rattle.kernel.proofs.pass.Lift.result.Goals as goal
use Rattle.kernel.proofs.pass.Lift.result.Goals.{Start}

record Known (s : Start) : Type 0 where
  negated : s.args.f -ℤ s.args.c ≡ neg_ℤ s.args.c +ℤ s.args.f
  fourfold : SFits w32 (pos 4 *ℤ s.args.c)
  fourfold_sum : SFits w32 (pos 4 *ℤ s.args.c +ℤ s.args.f)
  fourfold_difference : SFits w32 (pos 4 *ℤ s.args.c -ℤ s.args.f)
  rounded_up : SFits w32 (s.args.c -ℤ s.args.f +ℤ pos 3)

known : (s : Start) → Known s
known s = record {
  negated = +ℤ_comm s.args.f (neg_ℤ s.args.c);
  fourfold = fits_lin (simp flat (simp count (omega arith)));
  fourfold_sum = fits_lin (simp flat (simp count (omega arith)));
  fourfold_difference = fits_lin (simp flat (simp count (omega arith)));
  rounded_up = fits_lin (simp flat (simp count (omega arith)));
}

halved : (s : Start) {r : ℤ} → ValueIn 524288 (floor_div (to_z w32 (of_z w32 s.args.f)) 2) r → r ≡ floor_div s.args.f 2
halved s v = v.is ∙ ap (λ (z : ℤ). floor_div z 2) (to_z-of_z {w = w32} (in_fits s.requires.value (lit≤ tt) (lit< tt)))

pub returns-in-Add : goal.returns-in-Add
unfolding made
returns-in-Add c = rw c.in-Add.is (search (rules, in_sums))

pub returns-in-Subtract : goal.returns-in-Subtract
unfolding made
returns-in-Subtract c = rw c.in-Subtract.is (search (rules, in_sums))

pub returns-in-Negate : goal.returns-in-Negate
unfolding made
returns-in-Negate c = let k = known c.before in rw c.in-Negate.is (search (rules, in_sums))

pub returns-in-AddHalf : goal.returns-in-AddHalf
unfolding made
returns-in-AddHalf c =
    let s = c.before.before in
    let e = ap (λ (z : ℤ). s.args.c +ℤ z) (halved s c.half.ensures) in
    rw c.in-AddHalf.is (search (rules, in_sums))

pub returns-in-SubtractHalf : goal.returns-in-SubtractHalf
unfolding made
returns-in-SubtractHalf c =
    let s = c.before.before in
    let e = ap (λ (z : ℤ). s.args.c -ℤ z) (halved s c.half-in-SubtractHalf.ensures) in
    rw c.in-SubtractHalf.is (search (rules, in_sums))

pub returns-in-FourfoldAdd : goal.returns-in-FourfoldAdd
unfolding made
returns-in-FourfoldAdd c = let k = known c.before in rw c.in-FourfoldAdd.is (search (rules, in_sums))

pub returns-in-FourfoldSubtract : goal.returns-in-FourfoldSubtract
unfolding made
returns-in-FourfoldSubtract c = let k = known c.before in rw c.in-FourfoldSubtract.is (search (rules, in_sums))

pub returns-in-QuarterAdd : goal.returns-in-QuarterAdd
unfolding made
returns-in-QuarterAdd c = rw c.in-QuarterAdd.is (search (rules, in_sums))

pub returns-in-QuarterSubtract : goal.returns-in-QuarterSubtract
unfolding made
returns-in-QuarterSubtract c = let k = known c.before in rw c.in-QuarterSubtract.is (search (rules, in_sums))
