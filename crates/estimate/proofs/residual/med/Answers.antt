use mathlib.Core.Path.{◌≡◌, ◌∙◌}
use native.Mathlib.Omega.{arith}
use lib.IntN.{ℤ, ◌+ℤ◌, ◌-ℤ◌}
use lib.Signed.{lt_z}
use mir.Syntax.{w32}
use mir.Val.{SFits}
use mir.Facts.{to_z-of_z}
use borrow.Table.Steps.{cases}
use Rattle.std.specs.Int.{int_min, int_max}
use Rattle.integers.proofs.Order.{le_z_not_lt_z}
use Rattle.integers.proofs.Linear.{fits_lin, flat, count}
use Rattle.stage.specs.Estimate.{med}
use Rattle.stage.proofs.Prediction.{lesser, greater, med_median}
use Rattle.estimate.proofs.residual.med.Goals as goal

min_is : (x y : ℤ) → int_min x y ≡ lesser x y
min_is x y = rw (le_z_not_lt_z x y) (cases (lt_z y x) (λ e. rw e) (λ e. rw e))

max_is : (x y : ℤ) → int_max x y ≡ greater x y
max_is x y = rw (le_z_not_lt_z x y) (cases (lt_z y x) (λ e. rw e) (λ e. rw e))

med_is : (a e c : ℤ) {low high middle r : ℤ} → low ≡ int_min a e → high ≡ int_max a e → middle ≡ int_min high (a +ℤ e -ℤ c) → r ≡ int_max low middle → r ≡ med a e c
med_is a e c {low} {high} {middle} p q u v = rw (v, max_is low middle, u, min_is high (a +ℤ e -ℤ c), p, q, min_is a e, max_is a e) (med_median a e c)

pub returns : goal.returns
returns c =
    let f = c.ranges in
    let s : SFits w32 (c.args.a +ℤ c.args.e) = fits_lin (simp flat (simp count (omega arith))) in
    let t : SFits w32 (c.args.a +ℤ c.args.e -ℤ c.args.c) = fits_lin (simp flat (simp count (omega arith))) in
    let low : SFits w32 c.min.result = record { sfits = c.min.type_inv } in
    let high : SFits w32 c.max.result = record { sfits = c.max.type_inv } in
    let middle : SFits w32 c.min-2.result = record { sfits = c.min-2.type_inv } in
    let last : SFits w32 c.max-2.result = record { sfits = c.max-2.type_inv } in
    to_z-of_z last ∙ med_is c.args.a c.args.e c.args.c
    (simp (to_z-of_z, f.a, f.e) at c.min.ensures.value)
    (simp (to_z-of_z, f.a, f.e) at c.max.ensures.value)
    (simp (to_z-of_z, f.a, f.e, f.c, s, t, high) at c.min-2.ensures.value)
    (simp (to_z-of_z, low, middle) at c.max-2.ensures.value)
