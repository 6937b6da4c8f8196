use mathlib.Core.Path.{◌≡◌, ap, ◌∙◌}
use Prim.Native.Nat.{ℕ, ◌-◌}
use native.Mathlib.Omega.{arith}
use Rattle.stage.specs.Steps.{steps, places}
use Rattle.lifting.specs.declared.passes.Pass.{Pass}
use Rattle.lifting.specs.Passes.{pass_at}
use Rattle.lifting.proofs.Table.{told}
use Rattle.lifting.proofs.passes.step_count.Goals as goal
use Rattle.lifting.proofs.passes.step_count.Goals.{After-pass_at}

pub overflow_sub-places : goal.overflow_sub-places
overflow_sub-places c = let a = c.before in omega (arith, c.places.ensures, (told a.args.transform a.requires).some)

pub pass_at-requires : goal.pass_at-requires
pass_at-requires c = let a = c.before in omega (arith, c.places.ensures, (told a.args.transform a.requires).some)

-- the last pass belongs to the last step
last : (c : After-pass_at) → let t = c.before.before.args.transform in c.pass_at.result.step ≡ (pass_at t (places (steps t) - 1)).step
last c =
    let t = c.before.before.args.transform in
    ap (λ (x : Pass). x.step) c.pass_at.ensures ∙ ap (λ (n : ℕ). (pass_at t (n - 1)).step) c.before.places.ensures

pub overflow_add-result : goal.overflow_add-result
overflow_add-result c = let a = c.before.before.before in omega (arith, last c.before, (told a.args.transform a.requires).last, (told a.args.transform a.requires).few)

pub returns : goal.returns
returns c = let a = c.before.before.before in omega (arith, last c.before, (told a.args.transform a.requires).last)
