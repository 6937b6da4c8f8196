use borrow.Author.Rules.{rules}
use mathlib.Core.Path.{ap, ◌∙◌}
use Prim.Native.Nat.{ℕ, ◌*◌, ◌≤◌, min}
use native.Mathlib.Nat.{mul-le-mul}
use native.Mathlib.Omega.{arith}
use Rattle.lifting.proofs.steps.rows_before.Goals as goal

pub overflow_mul-band : goal.overflow_mul-band
overflow_mul-band c =
    let a = c.before.args in
    let m : a.band * c.band_rows.result ≤ 4294967295 * 4294967295 = mul-le-mul {n₂ = 4294967295} {m₂ = 4294967295} (omega (arith, c.before.requires)) (omega (arith, c.band_rows.ensures.1)) in
    search rules

pub returns : goal.returns
returns c = let a = c.before.before.args in c.min.ensures ∙ ap (λ (n : ℕ). min (a.band * n) a.height) c.before.band_rows.ensures.0
