use borrow.Author.Rules.{rules}
use mathlib.Core.Path.{ap₂}
use Prim.Native.Nat.{◌*◌, ◌≤◌}
use native.Mathlib.Nat.{mul-le-mul}
use native.Mathlib.Omega.{arith}
use Rattle.transform.proofs.Refusals.{places_few}
use Rattle.transform.proofs.settings.choice_count.Goals as goal

pub overflow_mul-result : goal.overflow_mul-result
overflow_mul-result c =
    let p = c in
    let few = places_few p.args.settings.transform in
    let m : p.places-n.result * c.band_count.result ≤ 4 * 8589934592 = mul-le-mul {n₂ = 4} {m₂ = 8589934592} (omega (arith, p.places-n.ensures)) (omega (arith, c.band_count.ensures.1)) in
    search rules

pub returns-in-Of : goal.returns-in-Of
returns-in-Of c = rw c.in-Of.is (ap₂ ◌*◌ c.places-n.ensures c.band_count.ensures.0)
