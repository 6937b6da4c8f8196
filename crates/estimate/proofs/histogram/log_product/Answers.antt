use mathlib.Core.Path.{◌≡◌}
use native.Mathlib.Omega.{arith}
use Prim.Native.Nat.{ℕ, zero, suc, ◌+◌, ◌*◌, ◌%◌, ◌≤◌}
use Rattle.stage.specs.Logarithm.{L}
use Rattle.estimate.proofs.histogram.log_product.Goals as goal

product : (c x : ℕ) → c ≤ 4096 → x ≡ L ((c + 4095) % 4096 + 1) → c * x ≡ c * L c
product zero x h e = omega arith
product (suc c) x h e =
    let i : (suc c + 4095) % 4096 + 1 ≡ suc c = omega arith in
    rw (e, i)

pub returns : goal.returns
returns c = product c.args.c c.log.result c.requires c.log.ensures.value
