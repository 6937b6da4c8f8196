use Prim.Native.Nat.{ℕ, ◌-◌, ◌≤◌}
use native.Mathlib.Omega.{arith}
use lib.ListN.{get_or}
use Rattle.stage.proofs.Logarithm.{log_most}
use Rattle.logs.specs.Lookup.{Lookup}
use Rattle.logs.specs.declared.entries.TheConstants.{LOGARITHMS}
use Rattle.logs.proofs.Rule.{table_is}
use Rattle.logs.proofs.log.Goals as goal

entry : {n : ℕ} → (1 ≤ n) × (n ≤ 4096) → Lookup n (get_or LOGARITHMS (n - 1) 0)
entry {n} h = omega (arith, table_is.each n h.0 h.1, log_most n h.1)

pub returns : goal.returns
returns c = let e = entry c.requires in omega arith
