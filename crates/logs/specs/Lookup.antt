-- What `log` answers for n: L n, and the bound that a product with it needs; and that its table is 01's fixed table.
use Rattle.std.specs.Prelude.{◌≡◌, ℕ, ◌≤◌}
use Rattle.stage.specs.Logarithm.{L, Logarithms}
use Rattle.logs.specs.declared.entries.TheConstants.{LOGARITHMS}

pub record Lookup (n r : ℕ) : Type 0 where
  pub value : r ≡ L n
  pub bound : r ≤ 768

abbrev pub TableOfLogarithms : Type 0
TableOfLogarithms = Logarithms LOGARITHMS
