-- How wide ranges may be so that no sum of their ends wraps.
use Rattle.std.specs.Prelude.{◌≤◌}
use Rattle.stage.specs.declared.Triple.{Triple}
use Rattle.stage.specs.declared.Range.{Range}

-- a range that may be added to another
pub record Summable (r : Range) : Type 0 where
  pub low : r.below ≤ 1073741824
  pub high : r.above ≤ 1073741824

pub record AllSummable (r : Triple Range) : Type 0 where
  pub first : Summable r.c1
  pub second : Summable r.c2
  pub third : Summable r.c3

-- the range of samples of 16 bits or fewer
pub record Small (r : Range) : Type 0 where
  pub low : r.below ≤ 65535
  pub high : r.above ≤ 65535

pub record AllSmall (r : Triple Range) : Type 0 where
  pub first : Small r.c1
  pub second : Small r.c2
  pub third : Small r.c3
