-- What the functions over samples ask and promise.
use Rattle.std.specs.Prelude.{◌≡◌, true, List, [], ◌∷◌, ℕ, ◌+◌, ◌*◌, ◌≤◌, ◌<◌, max, ℤ, pos, ◌-ℤ◌, length, get_or}
use Rattle.integers.specs.Lists.{at}
use Rattle.stage.specs.declared.Range.{Range}
use Rattle.stage.specs.Ranges.{extent, Within, within_range}

-- the largest sample, and 0 where there is none
unfoldable pub highest : List ℕ → ℕ
highest [] = 0
highest (n ∷ l) = max n (highest l)

-- a plane for every `step`-th of some samples, from `offset` on
pub record Fills (samples : List ℕ) (step offset below : ℕ) (plane : List ℤ) : Type 0 where
  pub enough : step * length plane ≤ length samples
  pub within : offset < step
  pub small : below ≤ 1073741824

pub record Filled (samples : List ℕ) (step offset below : ℕ) (before after : List ℤ) : Type 0 where
  pub long : length after ≡ length before
  pub each : (k : ℕ) → k < length before → at after k ≡ pos (get_or samples (step * k + offset) 0) -ℤ pos below

-- a number of a range whose highest less its lowest fits two bytes
pub record Raisable (r : Range) (z : ℤ) : Type 0 where
  pub within : Within r z
  pub narrow : extent r ≤ 65535

-- numbers of a range whose highest less its lowest is at most `most`, and room for their bytes
pub record Writable (most : ℕ) (text : List ℕ) (at : ℕ) (bytes : List ℕ) (r : Range) (samples : List ℤ) : Type 0 where
  pub room : at + length bytes ≤ length text
  pub narrow : extent r ≤ most
  pub within : within_range r samples ≡ true
