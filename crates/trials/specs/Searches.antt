-- The whole estimate and the whole search, on the picture's own planes.
use Rattle.std.specs.Prelude.{◌≡◌, Bool, true, cond, List, ℕ}
use Rattle.stage.specs.declared.Settings.{Settings}
use Rattle.stage.specs.declared.Form.TheVariants.{Plain}
use Rattle.stage.specs.declared.Bands.TheVariants.{One}
use Rattle.stage.specs.Settings.{Allowed}
use Rattle.stage.specs.Planes.{Planes}
use Rattle.stage.specs.Steps.{steps, places}
use Rattle.stage.specs.Ranges.{widest}
use Rattle.stage.specs.Transform.{Picture, transformed}
use Rattle.stage.specs.Search.{searched, choices_estimate}
use Rattle.estimate.specs.Counting.{Counters}

-- a picture in planes p, and counters l: enough, all zero
pub record PictureReady (s : Settings) (p : Planes) (l : List ℕ) : Type 0 where
  pub allowed : Allowed s
  pub picture : Picture s p
  pub counters : Counters (widest s) l

-- the estimate r of choices φ was found; planes q are as planes p were, or p transformed; counters m are as counters l were
pub record EstimateFound (s : Settings) (undone : Bool) (p : Planes) (l φ : List ℕ) (r : ℕ) (q : Planes) (m : List ℕ) : Type 0 where
  pub estimate : r ≡ choices_estimate s p φ
  pub planes : q ≡ cond undone p (transformed Plain One s φ p)
  pub counters : m ≡ l

-- n rounds of the search found choices φ with the estimate r
pub record SearchFound (s : Settings) (n : ℕ) (p : Planes) (l : List ℕ) (r : ℕ) (φ : List ℕ) (q : Planes) (m : List ℕ) : Type 0 where
  pub choices : φ ≡ searched (choices_estimate s p) (places (steps s.transform)) n
  pub found : EstimateFound s true p l φ r q m
