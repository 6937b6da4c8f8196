-- A step's rows band by band. b is a band's number from the top, h the picture's height.
use Rattle.std.specs.Prelude.{Bool, List, ℕ, ◌+◌, ◌*◌, ◌<◌, min}
use Rattle.stage.specs.declared.Settings.{Settings}
use Rattle.stage.specs.declared.Form.{Form}
use Rattle.stage.specs.declared.Bands.{Bands}
use Rattle.stage.specs.declared.Bands.TheVariants.{One, Of}
use Rattle.stage.specs.Planes.{Planes}
use Rattle.stage.specs.Steps.{Step, lifted}
use Rattle.stage.specs.Transform.{setup}
use Rattle.lifting.specs.Passes.{step_at, reversed_if}
use Rattle.lifting.specs.Steps.{Ready, RowsChanged, StepsFit}

-- how many rows a band has, the last one perhaps fewer; and how many rows the first b bands have
abbrev pub band_rows : Bands → (h : ℕ) → ℕ
band_rows One h = h
band_rows (Of n) h = n

abbrev pub rows_before : Bands → (h b : ℕ) → ℕ
rows_before β h b = min (b * band_rows β h) h

-- step k in band b, which begins within the picture
pub record BandReady (β : Bands) (s : Settings) (φ : List ℕ) (k b : ℕ) (p : Planes) : Type 0 where
  pub fit : StepsFit β s φ k (k + 1)
  pub begins : b * band_rows β s.height < s.height
  pub planes : Ready s p

-- rows from .. to − 1 as step x makes them of planes p, all else as in p; so with the rows of band b
pub record StepRows (κ : Form) (β : Bands) (s : Settings) (φ : List ℕ) (x : Step) (from to : ℕ) (p q : Planes) : Type 0 where
  pub rows : RowsChanged (lifted (setup κ β s φ) p x) x.plane s from to p q

abbrev pub BandChanged : (κ : Form) (β : Bands) (s : Settings) (φ : List ℕ) (k : ℕ) (back : Bool) (b : ℕ) (p q : Planes) → Type 0
BandChanged κ β s φ k back b p q =
    StepRows κ β s φ (reversed_if back (step_at s.transform k)) (rows_before β s.height b) (rows_before β s.height (b + 1)) p q
