-- Demand 3, the proposition to start from: what the inverse accepts, and that a picture comes back sample by sample.
-- It holds of the plain forms and of the wrapped ones "under their own steps, with 11 in place of 12 and 0 to M as every range" (02, request
-- 9), and of both in bands: "A banded picture comes back, and unreachable planes are known, as before" (request 11). κ stands for the form, β
-- for the bands, s for the settings, φ for the choices, q for the planes that the inverse is lent, p and r for pictures.
use Rattle.std.specs.Prelude.{◌≡◌, ◌↔◌, List, ℕ}
use Rattle.stage.specs.Answers.{Outcome, done, refused}
use Rattle.stage.specs.Settings.{Settings, Form, Bands}
use Rattle.stage.specs.Planes.{Planes}
use Rattle.stage.specs.Ranges.{form_ranges, InRanges}
use Rattle.stage.specs.Transform.{Fit, transformed, HasSize, Picture, forward, inverse, unreachable}

-- 01's "goes to": a picture, and the planes that stand once all steps have run on it
pub record GoesTo (κ : Form) (β : Bands) (s : Settings) (φ : List ℕ) (p q : Planes) : Type 0 where
  pub picture : Picture s p
  pub goes : transformed κ β s φ p ≡ q

-- 01's "accepts": not refused. Here with the planes that are then left.
abbrev pub accepted : Planes → Outcome (Unit {0}) Planes
accepted p = record { reply = done tt; memory = p }

-- For planes q of the picture's size: whole numbers without limit, so signed 32-bit numbers too. "Two pictures of one size and
-- depth are the same if all samples are": that is ≡. A picture is one within its own three depths (02, request 7).
pub record Demand3 (κ : Form) (β : Bands) (s : Settings) (φ : List ℕ) (q : Planes) : Type 0 where
  -- the inverse accepts q exactly when some picture goes to q
  pub accepts : ((inverse κ β s φ q).reply ≡ done tt) ↔ ((p : Planes) × GoesTo κ β s φ p q)
  -- it then leaves that picture
  pub leaves : (p : Planes) → GoesTo κ β s φ p q → inverse κ β s φ q ≡ accepted p
  -- no other picture goes to q
  pub only : (p r : Planes) → GoesTo κ β s φ p q → GoesTo κ β s φ r q → r ≡ p
  -- the forward call on it gives q again
  pub again : (p : Planes) → GoesTo κ β s φ p q → forward κ β s φ p ≡ accepted q
  -- in every other case the inverse answers 12, or 11 where results are wrapped, and the planes still hold q
  pub refuses : ((p : Planes) → GoesTo κ β s φ p q → ⊥) → inverse κ β s φ q ≡ record { reply = refused (unreachable κ); memory = q }
  -- each number that a picture goes to lies within the range of its plane
  pub within : (p : Planes) → GoesTo κ β s φ p q → InRanges (form_ranges κ s) q
  -- planes outside their ranges may be answered so without undoing a step
  pub outside : (InRanges (form_ranges κ s) q → ⊥) → inverse κ β s φ q ≡ record { reply = refused (unreachable κ); memory = q }

-- for both forms, every allowed size, all allowed depths, each of the four transforms, all bands, and whichever filter stands at each place
abbrev pub Demand3Holds : Type 0
Demand3Holds = (κ : Form) (β : Bands) (s : Settings) (φ : List ℕ) → Fit κ β s φ → (q : Planes) → HasSize s q → Demand3 κ β s φ q

-- The two calls are each other's inverse: forward accepts p and leaves q exactly when the inverse accepts q and leaves p.
abbrev pub CallsInverse : Type 0
CallsInverse = (κ : Form) (β : Bands) (s : Settings) (φ : List ℕ) (p q : Planes) → (forward κ β s φ p ≡ accepted q) ↔ (inverse κ β s φ q ≡ accepted p)
