-- What the calls promise, `forward` and `inverse` of both forms in all bands, and what is proved of their promises.
use Rattle.std.specs.Prelude.{◌≡◌, ◌↔◌, List, [], ◌∷◌, ◌++◌, ℕ, T, Result, Ok, Err}
use Rattle.stage.specs.declared.Settings.{Settings}
use Rattle.stage.specs.declared.Form.{Form}
use Rattle.stage.specs.declared.Form.TheVariants.{Plain, Wrapped}
use Rattle.stage.specs.declared.Bands.{Bands}
use Rattle.stage.specs.declared.Bands.TheVariants.{One, Of}
use Rattle.stage.specs.declared.Refusal.{Refusal}
use Rattle.stage.specs.declared.Refusal.TheVariants.{Sample, Unreached}
use Rattle.stage.specs.Answers.{Test, ◌else◌, outcome_of}
use Rattle.stage.specs.Settings.{depths_suit, bands_suit, Allowed}
use Rattle.stage.specs.Planes.{Planes}
use Rattle.stage.specs.Ranges.{sample_ranges, form_ranges, InRanges}
use Rattle.stage.specs.Transform.{choices_fit, Fit, lengths, settings_tests, HasSize, Picture, is_picture, forward, inverse}
use Rattle.stage.specs.Demand3.{GoesTo}
use Rattle.stage.specs.NullSteps.{nulls}

-- a call's answer: nothing but that it is done, or a refusal
abbrev pub Answer : Type 0
Answer = Result (Unit {0}) Refusal

-- The promises: lent planes p, the call answers r and leaves q.
abbrev pub ForwardGives : Form → Bands → Settings → List ℕ → Planes → Answer → Planes → Type 0
ForwardGives κ β s φ p r q = outcome_of r q ≡ forward κ β s φ p

abbrev pub InverseGives : Form → Bands → Settings → List ℕ → Planes → Answer → Planes → Type 0
InverseGives κ β s φ p r q = outcome_of r q ≡ inverse κ β s φ p

-- Forward, and back in the wrapped forms, take a picture's planes.
abbrev pub picture_tests : Form → Bands → Settings → List ℕ → Planes → List Test
picture_tests κ β s φ p = settings_tests κ β s (choices_fit β s φ) (lengths p) ++ (is_picture s p else 11) ∷ []

-- Forward and then back, with the same settings: the picture again. And the other way round.
abbrev pub ForwardThenInverse : Type 0
ForwardThenInverse =
    (κ : Form) (β : Bands) (s : Settings) (φ : List ℕ) (p q u : Planes) (r : Answer) → ForwardGives κ β s φ p (Ok tt) q → InverseGives κ β s φ q r u → (r ≡ Ok tt) × (u ≡ p)

abbrev pub InverseThenForward : Type 0
InverseThenForward =
    (κ : Form) (β : Bands) (s : Settings) (φ : List ℕ) (q p u : Planes) (r : Answer) → InverseGives κ β s φ q (Ok tt) p → ForwardGives κ β s φ p r u → (r ≡ Ok tt) × (u ≡ q)

-- 12, and 11 in the wrapped forms (`unreachable`)
abbrev pub unreached : Form → Refusal
unreached Plain = Unreached
unreached Wrapped = Sample

-- Demand 3 of the calls: the inverse, lent planes q of the picture's size, answered r and left u.
pub record CallsDemand3 (κ : Form) (β : Bands) (s : Settings) (φ : List ℕ) (q : Planes) (r : Answer) (u : Planes) : Type 0 where
  -- it accepts q exactly when some picture goes to q
  pub accepts : (r ≡ Ok tt) ↔ ((p : Planes) × GoesTo κ β s φ p q)
  -- it then left that picture, and no other goes to q
  pub picture : r ≡ Ok tt → GoesTo κ β s φ u q
  pub only : r ≡ Ok tt → (p : Planes) → GoesTo κ β s φ p q → p ≡ u
  -- forward on it gives q again
  pub again : r ≡ Ok tt → (a : Answer) (v : Planes) → ForwardGives κ β s φ u a v → (a ≡ Ok tt) × (v ≡ q)
  -- in every other case it answers 12, or 11 where results are wrapped, and the planes still hold q
  pub refuses : (r ≡ Ok tt → ⊥) → (r ≡ Err (unreached κ)) × (u ≡ q)
  -- what it accepts lies within the ranges of finished planes
  pub within : r ≡ Ok tt → InRanges (form_ranges κ s) q

abbrev pub CallsMeetDemand3 : Type 0
CallsMeetDemand3 =
    (κ : Form) (β : Bands) (s : Settings) (φ : List ℕ) → Fit κ β s φ → (q : Planes) → HasSize s q → (r : Answer) (u : Planes)
    → InverseGives κ β s φ q r u → CallsDemand3 κ β s φ q r u

-- 02, request 9, of a wrapped call: lent planes p of the picture's size, it answered r and left q.
pub record NeverWidens (s : Settings) (p : Planes) (r : Answer) (q : Planes) : Type 0 where
  -- 11 exactly for a sample outside 0 to M, and then the planes still hold p
  pub refuses : (r ≡ Err Sample) ↔ (InRanges (sample_ranges s) p → ⊥)
  pub lent : r ≡ Err Sample → q ≡ p
  -- in every other case it is done, and leaves planes of 0 to M again
  pub done : InRanges (sample_ranges s) p → (r ≡ Ok tt) × InRanges (sample_ranges s) q

-- "either way"
abbrev pub CallsNeverWiden : Type 0
CallsNeverWiden =
    (β : Bands) (s : Settings) (φ : List ℕ) → Fit Wrapped β s φ → (p : Planes) → HasSize s p → (r : Answer) (q : Planes)
    → (ForwardGives Wrapped β s φ p r q → NeverWidens s p r q) × (InverseGives Wrapped β s φ p r q → NeverWidens s p r q)

-- 02, request 1: lent a picture with every filter null, both calls leave it as it is.
abbrev pub CallsLeaveNulls : Type 0
CallsLeaveNulls =
    (κ : Form) (β : Bands) (s : Settings) (p : Planes) → Allowed s → T (depths_suit κ s.depths) → T (bands_suit β s.height) → Picture s p
    → (r : Answer) (q : Planes)
    → (ForwardGives κ β s (nulls β s) p r q → (r ≡ Ok tt) × (q ≡ p)) × (InverseGives κ β s (nulls β s) p r q → (r ≡ Ok tt) × (q ≡ p))

-- 02, request 11: "Bands as high as the picture equal the plain transform". Two calls that are lent the same, in bands as high as the picture and
-- without bands, answer and leave the same.
abbrev pub BandsAsHighAsPicture : Type 0
BandsAsHighAsPicture =
    (κ : Form) (s : Settings) (φ : List ℕ) (p : Planes) (r r' : Answer) (q q' : Planes)
    → (ForwardGives κ (Of s.height) s φ p r q → ForwardGives κ One s φ p r' q' → (r ≡ r') × (q ≡ q'))
    × (InverseGives κ (Of s.height) s φ p r q → InverseGives κ One s φ p r' q' → (r ≡ r') × (q ≡ q'))
