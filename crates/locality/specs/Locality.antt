-- 02, request 10, "no bricks in the rock": what is proved of how far steps reach. It holds for every setup: filters that change from sample to
-- sample, steps that are skipped, results that are wrapped. Letters as in Reach.antt and Parts.antt; t is a transform's number, d a distance.
use Rattle.std.specs.Prelude.{◌≡◌, List, [], ◌∷◌, map, ℕ, suc, ◌-◌, ◌≤◌, ◌<◌, take, drop}
use Rattle.integers.specs.Lists.{at}
use Rattle.stage.specs.declared.Plane.{Plane}
use Rattle.stage.specs.declared.Settings.{Settings}
use Rattle.stage.specs.declared.Form.{Form}
use Rattle.stage.specs.declared.Bands.TheVariants.{One}
use Rattle.stage.specs.Answers.{Outcome, done}
use Rattle.stage.specs.Settings.{each, settings_of}
use Rattle.stage.specs.declared.Triple.{Triple}
use Rattle.stage.specs.Planes.{Planes, triple, get}
use Rattle.stage.specs.Steps.{Setup, Step, run, steps, transforms}
use Rattle.stage.specs.Transform.{forward, inverse}
use Rattle.locality.specs.Reach.{RadiiUpTo, radius_one, reaches, undone_reaches, Way, there, back, along, reach_along, none, furthest, distance}
use Rattle.locality.specs.Parts.{pixel_index, SamePixel, Sized, Corner, index, Fits, SpotMargin, SameSetup, SamePart, cut_setup, cut_out, Near, AgreeNear, AgreeElsewhere}

-- ---- The one law, from which all others follow
-- Two pictures share a part, which is the same in both where the margins are r. After any steps, run or undone, it is the same where they are as wide
-- as these steps reach.
abbrev pub SharedPart : Type 0
SharedPart =
    (way : Way) (ρ : ℕ → ℕ) (u v : ℕ) (σ τ : Setup) (a b : Corner) → RadiiUpTo ρ σ → SameSetup u v σ τ a b
    → (l : List Step) (r : Triple ℕ) (p q : Planes) → Sized σ p → Sized τ q
    → SamePart u v σ τ a b r p q → SamePart u v σ τ a b (reach_along way ρ l r) (along way σ l p) (along way τ l q)

-- ---- A picture cut out of a picture
-- Steps on the cut-out alone give a plane the number that they give it in the whole picture, at every spot at least the plane's reach away from
-- each cut: for any list of steps, so for those from one step on too.
abbrev pub CutOutSame : Type 0
CutOutSame =
    (way : Way) (ρ : ℕ → ℕ) (σ : Setup) → RadiiUpTo ρ σ → (a : Corner) (u v : ℕ) → Fits u v σ a → (l : List Step) (p : Planes) → Sized σ p
    → (c : Plane) (x y : ℕ) → SpotMargin u v σ a (get (reach_along way ρ l none) c) x y
    → at (get (along way (cut_setup σ a u v) l (cut_out σ a u v p)) c) (pixel_index u x y) ≡ at (get (along way σ l p) c) (index σ a x y)

-- The first n steps on the whole picture, the others on a cut-out of what they leave.
abbrev pub CutOutFromStep : Type 0
CutOutFromStep =
    (ρ : ℕ → ℕ) (σ : Setup) → RadiiUpTo ρ σ → (a : Corner) (u v : ℕ) → Fits u v σ a → (l : List Step) (n : ℕ) (p : Planes) → Sized σ p
    → (c : Plane) (x y : ℕ) → SpotMargin u v σ a (get (reaches ρ (drop n l) none) c) x y
    → at (get (run (cut_setup σ a u v) (drop n l) (cut_out σ a u v (run σ (take n l) p))) c) (pixel_index u x y) ≡ at (get (run σ l p) c) (index σ a x y)

-- All steps of a transform, in all three planes.
abbrev pub TransformCutOut : Type 0
TransformCutOut =
    (way : Way) (t : ℕ) (σ : Setup) (a : Corner) (u v : ℕ) → Fits u v σ a → (p : Planes) → Sized σ p
    → (x y : ℕ) → SpotMargin u v σ a (distance way t) x y
    → SamePixel (along way (cut_setup σ a u v) (steps t) (cut_out σ a u v p)) (along way σ (steps t) p) (pixel_index u x y) (index σ a x y)

-- ---- Two pictures that agree near a spot
-- Each plane by its own reach.
abbrev pub PlanesLocal : Type 0
PlanesLocal =
    (way : Way) (ρ : ℕ → ℕ) (σ : Setup) → RadiiUpTo ρ σ → (l : List Step) (p q : Planes) → Sized σ p → Sized σ q
    → (x y : ℕ) → x < σ.width → y < σ.height → (c : Plane) → AgreeNear σ.width σ.height (get (reach_along way ρ l none) c) x y p q
    → at (get (along way σ l p) c) (pixel_index σ.width x y) ≡ at (get (along way σ l q) c) (pixel_index σ.width x y)

-- "If two pictures agree at every pixel within d rows and d columns of a spot, their transformed numbers at that spot agree." So do the samples
-- that finished planes come back to.
abbrev pub TransformLocal : Type 0
TransformLocal =
    (way : Way) (t : ℕ) (σ : Setup) (p q : Planes) → Sized σ p → Sized σ q → (x y : ℕ) → x < σ.width → y < σ.height
    → AgreeNear σ.width σ.height (distance way t) x y p q
    → SamePixel (along way σ (steps t) p) (along way σ (steps t) q) (pixel_index σ.width x y) (pixel_index σ.width x y)

-- One damaged pixel, at column x and row y, spoils only its neighbourhood.
abbrev pub DamageStays : Type 0
DamageStays =
    (way : Way) (t : ℕ) (σ : Setup) (p q : Planes) → Sized σ p → Sized σ q → (x y : ℕ) → AgreeElsewhere σ.width σ.height x y p q
    → (x' y' : ℕ) → x' < σ.width → y' < σ.height → (Near (distance way t) x y x' y' → ⊥)
    → SamePixel (along way σ (steps t) p) (along way σ (steps t) q) (pixel_index σ.width x' y') (pixel_index σ.width x' y')

-- ---- The distances, computed from the steps
pub record ReachTable : Type 0 where
  -- by plane
  pub planes_there : map (λ l. reaches radius_one l none) transforms ≡ triple 1 2 1 ∷ triple 1 3 4 ∷ triple 0 1 1 ∷ triple 2 1 3 ∷ []
  pub planes_back : map (λ l. undone_reaches radius_one l none) transforms ≡ triple 2 1 2 ∷ triple 2 2 1 ∷ triple 0 1 2 ∷ triple 1 2 1 ∷ []
  -- of all planes: the paper's
  pub all : (way : Way) (t : ℕ) → distance way t ≡ furthest (reach_along way radius_one (steps t) none)
  -- from each step on
  pub from_step : map (λ l. map (λ n. furthest (reaches radius_one (drop n l) none)) (0 ∷ 1 ∷ 2 ∷ 3 ∷ [])) transforms
      ≡ (2 ∷ 2 ∷ 1 ∷ 0 ∷ []) ∷ (4 ∷ 3 ∷ 2 ∷ 1 ∷ []) ∷ (1 ∷ 1 ∷ 0 ∷ 0 ∷ []) ∷ (3 ∷ 2 ∷ 1 ∷ 0 ∷ []) ∷ []
  -- with filters 0 and 12 alone no plane reaches a neighbour
  pub pointwise : map (λ l. reaches (λ k. 0) l none) transforms ≡ none ∷ none ∷ none ∷ none ∷ []

-- ---- No distance is too large
-- the call that goes this way, without bands
abbrev pub call : Way → Form → Settings → List ℕ → Planes → Outcome (Unit {0}) Planes
call there κ = forward κ One
call back κ = inverse κ One

-- It reaches further than d from the first pixel: there are choices and two pictures, or finished planes, which it accepts, that agree within d of that
-- pixel, and it leaves two numbers there.
pub record ReachesFurther (way : Way) (κ : Form) (s : Settings) (d : ℕ) : Type 0 where
  pub choices : List ℕ
  pub first : Planes
  pub second : Planes
  pub plane : Plane
  pub accepts_first : (call way κ s choices first).reply ≡ done tt
  pub accepts_second : (call way κ s choices second).reply ≡ done tt
  pub agree : AgreeNear s.width s.height d 0 0 first second
  pub differ : at (get (call way κ s choices first).memory plane) 0 ≡ at (get (call way κ s choices second).memory plane) 0 → ⊥

-- So it is with one less than each distance, in a row and in a column.
abbrev pub NoLess : Type 0
NoLess =
    (way : Way) (κ : Form) (t : ℕ) → t ≤ 3
    → ReachesFurther way κ (settings_of (suc (distance way t)) 1 (each 16) t) (distance way t - 1)
    × ReachesFurther way κ (settings_of 1 (suc (distance way t)) (each 16) t) (distance way t - 1)
