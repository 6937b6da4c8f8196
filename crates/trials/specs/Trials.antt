-- A trial repeats only the steps from its place's step on, and estimates only the planes that those change.
use Rattle.std.specs.Prelude.{◌≡◌, Bool, true, cond, not, List, ℕ, ◌+◌, ◌≤◌, ◌<◌, T, ltb, length, drop, set}
use Rattle.stage.specs.declared.Settings.{Settings}
use Rattle.stage.specs.declared.Form.TheVariants.{Plain}
use Rattle.stage.specs.declared.Bands.TheVariants.{One}
use Rattle.stage.specs.declared.Triple.{Triple}
use Rattle.stage.specs.declared.Plane.{Plane}
use Rattle.stage.specs.declared.Plane.TheVariants.{C1, C2, C3}
use Rattle.stage.specs.Settings.{Allowed}
use Rattle.stage.specs.Planes.{Planes, triple, get, SameReferences}
use Rattle.stage.specs.Steps.{Step, steps, places, run}
use Rattle.stage.specs.Ranges.{widest}
use Rattle.stage.specs.Transform.{choices_fit, setup}
use Rattle.stage.specs.Estimate.{plane_estimate, picture_estimate}
use Rattle.stage.specs.Search.{winner, round, choices_estimate}
use Rattle.estimate.specs.Counting.{Countable, Counters}
use Rattle.lifting.specs.Passes.{step_of, changes}
use Rattle.lifting.specs.Steps.{AtStep}
use Rattle.trials.specs.declared.trial.Trial.{Trial}
use Rattle.trials.specs.declared.place.Best.{Best}
use Rattle.trials.specs.declared.place.Place.{Place}

-- which planes the steps change, and all planes but these
abbrev pub changed : List Step → Triple Bool
changed l = triple (changes l C1) (changes l C2) (changes l C3)

abbrev pub others : Triple Bool → Triple Bool
others b = triple (not b.c1) (not b.c2) (not b.c3)

-- the sum of the estimates of some of the planes
unfoldable pub part_estimate : ℕ → Triple Bool → Planes → ℕ
part_estimate w b p =
    cond b.c1 (plane_estimate w p.c1) 0 + cond b.c2 (plane_estimate w p.c2) 0 + cond b.c3 (plane_estimate w p.c3) 0

-- those that the steps from k on do not change
abbrev pub base_estimate : Settings → ℕ → Planes → ℕ
base_estimate s k q = part_estimate s.width (others (changed (drop k (steps s.transform)))) q

-- the estimate of choices φ, from planes q that stand before step k
unfoldable pub trial_estimate : Settings → ℕ → Planes → List ℕ → ℕ
trial_estimate s k q φ = picture_estimate s.width (run (setup Plain One s φ) (drop k (steps s.transform)) q)

-- ---- what is asked and answered
-- planes q that stand before step k, with counters l
pub record TrialReady (s : Settings) (k : ℕ) (q : Planes) (l : List ℕ) : Type 0 where
  pub allowed : Allowed s
  pub step : k ≤ length (steps s.transform)
  pub planes : AtStep s k q
  pub counters : Counters (widest s) l

-- three planes p that can be counted
pub record PartReady (s : Settings) (p : Planes) (l : List ℕ) : Type 0 where
  pub allowed : Allowed s
  pub planes : (c : Plane) → Countable s.width (widest s) (get p c)
  pub counters : Counters (widest s) l

-- the sum of some planes' estimates is answered; the bound lets two such sums be added
pub record PartAnswer (e r : ℕ) : Type 0 where
  pub value : r ≡ e
  pub bound : r ≤ 9437184

-- and the counters are zero again
pub record PartFound (s : Settings) (b : Triple Bool) (p : Planes) (r : ℕ) (l : List ℕ) : Type 0 where
  pub answer : PartAnswer (part_estimate s.width b p) r
  pub counters : Counters (widest s) l

-- a trial of choices φ; b is the estimate of the planes that no step from k on changes
pub record ChoicesReady (s : Settings) (k b : ℕ) (q : Planes) (φ l : List ℕ) : Type 0 where
  pub trial : TrialReady s k q l
  pub choices : T (choices_fit One s φ)
  pub base : PartAnswer (base_estimate s k q) b

-- its estimate is answered; planes p are as they were if the steps from k on were undone, else with these run; the counters are zero again
pub record TrialFound (s : Settings) (k : ℕ) (undone : Bool) (q : Planes) (φ : List ℕ) (r : ℕ) (p : Planes) (l : List ℕ) : Type 0 where
  pub estimate : r ≡ trial_estimate s k q φ
  pub planes : p ≡ cond undone q (run (setup Plain One s φ) (drop k (steps s.transform)) q)
  pub counters : Counters (widest s) l

-- ---- places
-- What is known of a place before its filters are tried: the planes stand before its step; the base is the estimate of the planes
-- that its step and the later ones do not change; the present filter's estimate.
pub record PlaceReady (s : Settings) (q : Planes) (φ : List ℕ) (x : Place) : Type 0 where
  pub choices : T (choices_fit One s φ)
  pub place : x.place < length φ
  pub base : PartAnswer (base_estimate s x.step q) x.base
  pub present : x.present.estimate ≡ trial_estimate s x.step q (set φ x.place x.present.filter)

-- filter f is to be tried, and was tried
pub record FilterReady (s : Settings) (x : Place) (f : ℕ) (q : Planes) (φ l : List ℕ) : Type 0 where
  pub trial : TrialReady s x.step q l
  pub place : PlaceReady s q φ x
  pub filter : f ≤ 12

pub record FilterTried (s : Settings) (x : Place) (f : ℕ) (q : Planes) (φ : List ℕ) (r : ℕ) (p : Planes) (ψ l : List ℕ) : Type 0 where
  pub choices : ψ ≡ set φ x.place f
  pub found : TrialFound s x.step true q (set φ x.place f) r p l

-- a filter f with estimate e takes the lead only if e is lower
abbrev pub leads : Best → ℕ → ℕ → Best
leads b f e = cond (ltb e b.estimate) (record { filter = f; estimate = e }) b

-- b is the winner of filters 0 to n − 1 at place k, with its estimate
pub record Leads (e : List ℕ → ℕ) (φ : List ℕ) (k n : ℕ) (b : Best) : Type 0 where
  pub filter : b.filter ≡ winner e φ k n
  pub estimate : b.estimate ≡ e (set φ k b.filter)

-- the choices have the estimate x, and place k is one of theirs
pub record ChooseReady (s : Settings) (k x : ℕ) (q : Planes) (φ l : List ℕ) : Type 0 where
  pub trial : TrialReady s (step_of (steps s.transform) k) q l
  pub choices : T (choices_fit One s φ)
  pub place : k < places (steps s.transform)
  pub estimate : x ≡ trial_estimate s (step_of (steps s.transform) k) q φ

-- the winner at place k was chosen, with planes that stand before its step j
pub record Chosen (s : Settings) (j k : ℕ) (q : Planes) (φ : List ℕ) (r : ℕ) (p : Planes) (ψ l : List ℕ) : Type 0 where
  pub choices : ψ ≡ set φ k (winner (trial_estimate s j q) φ k 13)
  pub found : TrialFound s j true q ψ r p l

-- ---- rounds: choices φ that fit, with their estimate x
pub record RoundReady (s : Settings) (x : ℕ) (q : Planes) (φ l : List ℕ) : Type 0 where
  pub trial : TrialReady s 0 q l
  pub choices : T (choices_fit One s φ)
  pub estimate : x ≡ choices_estimate s q φ

-- what a round, or n rounds, leave: ψ is what the search's definition gives
pub record RoundsDone (s : Settings) (q : Planes) (χ : List ℕ) (r : ℕ) (p : Planes) (ψ l : List ℕ) : Type 0 where
  pub choices : ψ ≡ χ
  pub fit : T (choices_fit One s ψ)
  pub estimate : r ≡ choices_estimate s q ψ
  pub planes : p ≡ q
  pub counters : Counters (widest s) l

abbrev pub RoundDone : Settings → Planes → List ℕ → ℕ → Planes → List ℕ → List ℕ → Type 0
RoundDone s q φ r p ψ l = RoundsDone s q (round (choices_estimate s q) (places (steps s.transform)) φ) r p ψ l

-- a trial's settings are the same, and what is lent to it is lent still
pub record SameTrial (t u : Trial) : Type 0 where
  pub settings : u.settings ≡ t.settings
  pub planes : u.planes.ghost_name ≡ t.planes.ghost_name
  pub each : SameReferences t.planes.now u.planes.now
  pub counters : u.counters.ghost_name ≡ t.counters.ghost_name
  pub long : length u.counters.now ≡ length t.counters.now
