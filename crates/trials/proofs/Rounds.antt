-- A round a place at a time: the planes stand before the place's step, run with the choices as they are.
use mathlib.Core.Path.{◌≡◌, refl, sym, ap, ap₂, ◌∙◌}
use mathlib.Core.Bool.{Bool, true, false, cond}
use mathlib.Core.List.{List}
use Prim.Native.Nat.{ℕ, zero, suc, ◌+◌, ◌≤◌, ◌<◌}
use native.Mathlib.Omega.{arith}
use native.Mathlib.Numerals.{add-one}
use lib.Dec.{T, ltb}
use lib.ListN.{length, get_or, drop, set, replicate}
use lib.Seq.{ext_get_or}
use Rattle.integers.specs.Slices.{slice}
use Rattle.integers.proofs.Slices.{slice_front}
use Rattle.stage.specs.declared.Settings.{Settings}
use Rattle.stage.specs.declared.Form.TheVariants.{Plain}
use Rattle.stage.specs.declared.Bands.TheVariants.{One}
use Rattle.stage.specs.Planes.{Planes}
use Rattle.stage.specs.Steps.{Step, steps, places, run}
use Rattle.stage.specs.Ranges.{widest}
use Rattle.stage.specs.Transform.{setup, choices_fit, transformed}
use Rattle.stage.specs.Estimate.{picture_estimate}
use Rattle.stage.specs.Search.{winner, round, rounds, searched, choices_estimate}
use Rattle.stage.proofs.Choices.{choices, choices_set}
use Rattle.stage.proofs.StepLists.{run_split, run_rest}
use Rattle.estimate.specs.Counting.{Counters}
use Rattle.lifting.specs.Passes.{step_of}
use Rattle.lifting.proofs.Table.{step_order, step_inside}
use Rattle.trials.specs.Trials.{trial_estimate, Chosen, RoundDone, RoundsDone}
use Rattle.trials.proofs.TrialSteps.{run_before}

-- the winner depends on the estimates of the choices tried, and on no others
winner_same : (d e : List ℕ → ℕ) (φ : List ℕ) (k : ℕ) → ((f : ℕ) → d (set φ k f) ≡ e (set φ k f)) → (n : ℕ) → winner d φ k n ≡ winner e φ k n
unfolding winner
winner_same d e φ k h zero = refl
winner_same d e φ k h (suc n) = rw (winner_same d e φ k h n, h n, h (winner e φ k n))

-- a filter wins
winner_filter : (e : List ℕ → ℕ) (φ : List ℕ) (k n : ℕ) → get_or φ k 0 ≤ 12 → n ≤ 13 → winner e φ k n ≤ 12
unfolding winner
winner_filter e φ k zero h m = h
winner_filter e φ k (suc n) h m = pick (ltb (e (set φ k n)) (e (set φ k (winner e φ k n)))) (winner_filter e φ k n h (omega arith))
  where
    pick : (b : Bool) → winner e φ k n ≤ 12 → cond b n (winner e φ k n) ≤ 12
    pick true i = omega arith
    pick false i = i

-- counters that are zero before and after are the same
pub zero_same : {d e : ℕ} {l m : List ℕ} → Counters d l → Counters e m → length m ≡ length l → m ≡ l
zero_same {d} {e} {l} {m} x y h = ext_get_or 0 m l h (λ i _. y.zero.each i ∙ sym (x.zero.each i))

module _ (s : Settings) (p : Planes) where
  abbrev l : List Step
  l = steps s.transform

  abbrev estimates : List ℕ → ℕ
  estimates = choices_estimate s p

  -- the planes before step j
  abbrev pub before : List ℕ → ℕ → Planes
  before φ j = run (setup Plain One s φ) (slice l 0 j) p

  pub before_next : (φ : List ℕ) (i j : ℕ) (q r : Planes) → i ≤ j → q ≡ before φ i → r ≡ run (setup Plain One s φ) (slice l i j) q → r ≡ before φ j
  before_next φ i j q r h e f = f ∙ ap (run (setup Plain One s φ) (slice l i j)) e ∙ sym (run_split (setup Plain One s φ) l 0 i j p (omega arith) h)

  -- the estimate of the choices that the planes were run with
  pub rest_estimate : (φ : List ℕ) (j : ℕ) (q : Planes) → q ≡ before φ j → trial_estimate s j q φ ≡ estimates φ
  unfolding trial_estimate choices_estimate transformed
  rest_estimate φ j q e =
      let σ = setup Plain One s φ in
      ap (picture_estimate s.width) (ap (run σ (drop j l)) (e ∙ ap (λ (m : List Step). run σ m p) (slice_front l j)) ∙ run_rest σ j l p)

  -- another filter at the place of step j
  before_same : (φ : List ℕ) (k f j : ℕ) → j ≡ step_of l k → before (set φ k f) j ≡ before φ j
  before_same φ k f j e = rw (slice_front l j, e) (run_before s φ k f l p)

  place_estimate : (φ : List ℕ) (k f j : ℕ) (q : Planes) → j ≡ step_of l k → q ≡ before φ j → trial_estimate s j q (set φ k f) ≡ estimates (set φ k f)
  place_estimate φ k f j q e g = rest_estimate (set φ k f) j q (g ∙ sym (before_same φ k f j e))

  -- between the places of a round: the first k are done, the planes stand before step i, x is the choices' estimate
  pub record AtPlace (k i : ℕ) (q : Planes) (φ ψ : List ℕ) (x : ℕ) (m : List ℕ) : Type 0 where
    pub choices : ψ ≡ round estimates k φ
    pub planes : q ≡ before ψ i
    pub estimate : x ≡ estimates ψ
    pub fit : T (choices_fit One s ψ)
    pub order : k < places l → i ≤ step_of l k
    pub inside : i ≤ length l
    pub counters : Counters (widest s) m

  pub first_place : (φ : List ℕ) (x : ℕ) (m : List ℕ) → T (choices_fit One s φ) → x ≡ estimates φ → Counters (widest s) m → AtPlace 0 0 p φ φ x m
  unfolding round
  first_place φ x m f e z = record { choices = refl; planes = refl; estimate = e; fit = f; order = λ b. omega arith; inside = omega arith; counters = z }

  -- the place's winner is chosen, with planes r that stand before its step j
  pub next_place : {k i j : ℕ} {q r r' : Planes} {φ ψ χ : List ℕ} {x y : ℕ} {m n : List ℕ} → AtPlace k i q φ ψ x m → k < places l → j ≡ step_of l k → r ≡ before ψ j
      → Chosen s j k r ψ y r' χ n → AtPlace (k + 1) j r' φ χ y n
  unfolding round
  next_place {k} {i} {j} {q} {r} {r'} {φ} {ψ} {χ} a b e f d =
      let w = winner estimates ψ k 13 in
      let c : χ ≡ set ψ k w = d.choices ∙ ap (set ψ k) (winner_same (trial_estimate s j r) estimates ψ k (λ g. place_estimate ψ k g j r e f) 13) in
      record {
        choices = rw (add-one k) (c ∙ ap (λ (m : List ℕ). set m k (winner estimates m k 13)) a.choices);
        planes = d.found.planes ∙ f ∙ sym (ap (λ (m : List ℕ). before m j) c ∙ before_same ψ k w j e);
        estimate = d.found.estimate ∙ ap (trial_estimate s j r) c ∙ place_estimate ψ k w j r e f ∙ ap estimates (sym c);
        fit = rw c (choices_set One s ψ a.fit k w (winner_filter estimates ψ k 13 ((choices One s ψ a.fit).filters k) (omega arith)));
        order = λ h. rw e (step_order s.transform k h);
        inside = rw e (step_inside l k);
        counters = d.found.counters;
      }

  -- between the rounds: k are done, the planes hold the picture
  abbrev pub AfterRounds : ℕ → List ℕ → ℕ → Planes → List ℕ → List ℕ → Type 0
  AfterRounds k φ x q ψ m = RoundsDone s p (rounds estimates (places l) k φ) x q ψ m

  pub first_round : (φ : List ℕ) (x : ℕ) (m : List ℕ) → T (choices_fit One s φ) → x ≡ estimates φ → Counters (widest s) m → AfterRounds 0 φ x p φ m
  unfolding rounds
  first_round φ x m f e z = record { choices = refl; fit = f; estimate = e; planes = refl; counters = z }

  pub next_round : (k : ℕ) (φ : List ℕ) {q r : Planes} {ψ χ : List ℕ} {x y : ℕ} {m n : List ℕ} → AfterRounds k φ x q ψ m → RoundDone s q ψ y r χ n → AfterRounds (k + 1) φ y r χ n
  unfolding rounds
  next_round k φ {q} {r} {ψ} {χ} a d = record {
    choices = rw (add-one k) (d.choices ∙ ap₂ (λ (z : Planes) (m : List ℕ). round (choices_estimate s z) (places l) m) a.planes a.choices);
    fit = d.fit;
    estimate = d.estimate ∙ ap (λ (z : Planes). choices_estimate s z χ) a.planes;
    planes = d.planes ∙ a.planes;
    counters = d.counters;
  }

-- a trial of all steps
pub trial_first : (s : Settings) (p : Planes) (φ : List ℕ) → trial_estimate s 0 p φ ≡ choices_estimate s p φ
unfolding trial_estimate choices_estimate transformed
trial_first s p φ = refl

pub all_steps : (s : Settings) (u : Bool) (p : Planes) (φ : List ℕ) → cond u p (run (setup Plain One s φ) (drop 0 (steps s.transform)) p) ≡ cond u p (transformed Plain One s φ p)
unfolding transformed
all_steps s u p φ = refl

-- the rounds of a search start with filter 0 at every place
pub searched_is : (s : Settings) (n : ℕ) (φ : List ℕ) {p q : Planes} {ψ χ : List ℕ} → length φ ≡ places (steps s.transform) → ψ ≡ replicate (length φ) 0 → q ≡ p
    → χ ≡ rounds (choices_estimate s q) (places (steps s.transform)) n ψ → χ ≡ searched (choices_estimate s p) (places (steps s.transform)) n
unfolding searched
searched_is s n φ h e f g =
    g ∙ ap₂ (λ (x : Planes) (m : List ℕ). rounds (choices_estimate s x) (places (steps s.transform)) n m) f (e ∙ ap (λ (m : ℕ). replicate {A = ℕ} m 0) h)
