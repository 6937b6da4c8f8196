-- A place's filters, one at a time.
use mathlib.Core.Path.{◌≡◌, refl, sym, ap, ap₂, ◌∙◌}
use mathlib.Core.Bool.{Bool, true, false, cond}
use mathlib.Core.List.{List}
use Prim.Native.Nat.{ℕ, suc, ◌+◌, ◌≤◌}
use native.Mathlib.Omega.{arith}
use native.Mathlib.Numerals.{add-one}
use lib.Dec.{T, ltb}
use lib.ListN.{length, get_or, set, length-set}
use lib.Seq.{set-set, set-get_or}
use Rattle.stage.specs.declared.Settings.{Settings}
use Rattle.stage.specs.declared.Bands.TheVariants.{One}
use Rattle.stage.specs.Planes.{Planes}
use Rattle.stage.specs.Ranges.{widest}
use Rattle.stage.specs.Transform.{choices_fit}
use Rattle.stage.specs.Search.{winner}
use Rattle.stage.proofs.Choices.{choices_set}
use Rattle.estimate.specs.Counting.{Counters}
use Rattle.trials.specs.declared.place.Best.{Best}
use Rattle.trials.specs.declared.place.Place.{Place}
use Rattle.trials.specs.Trials.{leads, Leads, trial_estimate, PlaceReady, FilterTried, Chosen}

-- choices that differ at place k at most
pub record SameBut (s : Settings) (k : ℕ) (φ ψ : List ℕ) : Type 0 where
  pub same : (f : ℕ) → set ψ k f ≡ set φ k f
  pub long : length ψ ≡ length φ
  pub fit : T (choices_fit One s ψ)

but_set : {s : Settings} {k : ℕ} {φ ψ : List ℕ} (χ : List ℕ) (f : ℕ) → f ≤ 12 → SameBut s k φ ψ → χ ≡ set ψ k f → SameBut s k φ χ
but_set {s} {k} {φ} {ψ} χ f h x e =
    rw e (record { same = λ g. set-set ψ k f g ∙ x.same g; long = length-set ψ k f ∙ x.long; fit = choices_set One s ψ x.fit k f h })

module _ (e : List ℕ → ℕ) (φ : List ℕ) (k : ℕ) where
  leads_none : (b : Best) → b.filter ≡ get_or φ k 0 → b.estimate ≡ e φ → Leads e φ k 0 b
  unfolding winner
  leads_none b f h = record { filter = f; estimate = h ∙ ap e (sym (ap (set φ k) f ∙ set-get_or φ k 0)) }

  -- the next filter
  leads_more : (n : ℕ) (b : Best) (x : ℕ) → Leads e φ k n b → x ≡ e (set φ k n) → Leads e φ k (n + 1) (leads b n x)
  unfolding winner
  leads_more n b x l h = rw (add-one n) (by (ltb x b.estimate) refl)
    where
      same : ltb (e (set φ k n)) (e (set φ k (winner e φ k n))) ≡ ltb x b.estimate
      same = rw (h, l.estimate, l.filter)

      by : (t : Bool) → ltb x b.estimate ≡ t → Leads e φ k (suc n) (cond t (record { filter = n; estimate = x }) b)
      by true q = record { filter = sym (rw (same ∙ q)); estimate = h }
      by false q = record { filter = l.filter ∙ sym (rw (same ∙ q)); estimate = l.estimate }

-- While the filters of place x are tried: planes p as they were found, q; counters m zero; b leads of the first n filters.
pub record Trying (s : Settings) (x : Place) (n : ℕ) (q p : Planes) (φ ψ m : List ℕ) (b : Best) : Type 0 where
  pub planes : p ≡ q
  pub counters : Counters (widest s) m
  pub but : SameBut s x.place φ ψ
  pub leader : Leads (trial_estimate s x.step q) φ x.place n b

module _ {s : Settings} {x : Place} {q : Planes} {φ : List ℕ} (r : PlaceReady s q φ x) where
  pub trying_none : x.present.filter ≡ get_or φ x.place 0 → (m : List ℕ) → Counters (widest s) m → Trying s x 0 q q φ φ m x.present
  trying_none f m z = record {
    planes = refl;
    counters = z;
    but = record { same = λ f. refl; long = refl; fit = r.choices };
    leader = leads_none (trial_estimate s x.step q) φ x.place x.present f
        (r.present ∙ ap (λ (g : ℕ). trial_estimate s x.step q (set φ x.place g)) f ∙ ap (trial_estimate s x.step q) (set-get_or φ x.place 0));
  }

  -- what is known of the place, with other choices tried meanwhile
  pub trying_ready : {n : ℕ} {p : Planes} {ψ m : List ℕ} {b : Best} → Trying s x n q p φ ψ m b → PlaceReady s p ψ x
  trying_ready t = record {
    choices = t.but.fit;
    place = omega (arith, t.but.long, r.place);
    base = rw t.planes r.base;
    present = rw (t.planes, t.but.same x.present.filter) r.present;
  }

  pub trying_more : {n e : ℕ} {p p' : Planes} {ψ ψ' m m' : List ℕ} {b : Best} → n ≤ 12 → Trying s x n q p φ ψ m b → FilterTried s x n p ψ e p' ψ' m' → (b' : Best) → b' ≡ leads b n e
      → Trying s x (n + 1) q p' φ ψ' m' b'
  trying_more {n} {e} {p} {p'} {ψ} {ψ'} {m} {m'} {b} h t f b' g = record {
    planes = f.found.planes ∙ t.planes;
    counters = f.found.counters;
    but = but_set ψ' n h t.but f.choices;
    leader = rw g (leads_more (trial_estimate s x.step q) φ x.place n b e t.leader (f.found.estimate ∙ ap₂ (trial_estimate s x.step) t.planes (t.but.same n)));
  }

-- all 13 are tried, and the one that leads is chosen
pub trying_all : {s : Settings} {x : Place} {q p : Planes} {φ ψ m : List ℕ} {b : Best} {n : ℕ} → Trying s x n q p φ ψ m b → n ≡ 13
    → Chosen s x.step x.place q φ b.estimate p (set ψ x.place b.filter) m
trying_all {s} {x} {q} {p} {φ} {ψ} {m} {b} {n} t h =
    let k = x.place in
    let e = trial_estimate s x.step q in
    record {
      choices = t.but.same b.filter ∙ ap (set φ k) (t.leader.filter ∙ ap (winner e φ k) h);
      found = record { estimate = t.leader.estimate ∙ ap e (sym (t.but.same b.filter)); planes = t.planes; counters = t.counters };
    }
