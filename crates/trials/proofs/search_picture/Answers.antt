use mathlib.Core.Path.{◌≡◌, ap, ◌∙◌}
use mathlib.Core.Bool.{true}
use mathlib.Core.List.{List}
use Prim.Native.Nat.{ℕ}
use borrow.Author.Rules.{rules}
use lib.ListN.{length, replicate}
use Rattle.stage.specs.declared.Settings.{Settings}
use Rattle.trials.specs.declared.trial.Trial.{Trial}
use Rattle.stage.specs.Planes.{Planes, samples_mut}
use Rattle.stage.specs.Steps.{steps, places}
use Rattle.stage.specs.Ranges.{widest}
use Rattle.stage.specs.Search.{rounds, choices_estimate}
use Rattle.estimate.specs.Counting.{Counters}
use Rattle.trials.specs.Trials.{RoundsDone}
use Rattle.trials.specs.Searches.{EstimateFound, SearchFound}
use Rattle.trials.proofs.Rounds.{zero_same, searched_is}
use Rattle.trials.proofs.search_picture.Goals as goal

-- the rounds, begun with choices ψ that are all zero and their estimate, are the whole search
whole : {s : Settings} {n e r : ℕ} {p q q' : Planes} (φ : List ℕ) {ψ χ l m m' : List ℕ} → Counters (widest s) l → length φ ≡ places (steps s.transform) → ψ ≡ replicate (length φ) 0
    → EstimateFound s true p l ψ e q m → RoundsDone s q (rounds (choices_estimate s q) (places (steps s.transform)) n ψ) r q' χ m' → length m' ≡ length l
    → SearchFound s n p l r χ q' m'
whole {s} {n} {e} {r} {p} {q} {q'} φ {ψ} {χ} z h zeros f g k = record {
  choices = searched_is s n φ h zeros f.planes g.choices;
  found = record {
    estimate = g.estimate ∙ ap (λ (x : Planes). choices_estimate s x χ) f.planes;
    planes = g.planes ∙ f.planes;
    counters = zero_same z g.counters k;
  };
}

-- what is lent, as the rounds leave it
left : {s : Settings} {n : ℕ} {p : Planes} {φ l m' : List ℕ} {r : ℕ} {q' : Planes} (t : Trial) → SearchFound s n p l r φ (samples_mut t.planes.now) t.counters.now
    → q' ≡ samples_mut t.planes.now → m' ≡ t.counters.now → SearchFound s n p l r φ q' m'
left t f e g = rw (e, g) f

pub returns-clause-found : goal.returns-clause-found
returns-clause-found c =
    let p = c.requires in
    let e = c.estimate_picture-e in
    left c.rounds.new.self
    (whole c.args.choices.now p.picture_ready.counters p.choices_len (search rules) e.ensures.found c.rounds.ensures.done (c.rounds.ensures.same.long ∙ e.auto.counters))
    (search rules) (search rules)
