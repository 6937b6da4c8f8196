use borrow.Author.Rules.{rules}
use mathlib.Core.Path.{◌≡◌, ap, ◌∙◌}
use mathlib.Core.List.{List}
use Prim.Native.Nat.{ℕ}
use lib.ListN.{length, replicate}
use Rattle.std.specs.Prelude.{Ok}
use Rattle.std.proofs.lemmas.Result.{err_from_is_err_and}
use Rattle.stage.specs.declared.Settings.{Settings}
use Rattle.stage.specs.declared.Triple.{Triple}
use Rattle.stage.specs.Answers.{Test, refusal, number_of, outcome_of}
use Rattle.stage.specs.Planes.{Planes, samples_mut}
use Rattle.stage.specs.Transform.{lengths}
use Rattle.stage.specs.Estimate.{counted}
use Rattle.stage.specs.Search.{Lent, winners, cleared_counters, counters_fit, scratch_fits, estimated, search_in_place}
use Rattle.stage.proofs.Answers.{err_outcome, ok_outcome}
use Rattle.search.specs.Calls.{scratch_of, lent, search_tests}
use Rattle.search.specs.Copies.{CopyReady}
use Rattle.search.proofs.Calls.{counters_ready, search_ready, answered}
use Rattle.in_place.proofs.Calls.{search_same, made}
use Rattle.in_place.proofs.search.Goals as goal

module _ (s : Settings) (rounds : ℕ) (φ : List ℕ) (p : Planes) (l : List ℕ) where
  abbrev tests : List Test
  tests = search_tests s rounds (length φ) p (counters_fit s (length l))

  -- the number of the first test that fails, of planes q and lengths r as they were lent on
  abbrev first : Planes → Triple ℕ → ℕ
  first q r = refusal (search_tests s rounds (length φ) q (scratch_fits s r (length l)))

  ready : 0 ≡ first p (lengths p) → CopyReady s p p l
  ready = search_ready s rounds (length φ) p p l

  same : first p (lengths p) ≡ refusal tests
  same = search_same s p (length l) rounds (length φ)

  -- what is lent, and what success leaves
  abbrev before : Lent
  before = lent φ p l

  abbrev after : Lent
  after = record { choices = winners s p rounds; scratch = cleared_counters (scratch_of p l) }

pub returns-in_err-check_search-clause-gives : goal.returns-in_err-check_search-clause-gives
unfolding search_in_place
returns-in_err-check_search-clause-gives c =
    let a = c.args in
    let s = a.settings in
    let n = a.rounds in
    let φ = a.choices.now in
    let p = samples_mut a.planes.now in
    let l = a.counters.now in
    let e = c.in_err-check_search.field-0.0 in
    let r = err_from_is_err_and c.from_residual.result c.from_residual.ensures.1 in
    let k = made s p (length l) (first s n φ p l) (number_of e) c.lengths-room.ensures c.shared.ensures c.shared-2.ensures c.in_err-check_search.ensures in
    rw (r.1, r.2) (err_outcome (tests s n φ p l) (estimated s p (winners s p n)) (after s n φ p l) (before s n φ p l) e (k ∙ same s n φ p l))

pub search_picture-won-requires-clause-picture_ready : goal.search_picture-won-requires-clause-picture_ready
search_picture-won-requires-clause-picture_ready c =
    let a = c.args in
    let s = a.settings in
    let n = a.rounds in
    let φ = a.choices.now in
    let p = samples_mut a.planes.now in
    let l = a.counters.now in
    let k = made s p (length l) (first s n φ p l) 0 c.lengths-room.ensures c.shared.ensures c.shared-2.ensures c.in_ok-check_search.ensures in
    let r = ready s n φ p l k in
    let zeros : c.fill.new.self ≡ replicate (length l) 0 = search rules in
    record { allowed = r.allowed; picture = r.picture; counters = counters_ready s l r.enough zeros }

pub returns-clause-gives : goal.returns-clause-gives
unfolding search_in_place
returns-clause-gives c =
    let a = c.args in
    let s = a.settings in
    let n = a.rounds in
    let φ = a.choices.now in
    let p = samples_mut a.planes.now in
    let l = a.counters.now in
    let k = made s p (length l) (first s n φ p l) 0 c.lengths-room.ensures c.shared.ensures c.shared-2.ensures c.in_ok-check_search.ensures in
    let f = c.search_picture-won.ensures.found in
    let zeros : c.fill.new.self ≡ replicate (length l) 0 = search rules in
    let room = ap (λ (r : Triple ℕ). record { estimate = c.search_picture-won.result; samples = counted r.c1 }) (c.lengths-room.ensures ∙ ap lengths c.shared.ensures) in
    let e = answered _ _ (ready s n φ p l k).picture f.found.estimate (c.found.ensures ∙ room) ∙ ap (estimated s p) f.choices in
    (λ i. outcome_of (Ok (e i)) (lent (f.choices i) (f.found.planes i) ((f.found.counters ∙ zeros) i)))
    ∙ ok_outcome (tests s n φ p l) (estimated s p (winners s p n)) (after s n φ p l) (before s n φ p l) (k ∙ same s n φ p l)
