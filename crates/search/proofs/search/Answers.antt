use mathlib.Core.Path.{◌≡◌, ap, ◌∙◌}
use mathlib.Core.Bool.{Bool}
use mathlib.Core.List.{List}
use Prim.Native.Nat.{ℕ}
use lib.ListN.{length}
use Rattle.std.specs.Prelude.{Ok}
use Rattle.std.proofs.lemmas.Result.{err_from_is_err_and}
use Rattle.stage.specs.declared.Settings.{Settings}
use Rattle.stage.specs.declared.Triple.{Triple}
use Rattle.stage.specs.Answers.{Test, refusal, number_of, outcome_of}
use Rattle.stage.specs.Planes.{Planes, samples, samples_mut}
use Rattle.stage.specs.Transform.{lengths}
use Rattle.stage.specs.Search.{Lent, cleared_scratch, scratch_fits, estimated, winners, search_call}
use Rattle.stage.proofs.Answers.{err_outcome, ok_outcome}
use Rattle.search.specs.Calls.{scratch_of, lent, search_tests}
use Rattle.search.proofs.Calls.{search_ready, answered}
use Rattle.search.proofs.search.Goals as goal

module _ (s : Settings) (rounds : ℕ) (φ : List ℕ) (p t : Planes) (l : List ℕ) where
  abbrev fits : Bool
  fits = scratch_fits s (lengths t) (length l)

  abbrev tests : Bool → List Test
  tests b = search_tests s rounds (length φ) p b

  -- the tests, of trial planes that are lent on to be read
  made : {r : Triple ℕ} {u : Planes} (n : ℕ) → r ≡ lengths u → u ≡ t → n ≡ refusal (tests (scratch_fits s r (length l))) → n ≡ refusal (tests fits)
  made n e f k = k ∙ ap (λ (r : Triple ℕ). refusal (tests (scratch_fits s r (length l)))) (e ∙ ap lengths f)

  -- what is lent, and what success leaves
  abbrev before : Lent
  before = lent φ t l

  abbrev after : Lent
  after = record { choices = winners s p rounds; scratch = cleared_scratch (scratch_of t l) }

pub returns-in_err-check_search-clause-gives : goal.returns-in_err-check_search-clause-gives
unfolding search_call
returns-in_err-check_search-clause-gives c =
    let a = c.args in
    let s = a.settings in
    let n = a.rounds in
    let φ = a.choices.now in
    let p = samples a.picture in
    let t = samples_mut a.trials.now in
    let l = a.counters.now in
    let r = err_from_is_err_and c.from_residual.result c.from_residual.ensures.1 in
    rw (r.1, r.2) (err_outcome (tests s n φ p t l (fits s n φ p t l)) (estimated s p (winners s p n)) (after s n φ p t l) (before s n φ p t l) c.in_err-check_search.field-0.0
    (made s n φ p t l (number_of c.in_err-check_search.field-0.0) c.lengths-room.ensures c.shared.ensures c.in_err-check_search.ensures))

pub search_copy-won-requires-clause-ready : goal.search_copy-won-requires-clause-ready
search_copy-won-requires-clause-ready c =
    let a = c.args in
    let s = a.settings in
    let n = a.rounds in
    let φ = a.choices.now in
    let p = samples a.picture in
    let t = samples_mut a.trials.now in
    let l = a.counters.now in
    search_ready s n (length φ) p t l (made s n φ p t l 0 c.lengths-room.ensures c.shared.ensures c.in_ok-check_search.ensures)

pub returns-clause-gives : goal.returns-clause-gives
unfolding search_call
returns-clause-gives c =
    let a = c.args in
    let s = a.settings in
    let n = a.rounds in
    let φ = a.choices.now in
    let p = samples a.picture in
    let t = samples_mut a.trials.now in
    let l = a.counters.now in
    let k = made s n φ p t l 0 c.lengths-room.ensures c.shared.ensures c.in_ok-check_search.ensures in
    let f = c.search_copy-won.ensures in
    let e = answered _ _ (search_ready s n (length φ) p t l k).picture f.estimate c.found.ensures ∙ ap (estimated s p) f.choices in
    (λ i. outcome_of (Ok (e i)) (record { choices = f.choices i; scratch = f.cleared i }))
    ∙ ok_outcome (tests s n φ p t l (fits s n φ p t l)) (estimated s p (winners s p n)) (after s n φ p t l) (before s n φ p t l) k
