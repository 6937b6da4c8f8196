-- The search with each winner and each round computed once and shared: the same answer, in few enough steps to compute it.
use mathlib.Core.Path.{◌≡◌, refl, ap, ◌∙◌}
use mathlib.Core.Bool.{Bool, cond}
use mathlib.Core.List.{List, [], ◌∷◌, ◌++◌}
use Prim.Native.Nat.{ℕ, zero, suc}
use lib.Dec.{ltb}
use lib.ListN.{length, get_or, set, replicate}
use Rattle.stage.specs.Answers.{◌else◌, Outcome, outcome}
use Rattle.stage.specs.Settings.{Settings}
use Rattle.stage.specs.Planes.{Planes}
use Rattle.stage.specs.Steps.{steps, places}
use Rattle.stage.specs.Transform.{is_picture}
use Rattle.stage.specs.Search.{winner, round, rounds, searched, choices_estimate, Estimated, Scratch, Lent, estimated, search_tests, search_with}

module _ (e : List ℕ → ℕ) where
  -- of filter n and the leading filter f, the one that leads then
  abbrev better : List ℕ → ℕ → ℕ → ℕ → ℕ
  better φ k n f = cond (ltb (e (set φ k n)) (e (set φ k f))) n f

  unfoldable pub leader : List ℕ → ℕ → ℕ → ℕ
  leader φ k zero = get_or φ k 0
  leader φ k (suc n) = better φ k n (leader φ k n)

  abbrev decided : ℕ → List ℕ → List ℕ
  decided n φ = set φ n (leader φ n 13)

  unfoldable pub shared_round : ℕ → List ℕ → List ℕ
  shared_round zero φ = φ
  shared_round (suc n) φ = decided n (shared_round n φ)

  unfoldable pub shared_rounds : ℕ → ℕ → List ℕ → List ℕ
  shared_rounds n zero φ = φ
  shared_rounds n (suc k) φ = shared_round n (shared_rounds n k φ)

  leader_wins : (φ : List ℕ) (k n : ℕ) → winner e φ k n ≡ leader φ k n
  unfolding winner leader
  leader_wins φ k zero = refl
  leader_wins φ k (suc n) = ap (better φ k n) (leader_wins φ k n)

  same_round : (n : ℕ) (φ : List ℕ) → round e n φ ≡ shared_round n φ
  unfolding round shared_round
  same_round zero φ = refl
  same_round (suc n) φ = ap (set (round e n φ) n) (leader_wins (round e n φ) n 13) ∙ ap (decided n) (same_round n φ)

  same_rounds : (n k : ℕ) (φ : List ℕ) → rounds e n k φ ≡ shared_rounds n k φ
  unfolding rounds shared_rounds
  same_rounds n zero φ = refl
  same_rounds n (suc k) φ = same_round n (rounds e n k φ) ∙ ap (shared_round n) (same_rounds n k φ)

-- the outcome where the search leaves the choices φ
abbrev outcome_with : Settings → Planes → Bool → Scratch → ℕ → Lent → List ℕ → Outcome Estimated Lent
outcome_with s p fits after r m φ =
    outcome
    (search_tests s p fits r (length m.choices) ++ (is_picture s p else 11) ∷ [])
    (estimated s p φ)
    (record { choices = φ; scratch = after })
    m

unfoldable pub shared_with : Settings → Planes → Bool → Scratch → ℕ → Lent → Outcome Estimated Lent
shared_with s p fits after r m =
    let n = places (steps s.transform) in
    outcome_with s p fits after r m (shared_rounds (choices_estimate s p) n r (replicate n 0))

pub same_search : (s : Settings) (p : Planes) (fits : Bool) (after : Scratch) (r : ℕ) (m : Lent) → search_with s p fits after r m ≡ shared_with s p fits after r m
unfolding searched shared_with
same_search s p fits after r m =
    let n = places (steps s.transform) in
    ap (outcome_with s p fits after r m) (same_rounds (choices_estimate s p) n r (replicate n 0))
