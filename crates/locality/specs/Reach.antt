-- How far steps reach (02, request 10), computed from the steps as ranges are. r is a reach for each plane: its number at a spot depends only on
-- what stood at most so many rows and columns away. ρ k is a radius for place k.
use Rattle.std.specs.Prelude.{cond, ◌||◌, List, [], ◌∷◌, ℕ, ◌+◌, ◌≤◌, max, eqb, get_or}
use Rattle.stage.specs.declared.Triple.{Triple}
use Rattle.stage.specs.Planes.{Planes, triple, get, put}
use Rattle.stage.specs.Steps.{Setup, Step, Term, ◌ᵈ◌, ◌⊕◌, ◌/2, ◌/4, run, undo, reversed}

-- A filter's radius: filters 1 to 11 take the mean of the 3 × 3 window, one row and one column around; filter 0 gives the sample itself, filter
-- 12 gives 0.
abbrev pub radius : ℕ → ℕ
radius f = cond (eqb f 0 || eqb f 12) 0 1

-- no filter of place k has a radius above ρ k; and radius 1, which no filter exceeds
abbrev pub RadiiUpTo : (ρ : ℕ → ℕ) → Setup → Type 0
RadiiUpTo ρ σ = (k i : ℕ) → radius (σ.filter k i) ≤ ρ k

abbrev pub radius_one : ℕ → ℕ
radius_one k = 1

-- A filtered value reaches further than its plane by the filter's radius. A changed plane reaches as far as what the step adds, and no less
-- far than before.
abbrev pub term_reach : (ρ : ℕ → ℕ) → Triple ℕ → Term → ℕ
term_reach ρ r (c ᵈ k) = get r c + ρ k
term_reach ρ r (t ⊕ u) = max (term_reach ρ r t) (term_reach ρ r u)
term_reach ρ r (t /2) = term_reach ρ r t
term_reach ρ r (t /4) = term_reach ρ r t

-- after a step; after all steps; after undoing all steps
abbrev pub step_reach : (ρ : ℕ → ℕ) → Step → Triple ℕ → Triple ℕ
step_reach ρ s r = put r s.plane (max (get r s.plane) (term_reach ρ r s.term))

abbrev pub reaches : (ρ : ℕ → ℕ) → List Step → Triple ℕ → Triple ℕ
reaches ρ [] r = r
reaches ρ (s ∷ l) r = reaches ρ l (step_reach ρ s r)

abbrev pub undone_reaches : (ρ : ℕ → ℕ) → List Step → Triple ℕ → Triple ℕ
undone_reaches ρ [] r = r
undone_reaches ρ (s ∷ l) r = step_reach ρ (reversed s) (undone_reaches ρ l r)

-- The two ways through a list of steps: it is run, or undone. What each makes of planes, and how far each plane then reaches.
pub data Way : Type 0 where
  there back : Way

abbrev pub along : Way → Setup → List Step → Planes → Planes
along there = run
along back = undo

abbrev pub reach_along : Way → (ρ : ℕ → ℕ) → List Step → Triple ℕ → Triple ℕ
reach_along there = reaches
reach_along back = undone_reaches

-- before any step a number depends on itself alone; the furthest that one of three planes reaches
abbrev pub none : Triple ℕ
none = triple 0 0 0

abbrev pub furthest : Triple ℕ → ℕ
furthest r = max r.c1 (max r.c2 r.c3)

-- "Here d is 1 for RDgDb, 2 for RCT, 3 for LDgEb and 4 for YCoCg-R", by the transform's number. Back it is 2 for each.
abbrev pub distance : Way → (t : ℕ) → ℕ
distance there t = get_or (2 ∷ 4 ∷ 1 ∷ 3 ∷ []) t 0
distance back t = get_or (2 ∷ 2 ∷ 2 ∷ 2 ∷ []) t 0
