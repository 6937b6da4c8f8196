-- Lifting steps, the four transforms as lists of steps, and what the steps make of three planes, forward and back (01, "Planes and
-- steps"). Here s is a step, t and u are terms, v is a term's value, σ what the steps run with, and k a place's number.
use Rattle.std.specs.Prelude.{Bool, cond, ◌&&◌, List, [], ◌∷◌, ℕ, ◌+◌, eqb, ℤ, neg_ℤ, ◌+ℤ◌, ◌-ℤ◌, get_or}
use Rattle.integers.specs.Parts.{floor_div}
use Rattle.integers.specs.Lists.{map_indexed}
use Rattle.stage.specs.Planes.{Plane, C1, C2, C3, Planes, get, put}
use Rattle.stage.specs.Filter.{filtered}

-- What a step adds or subtracts. C ᵈ k is plane C's filtered value with the filter of place k ("place" is 01's term: each
-- filtered value is one, numbered from 0 here in the order written); then a sum of two, a half, a quarter.
infix 40 ◌ᵈ◌
infixl 30 ◌⊕◌
infixl 35 ◌/2 ◌/4
pub data Term : Type 0 where
  ◌ᵈ◌ : Plane → ℕ → Term
  ◌⊕◌ : Term → Term → Term
  ◌/2 : Term → Term
  ◌/4 : Term → Term

-- C ← C + t; C ← C − t; C ← −C + t
pub data Lifting : Type 0 where
  add subtract negate : Lifting

pub record Step : Type 0 where
  pub plane : Plane
  pub lifting : Lifting
  pub term : Term

infix 25 ◌←+◌ ◌←-◌ ◌←-+◌
abbrev pub ◌←+◌ : Plane → Term → Step
c ←+ t = record { plane = c; lifting = add; term = t }

abbrev pub ◌←-◌ : Plane → Term → Step
c ←- t = record { plane = c; lifting = subtract; term = t }

abbrev pub ◌←-+◌ : Plane → Term → Step
c ←-+ t = record { plane = c; lifting = negate; term = t }

-- The transforms, by their numbers 0 to 3.
abbrev pub RCT : List Step
RCT = (C1 ←- C2 ᵈ 0) ∷ (C3 ←- C2 ᵈ 1) ∷ (C2 ←+ (C1 ᵈ 2 ⊕ C3 ᵈ 3) /4) ∷ []

abbrev pub YCoCg-R : List Step
YCoCg-R = (C1 ←- C3 ᵈ 0) ∷ (C3 ←+ C1 ᵈ 1 /2) ∷ (C2 ←- C3 ᵈ 2) ∷ (C3 ←+ C2 ᵈ 3 /2) ∷ []

abbrev pub RDgDb : List Step
RDgDb = (C3 ←-+ C2 ᵈ 0) ∷ (C2 ←-+ C1 ᵈ 1) ∷ []

abbrev pub LDgEb : List Step
LDgEb = (C2 ←-+ C1 ᵈ 0) ∷ (C1 ←- C2 ᵈ 1 /2) ∷ (C3 ←- C1 ᵈ 2) ∷ []

abbrev pub transforms : List (List Step)
transforms = RCT ∷ YCoCg-R ∷ RDgDb ∷ LDgEb ∷ []

abbrev pub steps : ℕ → List Step
steps n = get_or transforms n []

-- how many places a transform has
abbrev pub term_places : Term → ℕ
term_places (c ᵈ k) = 1
term_places (t ⊕ u) = term_places t + term_places u
term_places (t /2) = term_places t
term_places (t /4) = term_places t

abbrev pub places : List Step → ℕ
places [] = 0
places (s ∷ l) = term_places s.term + places l

-- What the steps run with. A run has one filter a place in all rows or in each band of rows, skips null steps and keeps results as its form says
-- (`setup`, Transform.antt). What is proved of every setup lets a filter change from sample to sample.
pub record Setup : Type 0 where
  pub width : ℕ
  pub height : ℕ
  -- the filter of a place at a sample's index
  pub filter : (k i : ℕ) → ℕ
  -- whether null steps are skipped (02, request 1: "a step whose places are all null leaves its plane unchanged, both ways")
  pub skips : Bool
  -- how a step's result is kept (02, request 9: "filters, halves and quarters use that number")
  pub keep : ℤ → ℤ

-- the term's value at index i
abbrev pub value : (σ : Setup) (p : Planes) (t : Term) (i : ℕ) → ℤ
value σ p (c ᵈ k) i = filtered σ.width σ.height (σ.filter k i) (get p c) i
value σ p (t ⊕ u) i = value σ p t i +ℤ value σ p u i
value σ p (t /2) i = floor_div (value σ p t i) 2
value σ p (t /4) i = floor_div (value σ p t i) 4

-- all places of the term are null at index i
abbrev pub all_null : Setup → Term → ℕ → Bool
all_null σ (c ᵈ k) i = eqb (σ.filter k i) 12
all_null σ (t ⊕ u) i = all_null σ t i && all_null σ u i
all_null σ (t /2) i = all_null σ t i
all_null σ (t /4) i = all_null σ t i

abbrev pub skipped : Setup → Term → ℕ → Bool
skipped σ t i = σ.skips && all_null σ t i

abbrev pub lift : Lifting → (v x : ℤ) → ℤ
lift add v x = x +ℤ v
lift subtract v x = x -ℤ v
lift negate v x = neg_ℤ x +ℤ v

-- the sample x at index i after the step
abbrev pub lifted : (σ : Setup) (p : Planes) (s : Step) (i : ℕ) (x : ℤ) → ℤ
lifted σ p s i x = cond (skipped σ s.term i) x (σ.keep (lift s.lifting (value σ p s.term i) x))

-- A step covers the whole picture before the next begins.
abbrev pub step : Setup → Step → Planes → Planes
step σ s p = put p s.plane (map_indexed (lifted σ p s) 0 (get p s.plane))

abbrev pub run : Setup → List Step → Planes → Planes
run σ [] p = p
run σ (s ∷ l) p = run σ l (step σ s p)

-- the step that undoes a step, and the steps undone in the opposite order with the same filters
abbrev pub opposite : Lifting → Lifting
opposite add = subtract
opposite subtract = add
opposite negate = negate

abbrev pub reversed : Step → Step
reversed s = record { plane = s.plane; lifting = opposite s.lifting; term = s.term }

abbrev pub undo : Setup → List Step → Planes → Planes
undo σ [] p = p
undo σ (s ∷ l) p = step σ (reversed s) (undo σ l p)
