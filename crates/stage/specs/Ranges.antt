-- Ranges of planes, computed from the steps (01, "Ranges of finished planes"; 02, request 7: "every range follows from the steps"). Every
-- range holds 0, so two natural numbers say it: −below to above. r is a range or one for each plane, v the range of what a step adds, x
-- that of the plane which it changes, b a depth; M, H and q are 01's numbers, M1, M2 and M3 the highest samples of the three planes.
use Rattle.std.specs.Prelude.{Bool, ◌&&◌, List, [], ◌∷◌, ℕ, ◌+◌, ◌*◌, ◌-◌, ◌/◌, ◌^◌, ◌≤◌, max, ℤ}
pub use Rattle.stage.specs.declared.Range.{Range}
use Rattle.integers.specs.Parts.{In}
use Rattle.integers.specs.Lists.{AllIn, all_within}
use Rattle.stage.specs.Settings.{Settings, Form, Plain, Wrapped}
use Rattle.stage.specs.Planes.{Plane, Triple, Planes, triple, get, put}
use Rattle.stage.specs.Steps.{Setup, Step, reversed, Term, Lifting, add, subtract, negate, ◌ᵈ◌, ◌⊕◌, ◌/2, ◌/4, steps}

-- "filters keep a plane's range, sums and floors act on the ends": of a sum, of numbers negated, of numbers divided by n and rounded down;
-- and the range that takes in two
abbrev pub sum : (x v : Range) → Range
sum x v = record { below = x.below + v.below; above = x.above + v.above }

abbrev pub negated : Range → Range
negated x = record { below = x.above; above = x.below }

abbrev pub divided : ℕ → Range → Range
divided n x = record { below = (x.below + (n - 1)) / n; above = x.above / n }

abbrev pub hull : (x v : Range) → Range
hull x v = record { below = max x.below v.below; above = max x.above v.above }

abbrev pub term_range : Triple Range → Term → Range
term_range r (c ᵈ k) = get r c
term_range r (t ⊕ u) = sum (term_range r t) (term_range r u)
term_range r (t /2) = divided 2 (term_range r t)
term_range r (t /4) = divided 4 (term_range r t)

-- "A negating step's range also takes in what its plane had before, because it may be skipped."
abbrev pub lift_range : Lifting → (v x : Range) → Range
lift_range add v x = sum x v
lift_range subtract v x = sum x (negated v)
lift_range negate v x = hull x (sum (negated x) v)

-- after a step; after all steps; after undoing all steps
abbrev pub step_ranges : Step → Triple Range → Triple Range
step_ranges s r = put r s.plane (lift_range s.lifting (term_range r s.term) (get r s.plane))

abbrev pub ranges : List Step → Triple Range → Triple Range
ranges [] r = r
ranges (s ∷ l) r = ranges l (step_ranges s r)

abbrev pub undone_ranges : List Step → Triple Range → Triple Range
undone_ranges [] r = r
undone_ranges (s ∷ l) r = step_ranges (reversed s) (undone_ranges l r)

-- a sample of depth b is 0 to M = 2^b − 1
abbrev pub max_sample : ℕ → ℕ
max_sample b = 2 ^ b - 1

abbrev pub sample_range : ℕ → Range
sample_range b = record { below = 0; above = max_sample b }

abbrev pub sample_ranges : Settings → Triple Range
sample_ranges s = triple (sample_range s.depths.c1) (sample_range s.depths.c2) (sample_range s.depths.c3)

-- the ranges of finished planes
abbrev pub finished_ranges : Settings → Triple Range
finished_ranges s = ranges (steps s.transform) (sample_ranges s)

-- in a form: where results are wrapped, "0 to M as every range" (02, request 9)
abbrev pub form_ranges : Form → Settings → Triple Range
form_ranges Plain s = finished_ranges s
form_ranges Wrapped s = sample_ranges s

-- 01's table of the ranges of finished planes, a row for each transform: M, H and q are 2^b − 1, 2^(b−1) and 2^(b−2) where each plane has depth b
abbrev pub range_row : (l1 h1 l2 h2 l3 h3 : ℕ) → Triple Range
range_row l1 h1 l2 h2 l3 h3 =
    triple (record { below = l1; above = h1 }) (record { below = l2; above = h2 }) (record { below = l3; above = h3 })

unfoldable pub range_table : (M H q : ℕ) → List (Triple Range)
range_table M H q =
    range_row M M H (3 * H - 2) M M
    ∷ range_row M M (3 * H - 2) (3 * H - 1) (5 * q - 1) (9 * q - 3)
    ∷ range_row 0 M M M M M
    ∷ range_row (H - 1) (3 * H - 1) M M (3 * H - 1) (3 * H - 2)
    ∷ []

abbrev pub depth_table : ℕ → List (Triple Range)
depth_table b = range_table (2 ^ b - 1) (2 ^ (b - 1)) (2 ^ (b - 2))

-- the rows at any depths, spelled out
unfoldable pub three_rows : (M1 M2 M3 : ℕ) → List (Triple Range)
three_rows M1 M2 M3 =
    let l = (M3 + 1) / 2 in
    let u = M3 + M1 / 2 in
    range_row M2 M1 ((M2 + 1) / 2) (M2 + (M1 + M3) / 4) M2 M3
    ∷ range_row M3 M1 u (M2 + l) (l + (u + 1) / 2) (u + (M2 + l) / 2)
    ∷ range_row 0 M1 M2 (max M1 M2) M3 (max M2 M3)
    ∷ range_row (max M1 M2 / 2) (M1 + (M2 + 1) / 2) M2 (max M1 M2) (M1 + (M2 + 1) / 2) (M3 + max M1 M2 / 2)
    ∷ []

-- ±2^19, which holds every number that a call meets
abbrev pub bounded : Triple Range
bounded = let r : Range = record { below = 2 ^ 19; above = 2 ^ 19 } in triple r r r

-- highest less lowest, and D, the widest of a transform's finished planes
abbrev pub extent : Range → ℕ
extent r = r.below + r.above

abbrev pub widest : Settings → ℕ
widest s =
    let r = finished_ranges s in
    max (extent r.c1) (max (extent r.c2) (extent r.c3))

-- a number lies in a range; range r lies in range R; so for every plane
abbrev pub Within : Range → ℤ → Type 0
Within r z = In r.below r.above z

pub record Inside (r R : Range) : Type 0 where
  pub low : r.below ≤ R.below
  pub high : r.above ≤ R.above

abbrev pub AllInside : (r R : Triple Range) → Type 0
AllInside r R = (c : Plane) → Inside (get r c) (get R c)

-- A setup keeps ranges: a result that lies in a range is kept in it, if the range holds that of r for the result's plane. So it is where
-- results are kept as they are, and where r is 0 to M and they are kept as 0 to M.
abbrev pub KeepsRanges : (r : Triple Range) (σ : Setup) → Type 0
KeepsRanges r σ = (c : Plane) (R : Range) → Inside (get r c) R → (z : ℤ) → Within R z → Within R (σ.keep z)

-- every number of every plane lies in its plane's range, and the same as a test
abbrev pub InRanges : Triple Range → Planes → Type 0
InRanges r p = (c : Plane) → AllIn (get r c).below (get r c).above (get p c)

abbrev pub within_range : Range → List ℤ → Bool
within_range r a = all_within r.below r.above a

abbrev pub within_ranges : Triple Range → Planes → Bool
within_ranges r p = within_range r.c1 p.c1 && (within_range r.c2 p.c2 && within_range r.c3 p.c3)
