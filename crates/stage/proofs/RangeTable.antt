-- The ranges computed from the steps are rows of a table: 01's where all depths are equal. A picture's samples lie within them.
use mathlib.Core.Path.{◌≡◌, refl, ap, ap₂, sym, ◌∙◌, subst}
use mathlib.Core.List.{List, [], ◌∷◌, map}
use Prim.Native.Nat.{ℕ, zero, suc, ◌+◌, ◌*◌, ◌-◌, ◌≤◌, ◌^◌}
use native.Mathlib.Omega.{arith}
use lib.Pow.{pow_pos, pow-add}
use lib.ListN.{get_or, take}
use Rattle.integers.specs.Lists.{AllIn}
use Rattle.stage.specs.Settings.{Settings, Plain, Depths, each}
use Rattle.stage.specs.Planes.{C3, Triple, triple}
use Rattle.stage.specs.Steps.{Step, transforms, YCoCg-R, steps, run}
use Rattle.stage.specs.Ranges.{Range, ranges, sample_range, sample_ranges, finished_ranges, range_row, range_table, depth_table, three_rows, InRanges}
use Rattle.stage.specs.Transform.{setup}
use Rattle.stage.specs.Theorems.{RangesAreTable, RangesAreRows, SecondStepRange, StepsKeepRanges, SecondStepSamples, WithinTable}
use Rattle.stage.proofs.StepRanges.{plain_keeps, run_in}
use Rattle.stage.proofs.Forms.{goes_within}

range_is : (a b : ℕ) (r : Range) → (a ≡ r.below) × (b ≡ r.above) → r ≡ record { below = a; above = b }
range_is a b r e = sym (λ i. record { below = e.0 i; above = e.1 i })

row_is : (a b c d e f : ℕ) (r : Triple Range)
    → (a ≡ r.c1.below) × (b ≡ r.c1.above) × (c ≡ r.c2.below) × (d ≡ r.c2.above) × (e ≡ r.c3.below) × (f ≡ r.c3.above)
    → r ≡ range_row a b c d e f
row_is a b c d e f r h = sym (λ i. range_row (h.0 i) (h.1 i) (h.2 i) (h.3 i) (h.4 i) (h.5 i))

-- a power of two by a lower one
pub pow_split : (b k : ℕ) → k ≤ b → 2 ^ b ≡ 2 ^ (b - k) * 2 ^ k
pow_split b k h = let e : b - k + k ≡ b = omega arith in subst (λ (n : ℕ). 2 ^ n ≡ 2 ^ (b - k) * 2 ^ k) e (pow-add 2 (b - k) k)

-- an entry of a list of images
get_d_map : {A B : Type 0} (f : A → B) (d : A) (l : List A) (i : ℕ) → f (get_or l i d) ≡ get_or (map f l) i (f d)
get_d_map f d [] i = refl
get_d_map f d (x ∷ l) zero = refl
get_d_map f d (x ∷ l) (suc i) = get_d_map f d l i

-- the rows of all transforms from the ranges r of samples; one of them is a transform's
abbrev rows : Triple Range → List (Triple Range)
rows r = map (λ (l : List Step). ranges l r) transforms

row_of : (s : Settings) {table : List (Triple Range)} → rows (sample_ranges s) ≡ table → finished_ranges s ≡ get_or table s.transform (sample_ranges s)
row_of s e =
    get_d_map (λ (l : List Step). ranges l (sample_ranges s)) [] transforms s.transform
    ∙ ap (λ (l : List (Triple Range)). get_or l s.transform (sample_ranges s)) e

-- the ranges of samples where each plane has depth b
abbrev each_range : ℕ → Triple Range
each_range b = triple (sample_range b) (sample_range b) (sample_range b)

each_range_lem : (s : Settings) (b : ℕ) → s.depths ≡ each b → sample_ranges s ≡ each_range b
each_range_lem s b e = ap (λ (d : Depths). triple (sample_range d.c1) (sample_range d.c2) (sample_range d.c3)) e

table : (b : ℕ) → 2 ≤ b → rows (each_range b) ≡ depth_table b
unfolding range_table
table b h =
    let q : 1 ≤ 2 ^ (b - 2) = pow_pos (b - 2) in
    let m : 2 ^ b ≡ 2 ^ (b - 2) * 4 = pow_split b 2 h in
    let n : 2 ^ b ≡ 2 ^ (b - 1) * 2 = pow_split b 1 (omega arith) in
    ap₂ ◌∷◌ (row_is _ _ _ _ _ _ _ (omega arith))
    (ap₂ ◌∷◌ (row_is _ _ _ _ _ _ _ (omega arith))
    (ap₂ ◌∷◌ (row_is _ _ _ _ _ _ _ (omega arith)) (ap₂ ◌∷◌ (row_is _ _ _ _ _ _ _ (omega arith)) refl)))

pub ranges_are_table : RangesAreTable
ranges_are_table s b h e = row_of s (ap rows (each_range_lem s b e) ∙ table b h)

pub ranges_are_rows : RangesAreRows
unfolding three_rows
ranges_are_rows s =
    row_of s
    (ap₂ ◌∷◌ (row_is _ _ _ _ _ _ _ (omega arith))
    (ap₂ ◌∷◌ (row_is _ _ _ _ _ _ _ (omega arith))
    (ap₂ ◌∷◌ (row_is _ _ _ _ _ _ _ (omega arith)) (ap₂ ◌∷◌ (row_is _ _ _ _ _ _ _ (omega arith)) refl))))

pub second_step_range : SecondStepRange
second_step_range s b h e =
    let q : 1 ≤ 2 ^ (b - 1) = pow_pos (b - 1) in
    let n : 2 ^ b ≡ 2 ^ (b - 1) * 2 = pow_split b 1 (omega arith) in
    ap (λ (r : Triple Range). (ranges (take 2 YCoCg-R) r).c3) (each_range_lem s b e) ∙ range_is _ _ _ (omega arith)

-- ---- of samples
pub steps_keep_ranges : StepsKeepRanges
steps_keep_ranges s σ n p k h = run_in σ (take n (steps s.transform)) (sample_ranges s) p k h

pub second_step_samples : SecondStepSamples
second_step_samples β s b φ p d e h =
    subst (λ (r : Range). AllIn r.below r.above (run (setup Plain β s φ) (take 2 YCoCg-R) p).c3) (second_step_range s b d e)
    (run_in (setup Plain β s φ) (take 2 YCoCg-R) (sample_ranges s) p (plain_keeps β s φ _) h.samples C3)

pub within_table : WithinTable
within_table β s b φ p q d e g = subst (λ (r : Triple Range). InRanges r q) (ranges_are_table s b d e) (goes_within Plain β s φ p q tt g)
