-- Lifting steps as passes of the kernel over a plane.
use Rattle.std.specs.Prelude.{Bool, false, cond, ◌&&◌, ◌||◌, List, [], ◌∷◌, ℕ, zero, suc, ◌+◌, eqb, ℤ, ◌+ℤ◌, get_or}
use Rattle.integers.specs.Parts.{floor_div}
use Rattle.stage.specs.declared.Settings.{Settings}
use Rattle.stage.specs.declared.Form.{Form}
use Rattle.stage.specs.declared.Plane.{Plane}
use Rattle.stage.specs.declared.Plane.TheVariants.{C1, C2, C3}
use Rattle.stage.specs.Planes.{Planes, get, same_plane}
use Rattle.stage.specs.Filter.{filtered}
use Rattle.stage.specs.Steps.{Step, Term, add, subtract, lift, ◌ᵈ◌, ◌⊕◌, ◌/2, ◌/4, ◌←+◌, reversed, steps}
use Rattle.stage.specs.Transform.{kept}
use Rattle.kernel.specs.declared.pass.Lift.{Lift}
use Rattle.kernel.specs.declared.pass.Lift.TheVariants.{Add, Subtract, Negate, AddHalf, SubtractHalf, FourfoldAdd, FourfoldSubtract, QuarterAdd, QuarterSubtract}
use Rattle.kernel.specs.Pass.{kept_pass, applied}
use Rattle.lifting.specs.declared.passes.Pass.{Pass}

-- The transforms' passes, a row for each place in order: the plane changed, the plane read, the kernel's pass forward and back, and the
-- step.
abbrev pub row : Plane → Plane → Lift → Lift → ℕ → Pass
row c a forward back j = record { changed = c; read = a; forward = forward; back = back; step = j }

abbrev pub tables : List (List Pass)
tables =
    (row C1 C2 Subtract Add 0 ∷ row C3 C2 Subtract Add 1 ∷ row C2 C1 FourfoldAdd FourfoldSubtract 2 ∷ row C2 C3 QuarterAdd QuarterSubtract 2 ∷ [])
    ∷ (row C1 C3 Subtract Add 0 ∷ row C3 C1 AddHalf SubtractHalf 1 ∷ row C2 C3 Subtract Add 2 ∷ row C3 C2 AddHalf SubtractHalf 3 ∷ [])
    ∷ (row C3 C2 Negate Negate 0 ∷ row C2 C1 Negate Negate 1 ∷ [])
    ∷ (row C2 C1 Negate Negate 0 ∷ row C1 C2 SubtractHalf AddHalf 1 ∷ row C3 C1 Subtract Add 2 ∷ [])
    ∷ []

-- past the last, what stands for none
abbrev pub no_pass : Pass
no_pass = row C1 C1 Add Add 0

-- the pass of place k of transform t
abbrev pub pass_at : ℕ → ℕ → Pass
pass_at t k = get_or (get_or tables t []) k no_pass

-- step k of transform t; past the last, any step
abbrev pub any_step : Step
any_step = C1 ←+ C2 ᵈ 0

abbrev pub step_at : ℕ → ℕ → Step
step_at t k = get_or (steps t) k any_step

-- a step, or the step that undoes it; the kernel's pass forward, or back
abbrev pub reversed_if : Bool → Step → Step
reversed_if back s = cond back (reversed s) s

abbrev pub way : Bool → Pass → Lift
way back x = cond back x.back x.forward

-- the two planes other than c
abbrev pub first_other : Plane → Plane
first_other C1 = C2
first_other C2 = C1
first_other C3 = C1

abbrev pub second_other : Plane → Plane
second_other C1 = C3
second_other C2 = C3
second_other C3 = C2

-- what a step of one place makes of the sample z at index i of the plane that its pass changes, under a filter; a null one skips it
abbrev pub passed : Form → Settings → Bool → ℕ → Pass → Planes → ℕ → ℤ → ℤ
passed κ s back filter x p i z =
    cond (eqb filter 12) z (applied (kept_pass (way back x) κ s.depths.c1) z (filtered s.width s.height filter (get p x.read) i))

-- a quarter of two filtered values f and g added to a sample, or back subtracted from it
abbrev pub quarter_lifted : Bool → ℤ → ℤ → ℤ → ℤ
quarter_lifted back z f g = lift (cond back subtract add) (floor_div (f +ℤ g) 4) z

-- the sample at index i of a picture of w by h, by plane a under filter f and plane b under filter g, as the form keeps it at depth d; two null
-- filters skip it
abbrev pub quarter_at : (κ : Form) (d w h : ℕ) (back : Bool) (f g : ℕ) (a b : List ℤ) → ℕ → ℤ → ℤ
quarter_at κ d w h back f g a b i z =
    cond (eqb f 12 && eqb g 12) z (kept κ d (quarter_lifted back z (filtered w h f a i) (filtered w h g b i)))

-- whether place k is one of the term's, and the index of the first step that has place k
abbrev pub has_place : Term → ℕ → Bool
has_place (c ᵈ j) k = eqb j k
has_place (t ⊕ u) k = has_place t k || has_place u k
has_place (t /2) k = has_place t k
has_place (t /4) k = has_place t k

abbrev pub step_of : List Step → ℕ → ℕ
step_of [] k = 0
step_of (s ∷ l) k = cond (has_place s.term k) 0 (suc (step_of l k))

-- whether one of the steps changes plane c, and how many steps there are up to the last that does
abbrev pub changes : List Step → Plane → Bool
changes [] c = false
changes (s ∷ l) c = same_plane c s.plane || changes l c

abbrev pub last_change : List Step → Plane → ℕ
last_change [] c = 0
last_change (s ∷ l) c = cond (changes (s ∷ l) c) (suc (last_change l c)) 0

-- the same of a transform's first k passes
abbrev pub last_of : ℕ → Plane → ℕ → ℕ
last_of t c zero = 0
last_of t c (suc k) = cond (same_plane (pass_at t k).changed c) ((pass_at t k).step + 1) (last_of t c k)
