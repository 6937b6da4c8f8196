-- A transform's passes make its steps, forward and back.
use mathlib.Core.Path.{◌≡◌, refl, sym, ap, ap₂, ◌∙◌, subst}
use mathlib.Core.Bool.{Bool, true, false, not, ◌&&◌}
use mathlib.Core.List.{List, [], ◌∷◌}
use Prim.Native.Nat.{ℕ, zero, suc, ◌*◌, ◌<◌}
use native.Mathlib.Omega.{arith}
use lib.Dec.{T, eqb, eqb→eq, lit≤}
use lib.IntN.{ℤ}
use lib.ListN.{length, get_or}
use Rattle.integers.specs.Lists.{map_indexed, Changed}
use Rattle.integers.proofs.Booleans.{and_iff, true_holds}
use Rattle.integers.proofs.Lists.{all_wider}
use Rattle.integers.proofs.Changes.{changed_all, changed_idle}
use Rattle.stage.specs.declared.Settings.{Settings}
use Rattle.stage.specs.declared.Form.{Form}
use Rattle.stage.specs.declared.Bands.{Bands}
use Rattle.stage.specs.declared.Plane.{Plane}
use Rattle.stage.specs.declared.Plane.TheVariants.{C1, C2, C3}
use Rattle.stage.specs.Planes.{Planes, get, put, same_plane}
use Rattle.stage.specs.Steps.{Setup, steps, places, lifted}
use Rattle.stage.specs.Transform.{HasSize, setup}
use Rattle.stage.proofs.Triples.{others_same}
use Rattle.kernel.specs.declared.pass.KeptPass.{KeptPass}
use Rattle.kernel.specs.Pass.{PassAllowed, kept_pass, made, applied}
use Rattle.kernel.specs.Lifting.{Liftable}
use Rattle.lifting.specs.declared.passes.Pass.{Pass}
use Rattle.lifting.specs.Passes.{tables, no_pass, pass_at, step_at, reversed_if, way, first_other, second_other, passed, quarter_at}
use Rattle.lifting.specs.Steps.{PassReady, RowsChanged}

-- ---- no pass reads the plane that it changes
abbrev pass_fits : Pass → Bool
pass_fits x = not (same_plane x.read x.changed)

abbrev AllFit : List Pass → Type 0
AllFit [] = Unit {0}
AllFit (x ∷ l) = T (pass_fits x) × AllFit l

entry_fits : (l : List Pass) (k : ℕ) → k < length l → AllFit l → T (pass_fits (get_or l k no_pass))
entry_fits [] k h s = absurd (omega arith)
entry_fits (x ∷ l) zero h s = s.0
entry_fits (x ∷ l) (suc k) h s = entry_fits l k (omega arith) s.1

pub all_fit : (t k : ℕ) → k < places (steps t) → T (pass_fits (pass_at t k))
all_fit zero k h = entry_fits (get_or tables 0 []) k h (tt, (tt, (tt, (tt, tt))))
all_fit (suc zero) k h = entry_fits (get_or tables 1 []) k h (tt, (tt, (tt, (tt, tt))))
all_fit (suc (suc zero)) k h = entry_fits (get_or tables 2 []) k h (tt, (tt, tt))
all_fit (suc (suc (suc zero))) k h = entry_fits (get_or tables 3 []) k h (tt, (tt, (tt, tt)))
all_fit (suc (suc (suc (suc t)))) k h = absurd (omega arith)

-- ---- a pass by the planes that it changes and reads
left_over : (a c : Plane) → T (not (same_plane a c)) → (a ≡ first_other c → ⊥) → a ≡ second_other c
left_over C1 C1 h f = absurd h
left_over C1 C2 h f = absurd (f refl)
left_over C1 C3 h f = absurd (f refl)
left_over C2 C1 h f = absurd (f refl)
left_over C2 C2 h f = absurd h
left_over C2 C3 h f = refl
left_over C3 C1 h f = refl
left_over C3 C2 h f = refl
left_over C3 C3 h f = absurd h

-- a pass that does not read the first other plane reads the second
pub reads_second : (t k : ℕ) {x : Pass} {c : Plane} → k < places (steps t) → x ≡ pass_at t k → x.changed ≡ c → (x.read ≡ first_other c → ⊥) → x.read ≡ second_other c
reads_second t k {x} {c} h e f g =
    let apart = subst (λ (y : Pass). T (pass_fits y)) (sym e) (all_fit t k h) in
    left_over x.read c (subst (λ (d : Plane). T (not (same_plane x.read d))) f apart) g

-- x is the pass of place k, n the kernel's; it changes plane c and reads plane d
pub record PassOf (κ : Form) (s : Settings) (k : ℕ) (back : Bool) (x : Pass) (n : KeptPass) (c d : Plane) : Type 0 where
  pub pass_is : x ≡ pass_at s.transform k
  pub kept_is : n ≡ kept_pass (way back x) κ s.depths.c1
  pub changed_is : x.changed ≡ c
  pub read_is : x.read ≡ d

module _ {κ : Form} {s : Settings} {k f from to : ℕ} {p : Planes} {back : Bool} {x : Pass} {n : KeptPass} {c d : Plane} (r : PassReady s k f from to p) (o : PassOf κ s k back x n c d) where
  abbrev X : Pass
  X = pass_at s.transform k

  kept_same : n ≡ kept_pass (way back X) κ s.depths.c1
  kept_same = o.kept_is ∙ ap (λ (y : Pass). kept_pass (way back y) κ s.depths.c1) o.pass_is

  changed_same : X.changed ≡ c
  changed_same = sym (ap (λ (y : Pass). y.changed) o.pass_is) ∙ o.changed_is

  read_same : get p d ≡ get p X.read
  read_same = ap (get p) (sym o.read_is ∙ ap (λ (y : Pass). y.read) o.pass_is)

  pub pass_liftable : Liftable s.width s.height f n from to (get p d) (get p c)
  pass_liftable = record {
    filter = r.filter;
    pass = subst PassAllowed (sym kept_same) (record { depth = r.depth });
    order = r.order;
    rows = r.rows;
    read_size = r.planes.size d;
    changed_size = r.planes.size c;
    read = r.planes.small d;
    changed = all_wider (r.planes.small c) (lit≤ tt) (lit≤ tt);
  }

-- a null filter: all rows are as they were
pub pass_skipped : (κ : Form) (s : Settings) (back : Bool) (f from to : ℕ) (x : Pass) (p : Planes) → f ≡ 12 → RowsChanged (passed κ s back f x p) x.changed s from to p p
pass_skipped κ s back f from to x p e = record { rows = changed_idle _ _ _ _ (λ i z. rw e); others = λ d h. refl }

-- ---- all rows changed
changed_rows : {f : ℕ → ℤ → ℤ} {before after : List ℤ} (w h : ℕ) → length before ≡ w * h → Changed f (0 * w) (h * w) before after → after ≡ map_indexed f 0 before
changed_rows {f} {before} {after} w h z u =
    let e : 0 * w ≡ 0 = omega arith in
    changed_all (subst (λ (n : ℕ). Changed f n (h * w) before after) e u) (omega (arith, z))

pub rows_all : {f : ℕ → ℤ → ℤ} {c : Plane} {s : Settings} {p q : Planes} → HasSize s p → RowsChanged f c s 0 s.height p q → q ≡ put p c (map_indexed f 0 (get p c))
rows_all {f} {c} {s} {p} {q} z r = others_same p q c r.others ∙ ap (put p c) (changed_rows s.width s.height (z c) r.rows)

-- ---- steps of one place
module _ (κ : Form) (β : Bands) (s : Settings) (φ : List ℕ) (p : Planes) where
  abbrev σ : Setup
  σ = setup κ β s φ

  abbrev Same : (t k : ℕ) (back : Bool) → Type 0
  Same t k back = (i : ℕ) (z : ℤ) → passed κ s back (σ.filter k i) (pass_at t k) p i z ≡ lifted σ p (reversed_if back (step_at t k)) i z

  -- the pass of place k makes of every sample what step k does, by the filter that the place has there
  pub record Made (t k : ℕ) (back : Bool) : Type 0 where
    pub plane : (pass_at t k).changed ≡ (reversed_if back (step_at t k)).plane
    pub each : Same t k back

  both : (t k : ℕ) → (pass_at t k).changed ≡ (step_at t k).plane → Same t k true → Same t k false → (back : Bool) → Made t k back
  both t k e x y true = record { plane = e; each = x }
  both t k e x y false = record { plane = e; each = y }

  -- every step but RCT's third is the pass of the place that has its number
  pub one_pass : (t k : ℕ) → k < length (steps t) → (eqb t 0 && eqb k 2) ≡ false → (back : Bool) → Made t k back
  unfolding made applied
  one_pass zero zero b e = both 0 0 refl (λ i z. refl) (λ i z. refl)
  one_pass zero (suc zero) b e = both 0 1 refl (λ i z. refl) (λ i z. refl)
  one_pass zero (suc (suc zero)) b e = absurd (subst T e tt)
  one_pass zero (suc (suc (suc k))) b e = absurd (omega arith)
  one_pass (suc zero) zero b e = both 1 0 refl (λ i z. refl) (λ i z. refl)
  one_pass (suc zero) (suc zero) b e = both 1 1 refl (λ i z. refl) (λ i z. refl)
  one_pass (suc zero) (suc (suc zero)) b e = both 1 2 refl (λ i z. refl) (λ i z. refl)
  one_pass (suc zero) (suc (suc (suc zero))) b e = both 1 3 refl (λ i z. refl) (λ i z. refl)
  one_pass (suc zero) (suc (suc (suc (suc k)))) b e = absurd (omega arith)
  one_pass (suc (suc zero)) zero b e = both 2 0 refl (λ i z. refl) (λ i z. refl)
  one_pass (suc (suc zero)) (suc zero) b e = both 2 1 refl (λ i z. refl) (λ i z. refl)
  one_pass (suc (suc zero)) (suc (suc k)) b e = absurd (omega arith)
  one_pass (suc (suc (suc zero))) zero b e = both 3 0 refl (λ i z. refl) (λ i z. refl)
  one_pass (suc (suc (suc zero))) (suc zero) b e = both 3 1 refl (λ i z. refl) (λ i z. refl)
  one_pass (suc (suc (suc zero))) (suc (suc zero)) b e = both 3 2 refl (λ i z. refl) (λ i z. refl)
  one_pass (suc (suc (suc zero))) (suc (suc (suc k))) b e = absurd (omega arith)
  one_pass (suc (suc (suc (suc t)))) k b e = absurd (omega arith)

  -- RCT's third step, in any terms for its number and its filters
  pub quarter_step : (t k : ℕ) → (t ≡ 0) × (k ≡ 2) → (back : Bool) (i : ℕ) (z : ℤ)
      → quarter_at κ s.depths.c1 s.width s.height back (σ.filter k i) (σ.filter 3 i) p.c1 p.c3 i z ≡ lifted σ p (reversed_if back (step_at t k)) i z
  quarter_step t k e back i z =
      ap (λ (j : ℕ). quarter_at κ s.depths.c1 s.width s.height back (σ.filter j i) (σ.filter 3 i) p.c1 p.c3 i z) e.1 ∙ made back
      ∙ sym (ap₂ (λ (a b : ℕ). lifted σ p (reversed_if back (step_at a b)) i z) e.0 e.1)
    where
      made : (back : Bool) → quarter_at κ s.depths.c1 s.width s.height back (σ.filter 2 i) (σ.filter 3 i) p.c1 p.c3 i z ≡ lifted σ p (reversed_if back (step_at 0 2)) i z
      made true = refl
      made false = refl

pub both_equal : (m n i j : ℕ) → (eqb m i && eqb n j) ≡ true → (m ≡ i) × (n ≡ j)
both_equal m n i j e = let h = (and_iff (eqb m i) (eqb n j)).0 (true_holds e) in (eqb→eq m i h.0, eqb→eq n j h.1)
