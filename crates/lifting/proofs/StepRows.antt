-- Rows of a step by its bands, one band after the other: what the passes make of a band's rows, and what stands between.
use mathlib.Core.Path.{◌≡◌, refl, sym, ap, ap₂, ◌∙◌, subst}
use mathlib.Core.Bool.{Bool, true, false, cond, ◌&&◌}
use mathlib.Core.List.{List, [], ◌∷◌}
use Prim.Native.Nat.{ℕ, zero, suc, ◌+◌, ◌*◌, ◌≤◌, ◌<◌}
use native.Mathlib.Nat.{mul_comm, mul-le-mul_right}
use native.Mathlib.Omega.{arith}
use lib.Dec.{eqb}
use lib.IntN.{ℤ}
use lib.ListN.{length, get_or}
use Rattle.integers.specs.Parts.{In}
use Rattle.integers.specs.Lists.{at, AllIn, Changed}
use Rattle.integers.proofs.Lists.{at_mapped}
use Rattle.integers.proofs.Changes.{changed_none, changed_join, changed_as, changed_in}
use Rattle.stage.specs.declared.Settings.{Settings}
use Rattle.stage.specs.declared.Form.{Form}
use Rattle.stage.specs.declared.Bands.{Bands}
use Rattle.stage.specs.declared.Plane.{Plane}
use Rattle.stage.specs.declared.Plane.TheVariants.{C2}
use Rattle.stage.specs.Planes.{Planes, get, put}
use Rattle.stage.specs.Steps.{Setup, Step, steps, places, value, skipped, lift, lifted, step}
use Rattle.stage.specs.Transform.{HasSize, setup}
use Rattle.stage.proofs.Triples.{get-put, put-get, get_other, others_same, put_both}
use Rattle.stage.proofs.Reversal.{Unread, Apart, apart, value_put}
use Rattle.lifting.specs.Passes.{any_step, pass_at, step_at, reversed_if, passed, quarter_at}
use Rattle.lifting.specs.Steps.{Ready, RowsChanged}
use Rattle.lifting.specs.BandRows.{rows_before, BandReady, StepRows, BandChanged}
use Rattle.lifting.proofs.TransformPasses.{one_pass, quarter_step, rows_all}
use Rattle.lifting.proofs.BandRows.{band_choice}

-- ---- a band's rows, from .. to − 1, by the passes of its filters
module _ (κ : Form) {β : Bands} {s : Settings} {φ : List ℕ} {k b : ℕ} {p : Planes} (r : BandReady β s φ k b p)
    {from to : ℕ} (from_is : from ≡ rows_before β s.height b) (to_is : to ≡ rows_before β s.height (b + 1)) where
  abbrev step_of : Bool → Step
  step_of back = reversed_if back (step_at s.transform k)

  -- a place's filter at each index
  filter_is : (j f i : ℕ) → f ≡ get_or φ (places (steps s.transform) * b + j) 0 → from * s.width ≤ i → i < to * s.width → f ≡ (setup κ β s φ).filter j i
  filter_is j f i e low high =
      e
      ∙ sym (ap (λ (n : ℕ). get_or φ n 0)
      (band_choice β s b j i r.fit.bands r.begins (subst (λ (y : ℕ). y * s.width ≤ i) from_is low) (subst (λ (y : ℕ). i < y * s.width) to_is high)))

  -- rows of plane c that the passes have changed by f
  rows_made : (back : Bool) {c : Plane} {f : ℕ → ℤ → ℤ} {q : Planes} → c ≡ (step_of back).plane → RowsChanged f c s from to p q
      → ((i : ℕ) (z : ℤ) → from * s.width ≤ i → i < to * s.width → f i z ≡ lifted (setup κ β s φ) p (step_of back) i z) → BandChanged κ β s φ k back b p q
  rows_made back {c} {f} {q} e u same = record {
    rows = subst (λ (d : Plane). RowsChanged (lifted (setup κ β s φ) p (step_of back)) d s (rows_before β s.height b) (rows_before β s.height (b + 1)) p q) e (record {
      rows = changed_as _ _ u.rows (ap (λ (y : ℕ). y * s.width) from_is) (ap (λ (y : ℕ). y * s.width) to_is) same;
      others = u.others;
    });
  }

  pub pass_rows : (f : ℕ) (back : Bool) {q : Planes} → f ≡ get_or φ (places (steps s.transform) * b + k) 0 → (eqb s.transform 0 && eqb k 2) ≡ false
      → RowsChanged (passed κ s back f (pass_at s.transform k) p) (pass_at s.transform k).changed s from to p q → BandChanged κ β s φ k back b p q
  pass_rows f back e n u =
      let x = pass_at s.transform k in
      let m = one_pass κ β s φ p s.transform k (omega (arith, r.fit.last)) n back in
      rows_made back m.plane u (λ i z low high. ap (λ (g : ℕ). passed κ s back g x p i z) (filter_is k f i e low high) ∙ m.each i z)

  -- RCT's third step
  pub quarter_rows : (f g : ℕ) (back : Bool) {q : List ℤ} → (s.transform ≡ 0) × (k ≡ 2)
      → f ≡ get_or φ (places (steps s.transform) * b + k) 0 → g ≡ get_or φ (places (steps s.transform) * b + 3) 0
      → Changed (quarter_at κ s.depths.c1 s.width s.height back f g p.c1 p.c3) (from * s.width) (to * s.width) p.c2 q
      → BandChanged κ β s φ k back b p (put p C2 q)
  quarter_rows f g back {q} third e h u =
      let m : (f g i : ℕ) (z : ℤ) → ℤ = λ f g. quarter_at κ s.depths.c1 s.width s.height back f g p.c1 p.c3 in
      rows_made back (plane back ∙ sym (ap₂ (λ (t j : ℕ). (reversed_if back (step_at t j)).plane) third.0 third.1))
      (record { rows = u; others = λ d n. get_other p d C2 q n })
      (λ i z low high. ap₂ (λ (f g : ℕ). m f g i z) (filter_is k f i e low high) (filter_is 3 g i h low high) ∙ quarter_step κ β s φ p s.transform k third back i z)
    where
      plane : (back : Bool) → C2 ≡ (reversed_if back (step_at 0 2)).plane
      plane true = refl
      plane false = refl

-- ---- a step that has come to row y: p as it was before the step, q as it is now
apart_at : (l : List Step) (k : ℕ) → Apart l → k < length l → Unread (get_or l k any_step).term (get_or l k any_step).plane
apart_at [] k a h = absurd (omega arith)
apart_at (x ∷ l) zero a h = a.0
apart_at (x ∷ l) (suc k) a h = apart_at l k a.1 (omega arith)

pub step_apart : (t k : ℕ) (back : Bool) → k < length (steps t) → Unread (reversed_if back (step_at t k)).term (reversed_if back (step_at t k)).plane
step_apart t k true h = apart_at (steps t) k (apart t) h
step_apart t k false h = apart_at (steps t) k (apart t) h

pub rows_none : {κ : Form} {β : Bands} {s : Settings} {φ : List ℕ} {x : Step} (p : Planes) {y : ℕ} → 0 ≡ y → StepRows κ β s φ x 0 y p p
rows_none {s = s} {x = x} p e = record { rows = record { rows = changed_none _ _ (ap (λ (n : ℕ). n * s.width) e); others = λ d n. refl } }

module _ {κ : Form} {β : Bands} {s : Settings} {φ : List ℕ} {x : Step} {y : ℕ} {p q : Planes} (u : StepRows κ β s φ x 0 y p q) where
  abbrev σ : Setup
  σ = setup κ β s φ

  changed_only : q ≡ put p x.plane (get q x.plane)
  changed_only = others_same p q x.plane u.rows.others

  -- what the step reads is as it was
  value_still : Unread x.term x.plane → (i : ℕ) (z : ℤ) → lifted σ q x i z ≡ lifted σ p x i z
  value_still a i z =
      ap (λ (v : ℤ). cond (skipped σ x.term i) z (σ.keep (lift x.lifting v z)))
      (ap (λ (r : Planes). value σ r x.term i) changed_only ∙ value_put σ p x.plane (get q x.plane) x.term a i)

  pub rows_more : {m : ℕ} {r : Planes} → Unread x.term x.plane → y ≤ m → StepRows κ β s φ x y m q r → StepRows κ β s φ x 0 m p r
  rows_more {m} {r} a h v = record {
    rows = record {
      rows = changed_join u.rows.rows (changed_as (y * s.width) (m * s.width) v.rows.rows refl refl (λ i z _ _. value_still a i z)) (omega arith) (mul-le-mul_right s.width h);
      others = λ d n. v.rows.others d n ∙ u.rows.others d n;
    };
  }

  -- a fact of every plane before, and of the plane that is changed
  each_now : (P : List ℤ → Type 0) → ((d : Plane) → P (get p d)) → P (get q x.plane) → (d : Plane) → P (get q d)
  each_now P h n d =
      subst (λ (r : Planes). P (get r d)) (sym changed_only)
      (put_both (λ _ (a _ : List ℤ). P a) p p h (get q x.plane) (get q x.plane) x.plane n d)

  pub rows_long : (d : Plane) → length (get q d) ≡ length (get p d)
  rows_long d =
      ap (λ (r : Planes). length (get r d)) changed_only
      ∙ put_both (λ _ (a b : List ℤ). length a ≡ length b) p p (λ c. refl) (get q x.plane) (get p x.plane) x.plane u.rows.rows.long d
      ∙ ap (λ (r : Planes). length (get r d)) (put-get p x.plane)

  pub rows_ready : y ≤ s.height → Ready s p → Ready s (step σ x p) → Ready s q
  rows_ready h before after =
      let c = x.plane in
      let within : (i : ℕ) → i < y * s.width → In 524288 524288 (lifted σ p x i (at (get p c) i)) =
      λ i l. subst (In 524288 524288) (ap (λ (a : List ℤ). at a i) (get-put p c _) ∙ at_mapped (lifted σ p x) (get p c) i (rw (before.size c) (omega (arith, l, mul_comm s.width s.height, mul-le-mul_right {m = y} {n = s.height} s.width h))))
      ((after.small c).each i) in
      record {
        size = λ d. rows_long d ∙ before.size d;
        small = each_now (AllIn 524288 524288) before.small (changed_in u.rows.rows (before.small c) (λ i _ l. within i l));
      }

  -- at the last row
  pub rows_done : y ≡ s.height → HasSize s p → q ≡ step σ x p
  rows_done e z = rows_all z (subst (λ (n : ℕ). RowsChanged (lifted σ p x) x.plane s 0 n p q) e u.rows)
