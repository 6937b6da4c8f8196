-- Planes that the steps made of a picture without a skip are never taken for another picture's: a plane that a null step negated holds
-- nothing above 0, and where the inverse accepts it nothing below.
use mathlib.Core.Path.{◌≡◌, refl, sym, ap, ◌∙◌, subst}
use mathlib.Core.Bool.{Bool, true, false, cond, not, ◌&&◌}
use mathlib.Core.List.{List, [], ◌∷◌}
use Prim.Native.Nat.{ℕ, zero, suc, ◌<◌, max}
use native.Mathlib.Omega.{arith}
use lib.Dec.{T}
use lib.IntN.{ℤ, pos, neg_ℤ}
use lib.ListN.{length}
use Rattle.integers.specs.Parts.{pos_part, neg_part, In}
use Rattle.integers.specs.Lists.{at, AllIn, map_indexed}
use Rattle.integers.proofs.Booleans.{and_iff, not_both}
use Rattle.integers.proofs.Lists.{length-map_indexed, at_mapped, ext_at, all_wider}
use Rattle.integers.proofs.Parts.{add_difference, neg_parts, eq_parts}
use Rattle.stage.specs.Settings.{Plain}
use Rattle.stage.specs.Planes.{Plane, C1, C2, C3, Planes, get, put, same_plane}
use Rattle.stage.specs.Steps.{Setup, Step, Lifting, add, subtract, negate, value, all_null, skipped, lift, lifted, opposite, step, run, steps}
use Rattle.stage.specs.Ranges.{max_sample}
use Rattle.stage.specs.Transform.{setup, transformed, Picture}
use Rattle.stage.specs.NullSteps.{negates, unskipped, NoOtherPicture}
use Rattle.stage.proofs.Triples.{get-put, put-get, get_other, others_same, each_plane}
use Rattle.stage.proofs.Reversal.{Unread, value_put, lift_undone}
use Rattle.stage.proofs.Demand3.{inverse_iff}
use Rattle.stage.proofs.Unskipped.{lift_nothing, null_value, unskipped_value}

-- none of the steps negates plane c
abbrev Spared : List Step → Plane → Type 0
Spared [] c = Unit {0}
Spared (x ∷ l) c = T (not (same_plane x.plane c && negates x.lifting)) × Spared l c

-- a step reads no plane that it changes, and changes no plane that a later one negates
abbrev Separate : List Step → Type 0
Separate [] = Unit {0}
Separate (x ∷ l) = Unread x.term x.plane × Spared l x.plane × Separate l

separate : (t : ℕ) → Separate (steps t)
separate zero = (tt, (tt, (tt, tt)), (tt, (tt, tt), ((tt, tt), tt, tt)))
separate (suc zero) = (tt, (tt, (tt, (tt, tt))), (tt, (tt, (tt, tt)), (tt, (tt, tt), (tt, tt, tt))))
separate (suc (suc zero)) = (tt, (tt, tt), (tt, tt, tt))
separate (suc (suc (suc zero))) = (tt, (tt, (tt, tt)), (tt, (tt, tt), (tt, tt, tt)))
separate (suc (suc (suc (suc t)))) = tt

-- a sample z, lifted, and a sample y, lifted or skipped for a term that is 0, become the same: then they are, if they are not negative
-- where the step negates
sample_same : (b : Bool) (k : Lifting) (v z y : ℤ) (m : ℕ) → (T b → v ≡ pos 0) → (T (negates k) → In 0 m z × In 0 m y) → lift k v z ≡ cond b y (lift k v y) → y ≡ z
sample_same false k v z y m n h e = sym (sym (lift_undone k v z) ∙ ap (lift (opposite k) v) e ∙ lift_undone k v y)
sample_same true add v z y m n h e = sym e ∙ ap (λ (u : ℤ). lift add u z) (n tt) ∙ lift_nothing add z tt
sample_same true subtract v z y m n h e = sym e ∙ ap (λ (u : ℤ). lift subtract u z) (n tt) ∙ lift_nothing subtract z tt
sample_same true negate v z y m n h e =
    let u : lift negate (pos 0) z ≡ y = sym (ap (λ (u : ℤ). lift negate u z) (n tt)) ∙ e in
    let first = (h tt).0 in
    let second = (h tt).1 in
    let total = add_difference (neg_ℤ z) (pos 0) in
    let negative = neg_parts z in
    let positive = ap pos_part u in
    let below = ap neg_part u in
    eq_parts y z (omega arith)

module _ (m : ℕ) where
  -- what the steps negate is not negative
  abbrev Positive : List Step → Planes → Type 0
  Positive [] p = Unit {0}
  Positive (x ∷ l) p = (T (negates x.lifting) → AllIn 0 m (get p x.plane)) × Positive l p

  positive : (l : List Step) (p : Planes) → ((c : Plane) → AllIn 0 m (get p c)) → Positive l p
  positive [] p h = tt
  positive (x ∷ l) p h = (λ n. h x.plane, positive l p h)

  spared : (l : List Step) (p : Planes) (c : Plane) (a : List ℤ) → Spared l c → Positive l p → Positive l (put p c a)
  spared [] p c a d h = tt
  spared (x ∷ l) p c a d h =
      (λ n. subst (AllIn 0 m) (sym (get_other p x.plane c a (not_both (same_plane x.plane c) (negates x.lifting) d.0 n))) (h.0 n), spared l p c a d.1 h.1)

module _ (σ : Setup) (unchanged : (z : ℤ) → σ.keep z ≡ z) (m : ℕ) where
  step_same : (x : Step) (p r : Planes) → Unread x.term x.plane → (T (negates x.lifting) → AllIn 0 m (get p x.plane) × AllIn 0 m (get r x.plane))
      → step (unskipped σ) x p ≡ step σ x r → r ≡ p
  step_same x p r d h e = others ∙ ap (put p c) (ext_at (get r c) (get p c) long same) ∙ put-get p c
    where
      c : Plane
      c = x.plane

      others : r ≡ put p c (get r c)
      others = others_same p r c (λ b g. sym (get_other r b c _ g) ∙ ap (λ (q : Planes). get q b) (sym e) ∙ get_other p b c _ g)

      same_value : (i : ℕ) → value σ r x.term i ≡ value σ p x.term i
      same_value i = ap (λ (q : Planes). value σ q x.term i) others ∙ value_put σ p c (get r c) x.term d i

      changed : map_indexed (lifted (unskipped σ) p x) 0 (get p c) ≡ map_indexed (lifted σ r x) 0 (get r c)
      changed = sym (get-put p c _) ∙ ap (λ (q : Planes). get q c) e ∙ get-put r c _

      long : length (get r c) ≡ length (get p c)
      long = sym (length-map_indexed (lifted σ r x) 0 (get r c)) ∙ ap length (sym changed) ∙ length-map_indexed (lifted (unskipped σ) p x) 0 (get p c)

      same : (k : ℕ) → k < length (get r c) → at (get r c) k ≡ at (get p c) k
      same k b =
          let v = value σ p x.term k in
          let y = at (get r c) k in
          let z = at (get p c) k in
          let at_p : at (map_indexed (lifted (unskipped σ) p x) 0 (get p c)) k ≡ lift x.lifting v z =
          at_mapped (lifted (unskipped σ) p x) (get p c) k (omega (arith, long)) ∙ unchanged _ ∙ ap (λ (u : ℤ). lift x.lifting u z) (unskipped_value σ unchanged p x.term k) in
          let at_r : at (map_indexed (lifted σ r x) 0 (get r c)) k ≡ cond (skipped σ x.term k) y (lift x.lifting v y) =
          at_mapped (lifted σ r x) (get r c) k b
          ∙ ap (cond (skipped σ x.term k) y) (unchanged _ ∙ ap (λ (u : ℤ). lift x.lifting u y) (same_value k)) in
          sample_same (skipped σ x.term k) x.lifting v z y m (λ s. null_value σ unchanged p x.term k ((and_iff σ.skips (all_null σ x.term k)).0 s).1)
          (λ g. ((h g).0.each k, (h g).1.each k)) (sym at_p ∙ ap (λ (l : List ℤ). at l k) changed ∙ at_r)

  run_same : (l : List Step) → Separate l → (p r : Planes) → Positive m l p → Positive m l r → run (unskipped σ) l p ≡ run σ l r → r ≡ p
  run_same [] d p r f g e = sym e
  run_same (x ∷ l) d p r f g e =
      step_same x p r d.0 (λ n. (f.0 n, g.0 n))
      (sym (run_same l d.2 (step (unskipped σ) x p) (step σ x r) (spared m l p x.plane _ d.1 f.1) (spared m l r x.plane _ d.1 g.1) e))

pub no_other_picture : NoOtherPicture
unfolding transformed
no_other_picture β s φ p r h e =
    let l = steps s.transform in
    let g = ((inverse_iff Plain β s φ r (run (unskipped (setup Plain β s φ)) l p)).0 e).1 in
    run_same (setup Plain β s φ) (λ z. refl) m l (separate s.transform) p r (positive m l p (samples h)) (positive m l r (samples g.picture)) (sym g.goes)
  where
    -- the highest of all samples
    m : ℕ
    m = max (max_sample s.depths.c1) (max (max_sample s.depths.c2) (max_sample s.depths.c3))

    samples : {u : Planes} → Picture s u → (c : Plane) → AllIn 0 m (get u c)
    samples {u} i =
        each_plane (λ (c : Plane). AllIn 0 m (get u c))
        (all_wider (i.samples C1) (omega arith) (omega arith))
        (all_wider (i.samples C2) (omega arith) (omega arith))
        (all_wider (i.samples C3) (omega arith) (omega arith))
