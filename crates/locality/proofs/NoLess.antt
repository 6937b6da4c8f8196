-- One less than each distance is too little: examples, computed. A line of grey pixels, and the same with a lighter number at its end, a distance
-- away from the first pixel; all filters are 1. The same planes are a row and a column.
use mathlib.Core.Path.{◌≡◌, refl, ap}
use mathlib.Core.List.{List, [], ◌∷◌, ◌++◌}
use Prim.Native.Nat.{ℕ, zero, suc, ◌+◌, ◌*◌, ◌-◌, ◌<◌}
use native.Mathlib.Nat.{not-suc-le-zero, le_of_suc-le-suc, mul-le-mul_right}
use native.Mathlib.Omega.{arith}
use lib.Dec.{T, ltb, leb→le, lit≤}
use lib.IntN.{ℤ, pos, ◌+ℤ◌}
use lib.ListN.{get_or, replicate}
use Rattle.integers.specs.Parts.{pos_part, neg_part, floor_mod}
use Rattle.integers.specs.Lists.{at, all_within}
use Rattle.stage.specs.declared.Plane.{Plane}
use Rattle.stage.specs.declared.Plane.TheVariants.{C1, C2, C3}
use Rattle.stage.specs.declared.Settings.{Settings}
use Rattle.stage.specs.declared.Form.{Form}
use Rattle.stage.specs.declared.Form.TheVariants.{Plain, Wrapped}
use Rattle.stage.specs.Answers.{done}
use Rattle.stage.specs.Settings.{each, settings_of}
use Rattle.stage.specs.declared.Triple.{Triple}
use Rattle.stage.specs.Planes.{Planes, triple, get, put, map_triple}
use Rattle.stage.specs.Filter.{filtered, mean}
use Rattle.stage.specs.Steps.{places, steps}
use Rattle.stage.specs.Transform.{transformed, untransformed, forward, inverse}
use Rattle.stage.proofs.Triples.{put_both}
use Rattle.locality.specs.Reach.{Way, there, back, distance}
use Rattle.locality.specs.Parts.{SamePixel, apart, Near}
use Rattle.locality.specs.Locality.{call, ReachesFurther, NoLess}

-- n numbers g and then z
abbrev line : ℕ → ℤ → ℤ → List ℤ
line n g z = replicate n g ++ z ∷ []

line_same : (n : ℕ) (g y z : ℤ) (i : ℕ) → i < n → at (line n g y) i ≡ at (line n g z) i
line_same zero g y z i h = absurd (not-suc-le-zero h)
line_same (suc n) g y z zero h = refl
line_same (suc n) g y z (suc i) h = line_same n g y z i (le_of_suc-le-suc h)

-- grey pixels, or what they go to
abbrev grey : Way → (t : ℕ) → Triple ℤ
grey there t = triple (pos 1000) (pos 1000) (pos 1000)
grey back t = get_or (triple (pos 0) (pos 1000) (pos 0) ∷ triple (pos 0) (pos 0) (pos 1000) ∷ []) t (triple (pos 1000) (pos 0) (pos 0))

-- n and one more of them, the last one's number in plane e greater by z
abbrev lighter : (g : Triple ℤ) (n : ℕ) (e : Plane) (z : ℕ) → Planes
lighter g n e z = put (map_triple (λ a. line n a a) g) e (line n (get g e) (get g e +ℤ pos z))

lighter_same : (g : Triple ℤ) (n : ℕ) (e : Plane) (y z : ℕ) (i : ℕ) → i < n → SamePixel (lighter g n e y) (lighter g n e z) i i
lighter_same g n e y z i h =
    put_both (λ _ (a b : List ℤ). at a i ≡ at b i) _ _ (λ c. refl) (line n (get g e) (get g e +ℤ pos y)) (line n (get g e) (get g e +ℤ pos z)) e
    (line_same n (get g e) (get g e +ℤ pos y) (get g e +ℤ pos z) i h)

-- numbers whose parts differ
parted : (y z : ℤ) → T (ltb 0 (apart (pos_part y) (pos_part z) + apart (neg_part y) (neg_part z))) → y ≡ z → ⊥
parted y z t e =
    let p = ap pos_part e in
    let n = ap neg_part e in
    omega (arith, leb→le 1 (apart (pos_part y) (pos_part z) + apart (neg_part y) (neg_part z)) t)

-- lighter in plane e, seen in plane c
module _ (way : Way) (κ : Form) (t : ℕ) (e c : Plane) (some : 0 < distance way t) where
  abbrev planes : ℕ → Planes
  planes z = lighter (grey way t) (distance way t) e z

  abbrev ones : List ℕ
  ones = replicate (places (steps t)) 1

  abbrev left : Settings → ℕ → ℤ
  left s z = at (get (call way κ s ones (planes z)).memory c) 0

  -- what is computed: both are accepted, and leave numbers whose parts differ
  abbrev Seen : Settings → Type 0
  Seen s =
      ((call way κ s ones (planes 0)).reply ≡ done tt)
      × ((call way κ s ones (planes 648)).reply ≡ done tt)
      × T (ltb 0 (apart (pos_part (left s 0)) (pos_part (left s 648)) + apart (neg_part (left s 0)) (neg_part (left s 648))))

  further : (s : Settings) → Seen s → ((x y : ℕ) → x < s.width → y < s.height → Near (distance way t - 1) 0 0 x y → y * s.width + x < distance way t)
      → ReachesFurther way κ s (distance way t - 1)
  further s h nearer = record {
    choices = ones;
    first = planes 0;
    second = planes 648;
    plane = c;
    accepts_first = h.0;
    accepts_second = h.1;
    agree = λ x y i j n. lighter_same (grey way t) (distance way t) e 0 648 (y * s.width + x) (nearer x y i j n);
    differ = parted (left s 0) (left s 648) h.2;
  }

  abbrev row : Settings
  row = settings_of (suc (distance way t)) 1 (each 16) t

  abbrev column : Settings
  column = settings_of 1 (suc (distance way t)) (each 16) t

  both : Seen row → Seen column → ReachesFurther way κ row (distance way t - 1) × ReachesFurther way κ column (distance way t - 1)
  both r s = (
    further row r (λ x y i j n. omega (arith, n.columns, mul-le-mul_right {m = y} {n = 0} (suc (distance way t)) (omega arith))),
    further column s (λ x y i j n. omega (arith, n.rows)),
  )

pub no_less : NoLess
unfolding forward inverse transformed untransformed filtered mean all_within floor_mod
no_less there Plain zero h = both there Plain 0 C2 C2 (lit≤ tt) (refl, refl, tt) (refl, refl, tt)
no_less there Plain (suc zero) h = both there Plain 1 C3 C3 (lit≤ tt) (refl, refl, tt) (refl, refl, tt)
no_less there Plain (suc (suc zero)) h = both there Plain 2 C2 C3 (lit≤ tt) (refl, refl, tt) (refl, refl, tt)
no_less there Plain (suc (suc (suc zero))) h = both there Plain 3 C1 C3 (lit≤ tt) (refl, refl, tt) (refl, refl, tt)
no_less there Plain (suc (suc (suc (suc t)))) h = absurd (omega arith)
no_less there Wrapped zero h = both there Wrapped 0 C2 C2 (lit≤ tt) (refl, refl, tt) (refl, refl, tt)
no_less there Wrapped (suc zero) h = both there Wrapped 1 C3 C3 (lit≤ tt) (refl, refl, tt) (refl, refl, tt)
no_less there Wrapped (suc (suc zero)) h = both there Wrapped 2 C2 C3 (lit≤ tt) (refl, refl, tt) (refl, refl, tt)
no_less there Wrapped (suc (suc (suc zero))) h = both there Wrapped 3 C1 C3 (lit≤ tt) (refl, refl, tt) (refl, refl, tt)
no_less there Wrapped (suc (suc (suc (suc t)))) h = absurd (omega arith)
no_less back Plain zero h = both back Plain 0 C1 C1 (lit≤ tt) (refl, refl, tt) (refl, refl, tt)
no_less back Plain (suc zero) h = both back Plain 1 C2 C2 (lit≤ tt) (refl, refl, tt) (refl, refl, tt)
no_less back Plain (suc (suc zero)) h = both back Plain 2 C1 C3 (lit≤ tt) (refl, refl, tt) (refl, refl, tt)
no_less back Plain (suc (suc (suc zero))) h = both back Plain 3 C2 C2 (lit≤ tt) (refl, refl, tt) (refl, refl, tt)
no_less back Plain (suc (suc (suc (suc t)))) h = absurd (omega arith)
no_less back Wrapped zero h = both back Wrapped 0 C1 C1 (lit≤ tt) (refl, refl, tt) (refl, refl, tt)
no_less back Wrapped (suc zero) h = both back Wrapped 1 C2 C2 (lit≤ tt) (refl, refl, tt) (refl, refl, tt)
no_less back Wrapped (suc (suc zero)) h = both back Wrapped 2 C1 C3 (lit≤ tt) (refl, refl, tt) (refl, refl, tt)
no_less back Wrapped (suc (suc (suc zero))) h = both back Wrapped 3 C2 C2 (lit≤ tt) (refl, refl, tt) (refl, refl, tt)
no_less back Wrapped (suc (suc (suc (suc t)))) h = absurd (omega arith)
