-- What the calls leave at a spot, from their promises.
use mathlib.Core.Path.{◌≡◌, refl, sym, ap, ap₂, ◌∙◌}
use mathlib.Core.Bool.{Bool, true}
use mathlib.Core.List.{List, [], ◌∷◌, ◌++◌}
use Prim.Native.Nat.{ℕ, zero, suc, ◌*◌, ◌/◌, ◌%◌, ◌≤◌, ◌<◌}
use native.Mathlib.Nat.{mul_comm, mod-lt, div-add-mod, div-lt_iff_lt-mul}
use native.Mathlib.Omega.{arith}
use Rattle.integers.proofs.Booleans.{holds_true}
use Rattle.std.specs.Prelude.{Ok, Err}
use Rattle.stage.specs.declared.Settings.{Settings}
use Rattle.stage.specs.declared.Form.{Form}
use Rattle.stage.specs.declared.Bands.{Bands}
use Rattle.stage.specs.declared.Plane.TheVariants.{C1, C2, C3}
use Rattle.stage.specs.declared.Refusal.{Refusal}
use Rattle.stage.specs.Answers.{Reply, ◌else◌, answer, Outcome, number_of}
use Rattle.stage.specs.declared.Triple.{Triple}
use Rattle.stage.specs.Planes.{Planes, triple}
use Rattle.stage.specs.Ranges.{sample_ranges}
use Rattle.stage.specs.Steps.{Setup, steps}
use Rattle.stage.specs.Transform.{choices_fit, lengths, settings_tests, setup, transformed, untransformed, HasSize, Picture, is_picture, reachable, unreachable, forward, inverse}
use Rattle.stage.proofs.Answers.{refused_lent, reply_is}
use Rattle.stage.proofs.Setups.{run_same, undo_same}
use Rattle.stage.proofs.Forms.{same_size}
use Rattle.stage.proofs.Demand3.{within_ranges_iff, undone, forward_iff, inverse_iff}
use Rattle.locality.specs.Reach.{Way, there, back, along, distance}
use Rattle.locality.specs.Parts.{pixel_index, SamePixel, Corner, cut_setup, AgreeNear}
use Rattle.locality.proofs.Spots.{agree_away}
use Rattle.locality.proofs.Distances.{transform_local, transform_cut_out}
use Rattle.transform.specs.Calls.{Answer}
use Rattle.transform.specs.LocalCalls.{CallGives, cut_settings, SameFilters, CallsLocal, PicturesAnsweredAlike, CallsCutOut}

-- ---- what a call has done
-- done: the planes had the picture's size, and all steps have been run, or undone
module _ (κ : Form) (β : Bands) (s : Settings) (φ : List ℕ) (p q : Planes) where
  abbrev Went : Way → Type 0
  Went way = HasSize s p × (q ≡ along way (setup κ β s φ) (steps s.transform) p)

  went : (way : Way) → CallGives way κ β s φ p (Ok tt) q → Went way
  unfolding transformed untransformed
  went there e = let g = ((forward_iff κ β s φ p q).0 (sym e)).1 in (g.picture.size, sym g.goes)
  went back e =
      let i = (inverse_iff κ β s φ q p).0 (sym e) in
      let g = i.1 in
      ((λ c. same_size κ β s φ q p g.goes c ∙ g.picture.size c), sym (undone κ β s φ q p i.0.depths g))

-- refused: the planes are as lent
lent : (way : Way) (κ : Form) (β : Bands) (s : Settings) (φ : List ℕ) (p q : Planes) (n : Refusal) → CallGives way κ β s φ p (Err n) q → q ≡ p
unfolding forward inverse
lent there κ β s φ p q n e =
    refused_lent tt (transformed κ β s φ p) p (settings_tests κ β s (choices_fit β s φ) (lengths p) ++ (is_picture s p else 11) ∷ []) (number_of n) q (sym e)
lent back κ β s φ p q n e =
    refused_lent tt (untransformed κ β s φ p) p (settings_tests κ β s (choices_fit β s φ) (lengths p) ++ (reachable κ β s φ p else unreachable κ) ∷ []) (number_of n) q (sym e)

-- ---- near a spot
module _ (way : Way) (κ : Form) (β : Bands) (s : Settings) (φ : List ℕ) (p p' q q' : Planes) where
  near : (r : Answer) → CallGives way κ β s φ p r q → CallGives way κ β s φ p' r q' → (x y : ℕ) → x < s.width → y < s.height
      → AgreeNear s.width s.height (distance way s.transform) x y p p' → SamePixel q q' (pixel_index s.width x y) (pixel_index s.width x y)
  near (Ok tt) f g x y i j agree c =
      let m = went κ β s φ p q way f in
      let n = went κ β s φ p' q' way g in
      rw (m.1, n.1) (transform_local way s.transform (setup κ β s φ) p p' m.0 n.0 x y i j agree c)
  near (Err n) f g x y i j agree c =
      rw (lent way κ β s φ p q n f, lent way κ β s φ p' q' n g) (agree x y i j (record { columns = omega arith; rows = omega arith }) c)

pub calls_local : CallsLocal
calls_local way κ β s φ p p' q q' r f g = record {
  near = near way κ β s φ p p' q q' r f g;
  damage = λ x y agree x' y' i j far. near way κ β s φ p p' q q' r f g x' y' i j (agree_away agree far);
}

-- ---- a picture cut out
module _ (κ : Form) (β β' : Bands) (s : Settings) (φ φ' : List ℕ) (a : Corner) (u v : ℕ) (same : SameFilters β β' s φ φ' a u v) where
  abbrev cut : Setup
  cut = cut_setup (setup κ β s φ) a u v

  abbrev own : Setup
  own = setup κ β' (cut_settings s u v) φ'

  -- index i of the cut-out is its column i % u and row i / u
  filters : (k i : ℕ) → i < u * v → cut.filter k i ≡ own.filter k i
  filters k i h =
      let wide = some u h in
      let column = mod-lt i wide in
      let row : i / u < v = (div-lt_iff_lt-mul {k = u} {x = i} {y = v} wide).1 (omega (arith, mul_comm u v)) in
      sym (same k (i % u) (i / u) column row) ∙ ap (own.filter k) (omega (arith, div-add-mod i u))
    where
      some : (u : ℕ) → i < u * v → 1 ≤ u
      some zero l = absurd (omega arith)
      some (suc u) l = omega arith

  cut_same : (way : Way) (p : Planes) → HasSize (cut_settings s u v) p → along way own (steps s.transform) p ≡ along way cut (steps s.transform) p
  cut_same there p z = sym (run_same cut own refl refl refl (λ x. refl) (u * v) filters (steps s.transform) p z)
  cut_same back p z = sym (undo_same cut own refl refl refl (λ x. refl) (u * v) filters (steps s.transform) p z)

pub calls_cut_out : CallsCutOut
calls_cut_out way κ β β' s φ φ' a u v fits same p q q' f g x y h c =
    let m = went κ β s φ p q way f in
    let n = went κ β' (cut_settings s u v) φ' _ q' way g in
    rw (m.1, n.1, cut_same κ β β' s φ φ' a u v same way _ n.0) (transform_cut_out way s.transform (setup κ β s φ) a u v fits p m.0 x y h c)

-- ---- any two pictures
same_lengths : (s : Settings) (p q : Planes) → HasSize s p → HasSize s q → lengths p ≡ lengths q
same_lengths s p q m n = λ o. triple ((m C1 ∙ sym (n C1)) o) ((m C2 ∙ sym (n C2)) o) ((m C3 ∙ sym (n C3)) o)

pub pictures_answered_alike : PicturesAnsweredAlike
unfolding forward
pictures_answered_alike κ β s φ p p' q q' r r' a b f g =
    let is : (x : Planes) → Picture s x → is_picture s x ≡ true = λ x h. holds_true (is_picture s x) ((within_ranges_iff (sample_ranges s) x).1 h.samples) in
    let reply : Outcome (Unit {0}) Planes → Reply (Unit {0}) = λ o. o.reply in
    reply_is r r'
    (ap reply f
    ∙ ap₂ (λ (l : Triple ℕ) (x : Bool). answer (settings_tests κ β s (choices_fit β s φ) l ++ (x else 11) ∷ []) tt) (same_lengths s p p' a.size b.size) (is p a ∙ sym (is p' b))
    ∙ sym (ap reply g))
