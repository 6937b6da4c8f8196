-- Demand 3: the inverse accepts exactly the planes that a picture goes to, and leaves that picture.
use mathlib.Core.Path.{◌≡◌, refl, ap, sym, ◌∙◌, subst}
use mathlib.Core.Bool.{Bool, true, false, cond}
use mathlib.Core.Logic.{◌↔◌}
use mathlib.Core.List.{List, [], ◌∷◌, ◌++◌}
use Prim.Native.Nat.{ℕ}
use native.Mathlib.Omega.{arith}
use lib.Dec.{T, ltb}
use Rattle.integers.specs.Lists.{AllIn}
use Rattle.integers.proofs.Booleans.{fails_false}
use Rattle.integers.proofs.Lists.{all_within_iff}
use Rattle.stage.specs.Answers.{Test, ◌else◌, Outcome, refusal, done, refused}
use Rattle.stage.specs.Settings.{Settings, Form, Plain, Wrapped, Bands, depths_suit}
use Rattle.stage.specs.Planes.{Plane, Triple, Planes, get}
use Rattle.stage.specs.Steps.{steps}
use Rattle.stage.specs.Ranges.{Range, sample_ranges, form_ranges, within_range, within_ranges, InRanges}
use Rattle.stage.specs.Transform.{choices_fit, lengths, settings_tests, Fit, HasSize, setup, transformed, untransformed, is_picture, reachable, unreachable, forward, inverse}
use Rattle.stage.specs.Demand3.{GoesTo, accepted, Demand3, Demand3Holds, CallsInverse}
use Rattle.stage.proofs.Answers.{refusal_past, holds_append, done_refusal, outcome_refused, outcome_iff}
use Rattle.stage.proofs.Validity.{fit_iff}
use Rattle.stage.proofs.Triples.{each_test}
use Rattle.stage.proofs.Reversal.{undo_length}
use Rattle.stage.proofs.Forms.{forms_cancel, same_size, samples_kept, wrapped_undo_in, goes_within}

-- ---- the tests, as facts
pub within_ranges_iff : (r : Triple Range) (p : Planes) → T (within_ranges r p) ↔ InRanges r p
within_ranges_iff r p =
    let e = each_test (λ c. within_range (get r c) (get p c)) in
    let one : (c : Plane) → T (within_range (get r c) (get p c)) ↔ AllIn (get r c).below (get r c).above (get p c) = λ c. all_within_iff (get r c).below (get r c).above (get p c) in
    (λ t c. (one c).0 (e.0 t c), λ w. e.1 (λ c. (one c).1 (w c)))

-- what is reachable a picture goes to: the plain forms are undone and then tested, the wrapped ones tested at once
pub leads : (κ : Form) (β : Bands) (s : Settings) (φ : List ℕ) (q : Planes) → T (depths_suit κ s.depths) → HasSize s q → T (reachable κ β s φ q)
    → GoesTo κ β s φ (untransformed κ β s φ q) q
unfolding untransformed
leads Plain β s φ q d z t = record {
  picture = record {
    size = λ c. undo_length (setup Plain β s φ) (steps s.transform) q c ∙ z c;
    samples = (within_ranges_iff (sample_ranges s) (untransformed Plain β s φ q)).0 t;
  };
  goes = (forms_cancel Plain β s φ q (λ c k. refl)).1;
}
leads Wrapped β s φ q d z t =
    let i = (within_ranges_iff (sample_ranges s) q).0 t in
    record {
      picture = record {
        size = λ c. undo_length (setup Wrapped β s φ) (steps s.transform) q c ∙ z c;
        samples = wrapped_undo_in β s φ d q i (steps s.transform);
      };
      goes = (forms_cancel Wrapped β s φ q (samples_kept β s φ Wrapped d q i)).1;
    }

pub undone : (κ : Form) (β : Bands) (s : Settings) (φ : List ℕ) (p q : Planes) → T (depths_suit κ s.depths) → GoesTo κ β s φ p q → untransformed κ β s φ q ≡ p
undone κ β s φ p q d g = ap (untransformed κ β s φ) (sym g.goes) ∙ (forms_cancel κ β s φ p (samples_kept β s φ κ d p g.picture.samples)).0

reached : (κ : Form) (β : Bands) (s : Settings) (φ : List ℕ) (p q : Planes) → T (depths_suit κ s.depths) → GoesTo κ β s φ p q → T (reachable κ β s φ q)
reached Plain β s φ p q d g =
    subst (λ (x : Planes). T (is_picture s x)) (sym (undone Plain β s φ p q d g)) ((within_ranges_iff (sample_ranges s) p).1 g.picture.samples)
reached Wrapped β s φ p q d g = (within_ranges_iff (sample_ranges s) q).1 (goes_within Wrapped β s φ p q d g)

-- the last number, as those of the settings' tests, is not 0
unreachable_some : (κ : Form) → T (ltb 0 (unreachable κ))
unreachable_some Plain = tt
unreachable_some Wrapped = tt

module _ (κ : Form) (β : Bands) (s : Settings) (φ : List ℕ) where
  abbrev tests : Bool → ℕ → Planes → List Test
  tests ok n x = settings_tests κ β s (choices_fit β s φ) (lengths x) ++ (ok else n) ∷ []

  -- ---- what the two calls decide
  module _ (p q : Planes) where
    pub forward_iff : (forward κ β s φ p ≡ accepted q) ↔ (Fit κ β s φ × GoesTo κ β s φ p q)
    unfolding forward
    forward_iff =
        let i = outcome_iff tt (transformed κ β s φ p) p (tests (is_picture s p) 11 p) (tt, (tt, (tt, (tt, (tt, (tt, (tt, (tt, tt)))))))) q in
        let a = holds_append (settings_tests κ β s (choices_fit β s φ) (lengths p)) ((is_picture s p else 11) ∷ []) in
        let f = fit_iff κ β s φ p in
        let r = within_ranges_iff (sample_ranges s) p in (
          λ e. let k = i.0 e in let m = a.0 k.0 in let n = f.0 m.0 in
              (n.0, record { picture = record { size = n.1; samples = r.0 m.1.0 }; goes = k.1 }),
          λ g. i.1 (a.1 (f.1 (g.0, g.1.picture.size), (r.1 g.1.picture.samples, tt)), g.1.goes),
        )

    pub inverse_iff : (inverse κ β s φ q ≡ accepted p) ↔ (Fit κ β s φ × GoesTo κ β s φ p q)
    unfolding inverse
    inverse_iff =
        let u = untransformed κ β s φ q in
        let ok = reachable κ β s φ q in
        let i = outcome_iff tt u q (tests ok (unreachable κ) q) (tt, (tt, (tt, (tt, (tt, (tt, (tt, (unreachable_some κ, tt)))))))) p in
        let a = holds_append (settings_tests κ β s (choices_fit β s φ) (lengths q)) ((ok else unreachable κ) ∷ []) in
        let f = fit_iff κ β s φ q in (
          λ e. let k = i.0 e in let m = a.0 k.0 in let n = f.0 m.0 in
              (n.0, subst (λ (x : Planes). GoesTo κ β s φ x q) k.1 (leads κ β s φ q n.0.depths n.1 m.1.0)),
          λ g. let d = g.0.depths in
              i.1 (
                a.1 (f.1 (g.0, λ c. same_size κ β s φ p q g.1.goes c ∙ g.1.picture.size c), (reached κ β s φ p q d g.1, tt)),
                undone κ β s φ p q d g.1,
              ),
        )

  module _ (fit : Fit κ β s φ) (q : Planes) (size : HasSize s q) where
    abbrev u : Planes
    u = untransformed κ β s φ q

    abbrev ok : Bool
    ok = reachable κ β s φ q

    last_test : refusal (tests ok (unreachable κ) q) ≡ cond ok 0 (unreachable κ)
    last_test = refusal_past (settings_tests κ β s (choices_fit β s φ) (lengths q)) ((ok else unreachable κ) ∷ []) ((fit_iff κ β s φ q).1 (fit, size))

    accepts_reachable : (inverse κ β s φ q).reply ≡ done tt → T ok
    unfolding inverse
    accepts_reachable e = go κ ok (sym last_test ∙ done_refusal tt u q (tests ok (unreachable κ) q) tt e)
      where
        go : (κ : Form) (x : Bool) → cond x 0 (unreachable κ) ≡ 0 → T x
        go κ true e = tt
        go Plain false e = absurd (omega arith)
        go Wrapped false e = absurd (omega arith)

    none_refused : ((p : Planes) → GoesTo κ β s φ p q → ⊥) → inverse κ β s φ q ≡ record { reply = refused (unreachable κ); memory = q }
    unfolding inverse
    none_refused f =
        outcome_refused tt u q (tests ok (unreachable κ) q) (unreachable κ)
        (sym (last_test ∙ ap (λ (x : Bool). cond x 0 (unreachable κ)) (fails_false ok (λ k. f u (leads κ β s φ q fit.depths size k))))) (some κ)
      where
        some : (κ : Form) → unreachable κ ≡ 0 → ⊥
        some Plain e = omega arith
        some Wrapped e = omega arith

    pub demand3 : Demand3 κ β s φ q
    demand3 =
        let d = fit.depths in
        let none : (InRanges (form_ranges κ s) q → ⊥) → (p : Planes) → GoesTo κ β s φ p q → ⊥ = λ f p g. f (goes_within κ β s φ p q d g) in
        record {
          accepts = (
            λ e. (u, leads κ β s φ q d size (accepts_reachable e)),
            λ g. ap (λ (o : Outcome (Unit {0}) Planes). o.reply) ((inverse_iff g.0 q).1 (fit, g.1)),
          );
          leaves = λ p g. (inverse_iff p q).1 (fit, g);
          only = λ p r g k. sym (undone κ β s φ r q d k) ∙ undone κ β s φ p q d g;
          again = λ p g. (forward_iff p q).1 (fit, g);
          refuses = none_refused;
          within = λ p g. goes_within κ β s φ p q d g;
          outside = λ f. none_refused (none f);
        }

pub demand3_holds : Demand3Holds
demand3_holds κ β s φ f q size = demand3 κ β s φ f q size

pub calls_inverse : CallsInverse
calls_inverse κ β s φ p q = (
  λ e. (inverse_iff κ β s φ p q).1 ((forward_iff κ β s φ p q).0 e),
  λ e. (forward_iff κ β s φ p q).1 ((inverse_iff κ β s φ p q).0 e),
)
