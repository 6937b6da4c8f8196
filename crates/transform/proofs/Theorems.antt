-- Demand 3 and the two ways round, from the calls' promises.
use mathlib.Core.Path.{◌≡◌, refl, sym, ap, ◌∙◌, subst}
use mathlib.Core.Logic.{◌↔◌}
use mathlib.Core.List.{List}
use Prim.Native.Nat.{ℕ}
use native.Mathlib.Omega.{arith}
use Rattle.std.specs.Prelude.{Ok, Err}
use Rattle.stage.specs.declared.Settings.{Settings}
use Rattle.stage.specs.declared.Form.{Form}
use Rattle.stage.specs.declared.Form.TheVariants.{Plain, Wrapped}
use Rattle.stage.specs.declared.Bands.{Bands}
use Rattle.stage.specs.declared.Refusal.{Refusal}
use Rattle.stage.specs.declared.Refusal.TheVariants.{Sample}
use Rattle.stage.specs.Answers.{refused, Outcome, number_of, reply_of, outcome_of}
use Rattle.stage.specs.Planes.{Planes}
use Rattle.stage.specs.Ranges.{sample_ranges, InRanges}
use Rattle.stage.specs.Transform.{transformed, untransformed, inverse, unreachable}
use Rattle.stage.specs.Demand3.{GoesTo, accepted, Demand3}
use Rattle.stage.proofs.Forms.{goes_within}
use Rattle.stage.proofs.Demand3.{within_ranges_iff, leads, forward_iff, inverse_iff, demand3, calls_inverse}
use Rattle.stage.proofs.WrappedForms.{wrapped_refuses_outside}
use Rattle.stage.proofs.NullSteps.{nulls_leave_pictures}
use Rattle.stage.proofs.BandedForms.{bands_as_high}
use Rattle.stage.proofs.Answers.{reply_ok, reply_err, reply_is}
use Rattle.transform.specs.Calls.{Answer, unreached, ForwardThenInverse, InverseThenForward, CallsDemand3, CallsMeetDemand3, CallsLeaveNulls, BandsAsHighAsPicture, NeverWidens, CallsNeverWiden}

-- the parts of an outcome
module _ (r : Answer) (u : Planes) where
  accepted_is : {p : Planes} → outcome_of r u ≡ accepted p → (r ≡ Ok tt) × (u ≡ p)
  accepted_is e = (reply_ok r tt (ap (λ (o : Outcome (Unit {0}) Planes). o.reply) e), ap (λ (o : Outcome (Unit {0}) Planes). o.memory) e)

  refusal_is : {f : Refusal} {p : Planes} → outcome_of r u ≡ record { reply = refused (number_of f); memory = p } → (r ≡ Err f) × (u ≡ p)
  refusal_is {f} e = (reply_err r f (ap (λ (o : Outcome (Unit {0}) Planes). o.reply) e), ap (λ (o : Outcome (Unit {0}) Planes). o.memory) e)

pub forward_then_inverse : ForwardThenInverse
forward_then_inverse κ β s φ p q u r f i = accepted_is r u (i ∙ (calls_inverse κ β s φ p q).0 (sym f))

pub inverse_then_forward : InverseThenForward
inverse_then_forward κ β s φ q p u r i f = accepted_is r u (f ∙ (calls_inverse κ β s φ p q).1 (sym i))

unreached_is : (κ : Form) → unreachable κ ≡ number_of (unreached κ)
unreached_is Plain = refl
unreached_is Wrapped = refl

module _ (κ : Form) (β : Bands) (s : Settings) (φ : List ℕ) (q : Planes) (d : Demand3 κ β s φ q) (r : Answer) (u : Planes) (e : outcome_of r u ≡ inverse κ β s φ q) where
  goes : r ≡ Ok tt → (p : Planes) × GoesTo κ β s φ p q
  goes i = d.accepts.0 (sym (ap (λ (o : Outcome (Unit {0}) Planes). o.reply) e) ∙ ap reply_of i)

  leaves : (p : Planes) → GoesTo κ β s φ p q → (r ≡ Ok tt) × (u ≡ p)
  leaves p g = accepted_is r u (e ∙ d.leaves p g)

  picture : r ≡ Ok tt → GoesTo κ β s φ u q
  picture i = let g = goes i in subst (λ (p : Planes). GoesTo κ β s φ p q) (sym (leaves g.0 g.1).1) g.1

  meets : CallsDemand3 κ β s φ q r u
  meets = record {
    accepts = (goes, λ g. (leaves g.0 g.1).0);
    picture = picture;
    only = λ i p g. sym (leaves p g).1;
    again = λ i a v f. accepted_is a v (f ∙ d.again u (picture i));
    refuses = λ f. refusal_is r u (e ∙ d.refuses (λ p g. f (leaves p g).0) ∙ ap (λ (n : ℕ). record { reply = refused n; memory = q }) (unreached_is κ));
    within = λ i. d.within u (picture i);
  }

pub calls_meet_demand3 : CallsMeetDemand3
calls_meet_demand3 κ β s φ f q z r u e = meets κ β s φ q (demand3 κ β s φ f q z) r u e

pub calls_leave_nulls : CallsLeaveNulls
calls_leave_nulls κ β s p a d b h r q = let n = nulls_leave_pictures κ β s p a d b h in (λ f. accepted_is r q (f ∙ n.there), λ i. accepted_is r q (i ∙ n.back))

-- two calls that have one outcome
same_outcome : {r r' : Answer} {q q' : Planes} → outcome_of r q ≡ outcome_of r' q' → (r ≡ r') × (q ≡ q')
same_outcome {r} {r'} e = (reply_is r r' (ap (λ (o : Outcome (Unit {0}) Planes). o.reply) e), ap (λ (o : Outcome (Unit {0}) Planes). o.memory) e)

pub bands_as_high_as_picture : BandsAsHighAsPicture
bands_as_high_as_picture κ s φ p r r' q q' =
    let same = bands_as_high κ s φ p in
    (λ f g. same_outcome (f ∙ same.there ∙ sym g), λ f g. same_outcome (f ∙ same.back ∙ sym g))

-- ---- the wrapped calls
-- a call o, lent p, that refuses p with 11 exactly where it is outside 0 to M, and otherwise leaves u, within 0 to M
module _ (s : Settings) {p u : Planes} {o : Outcome (Unit {0}) Planes} (refuses : (o ≡ record { reply = refused 11; memory = p }) ↔ (InRanges (sample_ranges s) p → ⊥))
    (accepts : InRanges (sample_ranges s) p → (o ≡ accepted u) × InRanges (sample_ranges s) u) (r : Answer) (q : Planes) (e : outcome_of r q ≡ o) where
  outside : r ≡ Err Sample → InRanges (sample_ranges s) p → ⊥
  outside i h = let d = (accepted_is r q (e ∙ (accepts h).0)).0 in let z : ◌≡◌ {A = ℕ} 0 1 = cc in omega arith

  never_widens : NeverWidens s p r q
  never_widens = record {
    refuses = (outside, λ f. (refusal_is r q {f = Sample} (e ∙ refuses.1 f)).0);
    lent = λ i. (refusal_is r q {f = Sample} (e ∙ refuses.1 (outside i))).1;
    done = λ h. let d = accepted_is r q (e ∙ (accepts h).0) in (d.0, subst (InRanges (sample_ranges s)) (sym d.1) (accepts h).1);
  }

pub calls_never_widen : CallsNeverWiden
calls_never_widen β s φ fit p z r q =
    let refuses = wrapped_refuses_outside β s φ fit p z in
    let to : InRanges (sample_ranges s) p → GoesTo Wrapped β s φ p (transformed Wrapped β s φ p) =
    λ i. record { picture = record { size = z; samples = i }; goes = refl } in
    let from : InRanges (sample_ranges s) p → GoesTo Wrapped β s φ (untransformed Wrapped β s φ p) p =
    λ i. leads Wrapped β s φ p fit.depths z ((within_ranges_iff (sample_ranges s) p).1 i) in (
      never_widens s refuses.there (λ i. ((forward_iff Wrapped β s φ p _).1 (fit, to i), goes_within Wrapped β s φ p _ fit.depths (to i))) r q,
      never_widens s refuses.back (λ i. ((inverse_iff Wrapped β s φ _ p).1 (fit, from i), (from i).picture.samples)) r q,
    )
