-- The counts of a plane's residuals add up to N, so planes are near; so are pictures, and what the calls answer.
use mathlib.Core.Path.{◌≡◌, refl, ap, subst, ◌∙◌}
use mathlib.Core.Bool.{Bool}
use mathlib.Core.List.{List, [], ◌∷◌, ◌++◌}
use Prim.Native.Nat.{ℕ}
use native.Mathlib.Omega.{arith}
use lib.ListN.{length}
use Rattle.stage.specs.declared.Plane.{Plane}
use Rattle.stage.specs.declared.Plane.TheVariants.{C1, C2, C3}
use Rattle.stage.specs.declared.Settings.{Settings}
use Rattle.stage.specs.declared.Form.TheVariants.{Plain}
use Rattle.stage.specs.declared.Bands.TheVariants.{One}
use Rattle.stage.specs.Answers.{done, Test, ◌else◌, refusal, answer, between}
use Rattle.stage.specs.Settings.{pixels}
use Rattle.stage.specs.Planes.{Planes, get}
use Rattle.stage.specs.Steps.{steps}
use Rattle.stage.specs.Transform.{settings_tests, lengths, count_fits, choices_fit, setup, transformed, is_picture}
use Rattle.stage.specs.Estimate.{counted, counted_residual, plane_counts, plane_estimate, picture_estimate}
use Rattle.stage.specs.declared.Estimated.{Estimated}
use Rattle.stage.specs.Search.{Scratch, Lent, choices_estimate, estimated, winners, estimate_with, search_with, counters_fit, scratch_fits, cleared_scratch, cleared_counters, estimate_call, search_call, estimate_in_place, search_in_place}
use Rattle.stage.proofs.Answers.{Numbered, done_refusal, refusal_holds, holds_append}
use Rattle.stage.proofs.Validity.{ValidSettings, settings_iff, has_size, pixels_some}
use Rattle.stage.proofs.Reversal.{run_length}
use Rattle.stage.proofs.Prediction.{histogram_total}
use Rattle.stage.proofs.Counting.{counted_some}
use Rattle.entropy.specs.Entropy.{product, NearEntropy, PlaneNear, PictureNear, AnswerNear, CallsNear}
use Rattle.entropy.proofs.Bounds.{near_both, near_as, counts_near}

pub plane_near : PlaneNear
unfolding plane_estimate
plane_near w a h =
    let all = histogram_total (counted_residual w a) (counted (length a)) in
    rw all at (counts_near (plane_counts w a) (rw all (counted_some (length a) h)))

pub picture_near : PictureNear
unfolding picture_estimate
picture_near w t p h size =
    near_as (omega arith) refl refl (near_both (near_both (plane C1) (plane C2)) (plane C3))
  where
    plane : (c : Plane) → NearEntropy (counted t) (counted t) (product (plane_counts w (get p c))) (plane_estimate w (get p c))
    plane c =
        subst (λ (n : ℕ). NearEntropy n n (product (plane_counts w (get p c))) (plane_estimate w (get p c)))
        (ap counted (size c))
        (plane_near w (get p c) (rw (size c) h))

-- a call that succeeds passed the tests of its settings; l are those that follow
module _ (s : Settings) (p : Planes) (φ : List ℕ) (e : Estimated) (choices : Bool) (l : List Test) (k : Numbered l) where
  abbrev first : List Test
  first = settings_tests Plain One s choices (lengths p)

  passed : answer (first ++ l) (estimated s p φ) ≡ done e → refusal (first ++ l) ≡ 0
  passed = done_refusal (estimated s p φ) (tt {0}) (tt {0}) (first ++ l) e

  valid : answer (first ++ l) (estimated s p φ) ≡ done e → ValidSettings Plain One s choices (lengths p)
  valid a =
      let holds = refusal_holds (first ++ l) (tt, (tt, (tt, (tt, (tt, (tt, (tt, k))))))) (passed a) in
      (settings_iff Plain One s choices (lengths p)).0 ((holds_append first l).0 holds).0

  answer_near : answer (first ++ l) (estimated s p φ) ≡ done e → AnswerNear s p φ e
  unfolding choices_estimate transformed
  answer_near a =
      let v = valid a in
      let some = pixels_some v.allowed in
      let is : estimated s p φ ≡ e = let d = rw (passed a) at a in cc in
      let size : (c : Plane) → length (get (transformed Plain One s φ p) c) ≡ pixels s =
      λ c. run_length (setup Plain One s φ) (steps s.transform) p c ∙ has_size p v c in
      let near : AnswerNear s p φ (estimated s p φ) =
      record { some = counted_some (pixels s) some; near = picture_near s.width (pixels s) (transformed Plain One s φ p) some size } in
      rw is at near

-- the estimate and the search, whatever scratch they are lent
module _ (s : Settings) (p : Planes) (fits : Bool) (after : Scratch) (e : Estimated) where
  estimate_near : (φ : List ℕ) (m : Scratch) → (estimate_with s p fits after φ m).reply ≡ done e → AnswerNear s p φ e
  estimate_near φ m a = answer_near s p φ e (choices_fit One s φ) ((fits else 9) ∷ (is_picture s p else 11) ∷ []) (tt, (tt, tt)) a

  -- a search that succeeds leaves the winners
  search_near : (rounds : ℕ) (m : Lent) → (search_with s p fits after rounds m).reply ≡ done e → AnswerNear s p (search_with s p fits after rounds m).memory.choices e
  search_near rounds m a =
      let φ = winners s p rounds in
      let last = (fits else 9) ∷ (between 1 4 rounds else 10) ∷ (is_picture s p else 11) ∷ [] in
      let count = count_fits One s (length m.choices) in
      let found : (search_with s p fits after rounds m).memory.choices ≡ φ = rw (passed s p φ e count last (tt, (tt, (tt, tt))) a) in
      rw found (answer_near s p φ e count last (tt, (tt, (tt, tt))) a)

pub calls_near : CallsNear
unfolding estimate_call search_call estimate_in_place search_in_place
calls_near s e = record {
  estimate = λ p φ m a. estimate_near s p (scratch_fits s (lengths m.trials) (length m.counters)) (cleared_scratch m) e φ m a;
  search = λ p rounds m a.
      let l = m.scratch in search_near s p (scratch_fits s (lengths l.trials) (length l.counters)) (cleared_scratch l) e rounds m a;
  estimate_in_place = λ φ m a. estimate_near s m.trials (counters_fit s (length m.counters)) (cleared_counters m) e φ m a;
  search_in_place = λ rounds m a. let l = m.scratch in search_near s l.trials (counters_fit s (length l.counters)) (cleared_counters l) e rounds m a;
}
