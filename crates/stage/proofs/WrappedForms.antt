-- The wrapped forms take the planes of 0 to M to each other, one to one, and refuse all others.
use mathlib.Core.Path.{sym}
use mathlib.Core.Logic.{◌↔◌}
use lib.Dec.{T}
use lib.ListN.{take, drop}
use Rattle.stage.specs.Settings.{Wrapped}
use Rattle.stage.specs.Steps.{steps}
use Rattle.stage.specs.Ranges.{sample_ranges, InRanges}
use Rattle.stage.specs.Transform.{choices_fit, lengths, settings_tests, transformed, untransformed, is_picture, forward, inverse}
use Rattle.stage.specs.WrappedForms.{WrappedFromOnePicture, WrappedRefusesOutside, WrappedNeverWidens}
use Rattle.stage.proofs.Answers.{refused_iff}
use Rattle.stage.proofs.Validity.{fit_iff}
use Rattle.stage.proofs.Forms.{wrapped_run_in, wrapped_undo_in}
use Rattle.stage.proofs.Demand3.{within_ranges_iff, leads, undone}

pub wrapped_from_one_picture : WrappedFromOnePicture
wrapped_from_one_picture β s φ d q h = record {
  picture = untransformed Wrapped β s φ q;
  goes = leads Wrapped β s φ q d h.size ((within_ranges_iff (sample_ranges s) q).1 h.samples);
  only = λ p g. sym (undone Wrapped β s φ p q d g);
}

pub wrapped_never_widens : WrappedNeverWidens
wrapped_never_widens β s φ n p d i = record {
  there = wrapped_run_in β s φ d p i (take n (steps s.transform));
  back = wrapped_undo_in β s φ d p i (drop n (steps s.transform));
}

pub wrapped_refuses_outside : WrappedRefusesOutside
unfolding forward inverse
wrapped_refuses_outside β s φ f p size =
    let settings = (fit_iff Wrapped β s φ p).1 (f, size) in
    let i = within_ranges_iff (sample_ranges s) p in
    let none : (T (is_picture s p) → ⊥) ↔ (InRanges (sample_ranges s) p → ⊥) = (λ g h. g (i.1 h), λ g t. g (i.0 t)) in
    let there = refused_iff tt (transformed Wrapped β s φ p) p (settings_tests Wrapped β s (choices_fit β s φ) (lengths p)) (is_picture s p) 11 settings tt in
    let back = refused_iff tt (untransformed Wrapped β s φ p) p (settings_tests Wrapped β s (choices_fit β s φ) (lengths p)) (is_picture s p) 11 settings tt in
    record { there = (λ e. none.0 (there.0 e), λ g. there.1 (none.1 g)); back = (λ e. none.0 (back.0 e), λ g. back.1 (none.1 g)) }
