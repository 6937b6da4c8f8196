-- What a picture goes to can be written.
use mathlib.Core.Path.{◌≡◌, ◌∙◌}
use mathlib.Core.List.{List}
use Prim.Native.Nat.{ℕ, ◌≤◌}
use lib.Dec.{T, leb, le→leb}
use lib.ListN.{length}
use borrow.Author.Tests.{eq-eqb}
use Rattle.integers.proofs.Booleans.{true_holds, and_iff}
use Rattle.integers.proofs.Lists.{all_within_iff}
use Rattle.stage.specs.declared.Bands.{Bands}
use Rattle.stage.specs.declared.Form.TheVariants.{Plain}
use Rattle.stage.specs.declared.Plane.{Plane}
use Rattle.stage.specs.declared.Range.{Range}
use Rattle.stage.specs.declared.Settings.{Settings}
use Rattle.stage.specs.Answers.{done, between}
use Rattle.stage.specs.Settings.{pixels}
use Rattle.stage.specs.Planes.{Planes, get}
use Rattle.stage.specs.Ranges.{extent}
use Rattle.stage.specs.Transform.{forward}
use Rattle.stage.specs.Demand3.{accepted}
use Rattle.stage.specs.Graymap.{plane_of, plane_range, graymap_of, write_tests, graymap_written}
use Rattle.stage.proofs.Answers.{holds_refusal, outcome_done, sized_iff}
use Rattle.stage.proofs.Validity.{depths_iff}
use Rattle.stage.proofs.Forms.{same_size, goes_within}
use Rattle.stage.proofs.Demand3.{forward_iff}
use Rattle.graymap.specs.Parts.{with_file}
use Rattle.graymap.specs.RoundTrips.{FinishedWritten}

module _ (β : Bands) (s : Settings) (φ : List ℕ) (p q : Planes) (n : ℕ) (buffer : List ℕ) (e : forward Plain β s φ p ≡ accepted q) (number : T (between 1 3 n)) where
  abbrev c : Plane
  c = plane_of n

  abbrev r : Range
  r = plane_range s.depths s.transform n

  abbrev f : List ℕ
  f = graymap_of s.width s.height r (get q c)

  written : extent r ≤ 65535 → length f ≤ length buffer → graymap_written s n (get q c) buffer ≡ record { reply = done (length f); memory = with_file f buffer }
  unfolding graymap_written
  written narrow room =
      let g = (forward_iff Plain β s φ p q).0 e in
      let a = g.0.allowed in
      outcome_done (length f) (with_file f buffer) buffer (write_tests s n (get q c) (length buffer))
      (holds_refusal (write_tests s n (get q c) (length buffer)) (
        (sized_iff s.width s.height).1 ((a.width_least, a.width_most), (a.height_least, a.height_most)),
        (
          (depths_iff s).1 (λ k. (a.depth_least k, a.depth_most k)),
          (
            (and_iff (leb s.transform 3) (between 1 3 n)).1 (le→leb s.transform 3 a.transform_most, number),
            (
              true_holds (eq-eqb (length (get q c)) (pixels s) (same_size Plain β s φ p q g.1.goes c ∙ g.1.picture.size c)),
              (
                le→leb (extent r) 65535 narrow,
                (
                  le→leb (length f) (length buffer) room,
                  ((all_within_iff r.below r.above (get q c)).1 (goes_within Plain β s φ p q tt g.1 c), tt),
                ),
              ),
            ),
          ),
        ),
      ))

pub finished_written : FinishedWritten
finished_written = written
