-- The cases hold of the definitions, by computation.
use mathlib.Core.Path.{◌≡◌, refl, ap, ap₂}
use mathlib.Core.List.{[], ◌∷◌}
use Prim.Native.Nat.{ℕ, ◌*◌, ◌-◌, ◌≤◌}
use native.Mathlib.Omega.{arith}
use lib.Dec.{lit≤}
use lib.Ieee.{size}
use Rattle.integers.specs.Parts.{floor_mod}
use Rattle.integers.specs.Lists.{all_within}
use Rattle.stage.specs.Decimal.{is_digit, decimal, digit_count, after_digits, digits, numeral}
use Rattle.stage.specs.Filter.{filtered, mean}
use Rattle.stage.specs.Transform.{forward, inverse, transformed, untransformed}
use Rattle.stage.specs.Logarithm.{L}
use Rattle.stage.specs.Estimate.{med, prediction, residual, counted, counted_index, occurrences, histogram, total, log_sum, estimate_of_counts, plane_estimate, picture_estimate}
use Rattle.stage.specs.Search.{winner, round, rounds, searched, choices_estimate, estimate_call, search_call, estimate_in_place, search_in_place}
use Rattle.stage.specs.Raster.{from_pairs, to_pairs}
use Rattle.stage.specs.Pixmap.{is_white, ends_stretch, stays_inside, after_stretch, field, header_text, depth_among, file_of, header_of, raster_of, every_third, planes_of}
use Rattle.stage.specs.Graymap.{written_header, graymap_written, graymap_read}
use Rattle.stage.specs.Case.{count}
use Rattle.stage.specs.Cases.{marked, CasesHold}
use Rattle.stage.specs.FilterCases.{one_colour, filter_cases, counted_cases, FilterCasesHold}
use Rattle.stage.specs.TransformCases.{plane_cases, null_cases, limit_cases, order_cases, TransformCasesHold}
use Rattle.stage.specs.DepthCases.{depth_range_cases, depth_cases, DepthCasesHold}
use Rattle.stage.specs.WrappedCases.{wrapped_cases, kept_cases, refusal_cases, WrappedCasesHold}
use Rattle.stage.specs.BandCases.{band_cases, band_step_cases, band_refusal_cases, BandCasesHold}
use Rattle.stage.specs.SearchCases.{estimate_cases, tie_cases, scratch_cases, in_place_cases, EstimateCasesHold, TieCasesHold}
use Rattle.stage.specs.PixmapCases.{text_cases, file_cases, planes_cases, PixmapCasesHold}
use Rattle.stage.specs.GraymapCases.{raster_cases, write_cases, write_order_cases, read_cases, read_order_cases, GraymapCasesHold}
use Rattle.stage.proofs.OneColour.{one_colour_lem}

pub cases_hold : CasesHold
unfolding marked forward inverse transformed untransformed filtered mean all_within med L size total log_sum estimate_of_counts
cases_hold = refl

-- by how the colour's residuals occur: to count 4,096 of them one by one would take too long
one_colour_case : (w t e : ℕ) → 1 ≤ w → 2 ≤ t → 3 * estimate_of_counts ((counted t - 1) ∷ 1 ∷ []) ≡ e → count (picture_estimate w (one_colour t)) ≡ count e
unfolding picture_estimate
one_colour_case w t e p h f = ap count (rw (one_colour_lem w t 9 p h, one_colour_lem w t 199 p h, one_colour_lem w t 59 p h) (omega (arith, f)))

pub filter_cases_hold : FilterCasesHold
unfolding filter_cases counted_cases filtered mean med prediction residual counted counted_index occurrences histogram L size total log_sum estimate_of_counts plane_estimate
filter_cases_hold = (refl, ap₂ ◌∷◌ (one_colour_case 64 4096 _ (lit≤ tt) (lit≤ tt) refl) (ap₂ ◌∷◌ (one_colour_case 17 4097 _ (lit≤ tt) (lit≤ tt) refl) refl))

pub transform_cases_hold : TransformCasesHold
unfolding plane_cases null_cases limit_cases order_cases forward inverse transformed untransformed filtered mean all_within
transform_cases_hold = (refl, refl, refl, refl)

pub depth_cases_hold : DepthCasesHold
unfolding depth_range_cases depth_cases forward inverse transformed untransformed filtered mean all_within
depth_cases_hold = (refl, refl)

pub wrapped_cases_hold : WrappedCasesHold
unfolding wrapped_cases kept_cases refusal_cases floor_mod forward inverse transformed untransformed filtered mean all_within
wrapped_cases_hold = (refl, refl, refl)

pub band_cases_hold : BandCasesHold
unfolding band_cases band_step_cases band_refusal_cases floor_mod forward inverse transformed untransformed filtered mean all_within
band_cases_hold = (refl, refl, refl)

pub tie_cases_hold : TieCasesHold
unfolding tie_cases winner round rounds searched
tie_cases_hold = refl

pub estimate_cases_hold : EstimateCasesHold
unfolding estimate_cases scratch_cases in_place_cases transformed filtered mean all_within med prediction residual counted counted_index occurrences histogram L size total log_sum estimate_of_counts plane_estimate picture_estimate choices_estimate estimate_call search_call estimate_in_place search_in_place
estimate_cases_hold = (refl, refl, refl)

pub pixmap_cases_hold : PixmapCasesHold
unfolding text_cases file_cases planes_cases is_digit decimal digit_count after_digits digits numeral is_white ends_stretch stays_inside after_stretch field header_text depth_among file_of header_of raster_of from_pairs every_third planes_of
pixmap_cases_hold = (refl, refl, refl)

pub graymap_cases_hold : GraymapCasesHold
unfolding raster_cases write_cases write_order_cases read_cases read_order_cases is_digit decimal after_digits digits numeral is_white ends_stretch stays_inside after_stretch field header_text from_pairs to_pairs all_within written_header graymap_written graymap_read
graymap_cases_hold = (refl, refl, refl, refl, refl)
