-- The cases hold of the definitions, by computation.
use mathlib.Core.Path.{refl}
use lib.Ieee.{of_bits}
use Rattle.preview.specs.Quarters.{four_times}
use Rattle.preview.specs.PreviewCases.{colours, refusal_cases, float_cases, back_cases, PreviewCasesHold}

pub preview_cases_hold : PreviewCasesHold
unfolding of_bits four_times colours refusal_cases float_cases back_cases
preview_cases_hold =
    record { hvsct = (refl, refl); ycocg = (refl, refl); refusals = refl; floats = refl; backs = refl }
