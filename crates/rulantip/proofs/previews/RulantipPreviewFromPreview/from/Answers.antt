use borrow.Author.Rules.{rules}
use Rattle.std.specs.Float.Ieee.{of_bits}
use Rattle.preview.specs.Quarters.{four_times}
use Rattle.rulantip.proofs.previews.RulantipPreviewFromPreview.from.Goals as goal

-- beside a refusal: four times the float 0.0 is 0
pub returns-in-Refused : goal.returns-in-Refused
unfolding of_bits four_times
returns-in-Refused c = search rules
