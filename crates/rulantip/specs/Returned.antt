-- What the exported functions return: 0 for success, or a refusal's number. A struct's other fields are 0 on a refusal.
use Rattle.std.specs.Prelude.{ℕ}
use Rattle.stage.specs.Answers.{Reply, done, refused, Outcome, number}
use Rattle.stage.specs.declared.Estimated.{Estimated}
use Rattle.stage.specs.declared.Header.{Header}
use Rattle.stage.specs.declared.Size.{Size}
use Rattle.rulantip.specs.declared.searches.RulantipEstimated.{RulantipEstimated}
use Rattle.rulantip.specs.declared.files.RulantipPixmap.{RulantipPixmap}
use Rattle.rulantip.specs.declared.files.RulantipWritten.{RulantipWritten}
use Rattle.rulantip.specs.declared.files.RulantipGraymap.{RulantipGraymap}

-- a returned value, and what the lent memory holds
pub record Returned (R M : Type 0) : Type 0 where
  pub value : R
  pub memory : M

abbrev pub returned : {R M : Type 0} → R → M → Returned R M
returned r m = record { value = r; memory = m }

-- a call's outcome, its answer as a number
abbrev pub numbered : {A M : Type 0} → Outcome A M → Returned ℕ M
numbered o = returned (number o.reply) o.memory

-- a struct with the refusal and the values
abbrev pub estimated_by : Reply Estimated → RulantipEstimated
estimated_by (done e) = record { refusal = 0; estimate = e.estimate; samples = e.samples }
estimated_by (refused n) = record { refusal = n; estimate = 0; samples = 0 }

abbrev pub estimated_returned : {M : Type 0} → Outcome Estimated M → Returned RulantipEstimated M
estimated_returned o = returned (estimated_by o.reply) o.memory

abbrev pub pixmap_returned : Reply Header → RulantipPixmap
pixmap_returned (done h) = record { refusal = 0; width = h.width; height = h.height; depth = h.depth }
pixmap_returned (refused n) = record { refusal = n; width = 0; height = 0; depth = 0 }

abbrev pub written_by : Reply ℕ → RulantipWritten
written_by (done n) = record { refusal = 0; length = n }
written_by (refused n) = record { refusal = n; length = 0 }

abbrev pub written_returned : {M : Type 0} → Outcome ℕ M → Returned RulantipWritten M
written_returned o = returned (written_by o.reply) o.memory

abbrev pub graymap_by : Reply Size → RulantipGraymap
graymap_by (done s) = record { refusal = 0; width = s.width; height = s.height }
graymap_by (refused n) = record { refusal = n; width = 0; height = 0 }

abbrev pub graymap_returned : {M : Type 0} → Outcome Size M → Returned RulantipGraymap M
graymap_returned o = returned (graymap_by o.reply) o.memory
