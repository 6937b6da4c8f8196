-- What a search of the report found.
use Rattle.std.specs.Prelude.{◌≡◌, List, ℕ, Result}
use Rattle.stage.specs.declared.Estimated.{Estimated}
use Rattle.stage.specs.declared.Refusal.{Refusal}
use Rattle.stage.specs.Answers.{Outcome, reply_of}
use Rattle.stage.specs.Search.{Lent}

-- the answer, and the choices
pub record FoundBy (o : Outcome Estimated Lent) (choices : List ℕ) (r : Result Estimated Refusal) : Type 0 where
  pub reply_is : o.reply ≡ reply_of r
  pub choices_are : choices ≡ o.memory.choices
