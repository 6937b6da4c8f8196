-- What the functions that write promise.
use Rattle.std.specs.Prelude.{◌≡◌, List, ℕ, ◌+◌, length}
use Rattle.std.proofs.lemmas.List.Edits.{sets}

-- A buffer with a piece written at a place: the piece stands there, all else is as before, so the buffer is as long. And the place behind
-- the piece.
pub record Written (before : List ℕ) (at : ℕ) (piece after : List ℕ) (end : ℕ) : Type 0 where
  pub text_is : after ≡ sets before at piece
  pub long_is : length after ≡ length before
  pub end_is : end ≡ at + length piece
