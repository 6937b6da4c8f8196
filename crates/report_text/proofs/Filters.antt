-- Filters one by one, and how long they are as text.
use mathlib.Core.Path.{◌≡◌}
use mathlib.Core.List.{List, [], ◌∷◌, ◌++◌}
use Prim.Native.Nat.{ℕ, suc, ◌+◌, ◌*◌, ◌≤◌, ◌<◌}
use native.Mathlib.Omega.{arith}
use native.Mathlib.Numerals.{add-one}
use lib.ListN.{length, drop, get_or, length-append, drop_of_length-le}
use lib.Seq.{drop-cons}
use Rattle.stage.specs.Decimal.{numeral}
use Rattle.text.proofs.Numerals.{byte_short}
use Rattle.report_text.specs.Text.{separated}

-- from place i on: the filter there behind its separator, and the others behind commas
pub separated_more : (s : ℕ) (l : List ℕ) (i : ℕ) → i < length l → separated s (drop i l) ≡ (s ∷ numeral (get_or l i 0)) ++ separated 44 (drop (i + 1) l)
unfolding separated
separated_more s l i h = rw (drop-cons l i 0 h, add-one)

pub separated_none : (s : ℕ) (l : List ℕ) (i : ℕ) → length l ≤ i → separated s (drop i l) ≡ []
unfolding separated
separated_none s l i h = rw (drop_of_length-le l h)

-- a byte has at most three digits
pub separated_short : (s : ℕ) (l : List ℕ) → ((i : ℕ) → get_or l i 0 < 256) → length (separated s l) ≤ 4 * length l
unfolding separated
separated_short s [] h = omega arith
separated_short s (f ∷ l) h = simp length-append (omega (arith, byte_short f (h 0), separated_short 44 l (λ i. h (suc i))))
