-- What the counting asks of a plane, and what the lent counters hold meanwhile.
use Rattle.std.specs.Prelude.{◌≡◌, cond, List, ℕ, ◌+◌, ◌*◌, ◌%◌, ◌≤◌, ◌<◌, ltb, eqb, ℤ, pos, ◌+ℤ◌, length, get_or, All}
use Rattle.integers.specs.Parts.{pos_part}
use Rattle.integers.specs.Lists.{AllIn}
use Rattle.stage.specs.Estimate.{occurrences, log_sum}
use Rattle.estimate.specs.declared.residual.Sample.{Sample}

-- the samples lie in a range that is at most d wide
pub record RangeWithin (d : ℕ) (a : List ℤ) : Type 0 where
  pub below : ℕ
  pub above : ℕ
  pub all : AllIn below above a
  pub extent : below + above ≤ d

-- a plane of width w that can be counted
pub record Countable (w d : ℕ) (a : List ℤ) : Type 0 where
  pub across : 1 ≤ w
  pub narrow : w ≤ 67108864
  pub some : 1 ≤ length a
  pub most : length a ≤ 67108864
  pub small : d ≤ 262144
  pub range : RangeWithin d a

-- a sample inside the plane, and whether it lies in the first row and in the first column
pub record Inside (w : ℕ) (a : List ℤ) (x : Sample) : Type 0 where
  pub inside : x.index < length a
  pub row : x.top ≡ ltb x.index w
  pub column : x.start ≡ eqb (x.index % w) 0

-- The counter of a residual z is z + d: 2 × d + 1 counters hold all.
unfoldable pub bin : ℕ → ℤ → ℕ
bin d z = pos_part (z +ℤ pos d)

-- entry j of a list of numbers
abbrev pub entry : List ℕ → ℕ → ℕ
entry l j = get_or l j 0

-- The first n entries are f 0, f 1, .. f (n − 1).
pub record Holds (f : ℕ → ℕ) (n : ℕ) (l : List ℕ) : Type 0 where
  pub each : (j : ℕ) → j < n → entry l j ≡ f j

-- The first n entries are below m.
pub record AllBelow (m n : ℕ) (l : List ℕ) : Type 0 where
  pub each : (j : ℕ) → j < n → entry l j < m

pub record AllZero (l : List ℕ) : Type 0 where
  pub each : (x : ℕ) → entry l x ≡ 0

-- Counter x says how often x occurs among f 0, .. f (n − 1).
pub record Occurrences (f : ℕ → ℕ) (n : ℕ) (l : List ℕ) : Type 0 where
  pub each : (x : ℕ) → entry l x ≡ occurrences eqb f n x

-- The same, but zero again where x occurs among f 0, .. f (m − 1).
pub record Remaining (f : ℕ → ℕ) (n m : ℕ) (l : List ℕ) : Type 0 where
  pub each : (x : ℕ) → entry l x ≡ cond (eqb (occurrences eqb f m x) 0) (occurrences eqb f n x) 0

-- counters that can be summed
pub record Summable (l : List ℕ) : Type 0 where
  pub each : All (λ c. c ≤ 4096) l
  pub most : log_sum l ≤ 3145728

-- enough counters for residuals within −d .. d, all zero
pub record Counters (d : ℕ) (l : List ℕ) : Type 0 where
  pub enough : 2 * d < length l
  pub zero : AllZero l

-- a plane that is to be counted
pub record PlaneReady (w d : ℕ) (a : List ℤ) (l : List ℕ) : Type 0 where
  pub plane : Countable w d a
  pub counters : Counters d l

-- An estimate e of one plane is answered, and the counters are zero again; the bound lets three be added.
pub record PlaneFound (d e r : ℕ) (l : List ℕ) : Type 0 where
  pub value : r ≡ e
  pub bound : r ≤ 3145728
  pub counters : Counters d l
