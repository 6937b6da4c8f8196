-- Answers, refusals in their order, and what lent memory holds afterwards (01, "Who can cause which refusal"). b is a truth value, n a
-- refusal's number, l a list of tests, v the values answered, w and h are width and height.
use Rattle.std.specs.Prelude.{Bool, cond, ◌&&◌, List, [], ◌∷◌, ℕ, leb, eqb, Result, Ok, Err}
pub use Rattle.stage.specs.declared.Refusal.{Refusal}
pub use Rattle.stage.specs.declared.Refusal.TheVariants.{Header, Size, Maxval, Raster, Depth, Transform, Choices, Plane, Scratch, Rounds, Wide, Buffer, Unequal, Band, Sample, Unreached, Preview}

-- success with its values, or a refusal's number alone
pub data Reply (A : Type 0) : Type 0 where
  done : A → Reply A
  refused : ℕ → Reply A

-- a test, and the number of the refusal where it fails
infix 20 ◌else◌
pub data Test : Type 0 where
  ◌else◌ : Bool → ℕ → Test

-- the number of the first test that fails, and 0 where all hold
abbrev pub refusal : List Test → ℕ
refusal [] = 0
refusal ((b else n) ∷ l) = cond b (refusal l) n

-- the answer by a refusal's number, where 0 stands for success
abbrev pub reply_by : {A : Type 0} → ℕ → A → Reply A
reply_by n v = cond (eqb n 0) (done v) (refused n)

-- the tests are made in order, and the first that fails decides
abbrev pub answer : {A : Type 0} → List Test → A → Reply A
answer l v = reply_by (refusal l) v

-- A call's answer, and what the memory lent to it holds when it returns: the result, or on a refusal what it held before.
pub record Outcome (A M : Type 0) : Type 0 where
  pub reply : Reply A
  pub memory : M

abbrev pub outcome : {A M : Type 0} → (l : List Test) (v : A) (result before : M) → Outcome A M
outcome l v result before = record { reply = answer l v; memory = cond (eqb (refusal l) 0) result before }

-- 01's number of a refusal; 13 and 14, 15, 16 and 17 are those of requests 4, 6, 9 and 11 (02)
abbrev pub number_of : Refusal → ℕ
number_of Header = 1
number_of Size = 2
number_of Maxval = 3
number_of Raster = 4
number_of Depth = 5
number_of Transform = 6
number_of Choices = 7
number_of Plane = 8
number_of Scratch = 9
number_of Rounds = 10
number_of Wide = 13
number_of Buffer = 14
number_of Unequal = 16
number_of Band = 17
number_of Sample = 11
number_of Unreached = 12
number_of Preview = 15

-- the code's answer as 01's: a refusal gives its number alone
abbrev pub reply_of : {A : Type 0} → Result A Refusal → Reply A
reply_of (Ok v) = done v
reply_of (Err e) = refused (number_of e)

-- with what the lent memory then holds
abbrev pub outcome_of : {A M : Type 0} → Result A Refusal → M → Outcome A M
outcome_of r m = record { reply = reply_of r; memory = m }

-- the number that C callers see: 0 for success
abbrev pub number : {A : Type 0} → Reply A → ℕ
number (done v) = 0
number (refused n) = n

abbrev pub between : (low high n : ℕ) → Bool
between low high n = leb low n && leb n high

-- 01, "Planes and steps": width and height 1 to 8,192
abbrev pub sized : ℕ → ℕ → Bool
sized w h = between 1 8192 w && between 1 8192 h
