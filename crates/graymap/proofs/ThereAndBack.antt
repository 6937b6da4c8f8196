-- Numbers of a plane less their lowest, there and back; and what an answer `done` tells of its tests.
use mathlib.Core.Path.{◌≡◌, refl, sym, ap, ap₂, ◌∙◌}
use mathlib.Core.List.{List, [], ◌∷◌, ◌++◌, map}
use Prim.Native.Nat.{ℕ}
use native.Mathlib.Omega.{arith}
use lib.IntN.{ℤ, pos, ◌+ℤ◌, ◌-ℤ◌}
use lib.ListN.{length, take}
use Rattle.integers.specs.Parts.{pos_part}
use Rattle.integers.specs.Lists.{AllIn}
use Rattle.integers.proofs.Lists.{all_cons}
use Rattle.integers.proofs.Ranges.{nonneg_is}
use Rattle.integers.proofs.Linear.{eq_lin, flat, count}
use Rattle.stage.specs.declared.Range.{Range}
use Rattle.stage.specs.Answers.{done, Test, refusal, Outcome, outcome}
use Rattle.stage.specs.Ranges.{Within}
use Rattle.stage.specs.Graymap.{less_lowest, from_lowest}
use Rattle.stage.proofs.Answers.{Holds, Numbered, refusal_holds, outcome_done, done_refusal}
use Rattle.raster.proofs.Raised.{raised_in}

-- ---- numbers there and back
module _ (r : Range) where
  number_back : (z : ℤ) → Within r z → from_lowest r (less_lowest r z) ≡ z
  number_back z w =
      let s = raised_in r z w in
      ap (λ (x : ℤ). x -ℤ pos r.below) (nonneg_is (z +ℤ pos r.below) (omega (arith, s))) ∙ eq_lin (simp flat (simp count (omega arith)))

  pub numbers_back : (a : List ℤ) → AllIn r.below r.above a → map (from_lowest r) (map (less_lowest r) a) ≡ a
  numbers_back [] h = refl
  numbers_back (z ∷ a) h = let k = all_cons.0 h in ap₂ ◌∷◌ (number_back z k.0) (numbers_back a k.1)

  sample_back : (n : ℕ) → less_lowest r (from_lowest r n) ≡ n
  sample_back n = let e : from_lowest r n +ℤ pos r.below ≡ pos n = eq_lin (simp flat (simp count (omega arith))) in ap pos_part e

  pub samples_kept : (l : List ℕ) → map (less_lowest r) (map (from_lowest r) l) ≡ l
  samples_kept [] = refl
  samples_kept (n ∷ l) = ap₂ ◌∷◌ (sample_back n) (samples_kept l)

-- a file is the front of the buffer that it was written to
pub front : (f x : List ℕ) → take (length f) (f ++ x) ≡ f
front [] x = refl
front (b ∷ f) x = ap (λ (l : List ℕ). b ∷ l) (front f x)

-- an answer `done`, and what it answers
module _ {A M : Type 0} (v : A) (result before : M) (tests : List Test) (k : Numbered tests) (u : A) (after : M) (e : outcome tests v result before ≡ record { reply = done u; memory = after }) where
  pub passed : refusal tests ≡ 0
  passed = done_refusal v result before tests u (ap (λ (o : Outcome A M). o.reply) e)

  pub all_hold : Holds tests
  all_hold = refusal_holds tests k passed

  same : ◌≡◌ {A = Outcome A M} (record { reply = done v; memory = result }) (record { reply = done u; memory = after })
  same = sym (outcome_done v result before tests passed) ∙ e

  pub value_is : v ≡ u
  value_is = let d : done v ≡ done u = ap (λ (o : Outcome A M). o.reply) same in cc

  pub memory_is : result ≡ after
  memory_is = ap (λ (o : Outcome A M). o.memory) same
