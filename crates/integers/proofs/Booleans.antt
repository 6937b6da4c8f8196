-- A test's value as a fact, and back.
use mathlib.Core.Path.{◌≡◌, refl, sym, subst, ◌∙◌}
use mathlib.Core.Bool.{Bool, true, false, cond, not, ◌&&◌}
use mathlib.Core.Logic.{◌↔◌}
use lib.Dec.{T}
use borrow.Author.Tests.{not-true, not-false}

pub holds_true : (b : Bool) → T b → b ≡ true
holds_true true p = refl
holds_true false p = absurd p

pub true_holds : {b : Bool} → b ≡ true → T b
true_holds e = subst T (sym e) tt

pub false_fails : {b : Bool} → b ≡ false → T (not b)
false_fails e = subst (λ (t : Bool). T (not t)) (sym e) tt

pub fails_false : (b : Bool) → (T b → ⊥) → b ≡ false
fails_false true p = absurd (p tt)
fails_false false p = refl

pub and_iff : (a b : Bool) → T (a && b) ↔ (T a × T b)
and_iff true b = (λ h. (tt, h), λ h. h.1)
and_iff false b = (λ h. absurd h, λ h. h.0)

pub both_true : (a b : Bool) → (a && b) ≡ true → (a ≡ true) × (b ≡ true)
both_true a b e = let h = (and_iff a b).0 (true_holds e) in (holds_true a h.0, holds_true b h.1)

pub not_both : (a b : Bool) → T (not (a && b)) → T b → T (not a)
not_both true true h t = h
not_both true false h t = t
not_both false b h t = tt

pub and-false : (b : Bool) → (b && false) ≡ false
and-false true = refl
and-false false = refl

-- both values of a choice are the same where the first is chosen
pub choice_same : {A : Type 0} (b : Bool) (y z : A) → (T b → y ≡ z) → cond b y z ≡ z
choice_same true y z e = e tt
choice_same false y z e = refl

-- tests of one fact have one value
pub same_test : {P : Type 0} (a b : Bool) → T a ↔ P → T b ↔ P → a ≡ b
same_test true b p q = sym (holds_true b (q.1 (p.0 tt)))
same_test false b p q = sym (fails_false b (λ t. p.1 (q.0 t)))

-- a test by a call that answered r
pub held : {r t : Bool} → r ≡ t → not r ≡ false → t ≡ true
held e f = sym e ∙ not-false _ f

pub failed : {r t : Bool} → r ≡ t → not r ≡ true → t ≡ false
failed e f = sym e ∙ not-true _ f
