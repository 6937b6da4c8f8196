-- The counts of a histogram add up to how many are counted, and their sum of c × L(c) is at most N × L(N).
use mathlib.Core.Path.{◌≡◌, refl, sym, ◌∙◌, subst}
use mathlib.Core.Bool.{Bool, true, false, cond}
use mathlib.Core.List.{List, [], ◌∷◌}
use mathlib.Core.Logic.{⊎_elim}
use Prim.Native.Nat.{ℕ, zero, suc, ◌+◌, ◌*◌, ◌≤◌, ◌<◌}
use native.Mathlib.Omega.{arith}
use native.Mathlib.Nat.{not-suc-le-zero, le_refl, zero-add, mul-le-mul, mul-le-mul_left, eq-or-lt_of_le}
use lib.Dec.{eqb}
use borrow.Author.Tests.{ne_eqb}
use borrow.Table.Steps.{cases}
use Rattle.stage.specs.Logarithm.{L}
use Rattle.stage.specs.Estimate.{occurrences, histogram, total, log_sum}
use Rattle.stage.specs.EstimateTheorems.{LogSumBound}
use Rattle.stage.proofs.Logarithm.{log_monotone, log_most}

-- 1 for a count above 0
abbrev present : ℕ → ℕ
present x = cond (eqb x 0) 0 1

present_one : (x : ℕ) → 0 < x → present x ≡ 1
present_one x h = rw (ne_eqb x 0 (λ e. omega arith))

present_le : (x : ℕ) → present x ≤ 1
present_le x = cases (eqb x 0) (λ e. rw e (omega arith)) (λ e. rw e (omega arith))

pub occurrences_le : {A : Type 0} (same : A → A → Bool) (r : ℕ → A) (n : ℕ) (a : A) → occurrences same r n a ≤ n
unfolding occurrences
occurrences_le same r zero a = omega arith
occurrences_le same r (suc n) a =
    let h = occurrences_le same r n a in
    cases (same (r n) a) (λ e. rw e (omega arith)) (λ e. rw e (omega arith))

-- where `same` is equality
module _ {A : Type 0} (same : A → A → Bool) (equal : (a b : A) → same a b ≡ true → a ≡ b) (itself : (a : A) → same a a ≡ true) (r : ℕ → A) where
  same_sym : (a b : A) → same a b ≡ same b a
  same_sym a b = cases (same a b)
      (λ e. subst (λ (x : A). same a x ≡ same x a) (equal a b e) refl)
      (λ e. cases (same b a) (λ f. subst (λ (x : A). same x b ≡ same b x) (equal b a f) refl) (λ f. e ∙ sym f))

  occurs : (n i : ℕ) → i < n → 0 < occurrences same r n (r i)
  unfolding occurrences
  occurs zero i h = absurd (not-suc-le-zero h)
  occurs (suc n) i h = ⊎_elim
      (λ (p : i ≡ n). rw (p, itself (r n)) (omega arith))
      (λ (p : i < n). omega (arith, occurs n i p))
      (eq-or-lt_of_le {n = i} {m = n} (omega arith))

  -- a is among the first m + 1 if it is among the first m, or if it is the last of them and that one is new
  present_more : (m : ℕ) (a : A) →
      present (occurrences same r (suc m) a) ≡ cond (eqb (occurrences same r m (r m)) 0) (cond (same a (r m)) 1 0) 0 + present (occurrences same r m a)
  unfolding occurrences
  present_more m a = cases (same (r m) a)
      (λ e. subst
      (λ (x : A). present (cond (same (r m) x) 1 0 + occurrences same r m x) ≡ cond (eqb (occurrences same r m (r m)) 0) (cond (same x (r m)) 1 0) 0 + present (occurrences same r m x))
      (equal (r m) a e)
      (rw (itself (r m), present_one (1 + occurrences same r m (r m)) (omega arith)) (new (occurrences same r m (r m)))))
      (λ e. rw (same_sym a (r m), e) (old (eqb (occurrences same r m (r m)) 0) (occurrences same r m a)))
    where
      new : (x : ℕ) → 1 ≡ cond (eqb x 0) 1 0 + present x
      new x = cases (eqb x 0) (λ e. rw e (omega arith)) (λ e. rw e (omega arith))

      old : (b : Bool) (x : ℕ) → present (0 + x) ≡ cond b 0 0 + present x
      old true x = rw (zero-add x) (sym (zero-add (present x)))
      old false x = rw (zero-add x) (sym (zero-add (present x)))

  -- one more number adds one count, if it is among those that the histogram has
  total_none : (m : ℕ) → total (histogram same r 0 m) ≡ 0
  unfolding histogram total occurrences
  total_none zero = refl
  total_none (suc m) = cases (eqb (occurrences same r m (r m)) 0) (λ e. rw e (omega (arith, total_none m))) (λ e. rw e (total_none m))

  total_more : (n m : ℕ) → total (histogram same r (suc n) m) ≡ total (histogram same r n m) + present (occurrences same r m (r n))
  unfolding histogram total occurrences
  total_more n zero = refl
  total_more n (suc m) =
      let p = present_more m (r n) in
      let h = total_more n m in
      cases (eqb (occurrences same r m (r m)) 0)
      (λ e. let q = rw e at p in rw e (omega (arith, q, h)))
      (λ e. let q = rw e at p in rw e (omega (arith, q, h)))

  total_up_to : (n m : ℕ) → n ≤ m → total (histogram same r n m) ≡ n
  total_up_to zero m h = total_none m
  total_up_to (suc n) m h = omega (arith, total_more n m, total_up_to n m (omega arith), present_one (occurrences same r m (r n)) (occurs m n h))

  pub total_all : (n : ℕ) → total (histogram same r n n) ≡ n
  total_all n = total_up_to n n (le_refl n)

  pub total_le : (n m : ℕ) → total (histogram same r n m) ≤ n
  total_le zero m = omega (arith, total_none m)
  total_le (suc n) m = omega (arith, total_more n m, total_le n m, present_le (occurrences same r m (r n)))

-- each c × L(c) is at most c × L(n)
log_sum_le : (l : List ℕ) (n : ℕ) → total l ≤ n → log_sum l ≤ total l * L n
unfolding total log_sum
log_sum_le [] n h = omega arith
log_sum_le (c ∷ l) n h = omega (arith, mul-le-mul_left c (log_monotone c n (omega arith)), log_sum_le l n (omega arith))

pub log_sum_bound : LogSumBound
log_sum_bound l = log_sum_le l (total l) (le_refl (total l))

-- N × L(N) fits 22 bits
pub log_product_most : (n : ℕ) → n ≤ 4096 → n * L n ≤ 3145728
log_product_most n h = mul-le-mul h (log_most n h)
