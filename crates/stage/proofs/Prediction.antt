-- MED by the lesser and the greater of two numbers, the ranges of predictions and residuals, and equality of whole numbers as a test.
use mathlib.Core.Path.{◌≡◌, refl, sym, ◌∙◌}
use mathlib.Core.Bool.{Bool, true, false, cond, ◌&&◌}
use mathlib.Core.List.{List}
use Prim.Native.Nat.{ℕ, ◌+◌, ◌-◌, ◌%◌, ◌≤◌, ◌<◌}
use native.Mathlib.Omega.{arith}
use lib.Dec.{ltb, eqb}
use lib.IntN.{ℤ, neg_ℤ, ◌+ℤ◌, ◌-ℤ◌}
use lib.Signed.{le_z}
use borrow.Table.Steps.{cases}
use Rattle.integers.specs.Parts.{pos_part, neg_part, In}
use Rattle.integers.specs.Lists.{at, AllIn}
use Rattle.integers.proofs.Booleans.{holds_true, true_holds, and_iff, and-false}
use Rattle.integers.proofs.Parts.{add_difference, neg_parts, one_part, eq_parts}
use Rattle.integers.proofs.Order.{le_z_true, le_z_false, true_le_z, false_le_z}
use Rattle.integers.proofs.Ranges.{in_zero, in_sub, in_wider}
use Rattle.stage.specs.Estimate.{med, prediction, residual, same_number}
use Rattle.stage.specs.EstimateTheorems.{MedInRange, ResidualInRange, HistogramTotal}
use Rattle.stage.proofs.Histogram.{total_all}

-- a test of the order with what it says
le_z_cases : {P : Type 0} (a b : ℤ) →
    (le_z a b ≡ true → pos_part a + neg_part b ≤ pos_part b + neg_part a → P) →
    (le_z a b ≡ false → pos_part b + neg_part a < pos_part a + neg_part b → P) → P
le_z_cases a b f g = cases (le_z a b) (λ e. f e (le_z_true a b e)) (λ e. g e (le_z_false a b e))

abbrev pub lesser : ℤ → ℤ → ℤ
lesser a b = cond (le_z a b) a b

abbrev pub greater : ℤ → ℤ → ℤ
greater a b = cond (le_z a b) b a

greater_le : (a b c : ℤ) → le_z (greater a b) c ≡ (le_z a c && le_z b c)
greater_le a b c = le_z_cases a b
    (λ e p. rw e (le_z_cases b c (λ f q. rw (f, true_le_z a c (omega arith))) (λ f q. rw (f, and-false (le_z a c)))))
    (λ e p. rw e (le_z_cases a c (λ f q. rw (f, true_le_z b c (omega arith))) (λ f q. rw f)))

le_lesser : (a b c : ℤ) → le_z c (lesser a b) ≡ (le_z c a && le_z c b)
le_lesser a b c = le_z_cases a b
    (λ e p. rw e (le_z_cases c a (λ f q. rw (f, true_le_z c b (omega arith))) (λ f q. rw f)))
    (λ e p. rw e (le_z_cases c b (λ f q. rw (f, true_le_z c a (omega arith))) (λ f q. rw (f, and-false (le_z c a)))))

med_ordered : (a e c : ℤ) → med a e c ≡ cond (le_z (greater a e) c) (lesser a e) (cond (le_z c (lesser a e)) (greater a e) (a +ℤ e -ℤ c))
unfolding med
med_ordered a e c = rw (greater_le a e c, le_lesser a e c)

-- p = low + high − c, kept between low and high
clamped : (low high c p : ℤ) → pos_part low + neg_part high ≤ pos_part high + neg_part low →
    pos_part p + pos_part c + (neg_part low + neg_part high) ≡ pos_part low + pos_part high + (neg_part p + neg_part c) →
    greater low (lesser high p) ≡ cond (le_z high c) low (cond (le_z c low) high p)
clamped low high c p h e = le_z_cases high p
    (λ t q. rw (t, true_le_z low high h) (le_z_cases high c (λ u r. rw u (eq_parts high low (omega arith))) (λ u r. rw (u, true_le_z c low (omega arith)))))
    (λ t q. rw t (le_z_cases low p
    (λ v s. rw v (le_z_cases high c (λ u r. rw u (eq_parts p low (omega arith))) (λ u r. rw (u, false_le_z c low (omega arith)))))
    (λ v s. rw (v, true_le_z high c (omega arith)))))

-- MED is the median of a, e and a + e − c
pub med_median : (a e c : ℤ) → greater (lesser a e) (lesser (greater a e) (a +ℤ e -ℤ c)) ≡ med a e c
med_median a e c =
    clamped (lesser a e) (greater a e) c (a +ℤ e -ℤ c) (ordered (le_z a e) refl) (sums (le_z a e)) ∙ sym (med_ordered a e c)
  where
    ordered : (t : Bool) → le_z a e ≡ t → pos_part (cond t a e) + neg_part (cond t e a) ≤ pos_part (cond t e a) + neg_part (cond t a e)
    ordered true h = le_z_true a e h
    ordered false h = let k = le_z_false a e h in omega arith

    sum : pos_part (a +ℤ e -ℤ c) + pos_part c + (neg_part a + neg_part e) ≡ pos_part a + pos_part e + (neg_part (a +ℤ e -ℤ c) + neg_part c)
    sum = omega (arith, add_difference (a +ℤ e) (neg_ℤ c), add_difference a e, neg_parts c)

    sums : (t : Bool) → pos_part (a +ℤ e -ℤ c) + pos_part c + (neg_part (cond t a e) + neg_part (cond t e a)) ≡ pos_part (cond t a e) + pos_part (cond t e a) + (neg_part (a +ℤ e -ℤ c) + neg_part c)
    sums true = sum
    sums false = omega (arith, sum)

-- ---- ranges
in_cond : {l h : ℕ} {a b : ℤ} (t : Bool) → In l h a → In l h b → In l h (cond t a b)
in_cond true x y = x
in_cond false x y = y

pub med_in_range : MedInRange
med_in_range l h a e c x y = rw (← med_median a e c) (le_z_cases a e
    (λ t p. rw t (between a e (a +ℤ e -ℤ c) p x y))
    (λ t p. rw t (between e a (a +ℤ e -ℤ c) (omega arith) y x)))
  where
    between : (low high p : ℤ) → pos_part low + neg_part high ≤ pos_part high + neg_part low → In l h low → In l h high → In l h (greater low (lesser high p))
    between low high p o x y = le_z_cases high p
        (λ t q. rw t (in_cond (le_z low high) y x))
        (λ t q. rw t (le_z_cases low p (λ u r. let o = one_part p in let z : In l h p = omega arith in rw u z) (λ u r. rw u x)))

pub prediction_in_range : {l h : ℕ} (w : ℕ) (a : List ℤ) (i : ℕ) → AllIn l h a → In l h (prediction w a i)
unfolding prediction
prediction_in_range {l} {h} w a i x = in_cond (ltb i w)
    (in_cond (eqb i 0) (in_zero l h) (x.each (i - 1)))
    (in_cond (eqb (i % w) 0) (x.each (i - w)) (med_in_range l h (at a (i - 1)) (at a (i - w)) (at a (i - w - 1)) (x.each (i - 1)) (x.each (i - w))))

pub residual_in_range : ResidualInRange
unfolding residual
residual_in_range l h w a i x = in_wider (in_sub (x.each i) (prediction_in_range w a i x)) (omega arith) (omega arith)

-- ---- the test of equality
pub same_equal : (a b : ℤ) → same_number a b ≡ true → a ≡ b
same_equal a b e =
    let t = (and_iff (le_z a b) (le_z b a)).0 (true_holds e) in
    eq_parts a b (omega (arith, le_z_true a b (holds_true (le_z a b) t.0), le_z_true b a (holds_true (le_z b a) t.1)))

pub same_itself : (a : ℤ) → same_number a a ≡ true
same_itself a = rw (true_le_z a a (omega arith))

pub histogram_total : HistogramTotal
histogram_total = total_all same_number same_equal same_itself
