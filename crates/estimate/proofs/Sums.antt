-- The sum of c × L(c) over all counters, and that it is the one over how often each number occurs.
use mathlib.Core.Path.{◌≡◌, refl, sym, ◌∙◌}
use mathlib.Core.List.{List, [], ◌∷◌}
use Prim.Native.Nat.{ℕ, zero, suc, ◌+◌, ◌*◌, ◌≤◌, ◌<◌}
use native.Mathlib.Omega.{arith}
use native.Mathlib.Numerals.{add-one}
use native.Mathlib.Nat.{not-suc-le-zero, zero-add}
use lib.Dec.{eqb}
use Rattle.std.proofs.Common.{sum_by, take, drop, replicate, ◌++◌}
use lib.ListN.{length, get_or, set, length-set}
use Rattle.std.proofs.lemmas.List.{take-append-drop, get_or-drop}
use Rattle.std.proofs.lemmas.List.Sums.{sum_by-cons}
use Rattle.std.proofs.lemmas.List.Elements.{All-take, All-from_get_or}
use borrow.Author.Tests.{ne_eqb}
use Rattle.stage.specs.Logarithm.{L}
use Rattle.stage.specs.Estimate.{occurrences, histogram, log_sum}
use Rattle.estimate.specs.Counting.{AllZero, Occurrences, Remaining, Summable, entry}
use Rattle.estimate.proofs.Occurrences.{remaining_all, remaining_less, remaining_none, log_sum_more, log_sum_most, counter_le}

-- ---- a counter that is cleared takes its part from the sum
pub log_sum_less : (l : List ℕ) (x : ℕ) → x < length l → get_or l x 0 * L (get_or l x 0) + log_sum (set l x 0) ≡ log_sum l
unfolding log_sum
log_sum_less [] x h = absurd (not-suc-le-zero h)
log_sum_less (c ∷ l) zero h = omega arith
log_sum_less (c ∷ l) (suc x) h = omega (arith, log_sum_less l x (omega arith))

log_sum_zero : (l : List ℕ) → ((x : ℕ) → entry l x ≡ 0) → log_sum l ≡ 0
unfolding log_sum
log_sum_zero [] z = refl
log_sum_zero (c ∷ l) z = rw (z 0, log_sum_zero l (λ x. z (suc x))) (omega arith)

-- ---- the counters of f 0, .. f (m − 1) cleared one by one
cleared : (ℕ → ℕ) → List ℕ → ℕ → List ℕ
cleared f l zero = l
cleared f l (suc m) = set (cleared f l m) (f m) 0

-- after m of them, from the counters l
record Run (f : ℕ → ℕ) (n : ℕ) (l : List ℕ) (m : ℕ) : Type 0 where
  long : length (cleared f l m) ≡ length l
  counts : Remaining f n m (cleared f l m)
  sum : log_sum (cleared f l m) + log_sum (histogram eqb f n m) ≡ log_sum l

module _ {f : ℕ → ℕ} {n : ℕ} {l : List ℕ} (t : Occurrences f n l) (inside : (j : ℕ) → j < n → f j < length l) where
  run : (m : ℕ) → m ≤ n → Run f n l m
  unfolding cleared histogram log_sum
  run zero h = record { long = refl; counts = remaining_all t; sum = omega arith }
  run (suc m) h =
      let r = run m (omega arith) in
      let x = inside m h in
      let y : f m < length (cleared f l m) = rw r.long x in
      let e = log_sum_more r.counts refl in
      record {
        long = simp length-set r.long;
        counts = rw (add-one m) at (remaining_less r.counts refl y);
        sum = omega (arith, rw (add-one m) at e, log_sum_less (cleared f l m) (f m) y, r.sum);
      }

  pub sum_of_counters : log_sum l ≡ log_sum (histogram eqb f n n)
  sum_of_counters =
      let r = run n (omega arith) in
      omega (arith, r.sum, log_sum_zero (cleared f l n) (remaining_none r.counts).each)

-- ---- the counters of n numbers, all below m
occurrences_behind : (f : ℕ → ℕ) (n m x : ℕ) → ((j : ℕ) → j < n → f j < m) → m ≤ x → occurrences eqb f n x ≡ 0
unfolding occurrences
occurrences_behind f zero m x h g = refl
occurrences_behind f (suc n) m x h g =
    rw (ne_eqb (f n) x (λ e. omega (arith, h n (omega arith))), occurrences_behind f n m x (λ j k. h j (omega arith)) g)

-- ---- the first m counters of n numbers that are all below m, l: they can be summed, and their sum is that of all
log_sum_append : (a b : List ℕ) → log_sum (a ++ b) ≡ log_sum a + log_sum b
unfolding log_sum
log_sum_append [] b = sym (zero-add (log_sum b))
log_sum_append (c ∷ a) b = rw (log_sum_append a b) (omega arith)

pub log_sum_by : (l : List ℕ) → sum_by (λ c. c * L c) l ≡ log_sum l
unfolding log_sum
log_sum_by [] = refl
log_sum_by (c ∷ l) = sum_by-cons (λ c. c * L c) c l ∙ rw (log_sum_by l)

zero_replicate : (n x : ℕ) → entry (replicate n 0) x ≡ 0
zero_replicate zero x = refl
zero_replicate (suc n) zero = refl
zero_replicate (suc n) (suc x) = zero_replicate n x

zero_append : (a b : List ℕ) → ((x : ℕ) → entry a x ≡ 0) → ((x : ℕ) → entry b x ≡ 0) → (x : ℕ) → entry (a ++ b) x ≡ 0
zero_append [] b f g x = g x
zero_append (c ∷ a) b f g zero = f 0
zero_append (c ∷ a) b f g (suc x) = zero_append a b (λ y. f (suc y)) g x

module _ {f : ℕ → ℕ} {n m : ℕ} {l : List ℕ} (t : Occurrences f n l) (inside : m ≤ length l) (below : (j : ℕ) → j < n → f j < m) where
  behind : (x : ℕ) → entry (drop m l) x ≡ 0
  behind x = get_or-drop m l x 0 ∙ t.each (m + x) ∙ occurrences_behind f n m (m + x) below (omega arith)

  pub front_value : log_sum (take m l) ≡ log_sum (histogram eqb f n n)
  front_value =
      let e : log_sum (take m l ++ drop m l) ≡ log_sum (take m l) + log_sum (drop m l) = log_sum_append (take m l) (drop m l) in
      omega (arith, rw (take-append-drop m l) at e, log_sum_zero (drop m l) behind, sum_of_counters t (λ j k. omega (arith, below j k)))

  pub front_summable : n ≤ 4096 → Summable (take m l)
  front_summable h = record {
    each = let small : ℕ → Type 0 = λ c. c ≤ 4096 in All-take small m l (All-from_get_or small l 0 (λ i k. omega (arith, counter_le t i)));
    most = rw front_value (log_sum_most f n n h);
  }

  pub front_cleared : AllZero (replicate (length (take m l)) 0 ++ drop m l)
  front_cleared = record { each = zero_append _ _ (zero_replicate _) behind }
