-- The counters in both passes, one turn at a time.
use mathlib.Core.Path.{◌≡◌, refl, sym, ◌∙◌}
use mathlib.Core.List.{List}
use Prim.Native.Nat.{ℕ, zero, suc, ◌+◌, ◌*◌, ◌≤◌, ◌<◌}
use native.Mathlib.Omega.{arith}
use native.Mathlib.Numerals.{add-one}
use native.Mathlib.Nat.{zero-add, le_trans}
use lib.Dec.{eqb}
use lib.ListN.{length, get_or, set}
use lib.Seq.{get_or-set_same, get_or-set_other}
use borrow.Author.Tests.{eqb-true, eqb-false, eq-eqb, ne_eqb}
use borrow.Table.Steps.{cases}
use Rattle.stage.specs.Logarithm.{L}
use Rattle.stage.specs.Estimate.{occurrences, histogram, total, log_sum}
use Rattle.stage.proofs.Histogram.{occurrences_le, total_le, log_sum_bound, log_product_most}
use Rattle.estimate.specs.Counting.{Holds, AllZero, Occurrences, Remaining, entry}

-- after j of n turns of the second pass, from the counters l₀, with the sum so far
pub record SecondPass (f : ℕ → ℕ) (n j : ℕ) (l₀ l : List ℕ) (s : ℕ) : Type 0 where
  pub long : length l ≡ length l₀
  pub counts : Remaining f n j l
  pub sum : s ≡ log_sum (histogram eqb f n j)

module _ {f : ℕ → ℕ} {l : List ℕ} where
  pub occurrences_none : AllZero l → Occurrences f 0 l
  unfolding occurrences
  occurrences_none z = record { each = z.each }

  pub occurrences_more : {m x : ℕ} → Occurrences f m l → x ≡ f m → x < length l → Occurrences f (m + 1) (set l x (get_or l x 0 + 1))
  unfolding occurrences
  occurrences_more {m} {x} t e h = record {
    each = λ y. rw (add-one m, ← e) (cases (eqb x y)
        (λ p. rw (p, sym (eqb-true x y p), get_or-set_same l x (get_or l x 0 + 1) 0 h, t.each x) (omega arith))
        (λ p. rw (p, get_or-set_other l x y (get_or l x 0 + 1) 0 (λ q. eqb-false x y p (sym q)), t.each y) (omega arith)));
  }

  pub counter_le : {m : ℕ} → Occurrences f m l → (x : ℕ) → get_or l x 0 ≤ m
  counter_le {m} t x = rw (t.each x) (occurrences_le eqb f m x)

  pub remaining_all : {n : ℕ} → Occurrences f n l → Remaining f n 0 l
  unfolding occurrences
  remaining_all t = record { each = t.each }

  pub remaining_less : {n m x : ℕ} → Remaining f n m l → x ≡ f m → x < length l → Remaining f n (m + 1) (set l x 0)
  unfolding occurrences
  remaining_less {n} {m} {x} t e h = record {
    each = λ y. rw (add-one m, ← e) (cases (eqb x y)
        (λ p. rw (p, sym (eqb-true x y p), get_or-set_same l x 0 0 h, ne_eqb (1 + occurrences eqb f m x) 0 (λ q. omega arith)))
        (λ p. rw (p, get_or-set_other l x y 0 0 (λ q. eqb-false x y p (sym q)), zero-add (occurrences eqb f m y)) (t.each y)));
  }

  pub remaining_none : {n : ℕ} → Remaining f n n l → AllZero l
  remaining_none {n} t = record {
    each = λ x. t.each x ∙ cases (eqb (occurrences eqb f n x) 0) (λ e. rw e (eqb-true (occurrences eqb f n x) 0 e)) (λ e. rw e);
  }

  -- a counter adds its count once, at the first index that it stands for
  pub log_sum_more : {n m x : ℕ} → Remaining f n m l → x ≡ f m →
      get_or l x 0 * L (get_or l x 0) + log_sum (histogram eqb f n m) ≡ log_sum (histogram eqb f n (m + 1))
  unfolding histogram log_sum
  log_sum_more {n} {m} {x} t e = rw (add-one m, e, t.each (f m)) (cases (eqb (occurrences eqb f m (f m)) 0) (λ p. rw p) (λ p. rw p (omega arith)))

  pub remaining_le : {n m : ℕ} → Remaining f n m l → (x : ℕ) → get_or l x 0 ≤ n
  remaining_le {n} {m} t x = rw (t.each x) (cases (eqb (occurrences eqb f m x) 0) (λ e. rw e (occurrences_le eqb f n x)) (λ e. rw e (omega arith)))

-- what the counters say of f they say of a list of its numbers
occurrences_same : (f g : ℕ → ℕ) (n x : ℕ) → ((j : ℕ) → j < n → f j ≡ g j) → occurrences eqb f n x ≡ occurrences eqb g n x
unfolding occurrences
occurrences_same f g zero x e = refl
occurrences_same f g (suc n) x e = rw (e n (omega arith), occurrences_same f g n x (λ j h. e j (omega arith)))

pub occurrences_listed : {f : ℕ → ℕ} {n : ℕ} {bins l : List ℕ} → Holds f n bins → Occurrences f n l → Occurrences (entry bins) n l
occurrences_listed {f} {n} {bins} h t = record { each = λ x. t.each x ∙ sym (occurrences_same (entry bins) f n x h.each) }

pub log_sum_most : (f : ℕ → ℕ) (n m : ℕ) → n ≤ 4096 → log_sum (histogram eqb f n m) ≤ 3145728
log_sum_most f n m h =
    let l = histogram eqb f n m in
    let t = total_le eqb eqb-true (λ a. eq-eqb a a refl) f n m in
    le_trans (log_sum_bound l) (log_product_most (total l) (le_trans t h))
