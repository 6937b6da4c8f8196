-- The counted samples: how many they are, and that their indices are those of a division rounded down, rise and stay inside.
use mathlib.Core.Path.{◌≡◌, ap, ◌∙◌}
use mathlib.Core.Logic.{◌↔◌}
use Prim.Native.Nat.{ℕ, suc, ◌*◌, ◌/◌, ◌≤◌, ◌<◌}
use native.Mathlib.Omega.{arith}
use native.Mathlib.Nat.{zero-div, div-mul-le_self, lt-div-mul-add, le-div_iff_mul-le, div-lt_iff_lt-mul, mul-div_cancel, mul-le-mul_right, mul-lt-mul_of_pos_right, lt_of_mul-lt-mul_right}
use Rattle.stage.specs.Estimate.{counted, counted_index}
use Rattle.stage.specs.EstimateTheorems.{CountedRule}

counted_many : (t : ℕ) → 4096 ≤ t → counted t ≡ 4096
unfolding counted
counted_many t h = omega arith

counted_few : (t : ℕ) → t ≤ 4096 → counted t ≡ t
unfolding counted
counted_few t h = omega arith

pub counted_some : (t : ℕ) → 1 ≤ t → 1 ≤ counted t
unfolding counted
counted_some t h = omega arith

pub counted_most : (t : ℕ) → counted t ≤ 4096
unfolding counted
counted_most t = omega arith

counted_all : (t : ℕ) → counted t ≤ t
unfolding counted
counted_all t = omega arith

-- of n indices j × t / n, where n is no more than t
module _ (t n : ℕ) (p : 1 ≤ n) (q : n ≤ t) where
  index_rising : (j k : ℕ) → j < k → j * t / n < k * t / n
  index_rising j k h =
      (le-div_iff_mul-le {k = n} {x = suc (j * t / n)} {y = k * t} p).1
      (omega (arith, div-mul-le_self (j * t) n, mul-le-mul_right {m = suc j} {n = k} t h))

  index_inside : (j : ℕ) → (j < n) ↔ (j * t / n < t)
  index_inside j =
      let e = div-lt_iff_lt-mul {k = n} {x = j * t} {y = t} p in
      ((λ h. e.1 (omega (arith, mul-lt-mul_of_pos_right {m = j} {n = n} {k = t} h (omega arith)))), (λ h. lt_of_mul-lt-mul_right t (omega (arith, e.0 h))))

pub counted_rule : CountedRule
unfolding counted_index
counted_rule t h =
    let p = counted_some t h in
    let q = counted_all t in
    record {
      few = counted_few t;
      many = counted_many t;
      most = λ j. div-mul-le_self (j * t) (counted t);
      least = λ j. omega (arith, lt-div-mul-add {a = j * t} {b = counted t} p);
      first = ap (λ (x : ℕ). x / counted t) (omega arith) ∙ zero-div (counted t);
      rising = index_rising t (counted t) p q;
      inside = index_inside t (counted t) p q;
      every = λ g j. rw (counted_few t g) (mul-div_cancel j h);
    }
