-- The loop over the counted samples: index and column in 4096ths, and what is found so far, one turn at a time.
use mathlib.Core.Path.{◌≡◌, sym, ap, ◌∙◌}
use mathlib.Core.List.{List}
use mathlib.Core.Logic.{⊎_elim}
use Prim.Native.Nat.{ℕ, ◌+◌, ◌*◌, ◌/◌, ◌%◌, ◌≤◌, ◌<◌, max}
use native.Mathlib.Omega.{arith}
use native.Mathlib.Nat.{mod-lt, mod-eq_of_lt, add-mod, add-mul-mod_self_right, div-add-mod', mul-div_cancel, max-eq_left, max-eq_right, eq-or-lt_of_le}
use lib.Dec.{ltb, leb, eqb, lit≤}
use lib.ListN.{length, set}
use lib.Seq.{get_or-set_same, get_or-set_other}
use borrow.Author.Tests.{ltb-true, ltb-false, leb-true, leb-false, lt-ltb, le-ltb, eq-eqb, ne_eqb}
use borrow.Table.Steps.{cases}
use Rattle.stage.specs.Estimate.{counted_index}
use Rattle.stage.proofs.Counting.{counted_rule}
use Rattle.estimate.specs.Counting.{Holds, Occurrences}

-- after j turns: the next index i and its column x, in 4096ths, where s is the distance of two samples; the numbers f 0, .. f (j − 1)
-- in a list; and how often each of them occurs, in as many counters as at the start, l₀
pub record CountedTo (f : ℕ → ℕ) (s w : ℕ) (l₀ : List ℕ) (j i x : ℕ) (bins l : List ℕ) : Type 0 where
  pub index : i ≡ j * s
  pub column : x ≡ j * s % (w * 4096)
  pub long : length l ≡ length l₀
  pub found : Holds f j bins
  pub counts : Occurrences f j l

-- the next index: of few samples each is counted, of many N is 4,096
scaled : (t j : ℕ) → 1 ≤ t → j * max t 4096 / 4096 ≡ counted_index t j
unfolding counted_index
scaled t j h = cases (leb t 4096)
    (λ e. let g = leb-true t 4096 e in rw ((counted_rule t h).few g, max-eq_right {n = t} {m = 4096} g) (mul-div_cancel j {n = 4096} (lit≤ tt) ∙ sym (mul-div_cancel j h)))
    (λ e. let g = leb-false t 4096 e in rw ((counted_rule t h).many (omega arith), max-eq_left {n = t} {m = 4096} (omega arith)))

pub index_is : {i s : ℕ} (t j : ℕ) → 1 ≤ t → i ≡ j * s → s ≡ max t 4096 → i / 4096 ≡ counted_index t j
index_is t j h e f = rw (e, f) (scaled t j h)

-- whether it lies in the first row, and in the first column
pub row_is : (w i : ℕ) → ltb i (w * 4096) ≡ ltb (i / 4096) w
row_is w i = cases (ltb (i / 4096) w)
    (λ e. rw e (lt-ltb i (w * 4096) (omega (arith, ltb-true (i / 4096) w e))))
    (λ e. rw e (le-ltb i (w * 4096) (omega (arith, ltb-false (i / 4096) w e))))

column_of : (w y : ℕ) → 1 ≤ w → y % (w * 4096) / 4096 ≡ y / 4096 % w
column_of w y p =
    let q = y / (w * 4096) in
    let r = y % (w * 4096) in
    let g : y / 4096 ≡ r / 4096 + q * w = omega (arith, div-add-mod' y (w * 4096)) in
    let h : r / 4096 < w = omega (arith, mod-lt y {m = w * 4096} (omega arith)) in
    rw g (sym (add-mul-mod_self_right (r / 4096) q w ∙ mod-eq_of_lt h))

pub column_is : {i x : ℕ} (w y : ℕ) → 1 ≤ w → i ≡ y → x ≡ y % (w * 4096) → ltb x 4096 ≡ eqb (i / 4096 % w) 0
column_is w y p e f = rw (e, f, ← column_of w y p) (small (y % (w * 4096)))
  where
    small : (x : ℕ) → ltb x 4096 ≡ eqb (x / 4096) 0
    small x = cases (ltb x 4096)
        (λ e. rw (e, eq-eqb (x / 4096) 0 (omega (arith, ltb-true x 4096 e))))
        (λ e. rw (e, ne_eqb (x / 4096) 0 (λ q. omega (arith, ltb-false x 4096 e))))

pub next_column : (j s m : ℕ) {x : ℕ} → x ≡ j * s % m → (x + s % m) % m ≡ (j + 1) * s % m
next_column j s m e = rw e (sym (add-mod (j * s) s m) ∙ ap (λ (y : ℕ). y % m) (omega arith))

pub holds_none : (f : ℕ → ℕ) (l : List ℕ) → Holds f 0 l
holds_none f l = record { each = λ j h. absurd (omega arith) }

pub holds_more : {f : ℕ → ℕ} {m x : ℕ} {l : List ℕ} → Holds f m l → x ≡ f m → m < length l → Holds f (m + 1) (set l m x)
holds_more {f} {m} {x} {l} t e h = record {
  each = λ j g. ⊎_elim
      (λ (p : j ≡ m). rw (p, get_or-set_same l m x 0 h) e)
      (λ (p : j < m). rw (get_or-set_other l m j x 0 (λ q. omega arith)) (t.each j p))
      (eq-or-lt_of_le {n = j} {m = m} (omega arith));
}
