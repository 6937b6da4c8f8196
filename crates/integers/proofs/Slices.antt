-- Laws of a part of a list.
use mathlib.Core.Path.{◌≡◌, ap, ◌∙◌}
use mathlib.Core.List.{List, [], ◌∷◌, ◌++◌}
use Prim.Native.Nat.{ℕ, suc, ◌+◌, ◌-◌, ◌≤◌, ◌<◌}
use native.Mathlib.Omega.{arith}
use lib.ListN.{length, get_or, take, drop, length-drop}
use lib.Seq.{take-suc, take_all, take-add, drop-cons, drop-drop, get_or-drop}
use Rattle.integers.specs.Slices.{slice}

module _ {A : Type 0} (l : List A) where
  pub slice_none : (k : ℕ) → slice l k k ≡ []
  slice_none k = let e : k - k ≡ 0 = omega arith in rw e

  pub slice_front : (k : ℕ) → slice l 0 k ≡ take k l
  slice_front k = let e : k - 0 ≡ k = omega arith in rw e

  pub slice_back : (k n : ℕ) → n ≡ length l → slice l k n ≡ drop k l
  slice_back k n e = take_all (n - k) (drop k l) (omega (arith, length-drop k l))

  -- a part in two
  pub slice_split : (i j k : ℕ) → i ≤ j → j ≤ k → slice l i k ≡ slice l i j ++ slice l j k
  slice_split i j k g h =
      let m : k - i ≡ (j - i) + (k - j) = omega arith in
      let n : i + (j - i) ≡ j = omega arith in
      ap (λ (x : ℕ). take x (drop i l)) m ∙ take-add (j - i) (k - j) (drop i l)
      ∙ ap (λ (r : List A). slice l i j ++ take (k - j) r) (drop-drop (j - i) i l ∙ ap (λ (x : ℕ). drop x l) n)

  -- one element more behind, and before
  pub slice_more : (d : A) (i k : ℕ) → i ≤ k → k < length l → slice l i (k + 1) ≡ slice l i k ++ get_or l k d ∷ []
  slice_more d i k h b =
      let m : k + 1 - i ≡ suc (k - i) = omega arith in
      let e : i + (k - i) ≡ k = omega arith in
      ap (λ (n : ℕ). take n (drop i l)) m ∙ take-suc (drop i l) (k - i) d (omega (arith, length-drop i l))
      ∙ ap (λ (x : A). slice l i k ++ x ∷ []) (get_or-drop i l (k - i) d ∙ ap (λ (n : ℕ). get_or l n d) e)

  pub slice-cons : (d : A) (k n : ℕ) → k < n → n ≤ length l → slice l k n ≡ get_or l k d ∷ slice l (suc k) n
  slice-cons d k n h b =
      let m : n - k ≡ suc (n - suc k) = omega arith in
      ap (λ (x : ℕ). take x (drop k l)) m ∙ ap (take (suc (n - suc k))) (drop-cons l k d (omega arith))
