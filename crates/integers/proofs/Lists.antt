-- Laws of lists of whole numbers by index.
use mathlib.Core.Path.{◌≡◌, refl, ap, ap₂, ◌∙◌}
use mathlib.Core.Logic.{◌↔◌}
use mathlib.Core.List.{List, [], ◌∷◌}
use Prim.Native.Nat.{ℕ, zero, suc, ◌+◌, ◌<◌, ◌≤◌}
use native.Mathlib.Omega.{arith}
use native.Mathlib.Nat.{not-suc-le-zero, le_of_suc-le-suc}
use lib.Dec.{T}
use lib.IntN.{ℤ, pos}
use lib.ListN.{length}
use lib.Seq.{ext_get_or}
use Rattle.integers.specs.Parts.{In, within}
use Rattle.integers.specs.Lists.{at, AllIn, all_within, map_indexed}
use Rattle.integers.proofs.Booleans.{and_iff}
use Rattle.integers.proofs.Ranges.{in_zero, in_wider, within_iff}

pub ext_at : (l m : List ℤ) → length l ≡ length m → ((k : ℕ) → k < length l → at l k ≡ at m k) → l ≡ m
ext_at l m e h = ext_get_or (pos 0) l m e h

-- ---- map_indexed
pub length-map_indexed : (f : ℕ → ℤ → ℤ) (i : ℕ) (l : List ℤ) → length (map_indexed f i l) ≡ length l
length-map_indexed f i [] = refl
length-map_indexed f i (z ∷ l) = ap suc (length-map_indexed f (suc i) l)

pub at-map_indexed : (f : ℕ → ℤ → ℤ) (i : ℕ) (l : List ℤ) (k : ℕ) → k < length l → at (map_indexed f i l) k ≡ f (i + k) (at l k)
at-map_indexed f i [] k h = absurd (not-suc-le-zero h)
at-map_indexed f i (z ∷ l) zero h = let e : i ≡ i + zero = omega arith in ap (λ (n : ℕ). f n z) e
at-map_indexed f i (z ∷ l) (suc k) h =
    let e : suc i + k ≡ i + suc k = omega arith in
    at-map_indexed f (suc i) l k (le_of_suc-le-suc h) ∙ ap (λ (n : ℕ). f n (at l k)) e

-- from index 0
pub at_mapped : (f : ℕ → ℤ → ℤ) (l : List ℤ) (k : ℕ) → k < length l → at (map_indexed f 0 l) k ≡ f k (at l k)
at_mapped f l k h = let e : 0 + k ≡ k = omega arith in at-map_indexed f 0 l k h ∙ ap (λ (n : ℕ). f n (at l k)) e

-- a function that changes no number at an index
pub at_stays : (f : ℕ → ℤ → ℤ) (i : ℕ) (l : List ℤ) (k : ℕ) → ((z : ℤ) → f (i + k) z ≡ z) → at (map_indexed f i l) k ≡ at l k
at_stays f i [] k h = refl
at_stays f i (z ∷ l) zero h = let e : i ≡ i + zero = omega arith in ap (λ (n : ℕ). f n z) e ∙ h z
at_stays f i (z ∷ l) (suc k) h = at_stays f (suc i) l k (λ y. let e : suc i + k ≡ i + suc k = omega arith in ap (λ (n : ℕ). f n y) e ∙ h y)

-- functions that agree below n
pub map_indexed_cong : (f g : ℕ → ℤ → ℤ) (n : ℕ) → ((i : ℕ) (z : ℤ) → i < n → f i z ≡ g i z) → (i : ℕ) (l : List ℤ) → i + length l ≤ n → map_indexed f i l ≡ map_indexed g i l
map_indexed_cong f g n h i [] b = refl
map_indexed_cong f g n h i (z ∷ l) b = ap₂ ◌∷◌ (h i z (omega arith)) (map_indexed_cong f g n h (suc i) l (omega arith))

pub map_indexed_same : (f g : ℕ → ℤ → ℤ) → ((i : ℕ) (z : ℤ) → f i z ≡ g i z) → (i : ℕ) (l : List ℤ) → map_indexed f i l ≡ map_indexed g i l
map_indexed_same f g h i l = map_indexed_cong f g (i + length l) (λ k z b. h k z) i l (omega arith)

pub map_indexed_inverse : (P : ℤ → Type 0) (f g : ℕ → ℤ → ℤ) → ((i : ℕ) (z : ℤ) → P z → g i (f i z) ≡ z) → (i : ℕ) (l : List ℤ) → ((k : ℕ) → P (at l k)) → map_indexed g i (map_indexed f i l) ≡ l
map_indexed_inverse P f g h i [] p = refl
map_indexed_inverse P f g h i (z ∷ l) p = ap₂ ◌∷◌ (h i z (p 0)) (map_indexed_inverse P f g h (suc i) l (λ k. p (suc k)))

pub map_indexed_id : (i : ℕ) (l : List ℤ) → map_indexed (λ k z. z) i l ≡ l
map_indexed_id i [] = refl
map_indexed_id i (z ∷ l) = ap (λ (m : List ℤ). z ∷ m) (map_indexed_id (suc i) l)

-- what f makes of numbers with P has Q; past the end stands 0
pub map_indexed_every : (P Q : ℤ → Type 0) → Q (pos 0) → (f : ℕ → ℤ → ℤ) → ((i : ℕ) (z : ℤ) → P z → Q (f i z)) → (i : ℕ) (l : List ℤ) → ((k : ℕ) → P (at l k)) → (k : ℕ) → Q (at (map_indexed f i l) k)
map_indexed_every P Q o f h i [] p k = o
map_indexed_every P Q o f h i (z ∷ l) p zero = h i z (p 0)
map_indexed_every P Q o f h i (z ∷ l) p (suc k) = map_indexed_every P Q o f h (suc i) l (λ j. p (suc j)) k

pub map_indexed_in : {l h m n : ℕ} (f : ℕ → ℤ → ℤ) → ((i : ℕ) (z : ℤ) → In l h z → In m n (f i z)) → (i : ℕ) (xs : List ℤ) → AllIn l h xs → AllIn m n (map_indexed f i xs)
map_indexed_in {l} {h} {m} {n} f g i xs a = record { each = map_indexed_every (In l h) (In m n) (in_zero m n) f g i xs a.each }

pub all_wider : {k l m n : ℕ} {xs : List ℤ} → AllIn k l xs → k ≤ m → l ≤ n → AllIn m n xs
all_wider a p q = record { each = λ k. in_wider (a.each k) p q }

pub all_cons : {l h : ℕ} {z : ℤ} {xs : List ℤ} → AllIn l h (z ∷ xs) ↔ (In l h z × AllIn l h xs)
all_cons {l} {h} {z} {xs} = ((λ a. (a.each 0, record { each = λ k. a.each (suc k) })), (λ p. record { each = go p.0 p.1 }))
  where
    go : In l h z → AllIn l h xs → (k : ℕ) → In l h (at (z ∷ xs) k)
    go x a zero = x
    go x a (suc k) = a.each k

-- ---- the test of a list
pub all_within_iff : (l h : ℕ) (xs : List ℤ) → T (all_within l h xs) ↔ AllIn l h xs
unfolding all_within
all_within_iff l h [] = ((λ t. record { each = λ k. in_zero l h }), (λ a. tt))
all_within_iff l h (z ∷ xs) =
    let both = and_iff (within l h z) (all_within l h xs) in
    let rest = all_within_iff l h xs in
    let first = within_iff l h z in (
      (λ t. all_cons.1 (first.0 (both.0 t).0, rest.0 (both.0 t).1)),
      (λ a. both.1 (first.1 (all_cons.0 a).0, rest.1 (all_cons.0 a).1)),
    )
