-- Samples of two bytes, by index and in number; and samples as bytes, there and back.
use mathlib.Core.Path.{◌≡◌, refl, ap₂}
use mathlib.Core.Bool.{Bool, true, false, cond}
use mathlib.Core.List.{List, [], ◌∷◌}
use Prim.Native.Nat.{ℕ, zero, suc, ◌+◌, ◌*◌, ◌/◌, ◌%◌, ◌≤◌, ◌<◌}
use native.Mathlib.Omega.{arith}
use lib.Dec.{ltb, lit≤}
use lib.ListN.{length, get_or}
use Rattle.raster.specs.Pairs.{pairs_long}
use Rattle.stage.specs.Raster.{sample_bytes, from_pairs, to_pairs, raster_samples, samples_raster}

twice : (i : ℕ) → 2 * suc i ≡ suc (suc (2 * i))
twice i = omega arith

behind : (n : ℕ) → suc (suc n) + 1 ≡ suc (suc (n + 1))
behind n = omega arith

pub pair_at : (l : List ℕ) (i : ℕ) → 2 * i + 1 < length l → get_or (from_pairs l) i 0 ≡ 256 * get_or l (2 * i) 0 + get_or l (2 * i + 1) 0
unfolding from_pairs
pair_at [] i h = absurd (omega arith)
pair_at (a ∷ []) i h = absurd (omega arith)
pair_at (a ∷ b ∷ l) zero h = refl
pair_at (a ∷ b ∷ l) (suc i) h = rw (twice i, behind (2 * i)) (pair_at l i (omega arith))

-- a sample has one byte or two
pub bytes_most : (m : ℕ) → sample_bytes m ≤ 2
bytes_most m = by (ltb m 256)
  where
    by : (t : Bool) → cond t 1 2 ≤ 2
    by true = lit≤ tt
    by false = lit≤ tt

-- as many samples as their bytes tell
pub samples_long : (m n : ℕ) (l : List ℕ) → length l ≡ sample_bytes m * n → length (raster_samples m l) ≡ n
samples_long m n l e = by (ltb m 256) e
  where
    by : (t : Bool) → length l ≡ cond t 1 2 * n → length (cond t l (from_pairs l)) ≡ n
    by true f = omega arith
    by false f = omega (arith, pairs_long l)

-- and as many bytes as samples tell
pairs_twice : (l : List ℕ) → length (to_pairs l) ≡ 2 * length l
unfolding to_pairs
pairs_twice [] = refl
pairs_twice (n ∷ l) = omega (arith, pairs_twice l)

pub raster_long : (m : ℕ) (l : List ℕ) → length (samples_raster m l) ≡ sample_bytes m * length l
raster_long m l = by (ltb m 256)
  where
    by : (t : Bool) → length (cond t l (to_pairs l)) ≡ cond t 1 2 * length l
    by true = omega arith
    by false = pairs_twice l

-- the bytes of one sample
pub one_pair : (n : ℕ) → to_pairs (n ∷ []) ≡ (n / 256) ∷ (n % 256) ∷ []
unfolding to_pairs
one_pair n = refl

-- bytes that change places
pub swap : (a b n : ℕ) → a < 256 → b < 256 → n ≡ a + 256 * b → 256 * (n % 256) + n / 256 ≡ 256 * a + b
swap a b n h g e = omega arith

-- ---- there and back
pairs_back : (l : List ℕ) → from_pairs (to_pairs l) ≡ l
unfolding from_pairs to_pairs
pairs_back [] = refl
pairs_back (n ∷ l) = let e : 256 * (n / 256) + n % 256 ≡ n = omega arith in ap₂ ◌∷◌ e (pairs_back l)

pub samples_back : (m : ℕ) (l : List ℕ) → raster_samples m (samples_raster m l) ≡ l
samples_back m l = by (ltb m 256)
  where
    by : (t : Bool) → cond t (cond t l (to_pairs l)) (from_pairs (cond t l (to_pairs l))) ≡ l
    by true = refl
    by false = pairs_back l

pairs_kept : (l : List ℕ) (n : ℕ) → ((k : ℕ) → get_or l k 0 ≤ 255) → length l ≡ 2 * n → to_pairs (from_pairs l) ≡ l
unfolding from_pairs to_pairs
pairs_kept [] n h e = refl
pairs_kept (a ∷ []) n h e = absurd (omega arith)
pairs_kept (a ∷ b ∷ l) zero h e = absurd (omega arith)
pairs_kept (a ∷ b ∷ l) (suc n) h e =
    let c = h 1 in
    let x : (256 * a + b) / 256 ≡ a = omega arith in
    let y : (256 * a + b) % 256 ≡ b = omega arith in
    ap₂ ◌∷◌ x (ap₂ ◌∷◌ y (pairs_kept l n (λ k. h (suc (suc k))) (omega arith)))

pub raster_back : (m n : ℕ) (l : List ℕ) → ((k : ℕ) → get_or l k 0 ≤ 255) → length l ≡ sample_bytes m * n → samples_raster m (raster_samples m l) ≡ l
raster_back m n l h e = by (ltb m 256) e
  where
    by : (t : Bool) → length l ≡ cond t 1 2 * n → cond t (cond t l (from_pairs l)) (to_pairs (cond t l (from_pairs l))) ≡ l
    by true f = refl
    by false f = pairs_kept l n h f
