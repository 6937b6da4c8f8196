-- Laws of Changed: what a loop that changes a list part by part has done.
use mathlib.Core.Path.{◌≡◌, refl, sym, ap, ◌∙◌}
use mathlib.Core.Logic.{⊎_elim}
use mathlib.Core.List.{List}
use Prim.Native.Nat.{ℕ, ◌+◌, ◌<◌, ◌≤◌}
use native.Mathlib.Omega.{arith}
use native.Mathlib.Decide.{dec_lt}
use native.Mathlib.Nat.{eq-or-lt_of_le}
use lib.IntN.{ℤ, pos}
use lib.ListN.{length, set, length-set}
use lib.Seq.{get_or-set_same, get_or-set_other}
use Rattle.integers.specs.Parts.{In}
use Rattle.integers.specs.Lists.{at, AllIn, map_indexed, Changed}
use Rattle.integers.proofs.Lists.{ext_at, length-map_indexed, at_mapped}

pub changed_none : (f : ℕ → ℤ → ℤ) {i j : ℕ} (l : List ℤ) → i ≡ j → Changed f i j l l
changed_none f {i} {j} l e = record { long = refl; new = λ k p q. absurd (omega arith); low = λ k p. refl; high = λ k p. refl }

-- a function that leaves numbers as they are: any part may be called changed
pub changed_idle : (f : ℕ → ℤ → ℤ) (i j : ℕ) (l : List ℤ) → ((k : ℕ) (z : ℤ) → f k z ≡ z) → Changed f i j l l
changed_idle f i j l e = record { long = refl; new = λ k p q. sym (e k (at l k)); low = λ k p. refl; high = λ k p. refl }

-- one number more
pub changed_more : {f : ℕ → ℤ → ℤ} {before after : List ℤ} {i j m : ℕ} (z : ℤ) → Changed f i j before after → i ≤ j → j < length before → z ≡ f j (at before j) → j + 1 ≡ m → Changed f i m before (set after j z)
changed_more {f} {before} {after} {i} {j} {m} z u h b e g = record {
  long = length-set after j z ∙ u.long;
  new = λ k p q. ⊎_elim
      (λ (t : k ≡ j). rw t (get_or-set_same after j z (pos 0) (omega (arith, u.long)) ∙ e))
      (λ (t : k < j). get_or-set_other after j k z (pos 0) (omega arith) ∙ u.new k p t)
      (eq-or-lt_of_le {n = k} {m = j} (omega arith));
  low = λ k p. get_or-set_other after j k z (pos 0) (omega arith) ∙ u.low k p;
  high = λ k p. get_or-set_other after j k z (pos 0) (omega arith) ∙ u.high k (omega arith);
}

-- a part, and then the next
pub changed_join : {f : ℕ → ℤ → ℤ} {before between after : List ℤ} {i j m : ℕ} → Changed f i j before between → Changed f j m between after → i ≤ j → j ≤ m → Changed f i m before after
changed_join {f} {before} {between} {after} {i} {j} {m} u v g h = record {
  long = v.long ∙ u.long;
  new = λ k p q. go k p q (dec_lt k j);
  low = λ k p. v.low k (omega arith) ∙ u.low k p;
  high = λ k p. v.high k p ∙ u.high k (omega arith);
}
  where
    go : (k : ℕ) → i ≤ k → k < m → Dec (k < j) → at after k ≡ f k (at before k)
    go k p q (yes r) = v.low k r ∙ u.new k p r
    go k p q (no r) = v.new k (omega arith) q ∙ ap (f k) (u.high k (omega arith))

-- another function that agrees from i to j, or the same bounds otherwise written
pub changed_as : {f g : ℕ → ℤ → ℤ} {before after : List ℤ} {i j : ℕ} (m n : ℕ) → Changed f i j before after → i ≡ m → j ≡ n → ((k : ℕ) (z : ℤ) → i ≤ k → k < j → f k z ≡ g k z) → Changed g m n before after
changed_as {f} {g} {before} {after} {i} {j} m n u p q e = record {
  long = u.long;
  new = λ k a b. u.new k (omega arith) (omega arith) ∙ e k (at before k) (omega arith) (omega arith);
  low = λ k a. u.low k (omega arith);
  high = λ k a. u.high k (omega arith);
}

-- the whole list
pub changed_all : {f : ℕ → ℤ → ℤ} {before after : List ℤ} {n : ℕ} → Changed f 0 n before after → length before ≤ n → after ≡ map_indexed f 0 before
changed_all {f} {before} {after} {n} u h =
    ext_at after (map_indexed f 0 before) (u.long ∙ sym (length-map_indexed f 0 before))
    (λ k b. let p : k < length before = omega (arith, u.long) in
    u.new k (omega arith) (omega arith) ∙ sym (at_mapped f before k p))

-- a part changed twice
pub changed_twice : {f g : ℕ → ℤ → ℤ} {before between after : List ℤ} {i j : ℕ} → Changed f i j before between → Changed g i j between after → Changed (λ k z. g k (f k z)) i j before after
changed_twice {g} u v = record {
  long = v.long ∙ u.long;
  new = λ k p q. v.new k p q ∙ ap (g k) (u.new k p q);
  low = λ k p. v.low k p ∙ u.low k p;
  high = λ k p. v.high k p ∙ u.high k p;
}

-- a number outside the part is as before, so in its range
pub changed_in : {f : ℕ → ℤ → ℤ} {before after : List ℤ} {i j l h : ℕ} → Changed f i j before after → AllIn l h before → ((k : ℕ) → i ≤ k → k < j → In l h (f k (at before k))) → AllIn l h after
changed_in {after} {i} {j} {l} {h} u a g = record { each = λ k. go k (dec_lt k i) (dec_lt k j) }
  where
    go : (k : ℕ) → Dec (k < i) → Dec (k < j) → In l h (at after k)
    go k (yes p) q = rw (u.low k p) (a.each k)
    go k (no p) (yes q) = rw (u.new k (omega arith) q) (g k (omega arith) q)
    go k (no p) (no q) = rw (u.high k (omega arith)) (a.each k)
