-- Laws of segments: a loop over one, and the samples that it has still to change, which are as they were, so in range.
use Rattle.std.proofs.Common.{◌≡◌, ℕ, ◌+◌, ◌*◌, ◌<◌, ◌≤◌, List, length, set, ℤ, refl, ap, ◌∙◌, ap₂, mul-le-mul_right, arith, lit<, lit≤, to_z-of_z, w32, to_z, of_z}
use Rattle.integers.specs.Parts.{In}
use Rattle.integers.specs.Lists.{at, Changed}
use Rattle.integers.proofs.Ranges.{in_fits}
use Rattle.integers.proofs.Changes.{changed_none, changed_more, changed_as, changed_join}
use Rattle.kernel.specs.Pass.{KeptPass, applied}
use Rattle.kernel.specs.Lifting.{Liftable, SegmentIn, Segment, Lifted}
use Rattle.kernel.specs.Window.{SampleWindow, ValueIn}

-- whole rows, sample by sample
pub rows_segment : {w h f : ℕ} {p : KeptPass} {i j : ℕ} {a c : List ℤ} → Liftable w h f p i j a c → Segment (λ k. SampleWindow k a) p (i * w) (j * w) c
rows_segment {w} r =
    let m = mul-le-mul_right w r.order in
    let n = mul-le-mul_right w r.rows in
    record {
      windows = λ k x y. record { inside = omega arith; samples = r.read };
      pass = r.pass;
      order = m;
      end = omega arith;
      changed = record { each = λ k g h. r.changed.each k };
    }

-- a part of a segment, with windows of its own, once what comes before it is done
pub segment_rest : {own other : ℕ → Type 0} {p : KeptPass} {i j m n : ℕ} {f : ℕ → ℤ → ℤ} {c after : List ℤ} → Segment other p i j c → Changed f i m c after
    → ((k : ℕ) → m ≤ k → k < n → own k) → i ≤ m → m ≤ n → n ≤ j → Segment own p m n after
segment_rest b u windows g h l = record {
  windows = windows;
  pass = b.pass;
  order = h;
  end = omega (arith, u.long);
  changed = record { each = λ k x y. rw (u.high k x) (b.changed.each k (omega arith) (omega arith)) };
}

-- what `apply` answers of a sample and a filtered value
pub applied_is : (p : KeptPass) {x y z r : ℤ} → In 4194304 4194304 x → ValueIn 524288 z y → r ≡ applied p (to_z w32 (of_z w32 x)) (to_z w32 (of_z w32 y)) → r ≡ applied p x z
applied_is p h v e = e ∙ ap₂ (applied p) (to_z-of_z {w = w32} (in_fits h (lit≤ tt) (lit< tt))) (to_z-of_z {w = w32} (in_fits v.range (lit≤ tt) (lit< tt)) ∙ v.is)

-- a loop over the indices i to j − 1 that has come to k
pub record Progress (p : KeptPass) (f : ℕ → ℤ) (i j k : ℕ) (before after : List ℤ) : Type 0 where
  pub least : i ≤ k
  pub most : k ≤ j
  pub done : Lifted p f i k before after

pub progress_none : {p : KeptPass} {i j : ℕ} {f : ℕ → ℤ} {l : List ℤ} → i ≤ j → Progress p f i j i l l
progress_none h = record { least = omega arith; most = h; done = changed_none _ _ refl }

module _ {p : KeptPass} {i j k : ℕ} {f : ℕ → ℤ} {before after : List ℤ} (u : Progress p f i j k before after) where
  pub progress_in : {bound : ℕ} → SegmentIn bound i j before → k < j → In bound bound (at after k)
  progress_in h l = rw (u.done.high k (omega arith)) (h.each k u.least l)

  pub progress_set : {z : ℤ} → k < j → j ≤ length before → z ≡ applied p (at after k) (f k) → Progress p f i j (k + 1) before (set after k z)
  progress_set {z} l h e = record {
    least = omega arith;
    most = omega arith;
    done = changed_more z u.done u.least (omega arith) (e ∙ ap (λ (x : ℤ). applied p x (f k)) (u.done.high k (omega arith))) refl;
  }

  pub progress_join : {n : ℕ} {next : List ℤ} → k ≤ n → n ≤ j → Lifted p f k n after next → Progress p f i j n before next
  progress_join g h v = record { least = omega arith; most = h; done = changed_join u.done v u.least g }

  pub progress_all : j ≤ k → Lifted p f i j before after
  progress_all h = changed_as i j u.done refl (omega arith) (λ n z a b. refl)
