-- What the passes over a plane ask for, and what they do. Plane a is read, plane c is changed.
use Rattle.std.specs.Prelude.{◌≡◌, ℕ, ◌+◌, ◌*◌, ◌<◌, ◌≤◌, List, length, ℤ}
use Rattle.integers.specs.Parts.{In}
use Rattle.integers.specs.Lists.{at, AllIn, Changed}
use Rattle.kernel.specs.Pass.{KeptPass, PassAllowed, applied}
use Rattle.kernel.specs.Centre.{CentreWeight}
use Rattle.kernel.specs.Window.{MeanWindows, SampleWindow, one_if}
use Rattle.kernel.specs.declared.centre.Centre.{Centre}
use Rattle.kernel.specs.declared.window.Border.{Border}

-- rows i to j − 1, with filter f and pass p
pub record Liftable (w h f : ℕ) (p : KeptPass) (i j : ℕ) (a c : List ℤ) : Type 0 where
  pub filter : f ≤ 12
  pub pass : PassAllowed p
  pub order : i ≤ j
  pub rows : j ≤ h
  pub read_size : length a ≡ w * h
  pub changed_size : length c ≡ w * h
  pub read : AllIn 524288 524288 a
  pub changed : AllIn 4194304 4194304 c

-- the same with a filter that has a window
pub record LiftableMeans (w h f : ℕ) (p : KeptPass) (i j : ℕ) (a c : List ℤ) : Type 0 where
  pub least : 1 ≤ f
  pub most : f ≤ 11
  pub whole : Liftable w h f p i j a c

-- the samples at indices i to j − 1 lie in −bound .. bound; others may be changed already
pub record SegmentIn (bound i j : ℕ) (l : List ℤ) : Type 0 where
  pub each : (k : ℕ) → i ≤ k → k < j → In bound bound (at l k)

-- indices i to j − 1 with windows that are inside
pub record Segment (inside : ℕ → Type 0) (p : KeptPass) (i j : ℕ) (c : List ℤ) : Type 0 where
  pub windows : (k : ℕ) → i ≤ k → k < j → inside k
  pub pass : PassAllowed p
  pub order : i ≤ j
  pub end : j ≤ length c
  pub changed : SegmentIn 4194304 i j c

-- the same by means
abbrev pub MeanSegment : Border → KeptPass → (i j : ℕ) (a c : List ℤ) → Type 0
MeanSegment b p i j a c =
    Segment (λ k. MeanWindows b.centre b.width (one_if b.left) (one_if b.right) (one_if b.above) (one_if b.below) k (k + 1) a) p i j c

-- row y by means
pub record MeanRow (centre : Centre) (w h y : ℕ) (p : KeptPass) (a c : List ℤ) : Type 0 where
  pub row : y < h
  pub size : length a ≡ w * h
  pub segment : Segment (λ k. SampleWindow k a) p (y * w) (y * w + w) c
  pub read : AllIn 524288 524288 a
  pub weights : CentreWeight centre

-- the samples at indices i to j − 1 have become what pass p makes of them with f
abbrev pub Lifted : KeptPass → (ℕ → ℤ) → ℕ → ℕ → List ℤ → List ℤ → Type 0
Lifted p f i j before after = Changed (λ k z. applied p z (f k)) i j before after
