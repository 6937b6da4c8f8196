-- The table tells what `stage` does: how many places and steps a transform has, which step has a place, and which plane it changes.
use mathlib.Core.Path.{◌≡◌, refl}
use mathlib.Core.Bool.{Bool, true, false, cond}
use mathlib.Core.List.{List, [], ◌∷◌}
use Prim.Native.Nat.{ℕ, zero, suc, ◌+◌, ◌-◌, ◌≤◌, ◌<◌}
use native.Mathlib.Omega.{arith}
use lib.Dec.{lit≤}
use lib.ListN.{length}
use native.Mathlib.Numerals.{add-one}
use denote.Enum.Bare.{sameb}
use Rattle.stage.specs.contracts.Plane.{the_type}
use Rattle.stage.specs.Planes.{same_plane}
use Rattle.lifting.specs.declared.passes.Pass.{Pass}
use Rattle.stage.specs.declared.Plane.{Plane}
use Rattle.stage.specs.declared.Plane.TheVariants.{C1, C2, C3}
use Rattle.stage.specs.Steps.{Step, steps, places}
use Rattle.lifting.specs.Passes.{pass_at, has_place, step_of, last_change, last_of}

pub record Told (t : ℕ) : Type 0 where
  pub known : t ≤ 3
  pub some : 1 ≤ places (steps t)
  pub few : length (steps t) ≤ 4
  pub enough : length (steps t) ≤ places (steps t)
  pub last : (pass_at t (places (steps t) - 1)).step + 1 ≡ length (steps t)

pub told : (t : ℕ) → t ≤ 3 → Told t
told zero h = record { known = h; some = lit≤ tt; few = lit≤ tt; enough = lit≤ tt; last = refl }
told (suc zero) h = record { known = h; some = lit≤ tt; few = lit≤ tt; enough = lit≤ tt; last = refl }
told (suc (suc zero)) h = record { known = h; some = lit≤ tt; few = lit≤ tt; enough = lit≤ tt; last = refl }
told (suc (suc (suc zero))) h = record { known = h; some = lit≤ tt; few = lit≤ tt; enough = lit≤ tt; last = refl }
told (suc (suc (suc (suc t)))) h = absurd (omega arith)

-- a place is a known transform's
pub known : (t k : ℕ) → k < places (steps t) → t ≤ 3
known zero k h = lit≤ tt
known (suc zero) k h = lit≤ tt
known (suc (suc zero)) k h = lit≤ tt
known (suc (suc (suc zero))) k h = lit≤ tt
known (suc (suc (suc (suc t)))) k h = absurd (omega arith)

-- which step has a place: only RCT has two places in one step, its last
pub step_is : (t k : ℕ) → k < places (steps t) → (pass_at t k).step ≡ step_of (steps t) k
step_is zero zero h = refl
step_is zero (suc zero) h = refl
step_is zero (suc (suc zero)) h = refl
step_is zero (suc (suc (suc zero))) h = refl
step_is zero (suc (suc (suc (suc k)))) h = absurd (omega arith)
step_is (suc zero) zero h = refl
step_is (suc zero) (suc zero) h = refl
step_is (suc zero) (suc (suc zero)) h = refl
step_is (suc zero) (suc (suc (suc zero))) h = refl
step_is (suc zero) (suc (suc (suc (suc k)))) h = absurd (omega arith)
step_is (suc (suc zero)) zero h = refl
step_is (suc (suc zero)) (suc zero) h = refl
step_is (suc (suc zero)) (suc (suc k)) h = absurd (omega arith)
step_is (suc (suc (suc zero))) zero h = refl
step_is (suc (suc (suc zero))) (suc zero) h = refl
step_is (suc (suc (suc zero))) (suc (suc zero)) h = refl
step_is (suc (suc (suc zero))) (suc (suc (suc k))) h = absurd (omega arith)
step_is (suc (suc (suc (suc t)))) k h = absurd (omega arith)

-- up to which step a plane is changed
pub last_is : (t : ℕ) → t ≤ 3 → (c : Plane) → last_of t c (places (steps t)) ≡ last_change (steps t) c
last_is zero h C1 = refl
last_is zero h C2 = refl
last_is zero h C3 = refl
last_is (suc zero) h C1 = refl
last_is (suc zero) h C2 = refl
last_is (suc zero) h C3 = refl
last_is (suc (suc zero)) h C1 = refl
last_is (suc (suc zero)) h C2 = refl
last_is (suc (suc zero)) h C3 = refl
last_is (suc (suc (suc zero))) h C1 = refl
last_is (suc (suc (suc zero))) h C2 = refl
last_is (suc (suc (suc zero))) h C3 = refl
last_is (suc (suc (suc (suc t)))) h c = absurd (omega arith)

-- `==` of planes
pub same_is : (c d : Plane) → sameb the_type c d ≡ same_plane c d
same_is C1 C1 = refl
same_is C1 C2 = refl
same_is C1 C3 = refl
same_is C2 C1 = refl
same_is C2 C2 = refl
same_is C2 C3 = refl
same_is C3 C1 = refl
same_is C3 C2 = refl
same_is C3 C3 = refl

-- one pass more
pub last_more : (t : ℕ) (c : Plane) (k : ℕ) {x : Pass} (b : Bool) {m : ℕ} → x ≡ pass_at t k → b ≡ same_plane x.changed c → m ≡ last_of t c k
    → cond b (x.step + 1) m ≡ last_of t c (k + 1)
last_more t c k b e f g = rw (f, e, g, add-one k) refl

pub step_inside : (l : List Step) (k : ℕ) → step_of l k ≤ length l
step_inside [] k = omega arith
step_inside (s ∷ l) k = pick (has_place s.term k) (step_inside l k)
  where
    pick : (b : Bool) → step_of l k ≤ length l → cond b 0 (suc (step_of l k)) ≤ suc (length l)
    pick true h = omega arith
    pick false h = omega arith

-- places are numbered in the order of their steps
pub step_order : (t k : ℕ) → k + 1 < places (steps t) → step_of (steps t) k ≤ step_of (steps t) (k + 1)
step_order zero zero h = lit≤ tt
step_order zero (suc zero) h = lit≤ tt
step_order zero (suc (suc zero)) h = lit≤ tt
step_order zero (suc (suc (suc k))) h = absurd (omega arith)
step_order (suc zero) zero h = lit≤ tt
step_order (suc zero) (suc zero) h = lit≤ tt
step_order (suc zero) (suc (suc zero)) h = lit≤ tt
step_order (suc zero) (suc (suc (suc k))) h = absurd (omega arith)
step_order (suc (suc zero)) zero h = lit≤ tt
step_order (suc (suc zero)) (suc k) h = absurd (omega arith)
step_order (suc (suc (suc zero))) zero h = lit≤ tt
step_order (suc (suc (suc zero))) (suc zero) h = lit≤ tt
step_order (suc (suc (suc zero))) (suc (suc k)) h = absurd (omega arith)
step_order (suc (suc (suc (suc t)))) k h = absurd (omega arith)
