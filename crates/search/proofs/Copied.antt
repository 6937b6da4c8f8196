-- A list overwritten from the front by the numbers of another.
use mathlib.Core.Path.{◌≡◌, ◌∙◌}
use mathlib.Core.Logic.{⊎_elim}
use mathlib.Core.List.{List}
use Prim.Native.Nat.{ℕ, ◌+◌, ◌≤◌, ◌<◌}
use native.Mathlib.Omega.{arith}
use native.Mathlib.Nat.{eq-or-lt_of_le}
use lib.ListN.{length, take, get_or, set, length-set}
use lib.Seq.{ext_get_or, get_or-set_same, get_or-set_other, get_or-take, length-take-le}

-- The first i elements are the source's. Past the end stands z.
pub record Copied {A : Type 0} (z : A) (source : List A) (i : ℕ) (target : List A) : Type 0 where
  pub inside : i ≤ length source
  pub room : length source ≤ length target
  pub front : (k : ℕ) → k < i → get_or target k z ≡ get_or source k z

module _ {A : Type 0} (z : A) where
  pub copied_none : (source target : List A) → length source ≤ length target → Copied z source 0 target
  copied_none source target h = record { inside = omega arith; room = h; front = λ k p. absurd (omega arith) }

  pub copied_more : {source target : List A} {i : ℕ} (v : A) → Copied z source i target → i < length source → v ≡ get_or source i z → Copied z source (i + 1) (set target i v)
  copied_more {source} {target} {i} v c h e = record {
    inside = omega arith;
    room = rw (length-set target i v) c.room;
    front = λ k p. ⊎_elim
        (λ (t : k ≡ i). rw t (get_or-set_same target i v z (omega arith) ∙ e))
        (λ (t : k < i). get_or-set_other target i k v z (omega arith) ∙ c.front k t)
        (eq-or-lt_of_le {n = k} {m = i} (omega arith));
  }

  pub copied_all : {source target : List A} {i : ℕ} → Copied z source i target → length source ≤ i → take (length source) target ≡ source
  copied_all {source} {target} c h =
      let e = length-take-le (length source) target c.room in
      ext_get_or z (take (length source) target) source e (λ k p. get_or-take (length source) target k z (omega (arith, e)) ∙ c.front k (omega (arith, e)))
