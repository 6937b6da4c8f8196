-- Laws of the generator's numbers and samples.
use mathlib.Core.Path.{◌≡◌, refl, sym, ap, ◌∙◌}
use mathlib.Core.List.{List}
use Prim.Native.Nat.{ℕ, ◌+◌, ◌<◌}
use native.Mathlib.Numerals.{add-one}
use lib.IntN.{ℤ}
use lib.ListN.{length}
use Rattle.integers.specs.Lists.{at}
use Rattle.integers.proofs.Lists.{ext_at, length-map_indexed, at_mapped}
use Rattle.case_pictures.specs.Generated.{next, after, sample, generated}

pub after_none : (x : ℕ) → after 0 x ≡ x
unfolding after
after_none x = refl

pub after_more : (n x : ℕ) {y z : ℕ} → y ≡ after n x → z ≡ next y → z ≡ after (n + 1) x
unfolding after
after_more n x e f = rw add-one (f ∙ ap next e)

-- the sample of a number after n + 1 steps
pub sample_more : (levels n x : ℕ) {y : ℕ} {s : ℤ} → y ≡ after (n + 1) x → s ≡ sample levels y → s ≡ sample levels (after (n + 1) x)
sample_more levels n x e f = f ∙ ap (sample levels) e

-- a plane that holds the sample at each index
pub generated_all : (levels x : ℕ) (l : List ℤ) → ((k : ℕ) → k < length l → at l k ≡ sample levels (after (k + 1) x)) → l ≡ generated levels x l
generated_all levels x l h =
    ext_at l (generated levels x l) (sym (length-map_indexed _ 0 l)) (λ k p. h k p ∙ sym (at_mapped (λ k z. sample levels (after (k + 1) x)) l k p))

-- and back
pub all_generated : (levels x : ℕ) (l : List ℤ) → l ≡ generated levels x l → (k : ℕ) → k < length l → at l k ≡ sample levels (after (k + 1) x)
all_generated levels x l e k p = ap (λ m. at m k) e ∙ at_mapped (λ k z. sample levels (after (k + 1) x)) l k p
