-- Every third sample of a raster, by index; and a plane that was filled with them.
use mathlib.Core.Path.{◌≡◌, refl, sym, ap, ◌∙◌}
use mathlib.Core.List.{List, [], ◌∷◌}
use Prim.Native.Nat.{ℕ, zero, suc, ◌+◌, ◌*◌, ◌≤◌, ◌<◌}
use native.Mathlib.Omega.{arith}
use lib.IntN.{ℤ, pos}
use lib.ListN.{length, drop, get_or, length-drop}
use lib.Seq.{get_or-drop}
use Rattle.integers.specs.Lists.{at}
use Rattle.integers.proofs.Lists.{ext_at}
use Rattle.integers.proofs.Linear.{eq_lin, flat, count}
use Rattle.stage.specs.Pixmap.{every_third}
use Rattle.raster.specs.Samples.{Filled}

three : (k : ℕ) → 3 * suc k ≡ suc (suc (suc (3 * k)))
three k = omega arith

third_at : (l : List ℕ) (k : ℕ) → at (every_third l) k ≡ pos (get_or l (3 * k) 0)
unfolding every_third
third_at [] k = refl
third_at (a ∷ []) zero = refl
third_at (a ∷ b ∷ []) zero = refl
third_at (a ∷ b ∷ c ∷ l) zero = refl
third_at (a ∷ []) (suc k) = rw (three k)
third_at (a ∷ b ∷ []) (suc k) = rw (three k)
third_at (a ∷ b ∷ c ∷ l) (suc k) = rw (three k) (third_at l k)

-- pixel k, `offset` samples into it, is sample 3 × k + offset; past the end both are 0
pub sample_at_lem : (raster : List ℕ) (offset k : ℕ) → pos (get_or raster (3 * k + offset) 0) ≡ at (every_third (drop offset raster)) k
sample_at_lem raster offset k =
    let e : 3 * k + offset ≡ offset + 3 * k = omega arith in
    sym (third_at (drop offset raster) k ∙ ap pos (get_or-drop offset raster (3 * k) 0 ∙ ap (λ (n : ℕ). get_or raster n 0) (sym e)))

third_long : (l : List ℕ) (n : ℕ) → length l ≤ 3 * n → 3 * n < length l + 3 → length (every_third l) ≡ n
unfolding every_third
third_long [] n h g = omega arith
third_long (a ∷ []) n h g = omega arith
third_long (a ∷ b ∷ []) n h g = omega arith
third_long (a ∷ b ∷ c ∷ l) zero h g = absurd (omega arith)
third_long (a ∷ b ∷ c ∷ l) (suc n) h g = ap suc (third_long l n (omega arith) (omega arith))

-- a plane that was filled with every third sample
pub third_filled : (samples : List ℕ) (offset : ℕ) {before after : List ℤ} → Filled samples 3 offset 0 before after → length samples ≡ 3 * length before → offset ≤ 2
    → after ≡ every_third (drop offset samples)
third_filled samples offset {before} {after} f e o =
    let l = drop offset samples in
    let d = length-drop offset samples in
    ext_at after (every_third l) (f.long ∙ sym (third_long l (length before) (omega arith) (omega arith)))
    (λ k b. f.each k (omega (arith, f.long)) ∙ eq_lin (simp flat (simp count (omega arith))) ∙ sample_at_lem samples offset k)
