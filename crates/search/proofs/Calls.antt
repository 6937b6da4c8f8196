-- The calls past their tests: what the work on the copied picture asks holds, and its result is that of the definitions.
use mathlib.Core.Path.{◌≡◌, refl, sym, ap, ◌∙◌, subst}
use mathlib.Core.Bool.{Bool, ◌&&◌}
use mathlib.Core.List.{List, [], ◌∷◌, ◌++◌}
use Prim.Native.Nat.{ℕ, zero, suc, ◌*◌, ◌<◌}
use native.Mathlib.Omega.{arith}
use lib.Dec.{T}
use lib.ListN.{length, take, get_or, replicate, length-replicate}
use Rattle.stage.specs.declared.Settings.{Settings}
use Rattle.stage.specs.declared.Plane.TheVariants.{C1, C2, C3}
use Rattle.stage.specs.Answers.{Test, ◌else◌, refusal, between}
use Rattle.stage.specs.declared.Triple.{Triple}
use Rattle.stage.specs.Planes.{Planes, triple}
use Rattle.stage.specs.Settings.{pixels}
use Rattle.stage.specs.Ranges.{sample_ranges, widest}
use Rattle.stage.specs.declared.Form.TheVariants.{Plain}
use Rattle.stage.specs.declared.Bands.TheVariants.{One}
use Rattle.stage.specs.declared.Estimated.{Estimated}
use Rattle.stage.specs.Transform.{choices_fit, count_fits, lengths, settings_tests, is_picture, Picture}
use Rattle.stage.specs.Estimate.{counted}
use Rattle.stage.specs.Search.{cleared, counters_fit, all_at_least, scratch_fits, scratch_tests, choices_estimate, estimated}
use Rattle.stage.specs.Search as stage
use Rattle.stage.proofs.Answers.{Holds, Numbered, holds_append, refusal_holds}
use Rattle.stage.proofs.Validity.{ValidSettings, settings_iff, has_size, scratch_valid}
use Rattle.stage.proofs.Demand3.{within_ranges_iff}
use Rattle.estimate.specs.Counting.{AllZero, Counters}
use Rattle.trials.specs.Searches.{PictureReady}
use Rattle.search.specs.Calls.{estimate_tests, search_tests}
use Rattle.search.specs.Copies.{Prepared, front, Inside, CopyReady}

zero_cleared : (n : ℕ) → AllZero (replicate n 0)
zero_cleared n = record { each = go n }
  where
    go : (n x : ℕ) → ◌≡◌ {A = ℕ} (get_or (replicate n 0) x 0) 0
    go zero x = refl
    go (suc n) zero = refl
    go (suc n) (suc x) = go n x

-- counters that suffice, cleared
pub counters_ready : (s : Settings) (counters : List ℕ) {l : List ℕ} → 2 * widest s < length counters → l ≡ cleared 0 counters → Counters (widest s) l
counters_ready s counters enough e = record {
  enough = rw (e, length-replicate {A = ℕ} (length counters) 0) enough;
  zero = rw e (zero_cleared (length counters));
}

-- ---- the picture p copied to the front of the trial planes t, which are then u, and counters l cleared, which are then m
module _ {s : Settings} {p t u : Planes} {l m : List ℕ} (r : CopyReady s p t l) (w : Prepared p t u l m) where
  pub copied : front (pixels s) u ≡ p
  copied =
      let e1 = subst (λ (n : ℕ). take n u.c1 ≡ p.c1) (r.picture.size C1) w.c1 in
      let e2 = subst (λ (n : ℕ). take n u.c2 ≡ p.c2) (r.picture.size C2) w.c2 in
      let e3 = subst (λ (n : ℕ). take n u.c3 ≡ p.c3) (r.picture.size C3) w.c3 in
      λ i. triple (e1 i) (e2 i) (e3 i)

  pub copied_inside : Inside (pixels s) u
  copied_inside =
      let size = r.picture.size in
      let e1 = ap (λ (x : Triple ℕ). x.c1) w.long in
      let e2 = ap (λ (x : Triple ℕ). x.c2) w.long in
      let e3 = ap (λ (x : Triple ℕ). x.c3) w.long in
      record {
        c1 = omega (arith, r.room.c1, e1, size C1);
        c2 = omega (arith, r.room.c2, e2, size C2);
        c3 = omega (arith, r.room.c3, e3, size C3);
      }

  pub copied_ready : PictureReady s (front (pixels s) u) m
  copied_ready = rw copied (record { allowed = r.allowed; picture = r.picture; counters = counters_ready s l r.enough w.counters })

-- ---- tests that hold where the code went on past them
pub settings_held : (s : Settings) (fit : Bool) (l : Triple ℕ) → 0 ≡ refusal (settings_tests Plain One s fit l) → Holds (settings_tests Plain One s fit l)
settings_held s fit l e = refusal_holds (settings_tests Plain One s fit l) (tt, (tt, (tt, (tt, (tt, (tt, (tt, tt))))))) (sym e)

pub settings_valid : (s : Settings) (fit : Bool) (l : Triple ℕ) → 0 ≡ refusal (settings_tests Plain One s fit l) → ValidSettings Plain One s fit l
settings_valid s fit l e = (settings_iff Plain One s fit l).0 (settings_held s fit l e)

pub scratch_held : (s : Settings) (fit : Bool) (l : Triple ℕ) (fits : Bool) → 0 ≡ refusal (scratch_tests s fit l fits) → Holds (scratch_tests s fit l fits)
scratch_held s fit l fits e = refusal_holds (scratch_tests s fit l fits) (tt, (tt, (tt, (tt, (tt, (tt, (tt, (tt, tt)))))))) (sym e)

pub scratch_passed : (s : Settings) (fit : Bool) (l : Triple ℕ) (fits : Bool) → Holds (scratch_tests s fit l fits) → ValidSettings Plain One s fit l × T fits
scratch_passed s fit l fits h =
    let both = (holds_append (settings_tests Plain One s fit l) ((fits else 9) ∷ [])).0 h in
    ((settings_iff Plain One s fit l).0 both.0, both.1.0)

-- the test of the scratch, where n is the length of the picture's first plane
pub fits_is : (s : Settings) (t : Triple ℕ) (m : ℕ) {n : ℕ} {a b : Bool} → n ≡ pixels s → a ≡ all_at_least n t → b ≡ counters_fit s m → (a && b) ≡ scratch_fits s t m
fits_is s t m e f g = rw (f, g, e)

-- a last test after others
pub last_held : (l : List Test) (b : Bool) (n : ℕ) → Numbered (l ++ (b else n) ∷ []) → 0 ≡ refusal (l ++ (b else n) ∷ []) → Holds l × T b
last_held l b n k e = let h = (holds_append l ((b else n) ∷ [])).0 (refusal_holds (l ++ (b else n) ∷ []) k (sym e)) in (h.0, h.1.0)

pub picture_held : {s : Settings} {fit : Bool} {p : Planes} → ValidSettings Plain One s fit (lengths p) → T (is_picture s p) → Picture s p
picture_held {s} {fit} {p} v h = record { size = has_size p v; samples = (within_ranges_iff (sample_ranges s) p).0 h }

-- past the tests, of picture p and lent trial planes t
pub work_ready : (s : Settings) (fit : Bool) (p t : Planes) (l : List ℕ) → Holds (scratch_tests s fit (lengths p) (scratch_fits s (lengths t) (length l))) → T (is_picture s p)
    → CopyReady s p t l
work_ready s fit p t l h picture =
    let both = scratch_passed s fit (lengths p) (scratch_fits s (lengths t) (length l)) h in
    let v = scratch_valid s (lengths t) (length l) both.1 in
    let size = both.0.size in
    let r = v.room in
    record {
      allowed = both.0.allowed;
      picture = picture_held both.0 picture;
      room = record { c1 = omega (arith, size C1, r C1); c2 = omega (arith, size C2, r C2); c3 = omega (arith, size C3, r C3) };
      enough = v.enough;
    }

pub estimate_ready : (s : Settings) (φ : List ℕ) (p t : Planes) (l : List ℕ) → 0 ≡ refusal (estimate_tests s φ p (scratch_fits s (lengths t) (length l))) → CopyReady s p t l
estimate_ready s φ p t l e =
    let fit = choices_fit One s φ in
    let first = scratch_tests s fit (lengths p) (scratch_fits s (lengths t) (length l)) in
    let h = last_held first (is_picture s p) 11 (tt, (tt, (tt, (tt, (tt, (tt, (tt, (tt, (tt, tt))))))))) e in
    work_ready s fit p t l h.0 h.1

pub search_ready : (s : Settings) (rounds n : ℕ) (p t : Planes) (l : List ℕ) → 0 ≡ refusal (search_tests s rounds n p (scratch_fits s (lengths t) (length l))) → CopyReady s p t l
search_ready s rounds n p t l e =
    let fit = count_fits One s n in
    let fits = scratch_fits s (lengths t) (length l) in
    let h = last_held (stage.search_tests s p fits rounds n) (is_picture s p) 11 (tt, (tt, (tt, (tt, (tt, (tt, (tt, (tt, (tt, (tt, tt)))))))))) e in
    work_ready s fit p t l ((holds_append (scratch_tests s fit (lengths p) fits) ((between 1 4 rounds else 10) ∷ [])).0 h.0).0 h.1

-- the answer's two numbers
pub answered : {s : Settings} {p : Planes} {r : Estimated} (φ : List ℕ) (e : ℕ) → Picture s p → e ≡ choices_estimate s p φ
    → r ≡ record { estimate = e; samples = counted (length p.c1) } → r ≡ estimated s p φ
answered {s} {p} φ e x f g = g ∙ λ i. record { estimate = f i; samples = counted (x.size C1 i) }
