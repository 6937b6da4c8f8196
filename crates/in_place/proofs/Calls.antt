-- In place the picture's planes are the trial planes, which have room for it: the tests are those that ask for counters alone.
use mathlib.Core.Path.{◌≡◌, refl, ap, ap₂, ◌∙◌}
use mathlib.Core.Bool.{Bool, true, false}
use mathlib.Core.List.{List, [], ◌∷◌, ◌++◌}
use native.Mathlib.Omega.{arith}
use Prim.Native.Nat.{ℕ}
use lib.Dec.{leb, le→leb}
use Rattle.integers.proofs.Booleans.{holds_true}
use Rattle.stage.specs.declared.Settings.{Settings}
use Rattle.stage.specs.declared.Triple.{Triple}
use Rattle.stage.specs.declared.Plane.TheVariants.{C1, C2, C3}
use Rattle.stage.specs.declared.Form.TheVariants.{Plain}
use Rattle.stage.specs.declared.Bands.TheVariants.{One}
use Rattle.stage.specs.Answers.{Test, ◌else◌, refusal, between}
use Rattle.stage.specs.Settings.{pixels}
use Rattle.stage.specs.Planes.{Planes}
use Rattle.stage.specs.Transform.{choices_fit, count_fits, lengths, settings_tests, is_picture}
use Rattle.stage.specs.Search.{counters_fit, scratch_fits}
use Rattle.stage.proofs.Answers.{Holds}
use Rattle.stage.proofs.Validity.{settings_iff}
use Rattle.search.specs.Calls.{estimate_tests, search_tests}

-- two tests that agree where those before them hold
same_past : (l : List Test) (a b : Bool) (n : ℕ) (m : List Test) → (Holds l → a ≡ b) → refusal (l ++ (a else n) ∷ m) ≡ refusal (l ++ (b else n) ∷ m)
same_past [] a b n m h = rw (h tt)
same_past ((true else k) ∷ l) a b n m h = same_past l a b n m (λ t. h (tt, t))
same_past ((false else k) ∷ l) a b n m h = refl

module _ (s : Settings) (p : Planes) (n : ℕ) where
  -- once the settings pass, planes have room for themselves
  own_room : (fit : Bool) → Holds (settings_tests Plain One s fit (lengths p)) → scratch_fits s (lengths p) n ≡ counters_fit s n
  own_room fit h =
      let size = ((settings_iff Plain One s fit (lengths p)).0 h).size in
      let enough : (m : ℕ) → m ≡ pixels s → leb (pixels s) m ≡ true = λ m e. holds_true _ (le→leb (pixels s) m (omega arith)) in
      rw (enough _ (size C1), enough _ (size C2), enough _ (size C3))

  pub estimate_same : (φ : List ℕ) → refusal (estimate_tests s φ p (scratch_fits s (lengths p) n)) ≡ refusal (estimate_tests s φ p (counters_fit s n))
  estimate_same φ =
      let fit = choices_fit One s φ in
      same_past (settings_tests Plain One s fit (lengths p)) (scratch_fits s (lengths p) n) (counters_fit s n) 9 ((is_picture s p else 11) ∷ []) (own_room fit)

  pub search_same : (rounds k : ℕ) → refusal (search_tests s rounds k p (scratch_fits s (lengths p) n)) ≡ refusal (search_tests s rounds k p (counters_fit s n))
  search_same rounds k =
      let fit = count_fits One s k in
      same_past (settings_tests Plain One s fit (lengths p)) (scratch_fits s (lengths p) n) (counters_fit s n) 9 ((between 1 4 rounds else 10) ∷ (is_picture s p else 11) ∷ []) (own_room fit)

  -- the tests, of planes that are lent on to be read
  pub made : (f : Planes → Triple ℕ → ℕ) {r : Triple ℕ} {u v : Planes} (k : ℕ) → r ≡ lengths u → u ≡ p → v ≡ p → k ≡ f v r → k ≡ f p (lengths p)
  made f k d e g h = h ∙ ap₂ f g (d ∙ ap lengths e)
