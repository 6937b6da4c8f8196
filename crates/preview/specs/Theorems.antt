-- What is proved of previews (specs/Calls.antt).
use Rattle.std.specs.Prelude.{◌≡◌, ◌↔◌, ℕ, T, ℤ, Float}
use Rattle.std.specs.Float.Ieee.{eq}
use Rattle.stage.specs.Answers.{Reply, done, refused, refusal, between}
use Rattle.stage.specs.declared.Triple.{Triple}
use Rattle.preview.specs.declared.Rgb.{Rgb}
use Rattle.preview.specs.Quarters.{Maybe, just, four_times}
use Rattle.preview.specs.Spaces.{Space, quarters}
use Rattle.preview.specs.Calls.{Shown, shown, are_samples, preview_tests, preview_call, back_call}

-- v is what samples at depth b show in some space.
pub record Shows (b : ℕ) (s : Rgb) (v : Reply Shown) : Type 0 where
  pub space : Space
  pub depth : T (between 2 16 b)
  pub samples : T (are_samples b s)
  pub shown : v ≡ preview_call space b s

-- "Going back gives R, G, B" exactly where samples R, G, B show v.
abbrev pub BackIff : Type 0
BackIff = (b : ℕ) (s : Rgb) (v : Reply Shown) → (back_call b v ≡ done s) ↔ Shows b s v

-- "15 if no sample triple at that depth has these floats", and only then
abbrev pub RefusedIff : Type 0
RefusedIff = (b : ℕ) (v : Reply Shown) → T (between 2 16 b) → (back_call b v ≡ refused 15) ↔ ((s : Rgb) → Shows b s v → ⊥)

-- Forward and then back is the identity, in either space; back and then forward gives the same numbers.
abbrev pub ForwardThenBack : Type 0
ForwardThenBack = (σ : Space) (b : ℕ) (s : Rgb) → refusal (preview_tests b s) ≡ 0 → back_call b (preview_call σ b s) ≡ done s

abbrev pub BackThenForward : Type 0
BackThenForward =
    (σ : Space) (b : ℕ) (m : Maybe (Triple ℤ)) (s : Rgb) → back_call b (done (shown σ m)) ≡ done s → preview_call σ b s ≡ done (shown σ m)

-- no two triples share a preview pixel
abbrev pub OnlyOne : Type 0
OnlyOne = (σ : Space) (s t : Rgb) → quarters σ s ≡ quarters σ t → s ≡ t

-- "Floats are compared as numbers": where four times a float is a whole number, the floats equal to it are those with the same one.
abbrev pub ComparedAsNumbers : Type 0
ComparedAsNumbers = (x y : Float) (z : ℤ) → four_times y ≡ just z → (T (eq x y) ↔ (four_times x ≡ just z))
