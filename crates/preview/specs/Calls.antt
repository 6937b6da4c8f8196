-- What the calls answer (02, request 6). b is the depth, σ a space, s are samples, v is what a preview pixel holds.
use Rattle.std.specs.Prelude.{Bool, false, ◌&&◌, List, [], ◌∷◌, ℕ, ℤ, pos}
use Rattle.integers.specs.Parts.{within}
use Rattle.stage.specs.Answers.{Reply, done, refused, Test, ◌else◌, answer, between}
use Rattle.stage.specs.declared.Triple.{Triple}
use Rattle.stage.specs.Ranges.{max_sample}
use Rattle.stage.specs.Estimate.{same_number}
use Rattle.preview.specs.declared.Rgb.{Rgb}
use Rattle.preview.specs.declared.Preview.{Preview}
use Rattle.preview.specs.declared.Preview.TheVariants as preview
use Rattle.preview.specs.Quarters.{Maybe, just, nothing, pixel_quarters}
use Rattle.preview.specs.Spaces.{Space, HVSCT, YCoCg, quarters, rgb_of, samples}

-- "The answer is an HVSCT pixel, a YCoCg pixel or a refusal": a pixel's space, and four times its floats where these are whole numbers.
pub data Shown : Type 0 where
  shown : Space → Maybe (Triple ℤ) → Shown

-- the code's answer as 02's
abbrev pub preview_reply : Preview → Reply Shown
preview_reply (preview.Hvsct x) = done (shown HVSCT (pixel_quarters x))
preview_reply (preview.Ycocg x) = done (shown YCoCg (pixel_quarters x))
preview_reply (preview.Refused n) = refused n

-- "samples 0 to M at any depth"
abbrev pub are_samples : ℕ → Rgb → Bool
are_samples b s = within 0 (max_sample b) s.r && (within 0 (max_sample b) s.g && within 0 (max_sample b) s.b)

-- Forward to a space: "5, then 11, as in 01".
abbrev pub preview_tests : ℕ → Rgb → List Test
preview_tests b s = (between 2 16 b else 5) ∷ (are_samples b s else 11) ∷ []

abbrev pub preview_call : Space → ℕ → Rgb → Reply Shown
preview_call σ b s = answer (preview_tests b s) (shown σ (just (quarters σ s)))

-- whether three numbers are the same as three others
abbrev pub same_three : (q t : Triple ℤ) → Bool
same_three q t = same_number q.c1 t.c1 && (same_number q.c2 t.c2 && same_number q.c3 t.c3)

-- whether samples have the floats of a preview pixel; none have those of a refusal
abbrev pub has : Reply Shown → Rgb → Bool
has (done (shown σ (just q))) s = same_three (quarters σ s) q
has (done (shown σ nothing)) s = false
has (refused n) s = false

-- Back from either space: the samples that the values lead to; "15 if no sample triple at that depth has these floats, or a refusal is handed
-- in to go back from". Where there are no values, the samples named here are seen by nobody.
abbrev pub found : Reply Shown → Rgb
found (done (shown σ (just q))) = samples σ q
found (done (shown σ nothing)) = rgb_of (pos 0) (pos 0) (pos 0)
found (refused n) = rgb_of (pos 0) (pos 0) (pos 0)

abbrev pub back_call : ℕ → Reply Shown → Reply Rgb
back_call b v = answer ((between 2 16 b else 5) ∷ (are_samples b (found v) && has v (found v) else 15) ∷ []) (found v)
