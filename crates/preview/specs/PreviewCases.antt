-- Cases of previews (02, request 6), calculated by hand: values in quarters, and floats by their bits.
use Rattle.std.specs.Prelude.{◌≡◌, List, [], ◌∷◌, map, ℕ, ℤ, pos, Float}
use Rattle.std.specs.Float.{binary64}
use Rattle.std.specs.Float.Ieee.{of_bits}
use Rattle.stage.specs.Answers.{Reply, done, refused}
use Rattle.stage.specs.declared.Triple.{Triple}
use Rattle.stage.specs.Planes.{triple}
use Rattle.stage.specs.Case.{Value, Case, ◌gives◌, Hold, samples, minus}
use Rattle.preview.specs.declared.Pixel.{Pixel}
use Rattle.preview.specs.declared.Rgb.{Rgb}
use Rattle.preview.specs.declared.Preview.{Preview}
use Rattle.preview.specs.declared.Preview.TheVariants.{Hvsct, Ycocg, Refused}
use Rattle.preview.specs.Quarters.{Maybe, just, nothing, four_times}
use Rattle.preview.specs.Spaces.{Space, HVSCT, YCoCg, rgb_of}
use Rattle.preview.specs.Calls.{Shown, shown, preview_reply, preview_call, back_call}

-- ---- black, white, the primaries, and the pixel 10, 200, 60: the samples of a depth, and four times their values in both spaces
pub record Row : Type 0 where
  pub depth : ℕ
  pub samples : Rgb
  pub hvsct : Triple ℤ
  pub ycocg : Triple ℤ

abbrev row : (depth : ℕ) → (r g b : ℕ) → (hvsct ycocg : Triple ℤ) → Row
row depth r g b hvsct ycocg = record { depth = depth; samples = rgb_of (pos r) (pos g) (pos b); hvsct = hvsct; ycocg = ycocg }

unfoldable pub colours : List Row
colours =
    row 2 0 0 0 (triple (pos 0) (pos 0) (pos 0)) (triple (pos 0) (pos 0) (pos 0))
    ∷ row 2 3 3 3 (triple (pos 12) (pos 0) (pos 0)) (triple (pos 12) (pos 0) (pos 0))
    ∷ row 2 3 0 0 (triple (pos 6) (pos 6) (minus 3)) (triple (pos 3) (pos 6) (minus 3))
    ∷ row 2 0 3 0 (triple (pos 6) (minus 6) (minus 3)) (triple (pos 6) (pos 0) (pos 6))
    ∷ row 2 0 0 3 (triple (pos 0) (pos 0) (pos 6)) (triple (pos 3) (minus 6) (minus 3))
    ∷ row 8 0 0 0 (triple (pos 0) (pos 0) (pos 0)) (triple (pos 0) (pos 0) (pos 0))
    ∷ row 8 255 255 255 (triple (pos 1020) (pos 0) (pos 0)) (triple (pos 1020) (pos 0) (pos 0))
    ∷ row 8 255 0 0 (triple (pos 510) (pos 510) (minus 255)) (triple (pos 255) (pos 510) (minus 255))
    ∷ row 8 0 255 0 (triple (pos 510) (minus 510) (minus 255)) (triple (pos 510) (pos 0) (pos 510))
    ∷ row 8 0 0 255 (triple (pos 0) (pos 0) (pos 510)) (triple (pos 255) (minus 510) (minus 255))
    ∷ row 16 0 0 0 (triple (pos 0) (pos 0) (pos 0)) (triple (pos 0) (pos 0) (pos 0))
    ∷ row 16 65535 65535 65535 (triple (pos 262140) (pos 0) (pos 0)) (triple (pos 262140) (pos 0) (pos 0))
    ∷ row 16 65535 0 0 (triple (pos 131070) (pos 131070) (minus 65535)) (triple (pos 65535) (pos 131070) (minus 65535))
    ∷ row 16 0 65535 0 (triple (pos 131070) (minus 131070) (minus 65535)) (triple (pos 131070) (pos 0) (pos 131070))
    ∷ row 16 0 0 65535 (triple (pos 0) (pos 0) (pos 131070)) (triple (pos 65535) (minus 131070) (minus 65535))
    -- Y 105, Cd −95, Ce −22.5; Y 117.5, Co −25, Cg 82.5
    ∷ row 8 10 200 60 (triple (pos 420) (minus 380) (minus 90)) (triple (pos 470) (minus 100) (pos 330))
    ∷ row 16 10 200 60 (triple (pos 420) (minus 380) (minus 90)) (triple (pos 470) (minus 100) (pos 330))
    ∷ []

abbrev shown_by : Space → Row → Reply Shown
shown_by HVSCT r = done (shown HVSCT (just r.hvsct))
shown_by YCoCg r = done (shown YCoCg (just r.ycocg))

-- ---- refusals: "5, then 11, as in 01"
-- the refusal's number alone, else 0 and four times the values, or 0 and the samples
abbrev told : Reply Shown → Value
told (done (shown σ (just q))) = samples (pos 0 ∷ q.c1 ∷ q.c2 ∷ q.c3 ∷ [])
told (done (shown σ nothing)) = samples []
told (refused n) = samples (pos n ∷ [])

abbrev restored : Reply Rgb → Value
restored (done s) = samples (pos 0 ∷ s.r ∷ s.g ∷ s.b ∷ [])
restored (refused n) = samples (pos n ∷ [])

abbrev there : (σ : Space) (depth : ℕ) (r g b : ℤ) → Value
there σ depth r g b = told (preview_call σ depth (rgb_of r g b))

abbrev refuses : ℕ → Value
refuses n = samples (pos n ∷ [])

unfoldable pub refusal_cases : List Case
refusal_cases =
    (there HVSCT 2 (pos 10) (pos 200) (pos 60) gives refuses 11)
    ∷ (there YCoCg 2 (pos 10) (pos 200) (pos 60) gives refuses 11)
    -- depth 1 or 17, also where a sample is wrong
    ∷ (there HVSCT 1 (minus 1) (pos 0) (pos 0) gives refuses 5)
    ∷ (there YCoCg 17 (pos 0) (pos 0) (pos 0) gives refuses 5)
    -- a sample below 0 or above M, in each place
    ∷ (there HVSCT 8 (minus 1) (pos 0) (pos 0) gives refuses 11)
    ∷ (there HVSCT 8 (pos 0) (pos 256) (pos 0) gives refuses 11)
    ∷ (there HVSCT 8 (pos 0) (pos 0) (minus 1) gives refuses 11)
    ∷ (there YCoCg 8 (pos 256) (pos 0) (pos 0) gives refuses 11)
    ∷ (there YCoCg 8 (pos 0) (minus 1) (pos 0) gives refuses 11)
    ∷ (there YCoCg 8 (pos 0) (pos 0) (pos 256) gives refuses 11)
    ∷ []

-- ---- floats, by their bits
abbrev float : ℕ → Float
float n = of_bits binary64 n

abbrev nought : Float
nought = float 0

abbrev minus_nought : Float
minus_nought = float 9223372036854775808

-- 105, −95 and −22.5, the HVSCT values of 10, 200, 60
abbrev y : Float
y = float 4637089135075524608

abbrev cd : Float
cd = float 13859757484488523776

abbrev ce : Float
ce = float 13850398441512894464

-- 105 + 1/4, which has the same Cd and Ce in no triple, and the float next above 105
abbrev y_and_quarter : Float
y_and_quarter = float 4637106727261569024

abbrev y_and_more : Float
y_and_more = float 4637089135075524609

-- 7; 128; 10^308; an infinity, and what is not a number
abbrev seven : Float
seven = float 4619567317775286272

abbrev f128 : Float
f128 = float 4638707616191610880

abbrev huge : Float
huge = float 9214871658872686752

abbrev infinity : Float
infinity = float 9218868437227405312

abbrev not_aNumber : Float
not_aNumber = float 9221120237041090560

-- four times a float, and no number where that is not whole
abbrev four : Float → Value
four x = numbers (four_times x)
  where
    numbers : Maybe ℤ → Value
    numbers (just z) = samples (z ∷ [])
    numbers nothing = samples []

unfoldable pub float_cases : List Case
float_cases =
    (four nought gives samples (pos 0 ∷ []))
    ∷ (four minus_nought gives samples (pos 0 ∷ []))
    ∷ (four y gives samples (pos 420 ∷ []))
    ∷ (four cd gives samples (minus 380 ∷ []))
    ∷ (four ce gives samples (minus 90 ∷ []))
    ∷ (four y_and_quarter gives samples (pos 421 ∷ []))
    ∷ (four y_and_more gives samples [])
    -- 1/4, 1/8, 65,535 and the least float above 0
    ∷ (four (float 4598175219545276416) gives samples (pos 1 ∷ []))
    ∷ (four (float 4593671619917905920) gives samples [])
    ∷ (four (float 4679239875398991872) gives samples (pos 262140 ∷ []))
    ∷ (four (float 1) gives samples [])
    ∷ (four infinity gives samples [])
    ∷ (four not_aNumber gives samples [])
    ∷ []

abbrev pixel : Float → Float → Float → Pixel
pixel a b c = record { v1 = a; v2 = b; v3 = c }

abbrev back : ℕ → Preview → Value
back b v = restored (back_call b (preview_reply v))

unfoldable pub back_cases : List Case
back_cases =
    (back 8 (Hvsct (pixel y cd ce)) gives samples (pos 0 ∷ pos 10 ∷ pos 200 ∷ pos 60 ∷ []))
    -- 117.5, −25, 82.5
    ∷ (back 8 (Ycocg (pixel (float 4637968744377745408) (float 13851102128954671104) (float 4635505838331527168)))
    gives samples (pos 0 ∷ pos 10 ∷ pos 200 ∷ pos 60 ∷ []))
    -- the HVSCT floats as YCoCg: R would be 32.5
    ∷ (back 8 (Ycocg (pixel y cd ce)) gives refuses 15)
    -- grey, with either zero
    ∷ (back 8 (Hvsct (pixel seven nought nought)) gives samples (pos 0 ∷ pos 7 ∷ pos 7 ∷ pos 7 ∷ []))
    ∷ (back 8 (Hvsct (pixel seven minus_nought nought)) gives samples (pos 0 ∷ pos 7 ∷ pos 7 ∷ pos 7 ∷ []))
    ∷ (back 8 (Ycocg (pixel seven nought minus_nought)) gives samples (pos 0 ∷ pos 7 ∷ pos 7 ∷ pos 7 ∷ []))
    -- red 256, green 0, blue 128 has Y 128, Cd 128, Ce 0: a triple from depth 9 on
    ∷ (back 9 (Hvsct (pixel f128 f128 nought)) gives samples (pos 0 ∷ pos 256 ∷ pos 0 ∷ pos 128 ∷ []))
    ∷ (back 8 (Hvsct (pixel f128 f128 nought)) gives refuses 15)
    -- Y + 1/4, the next float, an infinity, what is not a number, 10^308
    ∷ (back 8 (Hvsct (pixel y_and_quarter cd ce)) gives refuses 15)
    ∷ (back 8 (Hvsct (pixel y_and_more cd ce)) gives refuses 15)
    ∷ (back 8 (Hvsct (pixel infinity cd ce)) gives refuses 15)
    ∷ (back 8 (Ycocg (pixel seven not_aNumber nought)) gives refuses 15)
    ∷ (back 8 (Ycocg (pixel huge huge nought)) gives refuses 15)
    -- a refusal, by 15 and not by its own number; and the depth first
    ∷ (back 8 (Refused 11) gives refuses 15)
    ∷ (back 1 (Refused 11) gives refuses 5)
    ∷ (back 17 (Hvsct (pixel not_aNumber cd ce)) gives refuses 5)
    ∷ []

-- the colours go there, and back
abbrev pub There : Space → Type 0
There σ = map (λ (r : Row). preview_call σ r.depth r.samples) colours ≡ map (shown_by σ) colours

abbrev pub AndBack : Space → Type 0
AndBack σ = map (λ (r : Row). back_call r.depth (shown_by σ r)) colours ≡ map (λ (r : Row). done r.samples) colours

pub record PreviewCasesHold : Type 0 where
  pub hvsct : There HVSCT × AndBack HVSCT
  pub ycocg : There YCoCg × AndBack YCoCg
  pub refusals : Hold refusal_cases
  pub floats : Hold float_cases
  pub backs : Hold back_cases
