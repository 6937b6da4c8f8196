-- A case: what a definition gives for an example, and what 01 says of it.
use Rattle.std.specs.Prelude.{◌≡◌, Bool, List, [], ◌∷◌, map, ℕ, ℤ, pos, neg_ℤ}
use Rattle.stage.specs.Answers.{Reply, done, refused, Outcome}
use Rattle.stage.specs.Planes.{Triple, Planes, triple}
use Rattle.stage.specs.Settings.{each, settings_of, Plain, One}
use Rattle.stage.specs.Ranges.{Range}
use Rattle.stage.specs.Transform.{forward, inverse}
use Rattle.stage.specs.Search.{Estimated, Scratch, Lent}
use Rattle.stage.specs.Pixmap.{Header}
use Rattle.stage.specs.Graymap.{Size}

-- what is compared: plain values, a call's answer with the memory lent to it, a file's header with its raster, a graymap written and read
pub data Value : Type 0 where
  truths : List Bool → Value
  count : ℕ → Value
  counts : List ℕ → Value
  sample : ℤ → Value
  samples : List ℤ → Value
  ranges : Triple Range → Value
  call : Outcome (Unit {0}) Planes → Value
  estimate : Outcome Estimated Scratch → Value
  search : Outcome Estimated Lent → Value
  file : Reply Header → List ℕ → Value
  written : Outcome ℕ (List ℕ) → Value
  read : Outcome Size (List ℤ) → Value

infix 10 ◌gives◌
pub data Case : Type 0 where
  ◌gives◌ : Value → Value → Case

abbrev pub given : Case → Value
given (a gives b) = a

abbrev pub said : Case → Value
said (a gives b) = b

abbrev pub Hold : List Case → Type 0
Hold l = map given l ≡ map said l

abbrev pub minus : ℕ → ℤ
minus n = neg_ℤ (pos n)

-- a picture of one pixel
abbrev pub pixel : ℤ → ℤ → ℤ → Planes
pixel r g b = triple (r ∷ []) (g ∷ []) (b ∷ [])

-- "Depth 8, one pixel 10, 200, 60", through transform t with the filters φ; and planes q back
abbrev pub there : ℕ → List ℕ → Value
there t φ = call (forward Plain One (settings_of 1 1 (each 8) t) φ (pixel (pos 10) (pos 200) (pos 60)))

abbrev pub back : ℕ → List ℕ → Planes → Value
back t φ q = call (inverse Plain One (settings_of 1 1 (each 8) t) φ q)

-- the planes left where a call accepts, and where it refuses
abbrev pub accepted : Planes → Value
accepted p = call (record { reply = done tt; memory = p })

abbrev pub refuses : ℕ → Planes → Value
refuses n p = call (record { reply = refused n; memory = p })
