-- A run's settings: a picture's width, height and depths, and the number of its transform (01, "Planes and steps"; 02, request 7: "The
-- picture's description holds three depths"). The calls are lent them as numbers and test them. Letters, where a file's head says nothing
-- else: s stands for the settings, d for the depths, and w, h, b, t for width, height, a depth and the transform by themselves; κ for the
-- form, which says how a step's result is kept, and β for the bands, which say where filters change; φ for the choices, one filter for each
-- place, band after band; p for planes that a step or a call is given,
-- q for planes that a transform has finished; c for one of the three planes, a for its samples, i for a sample's index, and k for a place's
-- number.
use Rattle.std.specs.Prelude.{Bool, true, ◌&&◌, ℕ, ◌+◌, ◌*◌, ◌-◌, ◌/◌, ◌≤◌, eqb}
pub use Rattle.stage.specs.declared.Settings.{Settings}
pub use Rattle.stage.specs.declared.Form.{Form}
pub use Rattle.stage.specs.declared.Form.TheVariants.{Plain, Wrapped}
pub use Rattle.stage.specs.declared.Bands.{Bands}
pub use Rattle.stage.specs.declared.Bands.TheVariants.{One, Of}
pub use Rattle.stage.specs.declared.Plan.{Plan}
use Rattle.stage.specs.Answers.{between}
use Rattle.stage.specs.Planes.{Plane, C1, C2, C3, Triple}

-- the depths of planes 1, 2 and 3, and 01's one depth b for all of them
abbrev pub Depths : Type 0
Depths = Triple ℕ

abbrev pub depths_of : (b1 b2 b3 : ℕ) → Depths
depths_of b1 b2 b3 = record { c1 = b1; c2 = b2; c3 = b3 }

abbrev pub each : ℕ → Depths
each b = depths_of b b b

abbrev pub settings_of : (width height : ℕ) (d : Depths) (transform : ℕ) → Settings
settings_of width height d transform = record { width = width; height = height; depths = d; transform = transform }

abbrev pub plan_of : Settings → Form → Bands → Plan
plan_of s κ β = record { settings = s; form = κ; bands = β }

-- the depth of plane c
abbrev pub depth_at : Settings → Plane → ℕ
depth_at s C1 = s.depths.c1
depth_at s C2 = s.depths.c2
depth_at s C3 = s.depths.c3

abbrev pub pixels : Settings → ℕ
pixels s = s.width * s.height

-- "three depths, each 2 to 16", as a test
abbrev pub depths_allowed : Depths → Bool
depths_allowed d = between 2 16 d.c1 && (between 2 16 d.c2 && between 2 16 d.c3)

-- 02, request 9: "Add a wrapped form of each transform, beside the present ones", which are the plain forms here. "16 if the three depths
-- differ", as a test.
abbrev pub depths_suit : Form → Depths → Bool
depths_suit Plain d = true
depths_suit Wrapped d = eqb d.c1 d.c2 && eqb d.c2 d.c3

-- 02, request 11: "a band height and one set of choices for each band of rows, the last band possibly shorter". `Of n` are bands of n rows
-- from the top; without a band height there is one band, `One`. How many there are in a picture of height h; and "17 if the band height is 0
-- or above the picture's", as a test.
abbrev pub band_count : (n h : ℕ) → ℕ
band_count n h = (h + (n - 1)) / n

abbrev pub bands_suit : Bands → (h : ℕ) → Bool
bands_suit One h = true
bands_suit (Of n) h = between 1 h n

-- no depth above 16, as code that computes with depths asks it
pub record UpTo16 (d : Depths) : Type 0 where
  pub first : d.c1 ≤ 16
  pub second : d.c2 ≤ 16
  pub third : d.c3 ≤ 16

-- "A picture has width and height 1 to 8,192", and transforms are numbered 0 to 3.
pub record Allowed (s : Settings) : Type 0 where
  pub width_least : 1 ≤ s.width
  pub width_most : s.width ≤ 8192
  pub height_least : 1 ≤ s.height
  pub height_most : s.height ≤ 8192
  pub depth_least : (c : Plane) → 2 ≤ depth_at s c
  pub depth_most : (c : Plane) → depth_at s c ≤ 16
  pub transform_most : s.transform ≤ 3
