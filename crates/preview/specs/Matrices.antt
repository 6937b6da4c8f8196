-- The matrices of source document 001, equations 3 to 6, row by row, with entries in quarters: a restatement of specs/Spaces.antt.
use Rattle.std.specs.Prelude.{◌≡◌, ℤ, pos, neg_ℤ, ◌+ℤ◌, ◌*ℤ◌}
use Rattle.stage.specs.declared.Triple.{Triple}
use Rattle.stage.specs.Planes.{triple}
use Rattle.preview.specs.declared.Rgb.{Rgb}
use Rattle.preview.specs.Spaces.{Space, HVSCT, YCoCg, quarters}

-- three rows of three entries
abbrev pub Matrix : Type 0
Matrix = Triple (Triple ℤ)

-- a row times a column, and a matrix times a column
abbrev pub dot : Triple ℤ → Triple ℤ → ℤ
dot m v = m.c1 *ℤ v.c1 +ℤ m.c2 *ℤ v.c2 +ℤ m.c3 *ℤ v.c3

abbrev pub times : Matrix → Triple ℤ → Triple ℤ
times m v = triple (dot m.c1 v) (dot m.c2 v) (dot m.c3 v)

-- the entries 1/4, 1/2 and 0, and those of the inverses, 1 and 2, in quarters
abbrev quarter : ℤ
quarter = pos 1

abbrev half : ℤ
half = pos 2

abbrev none : ℤ
none = pos 0

abbrev one : ℤ
one = pos 4

abbrev two : ℤ
two = pos 8

-- equation 5, and equation 3
abbrev pub forward : Space → Matrix
forward HVSCT =
    triple
    (triple half half none)
    (triple half (neg_ℤ half) none)
    (triple (neg_ℤ quarter) (neg_ℤ quarter) half)
forward YCoCg =
    triple
    (triple quarter half quarter)
    (triple half none (neg_ℤ half))
    (triple (neg_ℤ quarter) half (neg_ℤ quarter))

-- equation 6, and equation 4
abbrev pub inverse : Space → Matrix
inverse HVSCT =
    triple
    (triple one one none)
    (triple one (neg_ℤ one) none)
    (triple one none two)
inverse YCoCg =
    triple
    (triple one one (neg_ℤ one))
    (triple one none one)
    (triple one (neg_ℤ one) (neg_ℤ one))

abbrev pub column : Rgb → Triple ℤ
column s = triple s.r s.g s.b

-- Four times the values are a matrix in quarters times R, G and B; and the inverse in quarters gives 16 times R, G and B.
abbrev pub ByMatrix : Type 0
ByMatrix = (σ : Space) (s : Rgb) → quarters σ s ≡ times (forward σ) (column s)

abbrev pub ByInverse : Type 0
ByInverse =
    (σ : Space) (s : Rgb)
    → times (inverse σ) (quarters σ s) ≡ triple (pos 16 *ℤ s.r) (pos 16 *ℤ s.g) (pos 16 *ℤ s.b)
