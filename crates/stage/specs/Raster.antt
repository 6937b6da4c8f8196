-- Samples as the bytes of a file (02, request 4: "one byte a sample when maxval is below 256, else two, most significant first"). l is a list
-- of bytes or of samples, m a maxval.
use Rattle.std.specs.Prelude.{cond, List, [], ◌∷◌, ℕ, ◌+◌, ◌*◌, ◌/◌, ◌%◌, ltb}

abbrev pub sample_bytes : ℕ → ℕ
sample_bytes m = cond (ltb m 256) 1 2

-- each two bytes as one sample; and each sample as two bytes
unfoldable pub from_pairs : List ℕ → List ℕ
from_pairs [] = []
from_pairs (a ∷ []) = []
from_pairs (a ∷ b ∷ l) = (256 * a + b) ∷ from_pairs l

unfoldable pub to_pairs : List ℕ → List ℕ
to_pairs [] = []
to_pairs (n ∷ l) = (n / 256) ∷ (n % 256) ∷ to_pairs l

-- the samples that a raster holds; and the raster of samples
abbrev pub raster_samples : (m : ℕ) → List ℕ → List ℕ
raster_samples m l = cond (ltb m 256) l (from_pairs l)

abbrev pub samples_raster : (m : ℕ) → List ℕ → List ℕ
samples_raster m l = cond (ltb m 256) l (to_pairs l)
