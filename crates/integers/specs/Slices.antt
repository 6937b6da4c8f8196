-- A part of a list.
use Rattle.std.specs.Prelude.{List, ℕ, ◌-◌, take, drop}

-- the elements at indices from .. to − 1
abbrev pub slice : {A : Type 0} → List A → ℕ → ℕ → List A
slice l from to = take (to - from) (drop from l)
