-- Planes 1, 2 and 3 (01, "Planes and steps").
-- t stands for three of anything, one for each plane; a, b and c for what planes 1, 2 and 3 have of it.
use Rattle.std.specs.Prelude.{◌≡◌, Bool, true, false, List, ℤ}
use Rattle.std.specs.Borrow.{Bor, MutBor}
pub use Rattle.stage.specs.declared.Plane.{Plane}
pub use Rattle.stage.specs.declared.Plane.TheVariants.{C1, C2, C3}
-- one of anything for each plane: their samples, their ranges, their lengths
pub use Rattle.stage.specs.declared.Triple.{Triple}

-- the samples of three planes, row by row, in whole numbers without limit
abbrev pub Planes : Type 0
Planes = Triple (List ℤ)

abbrev pub same_plane : Plane → Plane → Bool
same_plane C1 C1 = true
same_plane C1 C2 = false
same_plane C1 C3 = false
same_plane C2 C1 = false
same_plane C2 C2 = true
same_plane C2 C3 = false
same_plane C3 C1 = false
same_plane C3 C2 = false
same_plane C3 C3 = true

module _ {A : Type 0} where
  abbrev pub triple : A → A → A → Triple A
  triple a b c = record { c1 = a; c2 = b; c3 = c }

  abbrev pub get : Triple A → Plane → A
  get t C1 = t.c1
  get t C2 = t.c2
  get t C3 = t.c3

  abbrev pub put : Triple A → Plane → A → Triple A
  put t C1 a = triple a t.c2 t.c3
  put t C2 a = triple t.c1 a t.c3
  put t C3 a = triple t.c1 t.c2 a

abbrev pub map_triple : {A B : Type 0} → (A → B) → Triple A → Triple B
map_triple f t = triple (f t.c1) (f t.c2) (f t.c3)

-- the samples of lent planes
abbrev pub samples : Triple (Bor (List ℤ)) → Planes
samples t = triple t.c1.now t.c2.now t.c3.now

abbrev pub samples_mut : Triple (MutBor (List ℤ)) → Planes
samples_mut t = triple t.c1.now t.c2.now t.c3.now

-- the planes that were lent are lent still, whatever they hold
pub record SameReferences (t u : Triple (MutBor (List ℤ))) : Type 0 where
  pub first : u.c1.ghost_name ≡ t.c1.ghost_name
  pub second : u.c2.ghost_name ≡ t.c2.ghost_name
  pub third : u.c3.ghost_name ≡ t.c3.ghost_name
