-- Lent memory before the work and after it.
use Rattle.std.specs.Prelude.{◌≡◌, List, ℕ, ◌*◌, ◌≤◌, ◌<◌, pos, length, take}
use Rattle.stage.specs.declared.Settings.{Settings}
use Rattle.stage.specs.Settings.{Allowed}
use Rattle.stage.specs.Planes.{Planes, map_triple}
use Rattle.stage.specs.Ranges.{widest}
use Rattle.stage.specs.Transform.{Picture, lengths}
use Rattle.stage.specs.Search.{cleared, cleared_scratch}
use Rattle.search.specs.Calls.{scratch_of}

-- planes t have room for planes p
pub record Room (p t : Planes) : Type 0 where
  pub c1 : length p.c1 ≤ length t.c1
  pub c2 : length p.c2 ≤ length t.c2
  pub c3 : length p.c3 ≤ length t.c3

-- Planes p stand at the front of planes u, which were t and are as long, and counters l are those lent, all zero.
pub record Prepared (p t u : Planes) (lent l : List ℕ) : Type 0 where
  pub long : lengths u ≡ lengths t
  pub c1 : take (length p.c1) u.c1 ≡ p.c1
  pub c2 : take (length p.c2) u.c2 ≡ p.c2
  pub c3 : take (length p.c3) u.c3 ≡ p.c3
  pub counters : l ≡ cleared 0 lent

-- planes r are planes t, all zero
pub record AllCleared (t r : Planes) : Type 0 where
  pub c1 : r.c1 ≡ cleared (pos 0) t.c1
  pub c2 : r.c2 ≡ cleared (pos 0) t.c2
  pub c3 : r.c3 ≡ cleared (pos 0) t.c3

-- the first n numbers of planes that have so many
abbrev pub front : ℕ → Planes → Planes
front n p = map_triple (take n) p

pub record Inside (n : ℕ) (p : Planes) : Type 0 where
  pub c1 : n ≤ length p.c1
  pub c2 : n ≤ length p.c2
  pub c3 : n ≤ length p.c3

-- a picture p, trial planes t and counters l that suffice
pub record CopyReady (s : Settings) (p t : Planes) (l : List ℕ) : Type 0 where
  pub allowed : Allowed s
  pub picture : Picture s p
  pub room : Room p t
  pub enough : 2 * widest s < length l

-- the scratch r and m is the scratch t and l, all zero
abbrev pub Cleared : (t : Planes) (l : List ℕ) (r : Planes) (m : List ℕ) → Type 0
Cleared t l r m = scratch_of r m ≡ cleared_scratch (scratch_of t l)
