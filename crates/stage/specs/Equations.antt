-- The four transforms and their inverses once more, as 01's equations one after the other, and the propositions that the lists of
-- steps say the same. filter k i is the filter of place k at index i; d k a i is plane a's filtered value there; null k says where that filter is
-- null; keep is what becomes of a step's result.
use Rattle.std.specs.Prelude.{◌≡◌, Bool, cond, ◌&&◌, List, ℕ, eqb, ℤ, neg_ℤ, ◌+ℤ◌, ◌-ℤ◌}
use Rattle.integers.specs.Parts.{floor_div}
use Rattle.integers.specs.Lists.{map_indexed}
use Rattle.stage.specs.Settings.{Depths, Form, Bands, settings_of}
use Rattle.stage.specs.Planes.{Planes, triple}
use Rattle.stage.specs.Filter.{filtered}
use Rattle.stage.specs.Transform.{kept, filter_at, transformed, untransformed}

module _ (keep : ℤ → ℤ) (w h : ℕ) (filter : (k i : ℕ) → ℕ) where
  abbrev d : ℕ → List ℤ → ℕ → ℤ
  d k a i = filtered w h (filter k i) a i

  abbrev null : ℕ → ℕ → Bool
  null k i = eqb (filter k i) 12

  -- Plane a after a step that changes its samples by f; 02: "a step whose places are all null leaves its plane unchanged, both ways", and "is
  -- skipped row by row".
  abbrev lifted : (all_null : ℕ → Bool) (a : List ℤ) (f : ℕ → ℤ → ℤ) → List ℤ
  lifted all_null a f = map_indexed (λ i x. cond (all_null i) x (keep (f i x))) 0 a

  abbrev pub rct : Planes → Planes
  rct p =
      let u = lifted (null 0) p.c1 (λ i x. x -ℤ d 0 p.c2 i) in
      let v = lifted (null 1) p.c3 (λ i x. x -ℤ d 1 p.c2 i) in
      triple u (lifted (λ i. null 2 i && null 3 i) p.c2 (λ i x. x +ℤ floor_div (d 2 u i +ℤ d 3 v i) 4)) v

  abbrev pub rct_back : Planes → Planes
  rct_back q =
      let g = lifted (λ i. null 2 i && null 3 i) q.c2 (λ i x. x -ℤ floor_div (d 2 q.c1 i +ℤ d 3 q.c3 i) 4) in
      triple (lifted (null 0) q.c1 (λ i x. x +ℤ d 0 g i)) g (lifted (null 1) q.c3 (λ i x. x +ℤ d 1 g i))

  abbrev pub ycocg : Planes → Planes
  ycocg p =
      let o = lifted (null 0) p.c1 (λ i x. x -ℤ d 0 p.c3 i) in
      let s = lifted (null 1) p.c3 (λ i x. x +ℤ floor_div (d 1 o i) 2) in
      let g = lifted (null 2) p.c2 (λ i x. x -ℤ d 2 s i) in
      triple o g (lifted (null 3) s (λ i x. x +ℤ floor_div (d 3 g i) 2))

  abbrev pub ycocg_back : Planes → Planes
  ycocg_back q =
      let s = lifted (null 3) q.c3 (λ i x. x -ℤ floor_div (d 3 q.c2 i) 2) in
      let g = lifted (null 2) q.c2 (λ i x. x +ℤ d 2 s i) in
      let b = lifted (null 1) s (λ i x. x -ℤ floor_div (d 1 q.c1 i) 2) in
      triple (lifted (null 0) q.c1 (λ i x. x +ℤ d 0 b i)) g b

  abbrev pub rdgdb : Planes → Planes
  rdgdb p =
      triple p.c1 (lifted (null 1) p.c2 (λ i x. neg_ℤ x +ℤ d 1 p.c1 i)) (lifted (null 0) p.c3 (λ i x. neg_ℤ x +ℤ d 0 p.c2 i))

  abbrev pub rdgdb_back : Planes → Planes
  rdgdb_back q =
      let g = lifted (null 1) q.c2 (λ i x. neg_ℤ x +ℤ d 1 q.c1 i) in
      triple q.c1 g (lifted (null 0) q.c3 (λ i x. neg_ℤ x +ℤ d 0 g i))

  abbrev pub ldgeb : Planes → Planes
  ldgeb p =
      let g = lifted (null 0) p.c2 (λ i x. neg_ℤ x +ℤ d 0 p.c1 i) in
      let l = lifted (null 1) p.c1 (λ i x. x -ℤ floor_div (d 1 g i) 2) in
      triple l g (lifted (null 2) p.c3 (λ i x. x -ℤ d 2 l i))

  abbrev pub ldgeb_back : Planes → Planes
  ldgeb_back q =
      let r = lifted (null 1) q.c1 (λ i x. x +ℤ floor_div (d 1 q.c2 i) 2) in
      triple r (lifted (null 0) q.c2 (λ i x. neg_ℤ x +ℤ d 0 r i)) (lifted (null 2) q.c3 (λ i x. x +ℤ d 2 q.c1 i))

-- transform t, in both forms and all bands, at any size w by h and any depths, is the equations f, and back it is g
pub record Equations (t : ℕ) (f g : (ℤ → ℤ) → (w h : ℕ) → (filter : (k i : ℕ) → ℕ) → Planes → Planes) : Type 0 where
  pub there : (κ : Form) (β : Bands) (w h : ℕ) (d : Depths) (φ : List ℕ) (p : Planes)
      → transformed κ β (settings_of w h d t) φ p ≡ f (kept κ d.c1) w h (filter_at β (settings_of w h d t) φ) p
  pub back : (κ : Form) (β : Bands) (w h : ℕ) (d : Depths) (φ : List ℕ) (q : Planes)
      → untransformed κ β (settings_of w h d t) φ q ≡ g (kept κ d.c1) w h (filter_at β (settings_of w h d t) φ) q

abbrev pub EquationsHold : Type 0
EquationsHold = Equations 0 rct rct_back × Equations 1 ycocg ycocg_back × Equations 2 rdgdb rdgdb_back × Equations 3 ldgeb ldgeb_back
