-- Two pictures of one size that agree near a spot: they share the part that lies around it.
use mathlib.Core.Path.{◌≡◌, refl}
use Prim.Native.Nat.{ℕ, ◌+◌, ◌-◌, ◌≤◌, ◌<◌, min}
use native.Mathlib.Omega.{arith}
use Rattle.stage.specs.Planes.{Planes, get}
use Rattle.locality.specs.Reach.{none, reach_along}
use Rattle.locality.specs.Parts.{Corner, Margin, Fits, SpotMargin, apart, Near, AgreeNear, AgreeElsewhere}
use Rattle.locality.specs.Locality.{PlanesLocal}
use Rattle.locality.proofs.SharedPart.{shared_part}

-- In a line of n pixels a part of u of them, after the first a, is what lies within d of pixel x.
record Around (d x n a u : ℕ) : Type 0 where
  fits : a + u ≤ n
  spot : a + (x - a) ≡ x
  margin : Margin d (x - a) a u n
  near : (i : ℕ) → i < u → (a + i < n) × (apart x (a + i) ≤ d)

around : (d x n : ℕ) → x < n → Around d x n (x - d) (min (x + d + 1) n - (x - d))
around d x n l = record {
  fits = omega arith;
  spot = omega arith;
  margin = record { here = omega arith; before = omega arith; behind = omega arith };
  near = omega arith;
}

near_by : {d x y x' y' : ℕ} → apart x x' ≤ d → apart y y' ≤ d → Near d x y x' y'
near_by c r = record { columns = omega (arith, c); rows = omega (arith, r) }

pub planes_local : PlanesLocal
planes_local way ρ σ radii l p q m n x y i j c agree =
    let d = get (reach_along way ρ l none) c in
    let s = around d x σ.width i in
    let t = around d y σ.height j in
    let a : Corner = record { left = x - d; top = y - d } in
    let f : Fits _ _ σ a = record { columns = s.fits; rows = t.fits } in
    let h : SpotMargin _ _ σ a d _ _ = record { column = s.margin; row = t.margin } in
    rw (s.spot, t.spot) at
    (shared_part way ρ _ _ σ σ a a radii (record { first = f; second = f; filter = λ k x y _ _. refl; skips = refl; keep = λ z. refl }) l none p q m n
    (λ b x' y' k _.
    let e = s.near x' k.column.here in
    let g = t.near y' k.row.here in
    agree (x - d + x') (y - d + y') e.0 g.0 (near_by e.1 g.1) b)
    c _ _ h h)

-- planes that agree within some distance agree within a lesser one
pub agree_less : {w h d e x y : ℕ} {p q : Planes} → d ≤ e → AgreeNear w h e x y p q → AgreeNear w h d x y p q
agree_less l agree x' y' i j n = agree x' y' i j (record { columns = omega (arith, n.columns); rows = omega (arith, n.rows) })

-- away from the one pixel at which two pictures differ
pub agree_away : {w h d x y x' y' : ℕ} {p q : Planes} → AgreeElsewhere w h x y p q → (Near d x y x' y' → ⊥) → AgreeNear w h d x' y' p q
agree_away {d = d} {x} {y} {x'} {y'} agree far i j k l n =
    agree i j k l (λ e. far (record { columns = omega (arith, n.columns, e.0); rows = omega (arith, n.rows, e.1) }))
