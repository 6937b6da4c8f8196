-- What the law of a shared part says of a picture cut out of a picture.
use mathlib.Core.Path.{◌≡◌, refl, ap, ◌∙◌}
use mathlib.Core.List.{List}
use Prim.Native.Nat.{ℕ, suc, ◌+◌, ◌*◌, ◌<◌}
use native.Mathlib.Nat.{zero-add, mul-le-mul_right}
use native.Mathlib.Omega.{arith}
use lib.Arith.{digits_div, digits_mod}
use lib.IntN.{ℤ, pos}
use lib.ListN.{length, take, drop, replicate, length-replicate}
use Rattle.integers.specs.Lists.{at}
use Rattle.integers.proofs.Lists.{length-map_indexed, at_mapped}
use Rattle.stage.specs.declared.Plane.{Plane}
use Rattle.stage.specs.Planes.{Planes, get}
use Rattle.stage.specs.Steps.{Setup, run}
use Rattle.stage.proofs.Triples.{get-map}
use Rattle.stage.proofs.Reversal.{run_length}
use Rattle.stage.proofs.StepLists.{run_rest}
use Rattle.locality.specs.Reach.{there, none}
use Rattle.locality.specs.Parts.{Corner, index, cut_index, cut_setup, cut_plane, cut_out}
use Rattle.locality.specs.Locality.{CutOutSame, CutOutFromStep}
use Rattle.locality.proofs.SharedPart.{shared_part}

-- a cut-out has the part's size, and at its column x and row y what stands there in the part
module _ (σ : Setup) (a : Corner) (u v : ℕ) where
  cut_index_lem : (x y : ℕ) → x < u → cut_index σ a u v (y * u + x) ≡ index σ a x y
  cut_index_lem x y l = rw (digits_div y l, digits_mod y l)

  cut_length : (p : Planes) (c : Plane) → length (get (cut_out σ a u v p) c) ≡ u * v
  cut_length p c =
      ap length (get-map (cut_plane σ a u v) p c)
      ∙ length-map_indexed (λ i z. at (get p c) (cut_index σ a u v i)) 0 (replicate (u * v) (pos 0)) ∙ length-replicate (u * v) (pos 0)

  cut_at : (p : Planes) (c : Plane) (x y : ℕ) → x < u → y < v → at (get (cut_out σ a u v p) c) (y * u + x) ≡ at (get p c) (index σ a x y)
  cut_at p c x y k l =
      ap (λ (m : List ℤ). at m (y * u + x)) (get-map (cut_plane σ a u v) p c)
      ∙ at_mapped (λ i z. at (get p c) (cut_index σ a u v i)) (replicate (u * v) (pos 0)) (y * u + x)
      (rw (length-replicate (u * v) (pos 0)) (omega (arith, mul-le-mul_right {m = suc y} {n = v} u l)))
      ∙ ap (at (get p c)) (cut_index_lem x y k)

-- the part is the whole cut-out, and none of its sides is a cut there
pub cut_out_same : CutOutSame
cut_out_same way ρ σ radii a u v f l p m c x y h =
    let τ = cut_setup σ a u v in
    let o : Corner = record { left = 0; top = 0 } in
    let e : (x y : ℕ) → index τ o x y ≡ y * u + x = λ x y. rw (zero-add x, zero-add y) in
    rw (← e x y)
    (shared_part way ρ u v τ σ o a (λ k i. radii k _)
    (record {
      first = omega arith;
      second = f;
      filter = λ k x y i j. ap (σ.filter k) (ap (cut_index σ a u v) (e x y) ∙ cut_index_lem σ a u v x y i);
      skips = refl;
      keep = λ z. refl;
    })
    l none (cut_out σ a u v p) p (cut_length σ a u v p) m
    (λ c x y _ h. ap (at (get (cut_out σ a u v p) c)) (e x y) ∙ cut_at σ a u v p c x y h.column.here h.row.here)
    c x y (record { column = omega arith; row = omega arith }) h)

pub cut_out_from_step : CutOutFromStep
cut_out_from_step ρ σ radii a u v f l n p m c x y h =
    cut_out_same there ρ σ radii a u v f (drop n l) (run σ (take n l) p) (λ c. run_length σ (take n l) p c ∙ m c) c x y h
    ∙ ap (λ (q : Planes). at (get q c) (index σ a x y)) (run_rest σ n l p)
