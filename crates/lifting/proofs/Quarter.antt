-- RCT's third step row by row: two passes over each row make the step.
use mathlib.Core.Path.{◌≡◌, refl, sym, ap, ap₂, ◌∙◌, subst}
use mathlib.Core.Bool.{Bool, true, false, cond, ◌&&◌}
use mathlib.Core.List.{List}
use Prim.Native.Nat.{ℕ, ◌^◌, ◌≤◌}
use native.Mathlib.Omega.{arith}
use lib.Dec.{eqb, lit≤}
use lib.IntN.{ℤ, ◌+ℤ◌}
use lib.Pow.{pow_pos, pow_mono}
use Rattle.integers.specs.Parts.{In}
use Rattle.integers.specs.Lists.{AllIn, Changed}
use Rattle.integers.proofs.FloorDivision.{floor_div_low, floor_div_high}
use Rattle.integers.proofs.FloorModulo.{floor_mod_in}
use Rattle.integers.proofs.Ranges.{in_wider}
use Rattle.integers.proofs.Linear.{flat, count, in_lin}
use Rattle.integers.proofs.Lists.{all_wider}
use Rattle.integers.proofs.Parts.{add_difference}
use Rattle.integers.proofs.Changes.{changed_idle, changed_join, changed_as, changed_twice, changed_in}
use Rattle.stage.specs.Filter.{filtered}
use Rattle.stage.specs.declared.Form.{Form}
use Rattle.stage.specs.declared.Form.TheVariants.{Plain, Wrapped}
use Rattle.stage.specs.Transform.{kept}
use Rattle.stage.proofs.Means.{filtered_in}
use Rattle.kernel.specs.declared.pass.KeptPass.{KeptPass}
use Rattle.kernel.specs.declared.pass.Lift.TheVariants.{FourfoldAdd, FourfoldSubtract, QuarterAdd, QuarterSubtract}
use Rattle.kernel.specs.Pass.{PassAllowed, kept_pass, made, applied}
use Rattle.kernel.proofs.Quarters.{quarter_added, quarter_subtracted}
use Rattle.lifting.specs.Passes.{quarter_lifted, quarter_at}

-- ---- one sample
two_passes : (back : Bool) (x f g : ℤ) → made (cond back QuarterSubtract QuarterAdd) (made (cond back FourfoldSubtract FourfoldAdd) x f) g ≡ quarter_lifted back x f g
two_passes true = quarter_subtracted
two_passes false = quarter_added

fourfold_in : (back : Bool) (x f : ℤ) → In 524288 524288 x → In 524288 524288 f → In 4194304 4194304 (made (cond back FourfoldSubtract FourfoldAdd) x f)
unfolding made
fourfold_in true x f h i = in_lin (simp flat (simp count (omega arith)))
fourfold_in false x f h i = in_lin (simp flat (simp count (omega arith)))

-- as the form keeps it
kept_in : (κ : Form) (b : ℕ) (z : ℤ) → b ≤ 16 → In 4194304 4194304 z → In 4194304 4194304 (kept κ b z)
kept_in Plain b z d h = h
kept_in Wrapped b z d h =
    let p : 2 ^ b ≤ 2 ^ 16 = pow_mono d in
    in_wider (floor_mod_in (2 ^ b) (pow_pos b) z) (omega arith) (omega arith)

quarter_in : (back : Bool) (x f g : ℤ) → In 524288 524288 x → In 524288 524288 f → In 524288 524288 g → In 4194304 4194304 (quarter_lifted back x f g)
quarter_in back x f g h i j =
    let low = floor_div_low (f +ℤ g) 4 (omega arith) in
    let high = floor_div_high (f +ℤ g) 4 (omega arith) in
    let total = add_difference f g in
    elim back as (λ (b : Bool). In 4194304 4194304 (quarter_lifted b x f g)) [ true ↦ in_lin (simp flat (simp count (omega arith))) | false ↦ in_lin (simp flat (simp count (omega arith))) ]

-- ---- two null filters
pub null_quarter : (κ : Form) (d w h f g i j : ℕ) (back : Bool) (a b c : List ℤ) → (eqb f 12 && eqb g 12) ≡ true → Changed (quarter_at κ d w h back f g a b) i j c c
null_quarter κ d w h f g i j back a b c e = changed_idle _ i j c (λ k z. rw e)

-- ---- a turn of the loop: plane c₀ is changed from index i to j, which gives c; then both passes run from j to m
pub record Turn (κ : Form) (d w h f g : ℕ) (back : Bool) (a b c₀ c : List ℤ) (first second : KeptPass) (i j m : ℕ) : Type 0 where
  pub first_allowed : PassAllowed first
  pub second_allowed : PassAllowed second
  pub range : AllIn 4194304 4194304 c
  pub range_between : {between : List ℤ} → Changed (λ i x. applied first x (filtered w h f a i)) j m c between → AllIn 4194304 4194304 between
  pub made : {between after : List ℤ} → Changed (λ i x. applied first x (filtered w h f a i)) j m c between
      → Changed (λ i x. applied second x (filtered w h g b i)) j m between after → Changed (quarter_at κ d w h back f g a b) i m c₀ after

-- what every turn is given: filters not both null, the two passes, and the planes' ranges
pub record Turns (κ : Form) (d w h f g : ℕ) (back : Bool) (a b c₀ : List ℤ) (first second : KeptPass) : Type 0 where
  pub unskipped : (eqb f 12 && eqb g 12) ≡ false
  pub depth : d ≤ 16
  pub first_is : first ≡ kept_pass (cond back FourfoldSubtract FourfoldAdd) Plain d
  pub second_is : second ≡ kept_pass (cond back QuarterSubtract QuarterAdd) κ d
  pub first_range : AllIn 524288 524288 a
  pub second_range : AllIn 524288 524288 b
  pub own_range : AllIn 524288 524288 c₀

pub turn : {κ : Form} {d w h f g : ℕ} {back : Bool} {a b c₀ c : List ℤ} {first second : KeptPass} {i j m : ℕ} → Turns κ d w h f g back a b c₀ first second
    → Changed (quarter_at κ d w h back f g a b) i j c₀ c → i ≤ j → j ≤ m → Turn κ d w h f g back a b c₀ c first second i j m
unfolding applied
turn {κ} {d} {w} {h} {f} {g} {back} {a} {b} {c₀} {c} {first} {second} {i} {j} {m} t u o l =
    let f_in : (k : ℕ) → In 524288 524288 (filtered w h f a k) = filtered_in w h f 524288 524288 a t.first_range in
    let g_in : (k : ℕ) → In 524288 524288 (filtered w h g b k) = filtered_in w h g 524288 524288 b t.second_range in
    let one : (k : ℕ) (z : ℤ) → quarter_at κ d w h back f g a b k z ≡ kept κ d (quarter_lifted back z (filtered w h f a k) (filtered w h g b k)) = λ k z. rw t.unskipped in
    let c_in : AllIn 4194304 4194304 c =
    changed_in u (all_wider t.own_range (lit≤ tt) (lit≤ tt))
    (λ k _ _. subst (In 4194304 4194304) (sym (one k _)) (kept_in κ d _ t.depth (quarter_in back _ _ _ (t.own_range.each k) (f_in k) (g_in k)))) in
    record {
      first_allowed = rw t.first_is (record { depth = t.depth });
      second_allowed = rw t.second_is (record { depth = t.depth });
      range = c_in;
      range_between = λ v. changed_in v c_in (λ k r _. rw (t.first_is, u.high k r) (fourfold_in back _ _ (t.own_range.each k) (f_in k)));
      made = λ v x. changed_join u
          (changed_as j m (changed_twice v x) refl refl
          (λ k z _ _. ap₂ (λ (n o : KeptPass). applied o (applied n z (filtered w h f a k)) (filtered w h g b k)) t.first_is t.second_is
          ∙ ap (kept κ d) (two_passes back z _ _)
          ∙ sym (one k z)))
          o l;
    }
