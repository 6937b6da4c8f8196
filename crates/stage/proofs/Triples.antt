-- Laws of one thing for each plane.
use mathlib.Core.Path.{◌≡◌, refl}
use mathlib.Core.Bool.{Bool, not, ◌&&◌}
use mathlib.Core.Logic.{◌↔◌}
use lib.Dec.{T}
use Rattle.integers.proofs.Booleans.{and_iff}
use Rattle.stage.specs.Planes.{Plane, C1, C2, C3, Triple, get, put, same_plane, map_triple}

-- one fact for each plane
pub each_plane : (P : Plane → Type 0) → P C1 → P C2 → P C3 → (c : Plane) → P c
each_plane P x y z C1 = x
each_plane P x y z C2 = y
each_plane P x y z C3 = z

-- one test for each plane
pub each_test : (t : Plane → Bool) → T (t C1 && (t C2 && t C3)) ↔ ((c : Plane) → T (t c))
each_test t =
    let all = and_iff (t C1) (t C2 && t C3) in
    let rest = and_iff (t C2) (t C3) in (
      λ h. let k = all.0 h in let m = rest.0 k.1 in each_plane (λ c. T (t c)) k.0 m.0 m.1,
      λ h. all.1 (h C1, rest.1 (h C2, h C3)),
    )

module _ {A : Type 0} where
  -- triples that have the same thing at every plane
  pub triple_ext : {p q : Triple A} → ((c : Plane) → get p c ≡ get q c) → p ≡ q
  triple_ext h = λ i. record { c1 = h C1 i; c2 = h C2 i; c3 = h C3 i }

  pub get-put : (p : Triple A) (c : Plane) (a : A) → get (put p c a) c ≡ a
  get-put p C1 a = refl
  get-put p C2 a = refl
  get-put p C3 a = refl

  pub put-put : (p : Triple A) (c : Plane) (a b : A) → put (put p c a) c b ≡ put p c b
  put-put p C1 a b = refl
  put-put p C2 a b = refl
  put-put p C3 a b = refl

  pub put-get : (p : Triple A) (c : Plane) → put p c (get p c) ≡ p
  put-get p C1 = refl
  put-get p C2 = refl
  put-get p C3 = refl

  pub get_other : (p : Triple A) (c d : Plane) (a : A) → T (not (same_plane c d)) → get (put p d a) c ≡ get p c
  get_other p C1 C1 a h = absurd h
  get_other p C1 C2 a h = refl
  get_other p C1 C3 a h = refl
  get_other p C2 C1 a h = refl
  get_other p C2 C2 a h = absurd h
  get_other p C2 C3 a h = refl
  get_other p C3 C1 a h = refl
  get_other p C3 C2 a h = refl
  get_other p C3 C3 a h = absurd h

  -- triples that differ in one plane
  pub others_same : (p q : Triple A) (c : Plane) → ((d : Plane) → T (not (same_plane d c)) → get q d ≡ get p d) → q ≡ put p c (get q c)
  others_same p q C1 h = λ i. record { c1 = q.c1; c2 = h C2 tt i; c3 = h C3 tt i }
  others_same p q C2 h = λ i. record { c1 = h C1 tt i; c2 = q.c2; c3 = h C3 tt i }
  others_same p q C3 h = λ i. record { c1 = h C1 tt i; c2 = h C2 tt i; c3 = q.c3 }

pub get-map : {A B : Type 0} (f : A → B) (t : Triple A) (c : Plane) → get (map_triple f t) c ≡ f (get t c)
get-map f t C1 = refl
get-map f t C2 = refl
get-map f t C3 = refl

-- what relates two triples plane by plane still does once related things are put at the same plane of both
module _ {A B : Type 0} (R : Plane → A → B → Type 0) (p : Triple A) (q : Triple B) (h : (c : Plane) → R c (get p c) (get q c)) (a : A) (b : B) where
  pub put_both : (d : Plane) → R d a b → (c : Plane) → R c (get (put p d a) c) (get (put q d b) c)
  put_both C1 k C1 = k
  put_both C1 k C2 = h C2
  put_both C1 k C3 = h C3
  put_both C2 k C1 = h C1
  put_both C2 k C2 = k
  put_both C2 k C3 = h C3
  put_both C3 k C1 = h C1
  put_both C3 k C2 = h C2
  put_both C3 k C3 = k
