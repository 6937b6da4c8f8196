-- Laws of refusals in order: a call succeeds exactly when every test of its list holds. And what the tests of numbers say.
use mathlib.Core.Path.{◌≡◌, refl, ap, ap₂, sym, ◌∙◌}
use mathlib.Core.Bool.{Bool, true, false, cond}
use mathlib.Core.Logic.{◌↔◌}
use mathlib.Core.List.{List, [], ◌∷◌, ◌++◌}
use Prim.Native.Nat.{ℕ, zero, suc, ◌≤◌}
use native.Mathlib.Omega.{arith}
use lib.Dec.{T, ltb, leb, eqb, leb→le, le→leb, eqb-suc-zero}
use borrow.Author.Tests.{ne_eqb}
use Rattle.integers.proofs.Booleans.{and_iff}
use Rattle.std.specs.Prelude.{Result, Ok, Err}
use Rattle.stage.specs.Answers.{done, refused, Test, ◌else◌, refusal, reply_by, answer, Outcome, outcome, Refusal, Header, Size, Maxval, Raster, Depth, Transform, Choices, Plane, Scratch, Rounds, Wide, Buffer, Unequal, Band, Sample, Unreached, Preview, number_of, number, reply_of, outcome_of, between, sized}

-- every test holds
abbrev pub Holds : List Test → Type 0
Holds [] = Unit {0}
Holds ((b else n) ∷ l) = T b × Holds l

-- no refusal has the number 0, which stands for success
abbrev pub Numbered : List Test → Type 0
Numbered [] = Unit {0}
Numbered ((b else n) ∷ l) = T (ltb 0 n) × Numbered l

pub holds_refusal : (l : List Test) → Holds l → refusal l ≡ 0
holds_refusal [] h = refl
holds_refusal ((true else n) ∷ l) h = holds_refusal l h.1
holds_refusal ((false else n) ∷ l) h = absurd h.0

pub refusal_holds : (l : List Test) → Numbered l → refusal l ≡ 0 → Holds l
refusal_holds [] k e = tt
refusal_holds ((true else n) ∷ l) k e = (tt, refusal_holds l k.1 e)
refusal_holds ((false else zero) ∷ l) k e = absurd k.0
refusal_holds ((false else suc n) ∷ l) k e = absurd (omega arith)

-- past tests that hold the rest decides
pub refusal_past : (l m : List Test) → Holds l → refusal (l ++ m) ≡ refusal m
refusal_past [] m h = refl
refusal_past ((true else n) ∷ l) m h = refusal_past l m h.1
refusal_past ((false else n) ∷ l) m h = absurd h.0

-- the first refusal stands, whatever is tested after it
pub refusal_first : (l m : List Test) (n : ℕ) → n ≡ refusal l → (n ≡ 0 → ⊥) → n ≡ refusal (l ++ m)
refusal_first [] m n e g = absurd (g e)
refusal_first ((true else k) ∷ l) m n e g = refusal_first l m n e g
refusal_first ((false else k) ∷ l) m n e g = e

pub holds_append : (l m : List Test) → Holds (l ++ m) ↔ (Holds l × Holds m)
holds_append [] m = (λ h. (tt, h), λ h. h.1)
holds_append ((b else n) ∷ l) m = (
  λ h. let k = (holds_append l m).0 h.1 in ((h.0, k.0), k.1),
  λ h. (h.0.0, (holds_append l m).1 (h.0.1, h.1)),
)

positive : (n : ℕ) → T (ltb 0 n) → n ≡ 0 → ⊥
positive zero t e = t
positive (suc n) t e = omega arith

module _ {A M : Type 0} (v : A) (result before : M) where
  pub outcome_done : (l : List Test) → refusal l ≡ 0 → outcome l v result before ≡ record { reply = done v; memory = result }
  outcome_done l e = rw e

  pub outcome_refused : (l : List Test) (n : ℕ) → n ≡ refusal l → (n ≡ 0 → ⊥) → outcome l v result before ≡ record { reply = refused n; memory = before }
  outcome_refused l n e g = rw (sym e, ne_eqb n 0 g)

  -- past tests that hold, the outcome is that of the rest
  pub outcome_past : (l m : List Test) → Holds l → outcome (l ++ m) v result before ≡ outcome m v result before
  outcome_past l m h = rw (refusal_past l m h)

  -- a call that answers `done` made no refusal
  pub done_refusal : (l : List Test) (u : A) → answer l v ≡ done u → refusal l ≡ 0
  done_refusal l u e = go (refusal l) e
    where
      go : (n : ℕ) → cond (eqb n 0) (done v) (refused n) ≡ done u → n ≡ 0
      go zero e = refl
      go (suc n) e = let d : refused (suc n) ≡ done u = rw (eqb-suc-zero n) at e in let z : ◌≡◌ {A = ℕ} 0 1 = cc in absurd (omega arith)

  -- a call that answers a refusal leaves what it was lent
  pub refused_lent : (l : List Test) (n : ℕ) (after : M) → outcome l v result before ≡ record { reply = refused n; memory = after } → after ≡ before
  refused_lent l n after e = go (refusal l) (ap (λ (o : Outcome A M). o.reply) e) (ap (λ (o : Outcome A M). o.memory) e)
    where
      go : (k : ℕ) → cond (eqb k 0) (done v) (refused k) ≡ refused n → cond (eqb k 0) result before ≡ after → after ≡ before
      go zero f m = let z : ◌≡◌ {A = ℕ} 0 1 = cc in absurd (omega arith)
      go (suc k) f m = sym (rw eqb-suc-zero at m)

  pub outcome_iff : (l : List Test) → Numbered l → (after : M) → (outcome l v result before ≡ record { reply = done v; memory = after }) ↔ (Holds l × (result ≡ after))
  outcome_iff l k after = (
    λ e. let z : refusal l ≡ 0 = done_refusal l v (ap (λ (o : Outcome A M). o.reply) e) in
        (refusal_holds l k z, ap (λ (o : Outcome A M). o.memory) (sym (outcome_done l z) ∙ e)),
    λ h. outcome_done l (holds_refusal l h.0) ∙ ap (λ (m : M). record { reply = done v; memory = m }) h.1,
  )

  -- where the first tests hold, the last one's number is answered exactly where it fails
  pub refused_iff : (l : List Test) (b : Bool) (n : ℕ) → Holds l → T (ltb 0 n)
      → (outcome (l ++ (b else n) ∷ []) v result before ≡ record { reply = refused n; memory = before }) ↔ (T b → ⊥)
  refused_iff l b n h k = (λ e. went b (past b) e, λ f. sym (kept b (past b) f))
    where
      past : (b : Bool) → refusal (l ++ (b else n) ∷ []) ≡ cond b 0 n
      past b = refusal_past l ((b else n) ∷ []) h

      went : (b : Bool) → refusal (l ++ (b else n) ∷ []) ≡ cond b 0 n → outcome (l ++ (b else n) ∷ []) v result before ≡ record { reply = refused n; memory = before } → T b → ⊥
      went true p e t = let d : done v ≡ refused n = ap (λ (o : Outcome A M). o.reply) (sym (outcome_done (l ++ (true else n) ∷ []) p) ∙ e) in let z : ◌≡◌ {A = ℕ} 0 1 = cc in omega arith
      went false p e t = t

      kept : (b : Bool) → refusal (l ++ (b else n) ∷ []) ≡ cond b 0 n → (T b → ⊥) → record { reply = refused n; memory = before } ≡ outcome (l ++ (b else n) ∷ []) v result before
      kept true p f = absurd (f tt)
      kept false p f = sym (outcome_refused (l ++ (false else n) ∷ []) n (sym p) (positive n k))

-- Two calls that are lent the same, whose first tests give the same refusal, and which where these hold agree in the last test and in the result.
module _ {A M : Type 0} (v : A) (before : M) (l m : List Test) (j : Numbered l) (k : Numbered m) (e : refusal l ≡ refusal m) where
  pub calls_agree : (b c : Bool) (n : ℕ) (x y : M) → (Holds l → (b ≡ c) × (x ≡ y)) → outcome (l ++ (b else n) ∷ []) v x before ≡ outcome (m ++ (c else n) ∷ []) v y before
  calls_agree b c n x y same = by (refusal l) refl
    where
      by : (r : ℕ) → refusal l ≡ r → outcome (l ++ (b else n) ∷ []) v x before ≡ outcome (m ++ (c else n) ∷ []) v y before
      by zero z =
          let h = refusal_holds l j z in
          let s = same h in
          let first : refusal (l ++ (b else n) ∷ []) ≡ refusal (m ++ (c else n) ∷ []) =
          refusal_past l ((b else n) ∷ []) h ∙ ap (λ (t : Bool). cond t 0 n) s.0 ∙ sym (refusal_past m ((c else n) ∷ []) (refusal_holds m k (sym e ∙ z))) in
          λ o. record { reply = reply_by (first o) v; memory = cond (eqb (first o) 0) (s.1 o) before }
      by (suc r) z =
          let some : suc r ≡ 0 → ⊥ = λ f. omega arith in
          outcome_refused v x before (l ++ (b else n) ∷ []) (suc r) (refusal_first l ((b else n) ∷ []) (suc r) (sym z) some) some
          ∙ sym (outcome_refused v y before (m ++ (c else n) ∷ []) (suc r) (refusal_first m ((c else n) ∷ []) (suc r) (sym (sym e ∙ z)) some) some)

-- ---- A call makes its first tests, l, whose refusal is n, and then its last one, b: the first that fails decides, and where none
-- does the call is done.
numbered_first : (l m : List Test) → Numbered (l ++ m) → Numbered l × Numbered m
numbered_first [] m k = (tt, k)
numbered_first ((b else n) ∷ l) m k = let i = numbered_first l m k.1 in ((k.0, i.0), i.1)

pub record Decides {A M : Type 0} (l : List Test) (b : Bool) (m : ℕ) (v : A) (result before : M) (n : ℕ) : Type 0 where
  pub first : (n ≡ 0 → ⊥) → record { reply = refused n; memory = before } ≡ outcome (l ++ (b else m) ∷ []) v result before
  pub passed : n ≡ 0 → Holds l
  pub last : n ≡ 0 → b ≡ false → record { reply = refused m; memory = before } ≡ outcome (l ++ (b else m) ∷ []) v result before
  pub succeeds : n ≡ 0 → b ≡ true → (u : A) (after : M) → u ≡ v → after ≡ result
      → record { reply = done u; memory = after } ≡ outcome (l ++ (b else m) ∷ []) v result before

pub decides : {A M : Type 0} (l : List Test) (b : Bool) (m : ℕ) (v : A) (result before : M) → Numbered (l ++ (b else m) ∷ []) → (n : ℕ) → n ≡ refusal l
    → Decides l b m v result before n
decides {A} {M} l b m v result before k n e =
    let tests = l ++ (b else m) ∷ [] in
    let ks = numbered_first l ((b else m) ∷ []) k in
    let holds : n ≡ 0 → Holds l = λ z. refusal_holds l ks.0 (sym e ∙ z) in
    let last : n ≡ 0 → refusal tests ≡ cond b 0 m = λ z. refusal_past l ((b else m) ∷ []) (holds z) in
    record {
      first = λ g. sym (outcome_refused v result before tests n (refusal_first l ((b else m) ∷ []) n e g) g);
      passed = holds;
      last = λ z f. sym (outcome_refused v result before tests m (sym (last z ∙ ap (λ (x : Bool). cond x 0 m) f)) (positive m ks.1.0));
      succeeds = λ z t u after g h.
          ap₂ (λ (x : A) (y : M). record { reply = done x; memory = y }) g h
          ∙ sym (outcome_done v result before tests (last z ∙ ap (λ (x : Bool). cond x 0 m) t));
    }

-- ---- The code makes the tests of l and answers an error where one fails.
numbered : (e : Refusal) → T (ltb 0 (number_of e))
numbered Header = tt
numbered e = tt

pub number_positive : (e : Refusal) → number_of e ≡ 0 → ⊥
number_positive e = positive (number_of e) (numbered e)

-- a number is one refusal's
abbrev refusal_numbered : ℕ → Refusal
refusal_numbered n =
    cond (eqb n 1) Header (cond (eqb n 2) Size (cond (eqb n 3) Maxval (cond (eqb n 4) Raster (cond (eqb n 5) Depth (cond (eqb n 6) Transform (cond (eqb n 7) Choices (cond (eqb n 8) Plane
    (cond (eqb n 9) Scratch (cond (eqb n 10) Rounds (cond (eqb n 11) Sample (cond (eqb n 12) Unreached (cond (eqb n 13) Wide (cond (eqb n 14) Buffer (cond (eqb n 15) Preview (cond (eqb n 16) Unequal Band)))))))))))))))

number_back : (e : Refusal) → refusal_numbered (number_of e) ≡ e
number_back Header = refl
number_back e = refl

-- an answer is known by its reply
module _ {A : Type 0} where
  pub reply_ok : (r : Result A Refusal) (v : A) → reply_of r ≡ done v → r ≡ Ok v
  reply_ok (Ok u) v e = cc
  reply_ok (Err f) v e = let z : ◌≡◌ {A = ℕ} 0 1 = cc in absurd (omega arith)

  pub reply_err : (r : Result A Refusal) (e : Refusal) → reply_of r ≡ refused (number_of e) → r ≡ Err e
  reply_err (Ok u) e k = let z : ◌≡◌ {A = ℕ} 0 1 = cc in absurd (omega arith)
  reply_err (Err f) e k = let n : number_of f ≡ number_of e = cc in ap (λ (x : Refusal). Err x) (sym (number_back f) ∙ ap refusal_numbered n ∙ number_back e)

  pub reply_is : (r q : Result A Refusal) → reply_of r ≡ reply_of q → r ≡ q
  reply_is r (Ok v) e = reply_ok r v e
  reply_is r (Err f) e = reply_err r f e

-- the first tests hold, and one more is made
pub last_made : (l : List Test) (b : Bool) (e : Refusal) {r : Result (Unit {0}) Refusal} → Holds l → r ≡ cond b (Ok tt) (Err e)
    → number (reply_of r) ≡ refusal (l ++ (b else number_of e) ∷ [])
last_made l b e h k = rw k (by b ∙ sym (refusal_past l ((b else number_of e) ∷ []) h))
  where
    by : (b : Bool) → number (reply_of {A = Unit {0}} (cond b (Ok tt) (Err e))) ≡ cond b 0 (number_of e)
    by true = refl
    by false = refl

module _ {A M : Type 0} (l : List Test) (v : A) (result before : M) where
  -- a call that ends with that error
  pub err_outcome : (e : Refusal) → number_of e ≡ refusal l → outcome_of {A = A} (Err e) before ≡ outcome l v result before
  err_outcome e k = sym (outcome_refused v result before l (number_of e) k (number_positive e))

  -- a call that goes on past the tests and is done
  pub ok_outcome : 0 ≡ refusal l → outcome_of (Ok v) result ≡ outcome l v result before
  ok_outcome k = sym (outcome_done v result before l (sym k))

-- ---- tests of numbers
pub between_iff : (low high n : ℕ) → T (between low high n) ↔ ((low ≤ n) × (n ≤ high))
between_iff low high n =
    let e = and_iff (leb low n) (leb n high) in
    (λ t. (leb→le low n (e.0 t).0, leb→le n high (e.0 t).1), λ h. e.1 (le→leb low n h.0, le→leb n high h.1))

pub sized_iff : (w h : ℕ) → T (sized w h) ↔ (((1 ≤ w) × (w ≤ 8192)) × ((1 ≤ h) × (h ≤ 8192)))
sized_iff w h =
    let e = and_iff (between 1 8192 w) (between 1 8192 h) in
    let x = between_iff 1 8192 w in
    let y = between_iff 1 8192 h in
    (λ t. (x.0 (e.0 t).0, y.0 (e.0 t).1), λ r. e.1 (x.1 r.0, y.1 r.1))
