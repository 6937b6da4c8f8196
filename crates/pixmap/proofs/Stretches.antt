-- The stretches that the reader skips are those of the grammar.
use mathlib.Core.Path.{◌≡◌, refl, sym, ap, ◌∙◌}
use mathlib.Core.Bool.{Bool, true, false, cond, not, ◌||◌, true≢false}
use mathlib.Core.List.{List, [], ◌∷◌, ◌++◌, append_assoc}
use Prim.Native.Nat.{ℕ, ◌≤◌, ◌<◌}
use native.Mathlib.Omega.{arith}
use lib.Dec.{leb, eqb}
use borrow.Author.Tests.{leb-true, leb-false, eqb-true, ne_eqb, lt-leb}
use Rattle.integers.proofs.Booleans.{and-false}
use Rattle.stage.specs.Decimal.{is_digit}
use Rattle.stage.specs.Pixmap.{is_white, ends_comment, first, ends_stretch, stays_inside, after_stretch}
use Rattle.stage.specs.Grammar.{CommentText, end, byte, Stretch, none, white, comment}
use Rattle.text.proofs.Numbers.{digit_low, no_digit}
use Rattle.pixmap.proofs.HeaderFields.{stretch_ends, stretch_goes, stretch_nil}

-- ---- bytes
above_white : (b : ℕ) → 32 < b → is_white b ≡ false
unfolding is_white
above_white b h = rw (ne_eqb b 32 (λ e. omega arith), lt-leb b 13 (omega arith)) (and-false (leb 9 b))

white_low : (b : ℕ) → is_white b ≡ true → b ≤ 32
white_low b h = by (leb b 32) refl
  where
    by : (t : Bool) → leb b 32 ≡ t → b ≤ 32
    by true e = leb-true b 32 e
    by false e = absurd (true≢false (sym h ∙ above_white b (leb-false b 32 e)))

pub white_no_digit : (b : ℕ) → is_white b ≡ true → is_digit b ≡ false
unfolding is_digit
white_no_digit b h = rw (lt-leb 48 b (omega (arith, white_low b h)))

pub nothing_white : is_white 0 ≡ true → ⊥
unfolding is_white
nothing_white h = true≢false (sym h)

white_goes : (b : ℕ) → is_white b ≡ true → ends_stretch false b ≡ false
unfolding ends_stretch
white_goes b h = rw h

white_outside : (b : ℕ) → is_white b ≡ true → stays_inside false b ≡ false
unfolding stays_inside
white_outside b h = ne_eqb b 35 (λ e. omega (arith, white_low b h))

digit_ends : (b : ℕ) → is_digit b ≡ true → ends_stretch false b ≡ true
unfolding ends_stretch
digit_ends b h = let l = digit_low b h in rw (above_white b (omega arith), ne_eqb b 35 (λ e. omega arith))

-- ---- from the grammar to the reader
pub white_step : (b : ℕ) (l : List ℕ) → is_white b ≡ true → after_stretch false (b ∷ l) ≡ after_stretch false l
white_step b l h = sym (stretch_goes false b l (white_goes b h)) ∙ ap (λ (t : Bool). after_stretch t l) (white_outside b h)

ends_at : (l : List ℕ) → is_digit (first l) ≡ true → after_stretch false l ≡ l
ends_at [] h = sym (stretch_nil false)
ends_at (b ∷ l) h = sym (stretch_ends false b l (digit_ends b h))

comment_read : {c : List ℕ} (r : List ℕ) → CommentText c → after_stretch true (c ++ r) ≡ after_stretch false r
unfolding after_stretch ends_stretch stays_inside
comment_read r (end h) = ap (λ (t : Bool). after_stretch (not t) r) h
comment_read r (byte {b} {l} h k) = ap (λ (t : Bool). after_stretch (not t) (l ++ r)) h ∙ comment_read r k

pub stretch_read : {g : List ℕ} (r : List ℕ) → is_digit (first r) ≡ true → Stretch g → after_stretch false (g ++ r) ≡ r
unfolding after_stretch ends_stretch stays_inside is_white
stretch_read r d none = ends_at r d
stretch_read r d (white {b} {l} h k) = white_step b (l ++ r) h ∙ stretch_read r d k
stretch_read r d (comment {c} {l} t k) = ap (after_stretch true) (append_assoc c l r) ∙ comment_read (l ++ r) t ∙ stretch_read r d k

-- ---- from the reader to the grammar
-- a stretch, or the rest of a comment and a stretch
data Skipped : Bool → List ℕ → Type 0 where
  outside : {g : List ℕ} → Stretch g → Skipped false g
  inside : {c g : List ℕ} → CommentText c → Stretch g → Skipped true (c ++ g)

only : {g : List ℕ} → Skipped false g → Stretch g
only (outside s) = s

module _ (b : ℕ) where
  more_comment : {g : List ℕ} → ends_comment b ≡ false → Skipped true g → Skipped true (b ∷ g)
  more_comment e (inside t s) = inside (byte e t) s

  comment_byte : (t : Bool) {g : List ℕ} → ends_comment b ≡ t → Skipped (not t) g → Skipped true (b ∷ g)
  comment_byte true e k = inside (end e) (only k)
  comment_byte false e k = more_comment e k

  opened : {g : List ℕ} → b ≡ 35 → Skipped true g → Skipped false (b ∷ g)
  opened e (inside t s) = rw e (outside (comment t s))

  stretch_byte : (t u : Bool) {g : List ℕ} → is_white b ≡ t → eqb b 35 ≡ u → not (t || u) ≡ false → Skipped u g → Skipped false (b ∷ g)
  stretch_byte true false w e s k = outside (white w (only k))
  stretch_byte t true w e s k = opened (eqb-true b 35 e) k
  stretch_byte false false w e s k = absurd (true≢false s)

  longer : (c : Bool) {g : List ℕ} → ends_stretch c b ≡ false → Skipped (stays_inside c b) g → Skipped c (b ∷ g)
  unfolding ends_stretch stays_inside
  longer true s k = comment_byte (ends_comment b) refl k
  longer false s k = stretch_byte (is_white b) (eqb b 35) refl refl s k

record SkippedOf (c : Bool) (l r : List ℕ) : Type 0 where
  skip : List ℕ
  parts : l ≡ skip ++ r
  is_skipped : Skipped c skip

nothing_skipped : (c : Bool) (b : ℕ) (l : List ℕ) → ends_stretch c b ≡ true → SkippedOf c (b ∷ l) (b ∷ l)
unfolding ends_stretch
nothing_skipped false b l s = record { skip = []; parts = refl; is_skipped = outside none }
nothing_skipped true b l s = absurd (true≢false (sym s))

skipped_by : (c : Bool) (b : ℕ) (l : List ℕ) (t : Bool) → ends_stretch c b ≡ t → (is_digit (first (after_stretch (stays_inside c b) l)) ≡ true → SkippedOf (stays_inside c b) l (after_stretch (stays_inside c b) l))
    → is_digit (first (cond t (b ∷ l) (after_stretch (stays_inside c b) l))) ≡ true → SkippedOf c (b ∷ l) (cond t (b ∷ l) (after_stretch (stays_inside c b) l))
skipped_by c b l true s f h = nothing_skipped c b l s
skipped_by c b l false s f h =
    let k = f h in
    record { skip = b ∷ k.skip; parts = ap (λ (x : List ℕ). b ∷ x) k.parts; is_skipped = longer b c s k.is_skipped }

skipped : (l : List ℕ) (c : Bool) → is_digit (first (after_stretch c l)) ≡ true → SkippedOf c l (after_stretch c l)
unfolding after_stretch
skipped [] c h = absurd (true≢false (sym h ∙ no_digit))
skipped (b ∷ l) c h = skipped_by c b l (ends_stretch c b) refl (skipped l (stays_inside c b)) h

pub record StretchOf (l r : List ℕ) : Type 0 where
  pub stretch : List ℕ
  pub parts : l ≡ stretch ++ r
  pub is_stretch : Stretch stretch

pub stretch_of : (l : List ℕ) → is_digit (first (after_stretch false l)) ≡ true → StretchOf l (after_stretch false l)
stretch_of l h = let k = skipped l false h in record { stretch = k.skip; parts = k.parts; is_stretch = only k.is_skipped }
