-- The files that the reader accepts are those of the grammar, of each kind; and what that says of pixmaps. An accepted pixmap has three
-- bytes or more for each pixel, and the planes filled from it are those of its raster.
use mathlib.Core.Path.{◌≡◌, refl, sym, ap, ap₂, subst, ◌∙◌}
use mathlib.Core.Bool.{Bool, true, false, cond}
use mathlib.Core.Logic.{◌↔◌}
use mathlib.Core.List.{List, []}
use Prim.Native.Nat.{ℕ, ◌*◌, ◌-◌, ◌^◌, ◌≤◌}
use native.Mathlib.Nat.{mul-le-mul}
use native.Mathlib.Omega.{arith}
use lib.Dec.{ltb}
use lib.ListN.{length, length-append}
use borrow.Author.Tests.{eq-eqb}
use Rattle.std.specs.Prelude.{Result, Ok}
use Rattle.stage.specs.declared.Header.{Header}
use Rattle.stage.specs.declared.Kind.{Kind}
use Rattle.stage.specs.declared.Kind.TheVariants.{Pixmap}
use Rattle.stage.specs.declared.Refusal.{Refusal}
use Rattle.stage.specs.Answers.{Reply, done, refused, refusal, Outcome, outcome_of}
use Rattle.stage.specs.Planes.{Planes}
use Rattle.stage.specs.Transform.{lengths, all_equal}
use Rattle.stage.specs.Raster.{sample_bytes}
use Rattle.stage.specs.Pixmap.{HeaderText, header_text, letter, pixel_samples, depth_of, file_tests, file_of, text_header, header_by, header_of, raster_by, raster_of, raster_planes, planes_of}
use Rattle.stage.specs.Grammar.{IsField, IsFile}
use Rattle.stage.proofs.Answers.{done_refusal, decides, reply_ok}
use Rattle.pixmap.specs.Agreement.{FilesAgree, PixmapsAgree}
use Rattle.pixmap.proofs.Depths.{depth_means, means_depth, depth_maxval}
use Rattle.pixmap.proofs.Maxvals.{has_depth, takes_iff}
use Rattle.pixmap.proofs.Refusals.{is_formed, is_sized, is_taken, is_long, sized_range}
use Rattle.pixmap.proofs.Headers.{headers_agree}
use Rattle.pixmap.proofs.RefusedFiles.{range_sized, read, header_missing, missing_header, wrong_size, wrong_maxval, wrong_length}

field_shorter : {l rest : List ℕ} {v : ℕ} → IsField l v rest → length rest ≤ length l
field_shorter f = omega (arith, simp length-append at (ap length f.parts))

-- ---- every kind of file
module _ (k : Kind) (file : List ℕ) where
  abbrev T : HeaderText
  T = header_text (letter k) file

  pub tests_pass : (t : HeaderText) → file_of k file ≡ done t → refusal (file_tests k T) ≡ 0
  unfolding file_of
  tests_pass t e = done_refusal T T T (file_tests k T) t e

  pub same_text : (t : HeaderText) → file_of k file ≡ done t → T ≡ t
  unfolding file_of
  same_text t e = let d : done T ≡ done t = rw (tests_pass t e) at e in cc

  of_text : refusal (file_tests k T) ≡ 0 → IsFile k file T.width T.height T.maxval T.rest
  of_text z =
      let s = sized_range T.width T.height (is_sized k T z) in
      record {
        is_header = (headers_agree (letter k) file).sound (is_formed k T z);
        width_range = s.0;
        height_range = s.1;
        is_taken = (takes_iff k T.maxval).0 (is_taken k T z);
        is_length = is_long k T z;
      }

  accepted : (t : HeaderText) → file_of k file ≡ done t → IsFile k file t.width t.height t.maxval t.rest
  accepted t e = subst (λ (x : HeaderText). IsFile k file x.width x.height x.maxval x.rest) (same_text t e) (of_text (tests_pass t e))

  taken : (w h m : ℕ) (r : List ℕ) → IsFile k file w h m r → file_of k file ≡ done (record { formed = true; width = w; height = h; maxval = m; rest = r })
  taken w h m r p =
      read k file w h m r p.is_header
      ∙ rw (range_sized w h p.width_range p.height_range, (takes_iff k m).1 p.is_taken, eq-eqb (length r) (pixel_samples k * sample_bytes m * w * h) p.is_length)

pub files_agree : FilesAgree
files_agree k file =
    record {
      sound = accepted k file;
      complete = taken k file;
      header_missing = header_missing k file;
      missing_header = missing_header k file;
      wrong_size = wrong_size k file;
      wrong_maxval = wrong_maxval k file;
      wrong_length = wrong_length k file;
    }

-- ---- pixmaps
module _ (file : List ℕ) where
  abbrev t : HeaderText
  t = header_text 54 file

  by_header : (a : Reply HeaderText) (v : Header) → header_by a ≡ done v → file_of Pixmap file ≡ a → file_of Pixmap file ≡ done t
  unfolding file_of
  by_header (done u) v e f = f ∙ ap (λ (x : HeaderText). done x) (sym (same_text Pixmap file u f))
  by_header (refused n) v e f = let z : ◌≡◌ {A = ℕ} 0 1 = cc in absurd (omega arith)

  by_refusal : (a : Reply HeaderText) (n : ℕ) → header_by a ≡ refused n → a ≡ refused n
  by_refusal (done u) n e = let z : ◌≡◌ {A = ℕ} 0 1 = cc in absurd (omega arith)
  by_refusal (refused m) n e = cc

  alike : (n : ℕ) → (header_of file ≡ refused n) ↔ (file_of Pixmap file ≡ refused n)
  unfolding header_of
  alike n = (by_refusal (file_of Pixmap file) n, ap header_by)

  pub no_raster : (n : ℕ) → header_of file ≡ refused n → raster_of file ≡ []
  unfolding raster_of
  no_raster n e = ap raster_by ((alike n).0 e)

  module _ (v : Header) (e : header_of file ≡ done v) where
    is_read : file_of Pixmap file ≡ done t
    unfolding header_of
    is_read = by_header (file_of Pixmap file) v e refl

    pub same_header : text_header t ≡ v
    unfolding header_of
    same_header = let d : done (text_header t) ≡ done v = ap header_by (sym is_read) ∙ e in cc

    pub same_raster : t.rest ≡ raster_of file
    unfolding raster_of
    same_raster = sym (ap raster_by is_read)

    depth_known : depth_of t.maxval ≡ 0 → ⊥
    depth_known = has_depth t.maxval (is_taken Pixmap t (tests_pass Pixmap file t is_read))

    pixmap : IsFile Pixmap file v.width v.height (2 ^ v.depth - 1) (raster_of file)
    pixmap =
        subst (λ (x : Header). IsFile Pixmap file x.width x.height (2 ^ x.depth - 1) (raster_of file)) same_header
        (subst (λ (m : ℕ). IsFile Pixmap file t.width t.height m (raster_of file)) (sym (depth_maxval t.maxval depth_known).0)
        (subst (λ (r : List ℕ). IsFile Pixmap file t.width t.height t.maxval r) same_raster (accepted Pixmap file t is_read)))

    depth_range : (2 ≤ v.depth) × (v.depth ≤ 16)
    depth_range = subst (λ (x : Header). (2 ≤ x.depth) × (x.depth ≤ 16)) same_header (depth_means t.maxval (depth_of t.maxval) refl depth_known).0

    -- a pixel takes three bytes of the file, or six
    bytes_least : (b : Bool) (n w h : ℕ) → n ≡ 3 * cond b 1 2 * w * h → 3 * (w * h) ≤ n
    bytes_least true n w h f = omega arith
    bytes_least false n w h f = omega arith

    raster_least : 3 * (v.width * v.height) ≤ length (raster_of file)
    raster_least = bytes_least (ltb (2 ^ v.depth - 1) 256) (length (raster_of file)) v.width v.height pixmap.is_length

    some_raster : raster_of file ≡ [] → ⊥
    some_raster z = omega (arith, raster_least, ap length z, mul-le-mul pixmap.width_range.0 pixmap.height_range.0)

    pub pixels_most : 3 * (v.width * v.height) ≤ length file
    pixels_most =
        let i = pixmap.is_header in
        omega (arith, raster_least, ap length i.letters, field_shorter i.is_width, field_shorter i.is_height, field_shorter i.is_maxval)

    -- planes of the picture's size hold the raster once they are filled
    pub filled_planes : (lent p : Planes) (r : Result (Unit {0}) Refusal) → all_equal (v.width * v.height) (lengths lent) ≡ true → outcome_of r p ≡ planes_of file lent
        → (r ≡ Ok tt) × (p ≡ raster_planes v.depth (raster_of file))
    unfolding planes_of
    filled_planes lent p r l q =
        let lengths-hold = ap (λ (x : Header). all_equal (x.width * x.height) (lengths lent)) same_header ∙ l in
        let result = raster_planes (depth_of t.maxval) t.rest in
        let d = decides (file_tests Pixmap t) _ 8 (tt {0}) result lent (tt, (tt, (tt, (tt, (tt, tt))))) 0 (sym (tests_pass Pixmap file t is_read)) in
        let e = q ∙ sym (d.succeeds refl lengths-hold tt result refl refl) in (
          reply_ok r tt (ap (λ (o : Outcome (Unit {0}) Planes). o.reply) e),
          ap (λ (o : Outcome (Unit {0}) Planes). o.memory) e ∙ ap₂ (λ (x : Header) (raster : List ℕ). raster_planes x.depth raster) same_header same_raster,
        )

  -- every pixmap is accepted with its depth
  depth_told : (w h d : ℕ) (r : List ℕ) → 2 ≤ d → d ≤ 16 → IsFile Pixmap file w h (2 ^ d - 1) r → (header_of file ≡ done (record { width = w; height = h; depth = d })) × (raster_of file ≡ r)
  unfolding header_of raster_of
  depth_told w h d r l u p =
      let e = taken Pixmap file w h (2 ^ d - 1) r p in
      (ap header_by e ∙ ap (λ (b : ℕ). done (record { width = w; height = h; depth = b })) (means_depth (2 ^ d - 1) d refl l u), ap raster_by e)

pub pixmaps_agree : PixmapsAgree
pixmaps_agree file =
    record {
      sound = λ h e. (pixmap file h e, depth_range file h e);
      complete = depth_told file;
      alike = alike file;
      empty = no_raster file;
      filled = some_raster file;
    }
