-- A file of at most 8,192 bytes has at most 2,730 pixels, so that the planes are long enough.
use Rattle.std.proofs.Common.{◌≡◌, refl, ap, sym, ◌∙◌, List, ℕ, ◌*◌, ◌≤◌, length, take, ℤ, subst, true}
use native.Mathlib.Omega.{arith}
use Rattle.std.specs.Prelude.{Result, Ok, Err}
use Rattle.stage.specs.declared.Header.{Header}
use Rattle.stage.specs.declared.Refusal.{Refusal}
use Rattle.stage.specs.Answers.{Reply, done}
use Rattle.stage.specs.Planes.{Planes, triple}
use Rattle.stage.specs.Transform.{all_equal}
use Rattle.stage.specs.Pixmap.{header_of}
use Rattle.pixmap.proofs.Agreement.{pixels_most, filled_planes}
use Rattle.report_text.specs.Report.{lines}
use Rattle.report_text.specs.Promises.{LinesPut}
use Rattle.report_text.proofs.Pictures.{prefix_length, all_equal_lem}
use Rattle.report_text.proofs.Reports.{file_long, file_read}
use Rattle.report_text.proofs.pixmaps.put_file.Goals as goal

small : (file : List ℕ) (h : Header) → done h ≡ header_of file → length file ≤ 8192 → h.width * h.height ≤ 2730
small file h e s = omega (arith, pixels_most file h (sym e), s)

pub returns-then-long-clause-put : goal.returns-then-long-clause-put
returns-then-long-clause-put c = (file_long c.args.file.now (omega arith), refl, c.requires.none)

pub slice_bounds-c1-end : goal.slice_bounds-c1-end
slice_bounds-c1-end c = let s = small c.args.file.now c.in_ok-header.header c.in_ok-header.ensures (omega arith) in omega (arith, s, c.new_plane-c1.ensures)

pub slice_bounds-planes-end : goal.slice_bounds-planes-end
slice_bounds-planes-end c = prefix_length _ _ c.new_plane-c1.ensures (small c.args.file.now c.in_ok-header.header c.in_ok-header.ensures (omega arith))

pub slice_bounds-c2-end : goal.slice_bounds-c2-end
slice_bounds-c2-end c = let s = small c.args.file.now c.in_ok-header.header c.in_ok-header.ensures (omega arith) in omega (arith, s, c.new_plane-c2.ensures)

pub slice_bounds-planes-end-2 : goal.slice_bounds-planes-end-2
slice_bounds-planes-end-2 c = prefix_length _ _ c.new_plane-c2.ensures (small c.args.file.now c.in_ok-header.header c.in_ok-header.ensures (omega arith))

pub slice_bounds-c3-end : goal.slice_bounds-c3-end
slice_bounds-c3-end c = let s = small c.args.file.now c.in_ok-header.header c.in_ok-header.ensures (omega arith) in omega (arith, s, c.new_plane-c3.ensures)

pub slice_bounds-planes-end-3 : goal.slice_bounds-planes-end-3
slice_bounds-planes-end-3 c = prefix_length _ _ c.new_plane-c3.ensures (small c.args.file.now c.in_ok-header.header c.in_ok-header.ensures (omega arith))

-- planes as large as the picture hold the raster's samples
sizes : (n : ℕ) (a b c : List ℤ) → 2730 ≡ length a → 2730 ≡ length b → 2730 ≡ length c → n ≤ 2730 → all_equal n (triple (length (take n a)) (length (take n b)) (length (take n c))) ≡ true
sizes n a b c p q r h = all_equal_lem n _ _ _ (prefix_length n a p h) (prefix_length n b q h) (prefix_length n c r h)

put_as : {p q : Reply (List ℕ)} (r : Result (Unit {0}) Refusal) (a b : List ℕ) (n : ℕ) → p ≡ q → LinesPut q r a b n → LinesPut p r a b n
put_as r a b n e w = subst (λ (x : Reply (List ℕ)). LinesPut x r a b n) (sym e) w

pub returns-in_err-planes-clause-put : goal.returns-in_err-planes-clause-put
returns-in_err-planes-clause-put c =
    let h = small c.args.file.now c.in_ok-header.header c.in_ok-header.ensures (omega arith) in
    let f = filled_planes c.args.file.now c.in_ok-header.header (sym c.in_ok-header.ensures) _ _ c.planes.result (sizes _ _ _ _ c.new_plane-c1.ensures c.new_plane-c2.ensures c.new_plane-c3.ensures h) c.planes.ensures.filled in
    let z : ◌≡◌ {A = Result (Unit {0}) Refusal} (Err c.in_err-planes.field-0.0) (Ok tt) = sym c.in_err-planes.was ∙ f.0 in
    let y : ◌≡◌ {A = ℕ} 0 1 = cc in
    absurd (omega arith)

pub returns-clause-put : goal.returns-clause-put
returns-clause-put c =
    let l : length c.args.file.now ≤ 8192 = omega arith in
    let e = c.in_ok-header.ensures in
    let h = small c.args.file.now c.in_ok-header.header e l in
    let f = filled_planes c.args.file.now c.in_ok-header.header (sym e) _ _ c.planes.result (sizes _ _ _ _ c.new_plane-c1.ensures c.new_plane-c2.ensures c.new_plane-c3.ensures h) c.planes.ensures.filled in
    put_as c.put_picture.result _ _ _ (file_read c.args.file.now c.in_ok-header.header l e ∙ ap (λ (p : Planes). lines c.in_ok-header.header p) (sym (c.shared.ensures ∙ f.1))) c.put_picture.ensures.put
