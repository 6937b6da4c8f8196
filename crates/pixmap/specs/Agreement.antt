-- The reader of `Pixmap` and the grammar of `Grammar` say the same of every file, of pixmaps and of graymaps.
use Rattle.std.specs.Prelude.{◌≡◌, true, ◌↔◌, List, [], ℕ, ◌-◌, ◌^◌, ◌≤◌}
use Rattle.stage.specs.declared.Header.{Header}
use Rattle.stage.specs.declared.Kind.{Kind}
use Rattle.stage.specs.declared.Kind.TheVariants.{Pixmap}
use Rattle.stage.specs.Answers.{done, refused}
use Rattle.stage.specs.Pixmap.{HeaderText, header_text, letter, file_of, header_of, raster_of}
use Rattle.stage.specs.Grammar.{IsHeader, IsFile, WrongSize, WrongMaxval, WrongLength}

-- What the reader takes for a header is one, and every header is read to its numbers.
pub record HeaderAgrees (letter : ℕ) (file : List ℕ) : Type 0 where
  pub sound : (header_text letter file).formed ≡ true → let t = header_text letter file in IsHeader letter file t.width t.height t.maxval t.rest
  pub complete : (w h m : ℕ) (r : List ℕ) → IsHeader letter file w h m r → header_text letter file ≡ record { formed = true; width = w; height = h; maxval = m; rest = r }

-- What is accepted is a file of the kind, and every such file is accepted with its numbers and its raster. Each refusal is the answer exactly
-- where the grammar says so: 1 where the file has no header, then 2, 3 and 4.
pub record FileAgrees (k : Kind) (file : List ℕ) : Type 0 where
  pub sound : (t : HeaderText) → file_of k file ≡ done t → IsFile k file t.width t.height t.maxval t.rest
  pub complete : (w h m : ℕ) (r : List ℕ) → IsFile k file w h m r → file_of k file ≡ done (record { formed = true; width = w; height = h; maxval = m; rest = r })
  pub header_missing : file_of k file ≡ refused 1 → (w h m : ℕ) (r : List ℕ) → IsHeader (letter k) file w h m r → ⊥
  pub missing_header : ((w h m : ℕ) (r : List ℕ) → IsHeader (letter k) file w h m r → ⊥) → file_of k file ≡ refused 1
  pub wrong_size : (file_of k file ≡ refused 2) ↔ WrongSize k file
  pub wrong_maxval : (file_of k file ≡ refused 3) ↔ WrongMaxval k file
  pub wrong_length : (file_of k file ≡ refused 4) ↔ WrongLength k file

-- Of a pixmap the depth is told for its maxval. The raster is empty exactly where the file is refused, and refused alike.
pub record PixmapAgrees (file : List ℕ) : Type 0 where
  pub sound : (h : Header) → header_of file ≡ done h → IsFile Pixmap file h.width h.height (2 ^ h.depth - 1) (raster_of file) × ((2 ≤ h.depth) × (h.depth ≤ 16))
  pub complete : (w h d : ℕ) (r : List ℕ) → 2 ≤ d → d ≤ 16 → IsFile Pixmap file w h (2 ^ d - 1) r
      → (header_of file ≡ done (record { width = w; height = h; depth = d })) × (raster_of file ≡ r)
  pub alike : (n : ℕ) → (header_of file ≡ refused n) ↔ (file_of Pixmap file ≡ refused n)
  pub empty : (n : ℕ) → header_of file ≡ refused n → raster_of file ≡ []
  pub filled : (h : Header) → header_of file ≡ done h → raster_of file ≡ [] → ⊥

abbrev pub HeadersAgree : Type 0
HeadersAgree = (letter : ℕ) (file : List ℕ) → HeaderAgrees letter file

abbrev pub FilesAgree : Type 0
FilesAgree = (k : Kind) (file : List ℕ) → FileAgrees k file

abbrev pub PixmapsAgree : Type 0
PixmapsAgree = (file : List ℕ) → PixmapAgrees file
