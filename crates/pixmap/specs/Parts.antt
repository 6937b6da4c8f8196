-- Parts of a lent file.
use Rattle.std.specs.Prelude.{◌≡◌, List, ℕ, ◌+◌, ◌-◌, length}
use Rattle.std.specs.Borrow.{Bor}

-- the part r holds these bytes, and it is the file's last bytes, in the caller's own memory
pub record PartOf (file : Bor (List ℕ)) (bytes : List ℕ) (r : Bor (List ℕ)) : Type 0 where
  pub bytes_are : r.now ≡ bytes
  pub lent : r.ref_ptr ≡ (file.ref_ptr.0, (length file.now - length r.now) + file.ref_ptr.1)
