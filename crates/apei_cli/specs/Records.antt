-- The records that are written.
use Rattle.std.specs.Prelude.{ℕ, ◌-◌, List, [], ◌∷◌, ◌++◌, codes}
use Rattle.base_model.specs.Bytes.{spelled}
pub use Rattle.base_model.specs.Bytes.{zeros}

-- A record without sections, of an identifier and so many bytes. Its header's first fields (UEFI 2.8, N.2.1) are the signature, the revision, the
-- end of the signature, no sections, a corrected error, and no valid field; the bytes behind the header's 128 are spare
abbrev pub record_of : ℕ → ℕ → List ℕ
record_of id size =
    codes "CPER" ++ (1 ∷ 1 ∷ 255 ∷ 255 ∷ 255 ∷ 255 ∷ 0 ∷ 0 ∷ 2 ∷ 0 ∷ 0 ∷ 0 ∷ 0 ∷ 0 ∷ 0 ∷ 0 ∷ [])
    ++ spelled 4 size ++ zeros 72 ++ spelled 8 id ++ zeros (size - 104)
