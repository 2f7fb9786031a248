-- One more structure is passed over.
use Rattle.std.proofs.Common.{◌≡◌, ℕ, Bool, false, List, [], ◌∷◌, ◌++◌}
use Rattle.smbios.specs.Structures.{Pair, bytes_of, IsStructure}
use Rattle.smbios.specs.Finding.{IsPassed, Passes, ends_table}
use Rattle.smbios.proofs.ListLemmas.{each_more, stands_more}

pub pass_more : (wanted : Pair → Bool) (table : List ℕ) (passed : List Pair) (rest after : List ℕ) (one : Pair) → Passes wanted table passed rest
    → IsStructure one → rest ≡ bytes_of one ++ after → wanted one ≡ false → ends_table one ≡ false
    → (passed : List Pair) × Passes wanted table passed after
pass_more wanted table passed rest after one passes is stands other further = (
  passed ++ one ∷ [],
  record {
    each = each_more (IsPassed wanted) passed one passes.each (record { is = is; other = other; further = further });
    all = stands_more bytes_of passed one table rest after passes.all stands;
  },
)
