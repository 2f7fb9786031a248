-- The names that Linux gives the files of pstore.
use Rattle.std.specs.Prelude.{ℕ, ◌-◌, Bool, if◌then◌else◌, List, length, drop, codes, Option, Some, None}
use Rattle.std.specs.Str.{bytes_eq}
use Rattle.show_findings.specs.declared.kinds.FileKind.{FileKind}
use Rattle.show_findings.specs.declared.kinds.FileKind.TheVariants.{Packed, MachineCheck, Dmesg}
use Rattle.show_findings.specs.Signatures.{begins}

abbrev pub ends : List ℕ → List ℕ → Bool
ends text name = bytes_eq text (drop (length name - length text) name)

abbrev pub named_kind : List ℕ → Option FileKind
named_kind name =
    if ends (codes ".enc.z") name then Some Packed
    else if begins (codes "mce-erst-") name then Some MachineCheck
    else if begins (codes "dmesg-erst-") name then Some Dmesg
    else None
