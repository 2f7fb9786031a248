use Rattle.std.proofs.Common.{◌≡◌, [], ◌∷◌, take}
use Rattle.erst_machine.specs.OwnTables.{own_header, own_entries}
use Rattle.erst_machine.proofs.tables.erst.Given as goal

abbrev pub invariant-loop-entry : goal.invariant-loop-entry
invariant-loop-entry l =
    (l.entry-items ≡ own_entries)
    × (l.table ≡ record { header = own_header (0x45 ∷ 0x52 ∷ 0x53 ∷ 0x54 ∷ []) 0 0; header_size = 48; reserved = 0; count = 0; entries = take l.entry-index own_entries })
