use Rattle.std.proofs.Common.{◌≡◌, ◌++◌, take}
use Rattle.apei_bytes.specs.Writing.{Wrote}
use Rattle.erst_entries.specs.Layout.{front_spelling}
use Rattle.erst_port.specs.PortTables.{port_entries, table_with}
use Rattle.erst_entries.proofs.Terms.{entries_spelling}
use Rattle.erst_port.proofs.table.put_table.Given as goal

abbrev pub invariant-loop-entry : goal.invariant-loop-entry
invariant-loop-entry l = record {
  all : l.entry-items ≡ port_entries l.registers;
  wrote : Wrote l.fn.out l.out 0 l.end (front_spelling (table_with l.registers 0) ++ entries_spelling (take l.entry-index (port_entries l.registers)));
}
