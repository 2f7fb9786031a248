use Rattle.std.proofs.Common.{subst}
use Rattle.erst_entries.specs.Tables.{IsErst}
use Rattle.erst_port.specs.PortState.{PortState}
use Rattle.erst_port.specs.PortTables.{port_erst}
use Rattle.erst_port.proofs.TableLemmas.{is_erst}
use Rattle.erst_port.proofs.port.Port.table_is_erst.Goals as goal

pub returns : goal.returns
returns c =
    subst (λ (p : PortState). IsErst (port_erst p.addresses.registers) p.table) c.self.view_is
    (is_erst c.self.inside.addresses.registers c.self.inside.table.items c.self.invariant.tells)
