use Rattle.std.proofs.Common.{◌∙◌, ap, List, ℕ, length, arith}
use Rattle.std.proofs.lemmas.List.{with_items_is}
use Rattle.erst_port.specs.PortTables.{port_checksum}
use Rattle.erst_port.proofs.TableLemmas.{is_erst, table_size}
use Rattle.erst_port.proofs.table.table_at.Goals as goal

pub returns : goal.returns
returns c =
    let items = with_items_is c.in_ok-table.table c.put_table.new.out (omega (arith, c.put_table.auto.out)) ∙ c.put_table.ensures in
    record {
      bytes = items;
      size = ap (λ (xs : List ℕ). length xs) items ∙ table_size c.args.registers (port_checksum c.args.registers);
      erst = is_erst c.args.registers _ items;
    }
