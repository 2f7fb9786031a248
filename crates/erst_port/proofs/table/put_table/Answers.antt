use Rattle.std.proofs.Common.{arith, lit<}
use Rattle.erst_port.proofs.TableLemmas.{front_put, no_entry, next_entry, has_room, table_sealed}
use Rattle.erst_port.proofs.table.put_table.Goals as goal

pub loop-entry-init : goal.loop-entry-init
loop-entry-init c = record {
  all = c.port_entries-entry-items.ensures;
  wrote = no_entry c.args.registers c.args.out.now c.write_u32-end.new.out c.write_u32-end.result
      (front_put c.args.registers c.args.out.now c.put.new.out c.write_u32-reserved.new.out c.write_u32-count.new.out c.write_u32-end.new.out
      c.write_u32-reserved.result c.write_u32-count.result c.write_u32-end.result c.own_header.result c.requires.size c.own_header.ensures c.put.ensures.written
      c.write_u32-reserved.ensures.wrote c.write_u32-count.ensures.wrote c.write_u32-end.ensures.wrote);
}

pub loop-entry-preserved : goal.loop-entry-preserved
loop-entry-preserved c = record {
  all = c.loop-entry.invariant.all;
  wrote = next_entry c.args.registers c.args.out.now c.loop-entry.out c.write_array-end.new.out c.loop-entry.end c.write_array-end.result c.loop-entry.entry-index
      c.port_entries-entry-items.result _ c.spell.result c.port_entries-entry-items.ensures c.loop-entry-test.true c.spell.ensures c.loop-entry.invariant.wrote c.write_array-end.ensures.wrote;
}

pub write_array-end-requires : goal.write_array-end-requires
write_array-end-requires c =
    (lit< tt, has_room c.args.registers c.args.out.now c.loop-entry.out c.loop-entry.end c.loop-entry.entry-index c.requires.size c.loop-entry-test.true c.loop-entry.invariant.wrote)

pub returns : goal.returns
returns c =
    table_sealed c.args.registers c.args.out.now c.loop-entry.out c.seal.new.table c.loop-entry.end c.loop-entry.entry-index c.requires.size (omega arith)
    c.loop-entry.invariant.wrote c.seal.ensures.others c.seal.ensures.sum (omega (arith, c.type_inv.out 9))
