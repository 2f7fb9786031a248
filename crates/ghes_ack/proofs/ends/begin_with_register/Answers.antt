use Rattle.ghes_ack.specs.Maps.{ack_read, ack_mask}
use Rattle.ghes_ack.proofs.MemoryLemmas.{has_block}
use Rattle.ghes_ack.proofs.EffectLemmas.{windows_address, windows_ack, started_memory, started_set}
use Rattle.std.specs.Prelude.{bit_or}
use Rattle.ghes_ack.proofs.ends.begin_with_register.Goals as goal

pub set_ack-requires : goal.set_ack-requires
set_ack-requires c = windows_address c.args.map.now c.args.ram.now c.write_address.new.ram c.write_address.ensures c.requires

pub begin-requires : goal.begin-requires
begin-requires c =
    let windows = windows_address c.args.map.now c.args.ram.now c.write_address.new.ram c.write_address.ensures c.requires in
    has_block c.args.map.now c.set_ack.new.ram
    (windows_ack c.args.map.now c.write_address.new.ram c.set_ack.new.ram (bit_or (ack_read c.args.map.now c.write_address.new.ram) (ack_mask c.args.map.now)) c.set_ack.ensures.memory windows)

pub returns-clause-memory : goal.returns-clause-memory
returns-clause-memory c = started_memory c.args.map.now c.args.ram.now c.write_address.new.ram c.set_ack.new.ram c.begin.new.ram c.requires
    c.write_address.ensures c.set_ack.ensures.memory c.begin.ensures

pub returns-clause-set : goal.returns-clause-set
returns-clause-set c =
    λ sound. started_set c.args.map.now c.args.ram.now c.write_address.new.ram c.set_ack.new.ram c.begin.new.ram c.requires c.write_address.ensures
    c.set_ack.ensures.memory c.begin.ensures (c.set_ack.ensures.set sound)
