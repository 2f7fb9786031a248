use Rattle.std.proofs.Common.{◌-◌, sym, arith}
use Rattle.record_model.proofs.PartsLemmas.{parts_of-one}
use Rattle.record_slots.proofs.live.parts_of.Goals as goal

pub returns-then-len-room : goal.returns-then-len-room
returns-then-len-room c = sym (parts_of-one (c.args.geometry.now.slot_size - 64) c.args.len (omega arith) (omega arith))
