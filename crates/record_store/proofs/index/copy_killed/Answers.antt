use Rattle.std.proofs.Common.{◌-◌}
use Rattle.record_store.proofs.IndexLemmas.{IsListOf-killed}
use Rattle.record_store.proofs.index.copy_killed.Goals as goal

pub returns-clause-list : goal.returns-clause-list
returns-clause-list c entry other id lost has of counted older list =
    IsListOf-killed c.args.geometry.now.slots (c.args.geometry.now.slot_size - 64) id c.args.place c.args.found.now c.free_record.new.found entry other lost has of counted older
    c.free_record.ensures.ids c.free_record.ensures.places c.free_record.ensures.free c.free_record.ensures.gains list
