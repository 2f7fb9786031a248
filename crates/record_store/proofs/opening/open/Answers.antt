use Rattle.flash_model.specs.Layouts.{layout_of}
use Rattle.record_slots.specs.Recovered.{NoKill}
use Rattle.record_slots.proofs.SettledLemmas.{KeepsRecords-none}
use Rattle.record_store.proofs.ScanLemmas.{KnowsSlots-recovered}
use Rattle.record_store.proofs.opening.open.Goals as goal

pub returns-in_err-buffer-clause-kept : goal.returns-in_err-buffer-clause-kept
returns-in_err-buffer-clause-kept g c tells = KeepsRecords-none c.args.geometry.now.slot_size c.args.geometry.now.slots (g.F.Flash.state c.args.flash.now).told

pub returns-in_err-buffer-clause-order : goal.returns-in_err-buffer-clause-order
returns-in_err-buffer-clause-order g c tells = NoKill c.args.geometry.now.slots

pub returns-clause-knows : goal.returns-clause-knows
returns-clause-knows g c tells =
    KnowsSlots-recovered (layout_of c.args.geometry.now) (g.F.Flash.state c.args.flash.now) (g.F.Flash.state c.scan.new.flash) c.in_ok-found.found (c.in_ok-found.ensures.recovered tells)

pub returns-clause-steps : goal.returns-clause-steps
returns-clause-steps g c tells = (c.in_ok-found.ensures.recovered tells).steps
