use Rattle.record_slots.proofs.SettledLemmas.{KeepsRecords-none, StaysNearly-none}
use Rattle.record_slots.specs.Recovered.{NoKill}
use Rattle.record_slots.proofs.scanning.scan.Goals as goal

pub returns-then-size-clause-crash : goal.returns-then-size-clause-crash
returns-then-size-clause-crash g c tells = KeepsRecords-none c.args.geometry.now.slot_size c.args.geometry.now.slots (g.F.Flash.state c.args.flash.now).told

pub returns-in_err-found-clause-crash : goal.returns-in_err-found-clause-crash
returns-in_err-found-clause-crash g c tells = KeepsRecords-none c.args.geometry.now.slot_size c.args.geometry.now.slots (g.F.Flash.state c.args.flash.now).told

pub returns-then-size-clause-nearly : goal.returns-then-size-clause-nearly
returns-then-size-clause-nearly g c tells = StaysNearly-none c.args.geometry.now.slot_size c.args.geometry.now.slots (g.F.Flash.state c.args.flash.now).told

pub returns-in_err-found-clause-nearly : goal.returns-in_err-found-clause-nearly
returns-in_err-found-clause-nearly g c tells = StaysNearly-none c.args.geometry.now.slot_size c.args.geometry.now.slots (g.F.Flash.state c.args.flash.now).told

pub returns-then-size-clause-order : goal.returns-then-size-clause-order
returns-then-size-clause-order g c tells = NoKill c.args.geometry.now.slots

pub returns-in_err-found-clause-order : goal.returns-in_err-found-clause-order
returns-in_err-found-clause-order g c tells = NoKill c.args.geometry.now.slots
