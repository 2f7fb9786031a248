use Rattle.std.proofs.Common.{rules}
use Rattle.record_slots.proofs.SettledLemmas.{KeepsRecords-none}
use Rattle.record_store.proofs.WorkLemmas.{nearly_of_only}
use Rattle.record_store.proofs.store.Store.attach.Goals as goal

pub returns-then-size-clause-back : goal.returns-then-size-clause-back
returns-then-size-clause-back g c tells = KeepsRecords-none c.args.geometry.slot_size c.args.geometry.slots (g.F.Flash.state c.args.flash).told

pub invariant_of-result : goal.invariant_of-result
invariant_of-result g c = record {
  fits = search rules;
  listing = search rules;
  room = search rules;
  form = tt;
  certain = λ busy. absurd busy;
  knows = λ tells sure. c.in-Ok.ensures.knows tells;
  spare = λ tells. nearly_of_only c.args.geometry.slot_size c.args.geometry.slots (g.F.Flash.state c.open.new.flash).told.image (c.in-Ok.ensures.knows tells).only;
}
