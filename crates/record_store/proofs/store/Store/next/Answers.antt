use Rattle.base_model.specs.Layout.{Layout}
use Rattle.record_model.specs.Records.{Stored, entry_at}
use Rattle.record_model.specs.RecordMap.{IsNextAbove}
use Rattle.record_store.proofs.StoreLemmas.{looked, of_old}
use Rattle.record_store.proofs.store.Store.next.Goals as goal

pub returns-clause-answer : goal.returns-clause-answer
returns-clause-answer g c tells =
    let now = c.settle.new.self in
    let is = looked c.self.invariant c.self.view_is c.in_ok-settle.ensures.leaves in
    of_old g.F.Flash.tells c.args.self.now now c.self.inside.found (λ (layout : Layout) (s : Stored). IsNextAbove c.args.cursor s c.next_id.result) is tells
    (c.next_id.ensures.next (entry_at now.layout.slot_size now.layout.slots now.flash.told.image) now.layout.slots (is.knows tells).list)
