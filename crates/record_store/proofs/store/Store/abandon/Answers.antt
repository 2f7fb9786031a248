use Rattle.record_store.proofs.CopiesLemmas.{copies_stand}
use Rattle.record_store.proofs.store.Store.abandon.Goals as goal

pub returns-then-not-is_nothing-clause-copies : goal.returns-then-not-is_nothing-clause-copies
returns-then-not-is_nothing-clause-copies g c tells sure =
    let i = c.self.inside in
    copies_stand g.F.Flash.tells i.geometry (g.F.Flash.state i.flash) i.found i.buffer.items i.in_doubt i.work c.args.self.now c.self.invariant c.self.view_is tells sure

pub returns-else-not-is_nothing-clause-copies : goal.returns-else-not-is_nothing-clause-copies
returns-else-not-is_nothing-clause-copies g c tells sure =
    let i = c.self.inside in
    copies_stand g.F.Flash.tells i.geometry (g.F.Flash.state i.flash) i.found i.buffer.items i.in_doubt i.work c.args.self.now c.self.invariant c.self.view_is tells sure
