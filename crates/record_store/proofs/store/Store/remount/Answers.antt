use Rattle.flash_model.specs.Layouts.{layout_of}
use Rattle.record_store.specs.Kept.{pending_of}
use Rattle.record_store.proofs.StoreLemmas.{looks_doubted}
use Rattle.record_store.proofs.store.Store.remount.Goals as goal

pub returns-clause-leaves : goal.returns-clause-leaves
returns-clause-leaves g c =
    let i = c.self.inside in
    looks_doubted g.F.Flash.tells i.geometry (g.F.Flash.state i.flash) i.in_doubt (pending_of (layout_of i.geometry) i.buffer.items i.work) c.args.self.now
    c.settle.new.self _ c.self.view_is c.in_ok-settle.ensures.leaves
