use Rattle.flash_model.specs.Layouts.{layout_of}
use Rattle.record_store.specs.Kept.{pending_of}
use Rattle.record_store.proofs.StoreLemmas.{looks_restarted}
use Rattle.record_store.proofs.store.Store.power.Goals as goal

pub returns-clause-leaves : goal.returns-clause-leaves
returns-clause-leaves g c =
    let i = c.self.inside in
    looks_restarted g.F.Flash.tells i.geometry (g.F.Flash.state i.flash) (g.F.Flash.state c.restart.new.self) i.in_doubt
    (pending_of (layout_of i.geometry) i.buffer.items i.work) c.args.self.now c.remount.new.self _ c.self.view_is
    c.restart.ensures c.in_ok-remount.ensures.leaves
