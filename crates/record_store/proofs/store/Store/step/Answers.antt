use Rattle.std.proofs.Common.{ℕ, List, subst}
use Rattle.flash_model.specs.Layouts.{layout_of}
use Rattle.record_store.specs.Kept.{pending_of}
use Rattle.record_store.proofs.StoreLemmas.{may_since, may_exit}
use Rattle.record_store.proofs.store.Store.step.Given as given
use Rattle.record_store.proofs.store.Store.step.Goals as goal
use Rattle.record_store.proofs.store.Store.step.Goals.{After-make_change-made}
use Rattle.record_store.proofs.Words.{MayMake}

-- power lost in the change leaves the records from before it, or those after it
may_make : (g : given.Over) (c : goal.After-make_change-made g) → g.F.Flash.tells
    → MayMake c.self.inside.geometry (pending_of (layout_of c.self.inside.geometry) c.self.inside.buffer.items c.self.inside.work)
    (g.F.Flash.state c.self.inside.flash).told (g.F.Flash.state c.make_change-made.new.flash).told
may_make g c tells =
    subst (λ (xs : List ℕ). MayMake c.self.inside.geometry (pending_of (layout_of c.self.inside.geometry) xs c.self.inside.work)
    (g.F.Flash.state c.self.inside.flash).told (g.F.Flash.state c.make_change-made.new.flash).told)
    c.deref.ensures.value (c.make_change-made.ensures.makes.crash tells)

pub returns-in-Ok-clause-crash : goal.returns-in-Ok-clause-crash
returns-in-Ok-clause-crash g c tells =
    let i = c.self.inside in
    may_since i.geometry (g.F.Flash.state i.flash) i.in_doubt (pending_of (layout_of i.geometry) i.buffer.items i.work) c.args.self.now
    (g.F.Flash.state c.make_change-made.new.flash).told c.self.view_is
    (may_make g (goal.at.returns-in-Ok-clause-crash g c).After-make_change-made tells)

pub returns-in-Err-clause-answer : goal.returns-in-Err-clause-answer
returns-in-Err-clause-answer g c tells =
    let i = c.self.inside in
    may_exit i.geometry (g.F.Flash.state i.flash) i.in_doubt (pending_of (layout_of i.geometry) i.buffer.items i.work) c.args.self.now
    (g.F.Flash.state c.make_change-made.new.flash).told c.self.view_is
    (may_make g (goal.at.returns-in-Err-clause-answer g c).After-make_change-made tells)

pub returns-in-Err-clause-crash : goal.returns-in-Err-clause-crash
returns-in-Err-clause-crash g c tells =
    let i = c.self.inside in
    may_since i.geometry (g.F.Flash.state i.flash) i.in_doubt (pending_of (layout_of i.geometry) i.buffer.items i.work) c.args.self.now
    (g.F.Flash.state c.make_change-made.new.flash).told c.self.view_is
    (may_make g (goal.at.returns-in-Err-clause-crash g c).After-make_change-made tells)
