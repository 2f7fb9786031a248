use Rattle.std.proofs.Common.{false, refl, sym, ap, subst, ◌∙◌}
use Rattle.flash_model.specs.Layouts.{layout_of}
use Rattle.record_store.specs.Store.{StoreView}
use Rattle.record_store.specs.Kept.{Knows, IsWork, pending_of}
use Rattle.record_store.specs.declared.work.Begun.{Begun}
use Rattle.record_store.proofs.ScanLemmas.{IsListing-rescanned, KnowsSlots-recovered}
use Rattle.record_store.proofs.StoreLemmas.{IsScanned, idle_work, ready_knows, looks_ready, looks_again, looks_failed, rescanned_spare, free_rescanned, ready_reads, looked_reads}
use Rattle.record_store.proofs.store.Store.settle.Given as given
use Rattle.record_store.proofs.store.Store.settle.Goals as goal
use Rattle.record_store.proofs.store.Store.settle.Goals.{After-rescan}

-- what a scan leaves
scanned : (g : given.Over) (c : goal.After-rescan g) → IsScanned g.F.Flash.tells c.self.inside.geometry (g.F.Flash.state c.self.inside.flash) (g.F.Flash.state c.rescan.new.flash)
scanned g c = record {
  crash = c.rescan.ensures.crash;
  changes = c.rescan.ensures.changes;
  nearly = c.self.invariant.spare;
  size = c.rescan.ensures.shape.size;
  sector_size = c.rescan.ensures.shape.sector_size;
  power = c.rescan.ensures.shape.power;
}

pub returns-then-not-self-clause-leaves : goal.returns-then-not-self-clause-leaves
returns-then-not-self-clause-leaves g c =
    looks_ready g.F.Flash.tells c.args.self.now _ (record { certain = sym (ap (λ (u : StoreView). u.in_doubt) c.self.view_is) ∙ c.if-not-self.true; idle = c.requires.idle })

pub returns-then-not-self-clause-settled : goal.returns-then-not-self-clause-settled
returns-then-not-self-clause-settled g c tells =
    let i = c.self.inside in
    (ready_knows g.F.Flash.tells i.geometry (g.F.Flash.state i.flash) i.found i.buffer.items i.in_doubt i.work c.args.self.now c.self.invariant c.self.view_is
    (record { certain = sym (ap (λ (u : StoreView). u.in_doubt) c.self.view_is) ∙ c.if-not-self.true; idle = c.requires.idle }) tells).only

pub invariant_of-self : goal.invariant_of-self
invariant_of-self g c =
    let i = c.self.inside in
    let old = g.F.Flash.state i.flash in
    let new = g.F.Flash.state c.rescan.new.flash in
    let found = c.rescan.new.found in
    let size = i.geometry.slot_size in
    let slots = i.geometry.slots in
    let idle = idle_work (layout_of i.geometry) i.buffer.items i.work (ap (λ (u : StoreView). u.pending) c.self.view_is ∙ c.requires.idle) in
    record {
      fits = record { size = c.rescan.ensures.shape.size ∙ c.self.invariant.fits.size; sector_size = c.rescan.ensures.shape.sector_size ∙ c.self.invariant.fits.sector_size };
      listing = IsListing-rescanned slots size i.found found c.rescan.ensures.index c.rescan.ensures.free c.rescan.ensures.few c.rescan.ensures.room c.self.invariant.listing.room;
      room = c.self.invariant.room;
      form = subst (λ (w : Begun). IsWork i.geometry found i.buffer.items w) (sym idle) tt;
      certain = λ busy. refl;
      knows = λ tells sure.
          subst (λ (w : Begun). Knows i.geometry found i.buffer.items new.told.image w) (sym idle)
          (KnowsSlots-recovered (layout_of i.geometry) old new found (c.in-Ok.ensures.recovered tells));
      spare = λ tells. rescanned_spare size slots old.told new.told (c.rescan.ensures.nearly tells) (c.self.invariant.spare tells);
    }

pub invariant_of-self-in-Err : goal.invariant_of-self-in-Err
invariant_of-self-in-Err g c =
    let i = c.self.inside in
    let idle = idle_work (layout_of i.geometry) i.buffer.items i.work (ap (λ (u : StoreView). u.pending) c.self.view_is ∙ c.requires.idle) in
    record {
      fits = record { size = c.rescan.ensures.shape.size ∙ c.self.invariant.fits.size; sector_size = c.rescan.ensures.shape.sector_size ∙ c.self.invariant.fits.sector_size };
      listing = IsListing-rescanned i.geometry.slots i.geometry.slot_size i.found c.rescan.new.found c.rescan.ensures.index c.rescan.ensures.free
          c.rescan.ensures.few c.rescan.ensures.room c.self.invariant.listing.room;
      room = c.self.invariant.room;
      form = subst (λ (w : Begun). IsWork i.geometry c.rescan.new.found i.buffer.items w) (sym idle) tt;
      certain = c.self.invariant.certain;
      knows = λ tells sure. absurd (cc);
      spare = λ tells. rescanned_spare i.geometry.slot_size i.geometry.slots (g.F.Flash.state i.flash).told (g.F.Flash.state c.rescan.new.flash).told
          (c.rescan.ensures.nearly tells) (c.self.invariant.spare tells);
    }

pub returns-in-Ok-clause-leaves : goal.returns-in-Ok-clause-leaves
returns-in-Ok-clause-leaves g c =
    let i = c.self.inside in
    let shape = c.rescan.ensures.shape in
    looks_again g.F.Flash.tells i.geometry (g.F.Flash.state i.flash) (g.F.Flash.state c.rescan.new.flash) c.rescan.new.found i.in_doubt
    (pending_of (layout_of i.geometry) i.buffer.items i.work) c.args.self.now _ c.self.view_is
    c.if-not-self.false (ap (λ (u : StoreView). u.pending) c.self.view_is ∙ c.requires.idle) (scanned g (goal.at.returns-in-Ok-clause-leaves g c).After-rescan)
    c.in-Ok.ensures.recovered c.in-Ok.ensures.shape.cause.ok
    (record {
      once = tt;
      lit = shape.lit;
      same_power = c.in-Ok.ensures.shape.powered ∙ sym (shape.power.never_back c.in-Ok.ensures.shape.powered);
      later = c.in-Ok.ensures.shape.later;
    })

pub returns-in-Err-clause-leaves : goal.returns-in-Err-clause-leaves
returns-in-Err-clause-leaves g c =
    let i = c.self.inside in
    let shape = c.rescan.ensures.shape in
    looks_failed g.F.Flash.tells i.geometry (g.F.Flash.state i.flash) (g.F.Flash.state c.rescan.new.flash) i.in_doubt
    (pending_of (layout_of i.geometry) i.buffer.items i.work) c.args.self.now c.self.view_is
    c.if-not-self.false (ap (λ (u : StoreView). u.pending) c.self.view_is ∙ c.requires.idle) (scanned g (goal.at.returns-in-Err-clause-leaves g c).After-rescan)
    shape.cause.never_falls c.in-Err.ensures.shape.cause.err shape.lit c.in-Err.ensures.shape.once

pub returns-in-Ok-clause-free : goal.returns-in-Ok-clause-free
returns-in-Ok-clause-free g c tells =
    let i = c.self.inside in
    free_rescanned i.geometry (g.F.Flash.state i.flash) (g.F.Flash.state c.rescan.new.flash) c.rescan.new.found i.in_doubt false
    (pending_of (layout_of i.geometry) i.buffer.items i.work) c.args.self.now c.self.view_is (c.in-Ok.ensures.recovered tells)

pub returns-then-not-self-clause-reads : goal.returns-then-not-self-clause-reads
returns-then-not-self-clause-reads g c = ready_reads {T = Unit {0}} c.args.self.now tt (sym (ap (λ (u : StoreView). u.in_doubt) c.self.view_is) ∙ c.if-not-self.true)

pub returns-in-Ok-clause-reads : goal.returns-in-Ok-clause-reads
returns-in-Ok-clause-reads g c =
    let i = c.self.inside in
    looked_reads {T = Unit {0}} i.geometry (g.F.Flash.state i.flash) (g.F.Flash.state c.rescan.new.flash) i.in_doubt false
    (pending_of (layout_of i.geometry) i.buffer.items i.work) c.args.self.now tt c.self.view_is
    c.if-not-self.false c.in-Ok.ensures.shape.counted
