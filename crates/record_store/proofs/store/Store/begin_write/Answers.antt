use Rattle.std.proofs.Common.{◌≡◌, ◌≤◌, ◌-◌, ◌*◌, ℕ, List, Option, length, drop, refl, sym, ap, subst, ◌∙◌, Ok, arith}
use Rattle.std.specs.Prelude.{is_some}
use Rattle.flash_model.specs.Layouts.{layout_of}
use Rattle.base_model.specs.Layout.{room_of, reach_of}
use Rattle.record_model.specs.Records.{parts_of}
use Rattle.record_store.specs.Store.{StoreView, Idle, free_in}
use Rattle.record_store.specs.Kept.{IsStore, pending_of, view_of, slots_in}
use Rattle.record_store.specs.declared.draft.Draft.{Draft}
use Rattle.record_slots.specs.declared.found.SlotOf.{SlotOf}
use Rattle.record_store.specs.declared.work.Begun.TheVariants.{Write}
use Rattle.record_store.specs.Answers.{StartsWrite}
use Rattle.record_store.proofs.BeginLemmas.{Begins, RefusedStart, written_back, new_length, front_is, begun_store, begun_pending, begun_answer, begun_starts, refused_start, refused_store}
use Rattle.record_store.proofs.StoreLemmas.{same_free_in}
use Rattle.record_store.proofs.PartLemmas.{reach_small}
use Rattle.record_store.proofs.store.Store.begin_write.Given as given
use Rattle.record_store.proofs.store.Store.begin_write.Goals as goal
use Rattle.record_store.proofs.store.Store.begin_write.Goals.{After-first_stage-stage, After-is_flash-self-inside}

-- the record at the start of the buffer, which is as long as before
fits : (g : given.Over) (c : goal.After-first_stage-stage g) → length c.args.bytes.now ≤ reach_of (c.self.inside.geometry.slot_size - 64)
fits g c = subst (λ (u : StoreView). length c.args.bytes.now ≤ reach_of (room_of u.layout)) (sym c.self.view_is) c.requires.reach

kept_long : (g : given.Over) (c : goal.After-first_stage-stage g) → length c.put_front.new.buffer ≡ length c.self.inside.buffer.items
kept_long g c =
    new_length c.args.bytes.now c.put_front.new.buffer c.deref_mut.result.now c.self.inside.buffer.items c.put_front.ensures c.deref_mut.ensures.value (omega (arith, c.self.invariant.room, fits g c))

begun : (g : given.Over) (c : goal.After-first_stage-stage g)
    → Begins g.F.Flash.tells c.self.inside.geometry (g.F.Flash.state c.self.inside.flash) c.self.inside.found c.args.id c.args.bytes.now c.put_front.new.buffer
    c.in-Ok.draft c.first_stage-stage.result c.in-Ok.replaced
begun g c =
    let is = c.in-Ok.ensures.planned in
    record {
      is = is;
      of_id = c.in-Ok.ensures.asked.0;
      of_len = c.in-Ok.ensures.asked.1;
      least = c.requires.least;
      most = fits g c;
      front = front_is c.args.bytes.now (drop (length c.args.bytes.now) c.deref_mut.result.now) c.put_front.new.buffer c.in-Ok.draft.len c.put_front.ensures c.in-Ok.ensures.asked.1;
      at = c.first_stage-stage.ensures.is c.self.inside.geometry;
      form = c.first_stage-stage.ensures.form c.self.inside.geometry;
    }

pub overflow_cast-bytes : goal.overflow_cast-bytes
overflow_cast-bytes g c =
    let small = reach_small (room_of c.args.self.now.layout) in
    omega arith

pub invariant_of-self : goal.invariant_of-self
invariant_of-self g c =
    let i = c.self.inside in
    let here = (goal.at.invariant_of-self g c).After-first_stage-stage in
    let written = c.put_front.new.buffer in
    let long = kept_long g here in
    let begins = begun g here in
    subst (λ (xs : List ℕ). IsStore g.F.Flash.tells i.geometry (g.F.Flash.state c.plan_write-planned.new.flash) i.found xs i.in_doubt (Write c.in-Ok.draft c.first_stage-stage.result c.in-Ok.replaced))
    (sym (written_back i.buffer.len written i.buffer.items long i.buffer.ok.0))
    (begun_store g.F.Flash.tells i.geometry (g.F.Flash.state i.flash) i.found c.args.id c.args.bytes.now written c.in-Ok.draft c.first_stage-stage.result
    c.in-Ok.replaced (g.F.Flash.state c.plan_write-planned.new.flash)
    i.buffer.items i.in_doubt i.work c.args.self.now begins c.self.invariant c.self.view_is c.requires.ready long
    c.in-Ok.ensures.reads.told c.in-Ok.ensures.reads.size c.in-Ok.ensures.reads.sector_size)

pub returns-in-Ok-clause-answer : goal.returns-in-Ok-clause-answer
returns-in-Ok-clause-answer g c tells =
    let i = c.self.inside in
    let here = (goal.at.returns-in-Ok-clause-answer g c).After-first_stage-stage in
    let written = c.put_front.new.buffer in
    let long = kept_long g here in
    let begins = begun g here in
    subst (λ (xs : List ℕ). StartsWrite c.args.self.now (view_of i.geometry (g.F.Flash.state c.plan_write-planned.new.flash) i.in_doubt
    (pending_of (layout_of i.geometry) xs (Write c.in-Ok.draft c.first_stage-stage.result c.in-Ok.replaced))) c.args.id c.args.bytes.now (Ok tt))
    (sym (written_back i.buffer.len written i.buffer.items long i.buffer.ok.0))
    (begun_answer g.F.Flash.tells i.geometry (g.F.Flash.state i.flash) i.found c.args.id c.args.bytes.now written c.in-Ok.draft c.first_stage-stage.result
    c.in-Ok.replaced (g.F.Flash.state c.plan_write-planned.new.flash)
    i.buffer.items i.in_doubt i.work c.args.self.now tt begins c.self.invariant c.self.view_is c.requires.ready c.in-Ok.ensures.reads.told
    (λ t. g.met.F.Flash.sized i.flash t ∙ c.self.invariant.fits.size) tells)

pub returns-in-Ok-clause-pending : goal.returns-in-Ok-clause-pending
returns-in-Ok-clause-pending g c =
    let i = c.self.inside in
    let here = (goal.at.returns-in-Ok-clause-pending g c).After-first_stage-stage in
    let written = c.put_front.new.buffer in
    let long = kept_long g here in
    let begins = begun g here in (
      slots_in c.in-Ok.draft,
      (
        is_some c.in-Ok.replaced,
        ap (λ (xs : List ℕ). pending_of (layout_of i.geometry) xs (Write c.in-Ok.draft c.first_stage-stage.result c.in-Ok.replaced))
            (written_back i.buffer.len written i.buffer.items long i.buffer.ok.0)
            ∙ begun_pending g.F.Flash.tells i.geometry (g.F.Flash.state i.flash) i.found c.args.id c.args.bytes.now written c.in-Ok.draft
            c.first_stage-stage.result c.in-Ok.replaced begins c.self.invariant.listing,
      ),
    )

pub returns-in-Ok-clause-leaves : goal.returns-in-Ok-clause-leaves
returns-in-Ok-clause-leaves g c =
    let i = c.self.inside in
    begun_starts g.F.Flash.tells i.geometry (g.F.Flash.state i.flash) (g.F.Flash.state c.plan_write-planned.new.flash) i.in_doubt
    (pending_of (layout_of i.geometry) i.buffer.items i.work) _ c.args.self.now
    _ _ tt c.self.view_is c.requires.ready c.in-Ok.ensures.reads

-- a start that is refused, or failed
refused : (g : given.Over) (c : goal.After-is_flash-self-inside g)
    → RefusedStart g.F.Flash.tells (λ x. 2 * parts_of (room_of c.args.self.now.layout) (length c.args.bytes.now)) c.args.self.now
    (view_of c.self.inside.geometry (g.F.Flash.state c.plan_write-planned.new.flash) c.is_flash-self-inside.result
    (pending_of (layout_of c.self.inside.geometry) c.self.inside.buffer.items c.self.inside.work)) c.args.id c.args.bytes.now c.in-Err.error
refused g c =
    let i = c.self.inside in
    (subst (λ b. RefusedStart g.F.Flash.tells (λ x. 2 * parts_of (room_of c.args.self.now.layout) (length c.args.bytes.now)) c.args.self.now
    (view_of i.geometry (g.F.Flash.state c.plan_write-planned.new.flash) b (pending_of (layout_of i.geometry) i.buffer.items i.work)) c.args.id
    c.args.bytes.now c.in-Err.error)
    (sym c.is_flash-self-inside.ensures)
    (refused_start g.F.Flash.tells (λ x. 2 * parts_of (room_of c.args.self.now.layout) (length c.args.bytes.now)) _ i.geometry (g.F.Flash.state i.flash)
    (g.F.Flash.state c.plan_write-planned.new.flash) i.found i.buffer.items i.in_doubt i.work c.args.self.now c.args.id c.args.bytes.now
    c.in-Err.error (Draft × Option SlotOf) c.self.invariant c.self.view_is c.requires.ready (λ t. g.met.F.Flash.sized i.flash t ∙ c.self.invariant.fits.size)
    c.in-Err.ensures.refused c.in-Err.ensures.reads))

pub returns-in-Err-clause-answer : goal.returns-in-Err-clause-answer
returns-in-Err-clause-answer g c tells =
    (refused g (goal.at.returns-in-Err-clause-answer g c).After-is_flash-self-inside).answer tells

pub returns-in-Err-clause-still : goal.returns-in-Err-clause-still
returns-in-Err-clause-still g c =
    (refused g (goal.at.returns-in-Err-clause-still g c).After-is_flash-self-inside).still

pub returns-in-Err-clause-leaves : goal.returns-in-Err-clause-leaves
returns-in-Err-clause-leaves g c =
    (refused g (goal.at.returns-in-Err-clause-leaves g c).After-is_flash-self-inside).leaves

pub invariant_of-self-in-Err : goal.invariant_of-self-in-Err
invariant_of-self-in-Err g c =
    let i = c.self.inside in
    refused_store g.F.Flash.tells _ i.geometry (g.F.Flash.state i.flash) (g.F.Flash.state c.plan_write-planned.new.flash) i.found i.buffer.items i.in_doubt
    c.is_flash-self-inside.result i.work c.args.self.now
    c.in-Err.error (Draft × Option SlotOf) c.self.invariant c.self.view_is c.requires.ready c.in-Err.ensures.reads

pub returns-in-Ok-clause-free : goal.returns-in-Ok-clause-free
returns-in-Ok-clause-free g c tells =
    let i = c.self.inside in
    subst (λ (u : StoreView). free_in (view_of i.geometry (g.F.Flash.state c.plan_write-planned.new.flash) i.in_doubt Idle) ≡ free_in u) c.self.view_is
    (same_free_in (view_of i.geometry (g.F.Flash.state i.flash) i.in_doubt Idle) (view_of i.geometry (g.F.Flash.state c.plan_write-planned.new.flash) i.in_doubt
    Idle) refl (c.in-Ok.ensures.reads.told tells))
