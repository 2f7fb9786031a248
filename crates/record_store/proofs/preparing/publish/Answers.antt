use Rattle.std.proofs.Common.{◌≡◌, ℕ, ◌*◌, Result, Ok, Err, OnOk, sym, subst, ◌∙◌}
use Rattle.base_model.specs.Bytes.{SameOutside, number_at}
use Rattle.base_model.specs.Flash.{IsErased, MayChange}
use Rattle.record_model.proofs.LeavesLemmas.{gate_leaves}
use Rattle.record_model.proofs.PlanLemmas.{gate_opens}
use Rattle.flash_model.specs.Layouts.{layout_of}
use Rattle.record_store.specs.Drafts.{plan_of}
use Rattle.record_store.proofs.Here.{gate_erased}
use Rattle.record_model.specs.Records.{gate_open}
use Rattle.record_store.proofs.preparing.publish.Goals as goal

pub open_gate-requires-clause-erased : goal.open_gate-requires-clause-erased
open_gate-requires-clause-erased g c tells =
    let image = (g.F.Flash.state c.args.flash.now).told.image in
    subst (λ (k : ℕ). IsErased image (k * c.args.geometry.now.slot_size) 1) (sym c.from-slot.ensures)
    (gate_erased c.args.geometry.now c.args.draft.now c.args.body.now image c.requires.draft (c.requires.stands tells).1
    (g.met.F.Flash.sized c.args.flash.now tells ∙ c.requires.fits.size))

pub returns-clause-crash : goal.returns-clause-crash
returns-clause-crash g c tells =
    gate_leaves (layout_of c.args.geometry.now) (plan_of c.args.draft.now c.args.body.now) (g.F.Flash.state c.args.flash.now).told (g.F.Flash.state c.open_gate.new.flash).told
    c.requires.draft.plan (c.requires.knows tells) (c.requires.stands tells)
    (subst (λ (k : ℕ). MayChange (k * c.args.geometry.now.slot_size) 1 (g.F.Flash.state c.args.flash.now).told (g.F.Flash.state c.open_gate.new.flash).told)
    c.from-slot.ensures (c.open_gate.ensures.change.told tells))

pub returns-clause-opened : goal.returns-clause-opened
returns-clause-opened g c =
    on_ok_both c.open_gate.result (λ gate done tells.
    gate_opens (layout_of c.args.geometry.now) (plan_of c.args.draft.now c.args.body.now) (g.F.Flash.state c.args.flash.now).told.image (g.F.Flash.state c.open_gate.new.flash).told.image
    c.requires.draft.plan (c.requires.knows tells) (c.requires.stands tells)
    (subst (λ (k : ℕ). SameOutside (k * c.args.geometry.now.slot_size) 1 (g.F.Flash.state c.args.flash.now).told.image
    (g.F.Flash.state c.open_gate.new.flash).told.image) c.from-slot.ensures (done tells).image)
    (subst (λ (k : ℕ). number_at (g.F.Flash.state c.open_gate.new.flash).told.image (k * c.args.geometry.now.slot_size) 1 ≡ gate_open) c.from-slot.ensures (gate tells)))
    c.open_gate.ensures.stands c.open_gate.ensures.change.done
  where
    on_ok_both : {T E P Q R : Type 0} (result : Result T E) → (P → Q → R) → OnOk result P → OnOk result Q → OnOk result R
    on_ok_both (Ok t) f p q = f p q
    on_ok_both (Err e) f p q = tt
