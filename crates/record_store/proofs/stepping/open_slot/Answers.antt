use Rattle.std.proofs.Common.{◌*◌, ◌∙◌, ◌∷◌, take, get_or, ap, sym, subst, rules}
use Rattle.record_model.specs.Records.{entry_at}
use Rattle.record_model.proofs.PlanLemmas.{record_for}
use Rattle.record_store.specs.Drafts.{plan_of}
use Rattle.record_slots.specs.declared.found.SlotOf.{SlotOf}
use Rattle.record_slots.specs.Listed.{IsWithin}
use Rattle.record_store.specs.Index.{HasOpened, IsEntryOf}
use Rattle.record_store.specs.Kept.{HasMade, kept_of}
use Rattle.record_store.specs.declared.work.Begun.{Begun}
use Rattle.record_store.specs.declared.work.Begun.TheVariants.{Write}
use Rattle.record_store.specs.declared.draft.Stage.TheVariants.{Gate}
use Rattle.record_store.proofs.FaultLemmas.{asks_lit, one_change}
use Rattle.record_store.proofs.WorkLemmas.{gate_may, gate_made, gate_nearly_only, has_opened, opened_entry_of, opened_within, MayChange-same}
use Rattle.record_store.proofs.Words.{further_in}
use Rattle.record_store.proofs.stepping.open_slot.Goals as goal

pub returns-in_err-publish-clause-makes : goal.returns-in_err-publish-clause-makes
returns-in_err-publish-clause-makes g c =
    let old = g.F.Flash.state c.args.flash.now in
    let new = g.F.Flash.state c.publish.new.flash in
    record {
      made = search rules;
      crash = λ tells.
          gate_may c.args.geometry.now c.args.found.now c.args.buffer.now c.args.draft.now c.args.replaced old.told new.told
          c.requires.form.planned (c.requires.knows tells) (c.publish.ensures.crash tells);
      spare = λ tells.
          gate_nearly_only c.args.geometry.now c.args.found.now c.args.draft.now (take c.args.draft.now.len c.args.buffer.now) c.args.replaced old.told new.told
          c.requires.form.planned (c.requires.knows tells) (c.publish.ensures.change.told tells);
      change = search rules;
      lit = search rules;
    }

pub returns-clause-makes : goal.returns-clause-makes
returns-clause-makes g c =
    let geometry = c.args.geometry.now in
    let draft = c.args.draft.now in
    let buffer = c.args.buffer.now in
    let body = take draft.len buffer in
    let old = (g.F.Flash.state c.args.flash.now).told in
    let new = (g.F.Flash.state c.publish.new.flash).told in
    let is = c.opened_place-place.ensures.place in
    record {
      made =
          subst (λ (next : Begun). HasMade g.F.Flash.tells (kept_of geometry c.record_opened.new.found buffer) old.image new.image (Write draft Gate c.args.replaced) next) (sym c.after_gate.ensures)
          (gate_made g.F.Flash.tells geometry c.args.found.now c.record_opened.new.found buffer draft c.args.replaced old new c.requires.form c.requires.knows c.in_ok-publish.ensures.opened
          (λ tells. MayChange-same (get_or draft.slots 0 0 * geometry.slot_size) 1 old new (c.publish.ensures.change.told tells))
          (λ tells.
          c.record_opened.ensures.list (entry_at geometry.slot_size geometry.slots old.image) (entry_at geometry.slot_size geometry.slots new.image) (record_for (plan_of draft body))
          (subst (λ (p : SlotOf). HasOpened (entry_at geometry.slot_size geometry.slots old.image) (entry_at geometry.slot_size geometry.slots new.image)
          geometry.slots p.slot (record_for (plan_of draft body))) (sym is)
          (has_opened geometry c.args.found.now draft body old.image new.image Gate c.args.replaced (c.requires.knows tells) (c.in_ok-publish.ensures.opened tells)))
          (subst (λ (p : SlotOf). IsEntryOf draft.id p (record_for (plan_of draft body))) (sym is) (opened_entry_of geometry draft body c.requires.form.planned
          c.opened_place-place.ensures.four)) (ap (λ (p : SlotOf). p.slot ∷ further_in draft) is ∙ c.requires.form.takes.1)
          (c.requires.knows tells).slots.list));
      crash = λ tells.
          gate_may geometry c.args.found.now buffer draft c.args.replaced old new
          c.requires.form.planned (c.requires.knows tells) (c.publish.ensures.crash tells);
      spare = λ tells.
          gate_nearly_only geometry c.args.found.now draft body c.args.replaced old new
          c.requires.form.planned (c.requires.knows tells) (c.publish.ensures.change.told tells);
      change = one_change (g.F.Flash.state c.args.flash.now) (g.F.Flash.state c.publish.new.flash) _ _ c.in_ok-publish.ensures.change.one;
      lit = asks_lit g.F.Flash.tells _ _ (g.F.Flash.state c.args.flash.now) (g.F.Flash.state c.publish.new.flash) _ c.in_ok-publish.ensures.change;
    }

pub record_opened-requires-clause-within : goal.record_opened-requires-clause-within
record_opened-requires-clause-within g c =
    let geometry = c.args.geometry.now in
    subst (λ (p : SlotOf). IsWithin geometry.slots geometry.slot_size p) (sym c.opened_place-place.ensures.place)
    (opened_within geometry c.args.draft.now (take c.args.draft.now.len c.args.buffer.now) c.requires.form.planned)
