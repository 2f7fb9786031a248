use Rattle.std.proofs.Common.{rules}
use Rattle.flash_model.specs.Layouts.{layout_of}
use Rattle.record_store.specs.declared.draft.Stage.TheVariants.{Fill}
use Rattle.record_model.specs.Records.{NearlyOnlyFirstUp}
use Rattle.record_store.specs.Kept.{pending_of}
use Rattle.record_store.specs.declared.work.Begun.TheVariants.{Write}
use Rattle.record_store.proofs.FaultLemmas.{asks_lit, one_change}
use Rattle.record_store.proofs.WorkLemmas.{filled_may, filled_spare, filled_made}
use Rattle.record_store.proofs.stepping.fill_slot.Given as given
use Rattle.record_store.proofs.stepping.fill_slot.Goals as goal
use Rattle.record_store.proofs.stepping.fill_slot.Goals.{After-prepare}
use Rattle.record_store.proofs.Words.{MayMake}

-- what power lost in the change leaves
torn : (g : given.Over) (c : goal.After-prepare g) → g.F.Flash.tells
    → MayMake c.args.geometry.now (pending_of (layout_of c.args.geometry.now) c.args.buffer.now (Write c.args.draft.now (Fill c.args.number c.args.step) c.args.replaced))
    (g.F.Flash.state c.args.flash.now).told (g.F.Flash.state c.prepare.new.flash).told
    × NearlyOnlyFirstUp c.args.geometry.now.slot_size c.args.geometry.now.slots (g.F.Flash.state c.prepare.new.flash).told.image
torn g c tells =
    let old = (g.F.Flash.state c.args.flash.now).told in
    let new = (g.F.Flash.state c.prepare.new.flash).told in (
      filled_may c.args.geometry.now c.args.buffer.now c.args.draft.now c.args.number c.args.step c.args.replaced c.args.found.now old new c.requires.form (c.prepare.ensures.kept tells),
      filled_spare c.args.geometry.now c.args.buffer.now c.args.draft.now c.args.number c.args.step c.args.replaced old new (c.prepare.ensures.kept tells),
    )

pub returns-in_err-next : goal.returns-in_err-next
returns-in_err-next g c =
    let after = (goal.at.returns-in_err-next g c).After-prepare in
    record { makes = record { made = search rules; crash = λ tells. (torn g after tells).0; spare = λ tells. (torn g after tells).1; change = search rules; lit = search rules } }

pub returns : goal.returns
returns g c =
    let old = g.F.Flash.state c.args.flash.now in
    let new = g.F.Flash.state c.prepare.new.flash in
    let after = (goal.at.returns g c).After-prepare in
    record {
      makes = record {
        made =
            filled_made c.args.geometry.now c.args.buffer.now c.args.draft.now c.args.number c.args.step c.args.replaced g.F.Flash.tells c.args.found.now c.in_ok-next.next
            old.told new.told c.requires.form c.requires.knows c.prepare.ensures.kept c.in_ok-next.ensures.form c.in_ok-next.ensures.next c.in_ok-next.ensures.stands;
        crash = λ tells. (torn g after tells).0;
        spare = λ tells. (torn g after tells).1;
        change = one_change old new _ _ c.in_ok-next.ensures.change.one;
        lit = asks_lit g.F.Flash.tells _ _ old new _ c.in_ok-next.ensures.change;
      };
    }
