use Rattle.std.proofs.Common.{ℕ, List, ◌∙◌, rules}
use Rattle.flash_model.specs.Layouts.{layout_of}
use Rattle.record_model.specs.Records.{NearlyOnlyFirstUp}
use Rattle.record_store.specs.Kept.{pending_of}
use Rattle.record_store.specs.declared.work.Begun.TheVariants.{OldCopy}
use Rattle.record_store.proofs.FaultLemmas.{asks_lit, one_change}
use Rattle.record_store.proofs.WorkLemmas.{can_be_killed, old_copy_may, old_copy_spare, old_copy_made}
use Rattle.record_store.proofs.stepping.end_old_copy.Given as given
use Rattle.record_store.proofs.stepping.end_old_copy.Goals as goal
use Rattle.record_store.proofs.stepping.end_old_copy.Goals.{After-kill}
use Rattle.record_store.proofs.Words.{MayMake}

pub kill-requires-clause-erased : goal.kill-requires-clause-erased
kill-requires-clause-erased g c tells =
    can_be_killed c.args.geometry.now c.args.place.slot _ (c.requires.knows tells).lost (g.met.F.Flash.sized c.args.flash.now tells ∙ c.requires.fits.size) (c.requires.knows tells).here

-- what power lost in the kill leaves
torn : (g : given.Over) (c : goal.After-kill g) (buffer : List ℕ) → g.F.Flash.tells
    → MayMake c.args.geometry.now (pending_of (layout_of c.args.geometry.now) buffer (OldCopy c.args.draft.now c.args.place))
    (g.F.Flash.state c.args.flash.now).told (g.F.Flash.state c.kill.new.flash).told
    × NearlyOnlyFirstUp c.args.geometry.now.slot_size c.args.geometry.now.slots (g.F.Flash.state c.kill.new.flash).told.image
torn g c buffer tells = (
  old_copy_may c.args.geometry.now c.args.found.now buffer c.args.draft.now c.args.place (g.F.Flash.state c.args.flash.now).told
      (g.F.Flash.state c.kill.new.flash).told (c.requires.knows tells) (c.kill.ensures.change.told tells),
  old_copy_spare c.args.geometry.now c.args.found.now c.args.draft.now c.args.place (g.F.Flash.state c.args.flash.now).told
      (g.F.Flash.state c.kill.new.flash).told (c.requires.knows tells) (c.kill.ensures.change.told tells),
)

pub returns-in_err-kill-clause-makes : goal.returns-in_err-kill-clause-makes
returns-in_err-kill-clause-makes g c buffer =
    record {
      made = search rules;
      crash = λ tells. (torn g (goal.at.returns-in_err-kill-clause-makes g c).After-kill buffer tells).0;
      spare =
          λ tells. (torn g (goal.at.returns-in_err-kill-clause-makes g c).After-kill buffer tells).1;
      change = search rules;
      lit = search rules;
    }

pub returns-clause-makes : goal.returns-clause-makes
returns-clause-makes g c buffer = record {
  made = old_copy_made g.F.Flash.tells c.args.geometry.now c.args.found.now c.copy_killed.new.found buffer c.args.draft.now c.args.place
      (g.F.Flash.state c.args.flash.now).told (g.F.Flash.state c.kill.new.flash).told
      (λ tells. g.met.F.Flash.sized c.args.flash.now tells ∙ c.requires.fits.size) c.requires.knows c.kill.ensures.change.told c.in_ok-kill.ensures.stands c.copy_killed.ensures.list;
  crash = λ tells. (torn g (goal.at.returns-clause-makes g c).After-kill buffer tells).0;
  spare = λ tells. (torn g (goal.at.returns-clause-makes g c).After-kill buffer tells).1;
  change = one_change (g.F.Flash.state c.args.flash.now) (g.F.Flash.state c.kill.new.flash) _ _ c.in_ok-kill.ensures.change.one;
  lit = asks_lit g.F.Flash.tells _ _ (g.F.Flash.state c.args.flash.now) (g.F.Flash.state c.kill.new.flash) _ c.in_ok-kill.ensures.change;
}
