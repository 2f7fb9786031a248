use Rattle.std.proofs.Common.{◌≡◌, ℕ, [], codes, Option, Some, subst}
use Rattle.std.proofs.lemmas.Result.{on_ok_weaker}
use Rattle.linux_checks.specs.declared.reasons.Refusal.{Refusal}
use Rattle.linux_checks.specs.Hest.{source_refusal}
use Rattle.show_items.specs.Groups.{numbered}
use Rattle.show_items.specs.Refusals.{refusal_groups}
use Rattle.show_items.specs.Sheets.{AddsGroups}
use Rattle.show_items.proofs.refusals.add_source_refusal.Goals as goal

pub returns : goal.returns
returns c =
    let Adds : ℕ → Option Refusal → Type 0 = λ (index : ℕ) (refused : Option Refusal).
    AddsGroups (refusal_groups (numbered (codes "refused source") index c.args.at) refused) (Some []) (Some []) c.args.sheet.now c.add_refusal.new.sheet in
    on_ok_weaker c.add_refusal.result
    (λ adds. subst (λ (index : ℕ). Adds index (source_refusal c.args.source.now.kind c.args.source.now.bytes.now)) c.from.ensures
    (subst (λ (refused : Option Refusal). Adds c.from.result refused) c.source_refusal.ensures adds))
    c.add_refusal.ensures
