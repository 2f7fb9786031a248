use Rattle.std.proofs.Common.{◌≡◌, ℕ, ◌+◌, ◌*◌, [], codes, Option, Some, subst}
use Rattle.std.proofs.lemmas.Result.{on_ok_weaker}
use Rattle.linux_checks.specs.declared.reasons.Refusal.{Refusal}
use Rattle.linux_checks.specs.Erst.{instruction_refusal}
use Rattle.show_items.specs.Groups.{numbered}
use Rattle.show_items.specs.Refusals.{refusal_groups}
use Rattle.show_items.specs.Sheets.{AddsGroups}
use Rattle.show_items.proofs.refusals.add_entry_refusal.Goals as goal

pub returns : goal.returns
returns c =
    let Adds : ℕ → ℕ → Option Refusal → Type 0 = λ (index place : ℕ) (refused : Option Refusal).
    AddsGroups (refusal_groups (numbered (codes "refused entry") index (48 + 32 * place)) refused) (Some []) (Some []) c.args.sheet.now c.add_refusal.new.sheet in
    on_ok_weaker c.add_refusal.result
    (λ adds. subst (λ (index : ℕ). Adds index c.args.index (instruction_refusal c.args.entry.now)) c.from.ensures
    (subst (λ (place : ℕ). Adds c.from.result place (instruction_refusal c.args.entry.now)) c.from-2.ensures
    (subst (λ (refused : Option Refusal). Adds c.from.result c.from-2.result refused) c.instruction_refusal.ensures adds)))
    c.add_refusal.ensures
