use Rattle.std.proofs.Common.{◌∙◌, ℕ, List, ◌++◌, decimal, ap, rules}
use Rattle.hub_script.specs.RefusalWords.{HubHasWords}
use Rattle.hub_script.specs.Replies.{reply_line}
use Rattle.hub_script.proofs.Terms.{words_of_opened}
use Rattle.hub_script.proofs.StageLemmas.{opened_for, not_opened_for, hub_refused}
use Rattle.hub_script.proofs.player.HubPlayer.serve.Goals as goal

pub returns-in-Ok-clause-made : goal.returns-in-Ok-clause-made
returns-in-Ok-clause-made g c =
    let text = c.end_line.ensures ∙ ap reply_line (c.add_number.ensures.text ∙ ap (λ (xs : List ℕ). xs ++ decimal c.from.result) c.begin.ensures ∙ ap words_of_opened c.from.ensures) in
    opened_for _ _ _ c.replace-listeners.ensures.value _ _ c.in-Ok.hub _ _ c.put.ensures c.in-Ok.ensures.exact c.in-Ok.ensures.opened c.sources.ensures text

pub returns-in_default-clause-made : goal.returns-in_default-clause-made
returns-in_default-clause-made g c =
    let has : HubHasWords c.in-Err.field-0.why = search rules in
    not_opened_for _ _ _ c.replace-listeners.ensures.value _ c.args.self.now.hub c.in-Err.field-0.listeners.items c.in-Err.field-0.why c.requires
    c.in-Err.ensures.back (hub_refused c.args.table.now c.in-Err.field-0.why has c.in-Err.ensures.exact) c.refuse.ensures
