use Rattle.std.proofs.Common.{◌∙◌, take, sym, rules}
use Rattle.std.proofs.lemmas.Result.{on_ok_weaker}
use Rattle.script_text.specs.TableWords.{HestHasWords}
use Rattle.hub_script.proofs.StageLemmas.{refused_open, at_none, still_none, none_is, no_table, opens, table_refused, as_lent}
use Rattle.hub_script.proofs.player.HubPlayer.open.Goals as goal

pub returns-then-is_some-clause-made : goal.returns-then-is_some-clause-made
returns-then-is_some-clause-made g c = refused_open _ c.args.self.now.listeners.items c.args.self.now.hub _ _ (sym c.is_some.ensures ∙ c.if-is_some.true) c.refuse.ensures

pub returns-in-Err-clause-made : goal.returns-in-Err-clause-made
returns-in-Err-clause-made g c =
    let has : HestHasWords c.in-Err.why = search rules in
    let decoded = as_lent _ _ c.deref.result.now _ c.decode_line-len.ensures.bytes c.deref.ensures.value in
    still_none _ c.args.self.now.listeners.items c.args.self.now.hub _ _ (none_is c.args.self.now.hub (sym c.is_some.ensures ∙ c.if-is_some.false))
    (no_table _ _ _ (take c.decode_line-len.result c.deref.result.now) _ decoded c.in-Err.why (table_refused (take c.decode_line-len.result c.deref.result.now)
    c.in-Err.why has c.in-Err.ensures.refused) c.refuse-in-Err.ensures)

pub returns-in-Ok-clause-made : goal.returns-in-Ok-clause-made
returns-in-Ok-clause-made g c =
    let decoded = as_lent _ _ c.deref.result.now _ c.decode_line-len.ensures.bytes c.deref.ensures.value in
    on_ok_weaker c.serve.result
    (λ h. at_none _ c.args.self.now.listeners.items c.args.self.now.hub _ _ _ (none_is c.args.self.now.hub (sym c.is_some.ensures ∙ c.if-is_some.false))
    (opens _ _ _ _ _ decoded _ _ _ c.in-Ok.ensures.found.0 c.in-Ok.ensures.found.1 h)) c.serve.ensures.made
