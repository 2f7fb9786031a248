use Rattle.std.proofs.Common.{ℕ, refl, ap, ◌∙◌, arith}
use Rattle.erst_entries.specs.Layout.{Erst}
use Rattle.erst_shadow.specs.ShadowTables.{pieces_of, shadow_erst}
use Rattle.erst_commands.proofs.LimitLemmas.{reach-least}
use Rattle.apei_script.specs.Plays.{Named}
use Rattle.apei_script.proofs.LawLemmas.{attaching_finds_shadow_client}
use Rattle.apei_script.proofs.ShadowGiving.{is_given, never_fails}
use Rattle.apei_script.proofs.SessionLines.{by_shadow_table}
use Rattle.apei_script.proofs.session.Session.use_shadow_table.Goals as goal

pub shadow_table-requires : goal.shadow_table-requires
shadow_table-requires g c = omega (arith, reach-least c.args.self.now.machine.device.store.layout, c.reach.ensures.value)

pub returns-clause-made : goal.returns-clause-made
returns-clause-made g c =
    let table_is = c.in-Ok.ensures.table in
    by_shadow_table g.F.Flash.tells c.args.self.now.machine c.args.self.now.own c.args.self.now.steps c.args.self.now.bridge c.args.self.now.other c.len-entries.result c.in-Ok-attach.client _ _
    (c.len-entries.ensures ∙ c.in-Ok.ensures.erst.counted ∙ ap (λ (erst : Erst). erst.count) table_is)
    (is_given g.F.Flash.tells (attaching_finds_shadow_client g.F.Flash.tells) _ _ _ _ _ _ c.stands.ensures.machine
    (table_is ∙ ap (λ (n : ℕ). shadow_erst (pieces_of n)) c.reach.ensures.value) c.new.ensures
    c.in-Ok-attach.ensures.attaches c.in-Ok-attach.ensures.reaches)
    c.put_number.ensures

pub returns-in_default-clause-stopped : goal.returns-in_default-clause-stopped
returns-in_default-clause-stopped g c = (refl, Named)

pub unreachable-requires : goal.unreachable-requires
unreachable-requires g c =
    never_fails g.F.Flash.tells (attaching_finds_shadow_client g.F.Flash.tells) _ _ _ _ _ _ c.stands.ensures.machine
    (c.in-Ok.ensures.table ∙ ap (λ (n : ℕ). shadow_erst (pieces_of n)) c.reach.ensures.value) c.new.ensures c.in-Err.ensures.attaches
