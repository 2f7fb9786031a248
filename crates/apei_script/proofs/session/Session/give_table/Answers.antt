use Rattle.std.proofs.Common.{take, refl, rules}
use Rattle.script_text.specs.TableWords.{ErstHasWords}
use Rattle.apei_script.specs.Tables.{IsNoTable}
use Rattle.apei_script.proofs.Giving.{refused_for, wants_memory, begins_with, not_attached, attached}
use Rattle.apei_script.proofs.SessionLines.{as_lent, by_table}
use Rattle.apei_script.proofs.session.Session.give_table.Goals as goal

pub returns-in-Err-Memory-clause-stopped : goal.returns-in-Err-Memory-clause-stopped
returns-in-Err-Memory-clause-stopped g c =
    let decoded = as_lent c.args.hex.now _ c.deref.result.now c.decode_line-len.result c.decode_line-len.ensures.bytes c.deref.ensures.value in
    (refl, wants_memory _ _ _ decoded c.in-Err-Memory.field-0-is c.in-Err-Memory.ensures.refused)

pub returns-in-Err-clause-made : goal.returns-in-Err-clause-made
returns-in-Err-clause-made g c =
    let decoded = as_lent c.args.hex.now _ c.deref.result.now c.decode_line-len.result c.decode_line-len.ensures.bytes c.deref.ensures.value in
    let has : ErstHasWords c.in-Err.error = search rules in
    by_table g.F.Flash.tells c.args.self.now.machine c.args.self.now.own c.args.self.now.steps c.args.self.now.bridge c.args.self.now.other c.args.hex.now _ _ _ _ _ decoded
    (IsNoTable c.in-Err.error (refused_for (take c.decode_line-len.result c.deref.result.now) c.in-Err.error has c.in-Err.ensures.refused)) c.refuse_behind.ensures

pub returns-in-Ok-attach-clause-made : goal.returns-in-Ok-attach-clause-made
returns-in-Ok-attach-clause-made g c =
    let decoded = as_lent c.args.hex.now _ c.deref.result.now c.decode_line-len.result c.decode_line-len.ensures.bytes c.deref.ensures.value in
    by_table g.F.Flash.tells c.args.self.now.machine c.args.self.now.own c.args.self.now.steps c.args.self.now.bridge c.args.self.now.other c.args.hex.now _ _ _ _ _ decoded
    (attached g.F.Flash.tells c.args.self.now.machine c.args.self.now.other _ _ c.in-Ok-attach.client _ _ _ _
    (begins_with _ _ _ c.in-Ok.ensures.found.0 c.in-Ok.ensures.found.1 c.in-Ok.ensures.refused c.in-Ok.ensures.only) c.new.ensures
    c.in-Ok-attach.ensures.attaches c.in-Ok-attach.ensures.reaches c.len-entries.ensures)
    c.put_number.ensures

pub returns-in-Err-attach-clause-made : goal.returns-in-Err-attach-clause-made
returns-in-Err-attach-clause-made g c =
    let decoded = as_lent c.args.hex.now _ c.deref.result.now c.decode_line-len.result c.decode_line-len.ensures.bytes c.deref.ensures.value in
    by_table g.F.Flash.tells c.args.self.now.machine c.args.self.now.own c.args.self.now.steps c.args.self.now.bridge c.args.self.now.other c.args.hex.now _ _ _ _ _ decoded
    (not_attached g.F.Flash.tells c.args.self.now.machine c.args.self.now.other _ _ _ _ _ _
    (begins_with _ _ _ c.in-Ok.ensures.found.0 c.in-Ok.ensures.found.1 c.in-Ok.ensures.refused c.in-Ok.ensures.only) c.new.ensures
    c.in-Err-attach.ensures.attaches c.in-Err-attach.ensures.reaches) c.refuse.ensures
