use Rattle.std.proofs.Common.{ap, ◌∙◌, length}
use Rattle.erst_entries.specs.Layout.{Erst}
use Rattle.apei_script.proofs.SessionLines.{by_own_table}
use Rattle.apei_script.proofs.session.Session.use_own_table.Goals as goal

pub returns : goal.returns
returns g c =
    by_own_table g.F.Flash.tells c.args.self.now.machine c.args.self.now.own c.args.self.now.steps c.args.self.now.bridge c.args.self.now.other
    c.len-entries.result _ (c.len-entries.ensures ∙ ap (λ (erst : Erst). length erst.entries) c.table.ensures)
    c.put_number.ensures
