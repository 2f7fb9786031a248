use Rattle.std.proofs.Common.{codes, subst}
use Rattle.std.specs.Prelude.{OnOk}
use Rattle.field_lines.specs.Layouts.{Structure}
use Rattle.field_lines.specs.Linux.{linux_machine_check}
use Rattle.show_findings.specs.Sentences.{Adds}
use Rattle.show_findings.specs.Words.{check_words}
use Rattle.show_findings.proofs.JoinLemmas.{joined}
use Rattle.show_findings.proofs.bodies.add_checked.Goals as goal

pub returns : goal.returns
returns c =
    let body = c.args.body.now in
    joined c.add_check.result (codes "machine check") (check_words linux_machine_check body) c.args.out.now c.push_str.new.self c.add_check.new.out
    c.in_ok-push_str.ensures.bytes
    (subst (λ (r : Structure). OnOk c.add_check.result (Adds (check_words r body) c.push_str.new.self c.add_check.new.out)) c.fields_of.ensures.layout c.add_check.ensures)
