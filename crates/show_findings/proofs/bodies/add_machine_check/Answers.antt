use Rattle.std.proofs.Common.{codes, ◌++◌}
use Rattle.field_lines.specs.Linux.{linux_machine_check}
use Rattle.show_findings.specs.Words.{check_words}
use Rattle.show_findings.proofs.JoinLemmas.{joined_grows}
use Rattle.show_findings.proofs.bodies.add_machine_check.Goals as goal

pub returns : goal.returns
returns c =
    joined_grows c.add_check_time.result (codes "machine check" ++ check_words linux_machine_check c.args.body.now) c.args.out.now c.add_checked.new.out c.add_check_time.new.out
    c.in_ok-add_checked.ensures c.add_check_time.ensures
