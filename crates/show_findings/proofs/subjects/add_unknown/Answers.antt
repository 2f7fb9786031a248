use Rattle.std.proofs.Common.{codes}
use Rattle.apei_bytes.specs.Guid.{guid_text}
use Rattle.show_findings.proofs.JoinLemmas.{joined}
use Rattle.show_findings.proofs.subjects.add_unknown.Goals as goal

pub returns : goal.returns
returns c =
    joined c.add_guid.result (codes "error of the unknown type ") (guid_text c.args.kind.now) c.args.out.now c.push_str.new.self c.add_guid.new.out
    c.in_ok-push_str.ensures.bytes c.add_guid.ensures
