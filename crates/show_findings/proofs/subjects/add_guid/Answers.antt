use Rattle.std.proofs.Common.{sym, subst}
use Rattle.std.specs.Str.{IsUtf8}
use Rattle.show_findings.proofs.GuidTextLemmas.{guid_is_text}
use Rattle.show_findings.proofs.subjects.add_guid.Goals as goal

pub unreachable-requires : goal.unreachable-requires
unreachable-requires c = c.in-Err.ensures.cases.0 (subst IsUtf8 (sym c.text.ensures) (guid_is_text c.args.guid.now))
