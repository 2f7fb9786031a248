use Rattle.field_lines.specs.Code.{structure_of}
use Rattle.std.proofs.Common.{false}
use Rattle.show_findings.specs.Labels.{has_label, label_text}
use Rattle.show_findings.specs.declared.labels.Gap.TheVariants.{Start}
use Rattle.show_findings.specs.Phrases.{place_text}
use Rattle.show_findings.specs.Words.{marks_for, place_phrases}
use Rattle.show_findings.proofs.JoinLemmas.{joined}
use Rattle.show_findings.proofs.words.add_labelled.Goals as goal

pub returns : goal.returns
returns c =
    joined c.add_marked.result (label_text Start c.args.label.now)
    (place_text (marks_for (has_label c.args.label.now)) false (structure_of c.args.layout.now) c.args.body.now place_phrases)
    c.args.out.now c.add_label.new.out c.add_marked.new.out c.in_ok-add_label.ensures c.add_marked.ensures
