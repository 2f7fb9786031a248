use Rattle.std.proofs.Common.{◌++◌, subst}
use Rattle.std.specs.Prelude.{OnOk}
use Rattle.cper_frame.specs.Names.{severity_word}
use Rattle.field_lines.specs.Code.{structure_of}
use Rattle.field_lines.specs.Layouts.{Structure}
use Rattle.show_findings.specs.Sentences.{Adds}
use Rattle.show_findings.specs.Words.{kind_words, others_words, part_words, severity_words, threshold_words}
use Rattle.show_findings.proofs.JoinLemmas.{both, joined, stopped}
use Rattle.show_findings.proofs.words.add_section.Goals as goal

pub returns : goal.returns
returns c =
    let of = c.args.section.now in
    let rows = structure_of c.rows_of-layout.result in
    let old = c.args.out.now in
    let severe = severity_words (severity_word of.severity) in
    let kind = kind_words rows of.severity of.kind of.body.now in
    let part = part_words rows of.label.now of.body.now in
    let exceeded = threshold_words of.flags in
    let two = both severe kind old c.add_severity.new.out c.add_kind.new.out c.in_ok-add_severity.ensures c.in_ok-add_kind.ensures in
    let three = both (severe ++ kind) part old c.add_kind.new.out c.add_part.new.out two c.in_ok-add_part.ensures in
    let four = both (severe ++ kind ++ part) exceeded old c.add_part.new.out c.add_threshold.new.out three c.in_ok-add_threshold.ensures in
    subst
    (λ (r : Structure). OnOk c.add_others.result (Adds (severe ++ kind_words r of.severity of.kind of.body.now ++ part_words r of.label.now of.body.now ++ exceeded
    ++ others_words c.args.others) old c.add_others.new.out))
    c.rows_of-layout.ensures
    (joined c.add_others.result (severe ++ kind ++ part ++ exceeded) (others_words c.args.others) old c.add_threshold.new.out c.add_others.new.out four c.add_others.ensures)

pub returns-in_err-add_part : goal.returns-in_err-add_part
returns-in_err-add_part c = stopped c.from_residual-in_err-add_part.result _ c.from_residual-in_err-add_part.ensures.0

pub returns-in_err-add_threshold : goal.returns-in_err-add_threshold
returns-in_err-add_threshold c = stopped c.from_residual-in_err-add_threshold.result _ c.from_residual-in_err-add_threshold.ensures.0
