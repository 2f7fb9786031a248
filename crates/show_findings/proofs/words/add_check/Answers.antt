use Rattle.std.proofs.Common.{[]}
use Rattle.field_lines.specs.Code.{structure_of}
use Rattle.show_findings.specs.Words.{checked_words, place_words}
use Rattle.show_findings.proofs.JoinLemmas.{joined, stopped}
use Rattle.show_findings.proofs.words.add_check.Goals as goal

pub returns : goal.returns
returns c =
    let rows = structure_of c.args.layout.now in
    joined c.add_checked.result (place_words rows [] c.args.body.now) (checked_words rows c.args.body.now) c.args.out.now c.add_labelled.new.out c.add_checked.new.out
    c.in_ok-add_labelled.ensures c.add_checked.ensures

pub returns-in_err-add_labelled : goal.returns-in_err-add_labelled
returns-in_err-add_labelled c = stopped c.from_residual.result _ c.from_residual.ensures.0
