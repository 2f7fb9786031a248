use Rattle.std.proofs.Common.{List, false, ap, subst, ◌∙◌, OnOk}
use Rattle.field_lines.specs.Code.{structure_of}
use Rattle.show_findings.specs.Phrases.{Marks, Phrase, marks_of, place_text}
use Rattle.show_findings.specs.Sentences.{Adds}
use Rattle.show_findings.specs.Words.{marks_for, place_phrases}
use Rattle.show_findings.proofs.words.add_marked.Goals as goal

pub returns : goal.returns
returns c =
    let marks = c.brackets_for-brackets.ensures ∙ ap marks_for c.has_label.ensures in
    subst (λ (m : Marks). OnOk c.add_place.result (Adds (place_text m false (structure_of c.args.layout.now) c.args.body.now place_phrases) c.args.out.now c.add_place.new.out)) marks
    (subst (λ (p : List Phrase). OnOk c.add_place.result
    (Adds (place_text (marks_of c.brackets_for-brackets.result) false (structure_of c.args.layout.now) c.args.body.now p) c.args.out.now c.add_place.new.out))
    c.places.ensures c.add_place.ensures)
