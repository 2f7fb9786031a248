use Rattle.std.proofs.Common.{List, ◌++◌, subst}
use Rattle.field_lines.specs.Code.{structure_of}
use Rattle.show_findings.specs.Phrases.{Phrase, phrases_text}
use Rattle.show_findings.specs.Sentences.{Adds}
use Rattle.show_findings.specs.Words.{address_phrases, checked_words, device_words, place_words}
use Rattle.show_findings.proofs.JoinLemmas.{both, joined, stopped}
use Rattle.show_findings.proofs.words.add_part.Goals as goal

pub returns : goal.returns
returns c =
    let rows = structure_of c.args.layout.now in
    let body = c.args.body.now in
    let old = c.args.out.now in
    let place = place_words rows c.args.label.now body in
    let address = phrases_text rows body address_phrases in
    let device = device_words rows body in
    let addressed = subst (λ (p : List Phrase). Adds (phrases_text rows body p) c.add_labelled.new.out c.add_phrases.new.out) c.addresses.ensures c.in_ok-add_phrases.ensures in
    let two = both place address old c.add_labelled.new.out c.add_phrases.new.out c.in_ok-add_labelled.ensures addressed in
    let three = both (place ++ address) device old c.add_phrases.new.out c.add_device.new.out two c.in_ok-add_device.ensures in
    joined c.add_checked.result (place ++ address ++ device) (checked_words rows body) old c.add_device.new.out c.add_checked.new.out three c.add_checked.ensures

pub returns-in_err-add_labelled : goal.returns-in_err-add_labelled
returns-in_err-add_labelled c = stopped c.from_residual.result _ c.from_residual.ensures.0

pub returns-in_err-add_phrases : goal.returns-in_err-add_phrases
returns-in_err-add_phrases c = stopped c.from_residual-in_err-add_phrases.result _ c.from_residual-in_err-add_phrases.ensures.0

pub returns-in_err-add_device : goal.returns-in_err-add_device
returns-in_err-add_device c = stopped c.from_residual-in_err-add_device.result _ c.from_residual-in_err-add_device.ensures.0
