use Rattle.std.proofs.Common.{ℕ, List, refl, sym, subst}
use Rattle.apei_look.specs.Endings.{EndsBy}
use Rattle.apei_look.specs.Images.{IsJson, IsText}
use Rattle.apei_look.specs.Looks.{IsShow}
use Rattle.apei_look.specs.declared.options.Show.{Show}
use Rattle.apei_look.specs.declared.options.Show.TheVariants as shows
use Rattle.apei_look.specs.declared.status.Status.{Status}
use Rattle.apei_look.proofs.LookLemmas.{told_shown}
use Rattle.apei_look.proofs.showing.show_image.Goals as goal

pub returns-in-Text-clause-ends : goal.returns-in-Text-clause-ends
returns-in-Text-clause-ends g c =
    let image = c.args.image.now in
    let before = g.H.Host.written c.args.host.now in
    let after = g.H.Host.written c.write_text.new.host in
    let P : Show → List ℕ → Status → Type 0 = λ show. IsShow show image.is_medium image.geometry.now image.held image.bytes.now in
    subst (λ show. EndsBy (P show) before after c.write_text.result) (sym c.in-Text.is)
    (told_shown (P shows.Text) (IsText image.is_medium image.geometry.now image.held image.bytes.now) c.text_of.result before after c.write_text.result
    (λ said is. (refl, is)) c.text_of.ensures c.write_text.ensures.told)

pub returns-in-Json-clause-ends : goal.returns-in-Json-clause-ends
returns-in-Json-clause-ends g c =
    let image = c.args.image.now in
    let before = g.H.Host.written c.args.host.now in
    let told = c.write_text-in-Json in
    let after = g.H.Host.written told.new.host in
    let P : Show → List ℕ → Status → Type 0 = λ show. IsShow show image.is_medium image.geometry.now image.held image.bytes.now in
    subst (λ show. EndsBy (P show) before after told.result) (sym c.in-Json.is)
    (told_shown (P shows.Json) (IsJson image.is_medium image.geometry.now image.held image.bytes.now) c.json_of.result before after told.result
    (λ said is. (refl, is)) c.json_of.ensures told.ensures.told)
