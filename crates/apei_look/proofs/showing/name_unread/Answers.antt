use Rattle.std.proofs.Common.{ℕ, List, refl, sym, subst}
use Rattle.apei_look.specs.Endings.{EndsBy}
use Rattle.apei_look.specs.Looks.{IsUnread}
use Rattle.apei_look.specs.Mediums.{unread_line}
use Rattle.apei_look.specs.Texts.{unread_object}
use Rattle.apei_look.specs.declared.options.Show.{Show}
use Rattle.apei_look.specs.declared.options.Show.TheVariants as shows
use Rattle.apei_look.specs.declared.status.Status.{Status}
use Rattle.apei_look.proofs.LookLemmas.{told_unread}
use Rattle.apei_look.proofs.showing.name_unread.Goals as goal

pub returns-in-Text-clause-ends : goal.returns-in-Text-clause-ends
returns-in-Text-clause-ends g c =
    let unread = c.args.unread in
    let before = g.H.Host.written c.args.host.now in
    let after = g.H.Host.written c.write_text.new.host in
    let P : Show → List ℕ → Status → Type 0 = λ show. IsUnread show unread c.args.held in
    subst (λ show. EndsBy (P show) before after c.named_as.result) (sym c.in-Text.is)
    (subst (λ status. EndsBy (P shows.Text) before after status) (sym c.named_as.ensures)
    (told_unread (P shows.Text) (unread_line unread) c.unread_text.result unread before after c.write_text.result c.unread_text.ensures (refl, refl) c.write_text.ensures.told))

pub returns-in-Json-clause-ends : goal.returns-in-Json-clause-ends
returns-in-Json-clause-ends g c =
    let unread = c.args.unread in
    let told = c.write_text-in-Json in
    let before = g.H.Host.written c.args.host.now in
    let after = g.H.Host.written told.new.host in
    let P : Show → List ℕ → Status → Type 0 = λ show. IsUnread show unread c.args.held in
    subst (λ show. EndsBy (P show) before after c.named_as-in-Json.result) (sym c.in-Json.is)
    (subst (λ status. EndsBy (P shows.Json) before after status) (sym c.named_as-in-Json.ensures)
    (told_unread (P shows.Json) (unread_object unread c.args.held) c.unread_json.result unread before after told.result c.unread_json.ensures (refl, refl) told.ensures.told))
