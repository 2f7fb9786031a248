use Rattle.std.proofs.Common.{rules, ◌≤◌, length, Ok, subst}
use Rattle.erst_session.specs.declared.works.Work.{Work}
use Rattle.erst_session.specs.Sessions.{SessionState, GoesOn, listed_by}
use Rattle.erst_session.specs.Works.{Goes}
use Rattle.erst_session.proofs.sessions.Session.answer.Goals as goal

pub returns : goal.returns
returns c =
    let fits : listed_by c.args.self.now ≤ length c.args.ids.now = search rules in
    let goes =
    subst (λ (work : Work). Goes c.self.inside.table.entries c.self.inside.found work c.args.ids.now c.settle.new.self c.settle.new.ids)
    c.answer.ensures.answered c.settle.ensures.goes in
    subst (λ (session : SessionState). listed_by session ≤ length c.args.ids.now →
    GoesOn c.args.answer session c.args.ids.now (Ok tt) c.note.new.self c.settle.new.ids)
    c.self.view_is (λ fits. (fits, c.settle.new.self, goes, c.note.ensures)) fits
