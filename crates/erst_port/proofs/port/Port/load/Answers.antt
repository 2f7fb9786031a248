use Rattle.std.proofs.Common.{subst}
use Rattle.erst_port.specs.declared.windows.Addresses.{Addresses}
use Rattle.erst_port.specs.Openings.{OpenedOn, RefusesOpening}
use Rattle.erst_port.proofs.LoadLemmas.{loaded_by, answers_on, refuses_load}
use Rattle.erst_port.proofs.port.Port.load.Goals as goal

pub returns-in-Ok-clause-loaded : goal.returns-in-Ok-clause-loaded
returns-in-Ok-clause-loaded c =
    let opened = subst (λ (addresses : Addresses). OpenedOn c.args.medium.now addresses c.in-Ok.port) c.in_ok-state.ensures.state.places c.in-Ok.ensures.opened in
    loaded_by (OpenedOn c.args.medium.now) c.args.saved.now c.in-Ok.port c.resume.result opened c.resume.ensures.resumed

pub returns-in-Ok-clause-equivalent : goal.returns-in-Ok-clause-equivalent
returns-in-Ok-clause-equivalent c =
    let opened = subst (λ (addresses : Addresses). OpenedOn c.args.medium.now addresses c.in-Ok.port) c.in_ok-state.ensures.state.places c.in-Ok.ensures.opened in
    answers_on c.args.medium.now c.args.saved.now c.in-Ok.port c.resume.result opened c.resume.ensures.counted c.resume.ensures.resumed

pub returns-in-Ok-clause-refused : goal.returns-in-Ok-clause-refused
returns-in-Ok-clause-refused c =
    let opened = subst (λ (addresses : Addresses). OpenedOn c.args.medium.now addresses c.in-Ok.port) c.in_ok-state.ensures.state.places c.in-Ok.ensures.opened in
    refuses_load (OpenedOn c.args.medium.now) (RefusesOpening c.args.medium.now) c.args.saved.now c.in-Ok.port c.resume.result opened c.resume.ensures.refused
