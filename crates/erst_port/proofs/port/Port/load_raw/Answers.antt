use Rattle.std.proofs.Common.{subst}
use Rattle.erst_port.specs.declared.windows.Addresses.{Addresses}
use Rattle.erst_port.specs.Openings.{OpenedAs, RefusesImage}
use Rattle.erst_port.proofs.LoadLemmas.{loaded_by, answers_raw, refuses_load}
use Rattle.erst_port.proofs.port.Port.load_raw.Goals as goal

pub returns-in-Ok-clause-loaded : goal.returns-in-Ok-clause-loaded
returns-in-Ok-clause-loaded c =
    let opened = subst (λ (addresses : Addresses). OpenedAs 0 c.args.geometry c.args.image.now addresses c.in-Ok.port) c.in_ok-state.ensures.state.places c.in-Ok.ensures.opened in
    loaded_by (OpenedAs 0 c.args.geometry c.args.image.now) c.args.saved.now c.in-Ok.port c.resume.result opened c.resume.ensures.resumed

pub returns-in-Ok-clause-equivalent : goal.returns-in-Ok-clause-equivalent
returns-in-Ok-clause-equivalent c =
    let opened = subst (λ (addresses : Addresses). OpenedAs 0 c.args.geometry c.args.image.now addresses c.in-Ok.port) c.in_ok-state.ensures.state.places c.in-Ok.ensures.opened in
    answers_raw c.args.geometry c.args.image.now c.args.saved.now c.in-Ok.port c.resume.result opened c.resume.ensures.counted c.resume.ensures.resumed

pub returns-in-Ok-clause-refused : goal.returns-in-Ok-clause-refused
returns-in-Ok-clause-refused c =
    let opened = subst (λ (addresses : Addresses). OpenedAs 0 c.args.geometry c.args.image.now addresses c.in-Ok.port) c.in_ok-state.ensures.state.places c.in-Ok.ensures.opened in
    refuses_load (OpenedAs 0 c.args.geometry c.args.image.now) (RefusesImage c.args.geometry c.args.image.now) c.args.saved.now c.in-Ok.port c.resume.result opened c.resume.ensures.refused
