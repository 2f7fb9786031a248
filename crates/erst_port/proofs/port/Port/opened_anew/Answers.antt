use Rattle.std.proofs.Common.{◌≡◌, ◌≢◌, ◌+◌, ℕ, length, ap, subst}
use Rattle.erst_port.specs.declared.errors.OpenError.TheVariants as errors
use Rattle.erst_port.specs.declared.errors.ReopenError.TheVariants.{Medium}
use Rattle.erst_port.specs.PortState.{PortState, IsPort}
use Rattle.erst_port.specs.Failures.{RefusesAnew}
use Rattle.erst_port.proofs.FailLemmas.{opens_anew, other_size, no_memory}
use Rattle.erst_port.proofs.port.Port.opened_anew.Goals as goal

pub returns-then-found-wanted-clause-refused : goal.returns-then-found-wanted-clause-refused
returns-then-found-wanted-clause-refused c =
    let view = c.self.view_is in
    other_size c.args.self.now c.args.medium.now c.in_ok-geometry.geometry c.in_ok-geometry.ensures.its c.self.inside.origin (ap (λ (p : PortState). p.origin) view)
    c.self.inside.addresses (ap (λ (p : PortState). p.addresses) view) c.size.result c.size.ensures c.if-found-wanted.true

pub returns-in-Ok-clause-opened : goal.returns-in-Ok-clause-opened
returns-in-Ok-clause-opened c =
    let view = c.self.view_is in
    opens_anew c.args.self.now c.args.medium.now c.in_ok-geometry.geometry c.in_ok-geometry.ensures.its c.self.inside.origin (ap (λ (p : PortState). p.origin) view)
    c.self.inside.addresses (ap (λ (p : PortState). p.addresses) view) c.size.result c.size.ensures c.in-Ok.port c.in-Ok.ensures.opened

pub returns-in-Err-clause-refused : goal.returns-in-Err-clause-refused
returns-in-Err-clause-refused c =
    let view = c.self.view_is in
    no_memory c.args.self.now c.args.medium.now c.in_ok-geometry.geometry c.in_ok-geometry.ensures.its c.self.inside.origin (ap (λ (p : PortState). p.origin) view)
    c.self.inside.addresses (ap (λ (p : PortState). p.addresses) view) c.size.result c.size.ensures (subst IsPort view c.self.invariant) c.if-found-wanted.false
    c.in-Err.error c.in-Err.ensures.refused
