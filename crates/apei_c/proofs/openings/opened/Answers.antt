use Rattle.std.proofs.Common.{refl, sym, subst, inl}
use Rattle.erst_port.specs.declared.windows.Addresses.{Addresses}
use Rattle.erst_port.specs.PortState.{PortState}
use Rattle.erst_port.specs.Openings.{OpenedOn}
use Rattle.apei_c.specs.Numbers.{addresses_of}
use Rattle.apei_c.proofs.openings.opened.Goals as goal

pub returns-in-Ok-new-clause-opened : goal.returns-in-Ok-new-clause-opened
returns-in-Ok-new-clause-opened c =
    let there = subst (λ (addresses : Addresses). OpenedOn c.args.medium.now addresses c.in-Ok.port) c.addresses_of.ensures c.in-Ok.ensures.opened in
    subst (λ (port : PortState). OpenedOn c.args.medium.now (addresses_of c.args.addresses.now) port) (sym c.in-Ok-new.ensures.ok) there

pub returns-in-Ok-clause-refused : goal.returns-in-Ok-clause-refused
returns-in-Ok-clause-refused c =
    let there = subst (λ (addresses : Addresses). OpenedOn c.args.medium.now addresses c.in-Ok.port) c.addresses_of.ensures c.in-Ok.ensures.opened in
    inl (refl, (c.in-Ok.port, there))
