use Rattle.std.proofs.Common.{refl, sym, subst, inl, inr}
use Rattle.erst_port.specs.declared.windows.Addresses.{Addresses}
use Rattle.erst_port.specs.PortState.{PortState}
use Rattle.erst_port.specs.Openings.{OpenedAs, RefusesImage}
use Rattle.apei_c.specs.Numbers.{addresses_of}
use Rattle.apei_c.specs.Openings.{MeansRaw}
use Rattle.apei_c.proofs.openings.opened_raw.Goals as goal

pub returns-in-Ok-new-clause-opened : goal.returns-in-Ok-new-clause-opened
returns-in-Ok-new-clause-opened c =
    let there = subst (λ (addresses : Addresses). OpenedAs 0 c.in-Some.geometry c.args.flash.now addresses c.in-Ok.port) c.addresses_of.ensures c.in-Ok.ensures.opened in
    subst (λ (port : PortState). MeansRaw c.args.numbers.now c.args.flash.now (addresses_of c.args.addresses.now) port) (sym c.in-Ok-new.ensures.ok) (c.in-Some.geometry, c.in-Some.ensures.some, there)

pub returns-clause-refused : goal.returns-clause-refused
returns-clause-refused c =
    let why = subst (λ (addresses : Addresses). RefusesImage c.in-Some.geometry c.args.flash.now addresses c.in-Err.error) c.addresses_of.ensures c.in-Err.ensures.refused in
    inr (inr (c.in-Some.geometry, c.in-Err.error, c.in-Some.ensures.some, why, c.of_opening.ensures))

pub returns-in-Ok-clause-refused : goal.returns-in-Ok-clause-refused
returns-in-Ok-clause-refused c =
    let there = subst (λ (addresses : Addresses). OpenedAs 0 c.in-Some.geometry c.args.flash.now addresses c.in-Ok.port) c.addresses_of.ensures c.in-Ok.ensures.opened in
    inr (inl (refl, (c.in-Ok.port, (c.in-Some.geometry, c.in-Some.ensures.some, there))))
