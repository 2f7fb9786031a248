use Rattle.std.proofs.Common.{sym, subst}
use Rattle.erst_port.specs.Openings.{RefusesOpening, NoMedium}
use Rattle.erst_port.proofs.OpenLemmas.{opened_on, refuses_on}
use Rattle.erst_port.proofs.port.Port.open.Goals as goal

pub returns-in-Err-clause-refused : goal.returns-in-Err-clause-refused
returns-in-Err-clause-refused c =
    subst (RefusesOpening c.args.medium.now c.args.addresses) (sym c.into.ensures) (NoMedium c.in-Err.why c.in-Err.ensures)

pub returns-clause-opened : goal.returns-clause-opened
returns-clause-opened c =
    opened_on c.args.medium.now c.args.addresses c.in-Ok.geometry c.in-Ok.ensures c.sector-origin.result c.sector-origin.ensures c.behind.result c.behind.ensures.opened

pub returns-clause-refused : goal.returns-clause-refused
returns-clause-refused c =
    refuses_on c.args.medium.now c.args.addresses c.in-Ok.geometry c.in-Ok.ensures c.sector-origin.result c.sector-origin.ensures c.behind.result c.behind.ensures.refused
