-- What is lent of a handle: its port.
use Rattle.std.specs.Prelude.{◌≡◌, Option, Some, OnSome}
use Rattle.std.specs.Borrow.{Lends, LendsSo, MutBor, Fml}
use Rattle.erst_port.specs.PortState.{PortState}
use Rattle.erst_port.specs.contracts.port.Port.{the_row as port_row}
use Rattle.apei_c.specs.declared.owners.PortOwner.{PortOwner}
use Rattle.apei_c.specs.declared.handle.Handle.{Handle}
use Rattle.apei_c.specs.contracts.owners.PortOwner.{the_row as owner_row}
use Rattle.apei_c.specs.contracts.handle.Handle.{the_row as handle_row}

-- an owner with another port in the place of its own
abbrev pub with_port : PortOwner → PortState → PortOwner
with_port owner port = record owner { port = Some port }

-- the owner ends with the port that is left behind the reference
abbrev pub OwnerLends : MutBor PortOwner → MutBor PortState → Fml
OwnerLends owner port = Lends owner_row port_row owner port (with_port owner.now)

-- so does a handle; one that lends no port keeps what it has
abbrev pub HandleLends : MutBor Handle → Option (MutBor PortState) → Fml
HandleLends handle port =
    LendsSo handle_row port_row handle port
    (λ after left. OnSome port (after.owner.port ≡ Some left)) (λ after. after.owner.port ≡ handle.now.owner.port)
