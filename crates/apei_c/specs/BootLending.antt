-- What is lent of a handle: its region.
use Rattle.std.specs.Prelude.{◌≡◌, Option, Some, OnSome}
use Rattle.std.specs.Borrow.{Lends, LendsSo, MutBor, Fml}
use Rattle.ghes_port.specs.Boot.{BootState}
use Rattle.ghes_port.specs.contracts.boot.BootRegion.{the_row as region_row}
use Rattle.apei_c.specs.declared.boot_owner.BootOwner.{BootOwner}
use Rattle.apei_c.specs.declared.boot_handle.BootHandle.{BootHandle}
use Rattle.apei_c.specs.contracts.boot_owner.BootOwner.{the_row as owner_row}
use Rattle.apei_c.specs.contracts.boot_handle.BootHandle.{the_row as handle_row}

-- an owner with another region in the place of its own
abbrev pub with_region : BootOwner → BootState → BootOwner
with_region owner region = record owner { region = Some region }

-- the owner ends with the region that is left behind the reference
abbrev pub BootOwnerLends : MutBor BootOwner → MutBor BootState → Fml
BootOwnerLends owner region = Lends owner_row region_row owner region (with_region owner.now)

-- so does a handle; one that lends no region keeps what it has
abbrev pub BootHandleLends : MutBor BootHandle → Option (MutBor BootState) → Fml
BootHandleLends handle region =
    LendsSo handle_row region_row handle region
    (λ after left. OnSome region (after.owner.region ≡ Some left)) (λ after. after.owner.region ≡ handle.now.owner.region)
