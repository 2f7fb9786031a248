-- What is lent of a handle: its sources.
use Rattle.std.specs.Prelude.{◌≡◌, Option, Some, OnSome}
use Rattle.std.specs.Borrow.{Lends, LendsSo, MutBor, Fml}
use Rattle.ghes_port.specs.Several.{SourcesState}
use Rattle.ghes_port.specs.contracts.sources.Sources.{the_row as sources_row}
use Rattle.apei_c.specs.declared.sources_owner.SourcesOwner.{SourcesOwner}
use Rattle.apei_c.specs.declared.sources_handle.SourcesHandle.{SourcesHandle}
use Rattle.apei_c.specs.contracts.sources_owner.SourcesOwner.{the_row as owner_row}
use Rattle.apei_c.specs.contracts.sources_handle.SourcesHandle.{the_row as handle_row}

-- an owner with other sources in the place of its own
abbrev pub with_sources : SourcesOwner → SourcesState → SourcesOwner
with_sources owner sources = record owner { sources = Some sources }

-- the owner ends with the sources that are left behind the reference
abbrev pub SourcesOwnerLends : MutBor SourcesOwner → MutBor SourcesState → Fml
SourcesOwnerLends owner sources = Lends owner_row sources_row owner sources (with_sources owner.now)

-- so does a handle; one that lends no sources keeps what it has
abbrev pub SourcesHandleLends : MutBor SourcesHandle → Option (MutBor SourcesState) → Fml
SourcesHandleLends handle sources =
    LendsSo handle_row sources_row handle sources
    (λ after left. OnSome sources (after.owner.sources ≡ Some left)) (λ after. after.owner.sources ≡ handle.now.owner.sources)
