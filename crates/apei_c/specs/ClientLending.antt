-- What is lent of a handle: its session.
use Rattle.std.specs.Prelude.{◌≡◌, Option, Some, OnSome}
use Rattle.std.specs.Borrow.{Lends, LendsSo, MutBor, Fml}
use Rattle.erst_session.specs.Sessions.{SessionState}
use Rattle.erst_session.specs.contracts.sessions.Session.{the_row as session_row}
use Rattle.apei_c.specs.declared.client_owner.ClientOwner.{ClientOwner}
use Rattle.apei_c.specs.declared.client_handle.ClientHandle.{ClientHandle}
use Rattle.apei_c.specs.contracts.client_owner.ClientOwner.{the_row as owner_row}
use Rattle.apei_c.specs.contracts.client_handle.ClientHandle.{the_row as handle_row}

-- an owner with another session in the place of its own
abbrev pub with_session : ClientOwner → SessionState → ClientOwner
with_session owner session = record owner { session = Some session }

-- the owner ends with the session that is left behind the reference
abbrev pub ClientOwnerLends : MutBor ClientOwner → MutBor SessionState → Fml
ClientOwnerLends owner session = Lends owner_row session_row owner session (with_session owner.now)

-- so does a handle; one that lends no session keeps what it has
abbrev pub ClientHandleLends : MutBor ClientHandle → Option (MutBor SessionState) → Fml
ClientHandleLends handle session =
    LendsSo handle_row session_row handle session
    (λ after left. OnSome session (after.owner.session ≡ Some left)) (λ after. after.owner.session ≡ handle.now.owner.session)
