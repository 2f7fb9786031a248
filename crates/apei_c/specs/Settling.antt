-- An execution that goes on without its client.
use Rattle.std.specs.Prelude.{◌≡◌, Bool, true, false, Result, Ok, Err}
use Rattle.erst_port.specs.declared.errors.PortError.{PortError}
use Rattle.erst_port.specs.PortState.{PortState}
use Rattle.erst_port.specs.Settling.{Settles}
use Rattle.apei_c.specs.declared.status.Status.{Status}
use Rattle.apei_c.specs.declared.status.Status.TheVariants.{Done, Nothing}
use Rattle.apei_c.specs.Statuses.{status_of_error}

abbrev pub status_of_settling : Result Bool PortError → Status
status_of_settling (Ok true) = Done
status_of_settling (Ok false) = Nothing
status_of_settling (Err error) = status_of_error error

-- the execution that runs goes on by one poll, or none runs
abbrev pub SettlesOn : PortState → Status → PortState → Type 0
SettlesOn old status new = (answer : Result Bool PortError) × (status ≡ status_of_settling answer) × Settles old answer new
