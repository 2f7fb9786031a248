-- A medium that failed a change.
use Rattle.std.specs.Prelude.{◌≡◌, List, ℕ, Result, Ok, Err}
use Rattle.erst_port.specs.declared.errors.ReopenError.{ReopenError}
use Rattle.erst_port.specs.declared.errors.ReopenError.TheVariants as reopening
use Rattle.erst_port.specs.Failures.{Fails}
use Rattle.erst_port.specs.PortState.{PortState}
use Rattle.apei_c.specs.declared.status.Status.{Status}
use Rattle.apei_c.specs.declared.status.Status.TheVariants.{Done, Geometry}
use Rattle.apei_c.specs.Statuses.{status_of_opening}

abbrev pub status_of_reopening : Result (Unit {0}) ReopenError → Status
status_of_reopening (Ok done) = Done
status_of_reopening (Err (reopening.Medium error)) = status_of_opening error
status_of_reopening (Err reopening.Geometry) = Geometry

-- the port goes on over what the medium holds, or is refused and stays as it was
abbrev pub GoesOnOver : (medium : List ℕ) → PortState → Status → PortState → Type 0
GoesOnOver medium old status new = (answer : Result (Unit {0}) ReopenError) × (status ≡ status_of_reopening answer) × Fails medium old answer new
