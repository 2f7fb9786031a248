-- The status of each answer of a client.
use Rattle.std.specs.Prelude.{Result, Ok, Err}
use Rattle.erst_client.specs.declared.errors.AttachError.{AttachError}
use Rattle.erst_client.specs.declared.errors.AttachError.TheVariants as attach
use Rattle.erst_client.specs.declared.errors.ClientError.{ClientError}
use Rattle.erst_client.specs.declared.errors.ClientError.TheVariants as client
use Rattle.erst_entries.specs.declared.tables.ErstError.{ErstError}
use Rattle.erst_entries.specs.declared.tables.ErstError.TheVariants as tables
use Rattle.erst_interp.specs.declared.stops.RunStop.{RunStop}
use Rattle.erst_interp.specs.declared.stops.RunStop.TheVariants as stops
use Rattle.erst_session.specs.declared.errors.SessionError.{SessionError}
use Rattle.erst_session.specs.declared.errors.SessionError.TheVariants as sessions
use Rattle.erst_session.specs.declared.errors.WorkError.{WorkError}
use Rattle.erst_session.specs.declared.errors.WorkError.TheVariants as works
use Rattle.apei_c.specs.declared.status.Status.{Status}
use Rattle.apei_c.specs.declared.status.Status.TheVariants.{Done, Nothing, Short, Busy, Memory, Table, Unattached, NonVolatile, NoRange, NoSpace, Hardware}
use Rattle.apei_c.specs.declared.status.Status.TheVariants.{Failed, Empty, NotFound, Frame, TooLong, SmallBuffer, BadLength, Unknown, Trailing, TooLate, Steps}
use Rattle.apei_c.specs.declared.status.Status.TheVariants.{NoAction, Fault, Program, ListFull}

abbrev pub status_of_table : ErstError → Status
status_of_table (tables.Table why) = Table
status_of_table (tables.HeaderSize found) = Table
status_of_table (tables.Count found size) = Table
status_of_table tables.Memory = Memory

abbrev pub status_of_session : SessionError → Status
status_of_session sessions.Unattached = Unattached
status_of_session sessions.Busy = Busy
status_of_session sessions.Short = Short

abbrev pub status_of_begun : Result (Unit {0}) SessionError → Status
status_of_begun (Ok done) = Done
status_of_begun (Err error) = status_of_session error

abbrev pub status_of_stop : RunStop → Status
status_of_stop stops.Budget = Steps
status_of_stop (stops.Register index why) = Program
status_of_stop (stops.UnknownInstruction index code) = Program
status_of_stop (stops.Goto index to) = Program
status_of_stop (stops.MoveTooLong index len) = Program
status_of_stop (stops.NoAction code) = NoAction
status_of_stop (stops.Space index fault) = Fault

abbrev pub status_of_attach : AttachError → Status
status_of_attach (attach.Stopped stop) = status_of_stop stop
status_of_attach (attach.NonVolatile found) = NonVolatile
status_of_attach (attach.NoRange len) = NoRange

abbrev pub status_of_client : ClientError → Status
status_of_client client.NoSpace = NoSpace
status_of_client client.Hardware = Hardware
status_of_client client.Failed = Failed
status_of_client client.Empty = Empty
status_of_client client.NotFound = NotFound
status_of_client (client.Frame why) = Frame
status_of_client (client.TooLong len range) = TooLong
status_of_client (client.SmallBuffer need) = SmallBuffer
status_of_client (client.BadLength found) = BadLength
status_of_client (client.Status found) = Unknown
status_of_client (client.Stopped stop) = status_of_stop stop
status_of_client (client.Trailing bytes) = Trailing
status_of_client (client.Range fault) = Fault
status_of_client (client.Late waited) = TooLate

abbrev pub status_of_work : WorkError → Status
status_of_work (works.Attach error) = status_of_attach error
status_of_work (works.Client error) = status_of_client error
status_of_work works.NoMore = Nothing
status_of_work works.Full = ListFull
