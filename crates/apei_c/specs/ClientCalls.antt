-- What C's calls do with a client.
use Rattle.std.specs.Prelude.{◌≡◌, ℕ, ◌≤◌, ◌==◌, not, if◌then◌else◌, Bool, List, length, take, Option, Some, None, Result, Ok, Err}
use Rattle.apei_space.specs.declared.faults.SpaceFault.{SpaceFault}
use Rattle.apei_space.specs.declared.faults.SpaceFault.TheVariants.{Device}
use Rattle.apei_tables.specs.declared.registers.Place.{Place}
use Rattle.apei_tables.specs.declared.registers.Place.TheVariants.{Memory as InMemory, Io}
use Rattle.apei_tables.specs.declared.widths.Width.{Width}
use Rattle.apei_tables.specs.declared.widths.Width.TheVariants.{B8, B16, B32, B64}
use Rattle.erst_entries.specs.Layout.{Erst}
use Rattle.erst_entries.specs.declared.tables.ErstError.{ErstError}
use Rattle.erst_entries.specs.Tables.{IsErst, IsRefusal}
use Rattle.erst_client.specs.declared.attaching.FoundRange.{FoundRange}
use Rattle.erst_interp.specs.declared.demands.Demand.{Demand}
use Rattle.erst_interp.specs.declared.demands.Demand.TheVariants.{Load, Store, Pause, Move}
use Rattle.erst_session.specs.declared.demands.WorkDemand.{WorkDemand}
use Rattle.erst_session.specs.declared.demands.WorkDemand.TheVariants.{Access, PutRecord, PutMark, TakeLength, TakeRecord}
use Rattle.erst_session.specs.declared.errors.SessionError.{SessionError}
use Rattle.erst_session.specs.declared.errors.WorkError.{WorkError}
use Rattle.erst_session.specs.declared.orders.Order.{Order}
use Rattle.erst_session.specs.declared.orders.Order.TheVariants.{Read, Clear, Dummy, Count, Next, List as ListAll}
use Rattle.erst_session.specs.Sessions.{SessionState, Opens, BeginsWrite, Begins, GoesOn, session_demanded, session_result, session_range}
use Rattle.apei_c.specs.declared.client_structs.ClientDemand.{ClientDemand}
use Rattle.apei_c.specs.declared.client_structs.ClientRange.{ClientRange}
use Rattle.apei_c.specs.declared.status.Status.{Status}
use Rattle.apei_c.specs.declared.status.Status.TheVariants.{Done, Nothing, Busy, Choice, Unattached}
use Rattle.apei_c.specs.ClientStatuses.{status_of_begun, status_of_work, status_of_table}

-- a session that attaches by the table at the front of the bytes
abbrev pub IsSessionOver : List ℕ → SessionState → Type 0
IsSessionOver bytes session = (erst : Erst) × (n : ℕ) × IsErst erst (take n bytes) × (n ≤ length bytes) × Opens erst session

-- no table stands there, by the first reason, or there was no memory
abbrev pub RefusesTable : List ℕ → Status → Type 0
RefusesTable bytes status = (error : ErstError) × IsRefusal bytes error × (status ≡ status_of_table error)

abbrev pub bytes_in : Width → ℕ
bytes_in B8 = 1
bytes_in B16 = 2
bytes_in B32 = 4
bytes_in B64 = 8

abbrev pub register_demand : Place → Width → (value kind : ℕ) → ClientDemand
register_demand (InMemory at) width value kind = record { address = at; value = value; length = bytes_in width; kind = kind; space = 0 }
register_demand (Io at) width value kind = record { address = at; value = value; length = bytes_in width; kind = kind; space = 1 }

abbrev pub access_demand : Demand → ClientDemand
access_demand (Load place width) = register_demand place width 0 0
access_demand (Store place width value) = register_demand place width value 1
access_demand (Pause micros) = record { address = 0; value = micros; length = 0; kind = 2; space = 0 }
access_demand (Move source target len) = record { address = source; value = target; length = len; kind = 3; space = 0 }

-- what a session wants, as C sees it; the mark is "ER"
abbrev pub demand_of : WorkDemand → ClientDemand
demand_of (Access demand) = access_demand demand
demand_of (PutRecord address) = record { address = address; value = 0; length = 0; kind = 4; space = 0 }
demand_of (PutMark address) = record { address = address; value = 0x5245; length = 2; kind = 5; space = 0 }
demand_of (TakeLength address) = record { address = address; value = 0; length = 4; kind = 6; space = 0 }
demand_of (TakeRecord address len) = record { address = address; value = 0; length = len; kind = 7; space = 0 }

-- the command of a number
abbrev pub order_of : ℕ → (id room : ℕ) → Option Order
order_of number id room =
    if number == 0 then Some (Read id room)
    else if number == 1 then Some (Clear id)
    else if number == 2 then Some Dummy
    else if number == 3 then Some Count
    else if number == 4 then Some Next
    else if number == 5 then Some ListAll
    else None

abbrev pub is_failed : ℕ → Bool
is_failed failed = not (failed == 0)

abbrev pub answer_of : Bool → ℕ → Result ℕ SpaceFault
answer_of failed value = if failed then Err Device else Ok value

-- a command begins, or it is refused and nothing changes
abbrev pub BeginsWriting : List ℕ → SessionState → Status → SessionState → Type 0
BeginsWriting bytes old status new = (answer : Result (Unit {0}) SessionError) × (status ≡ status_of_begun answer) × BeginsWrite bytes old answer new

abbrev pub BeginsOrder : Option Order → SessionState → List ℕ → Status → SessionState → List ℕ → Type 0
BeginsOrder None old held status new after = (status ≡ Choice) × (new ≡ old) × (after ≡ held)
BeginsOrder (Some order) old held status new after =
    (answer : Result (Unit {0}) SessionError) × (status ≡ status_of_begun answer) × Begins order old held answer new after

abbrev pub TellsWhat : Option WorkDemand → ClientDemand → Status → ClientDemand → Type 0
TellsWhat None was status now = (status ≡ Nothing) × (now ≡ was)
TellsWhat (Some demand) was status now = (status ≡ Done) × (now ≡ demand_of demand)

-- what is to be done next
abbrev pub TellsDemand : SessionState → ClientDemand → Status → ClientDemand → Type 0
TellsDemand session was status now = TellsWhat (session_demanded session) was status now

-- the answer is taken, or it is refused and nothing changes
abbrev pub TakesAnswer : Result ℕ SpaceFault → SessionState → List ℕ → Status → SessionState → List ℕ → Type 0
TakesAnswer told old held status new after = (answer : Result (Unit {0}) SessionError) × (status ≡ status_of_begun answer) × GoesOn told old held answer new after

abbrev pub TellsEnd : Option (Result ℕ WorkError) → ℕ → Status → ℕ → Type 0
TellsEnd None was status now = (status ≡ Busy) × (now ≡ was)
TellsEnd (Some (Ok value)) was status now = (status ≡ Done) × (now ≡ value)
TellsEnd (Some (Err error)) was status now = (status ≡ status_of_work error) × (now ≡ was)

abbrev pub TellsResult : SessionState → ℕ → Status → ℕ → Type 0
TellsResult session was status now = TellsEnd (session_result session) was status now

-- a range as C sees it; a firmware that names no times has 0
abbrev pub range_with : FoundRange → Option (ℕ × ℕ) → ClientRange
range_with found None = record { address = found.address; length = found.len; greatest = 0; nominal = 0 }
range_with found (Some times) = record { address = found.address; length = found.len; greatest = times.0; nominal = times.1 }

abbrev pub range_of : FoundRange → ClientRange
range_of found = range_with found found.timings

abbrev pub TellsFound : Option FoundRange → ClientRange → Status → ClientRange → Type 0
TellsFound None was status now = (status ≡ Unattached) × (now ≡ was)
TellsFound (Some found) was status now = (status ≡ Done) × (now ≡ range_of found)

abbrev pub TellsRange : SessionState → ClientRange → Status → ClientRange → Type 0
TellsRange session was status now = TellsFound (session_range session) was status now
