-- A session: what opening, beginning and an answer do.
use Rattle.std.specs.Prelude.{◌≡◌, ℕ, ◌<◌, ◌≤◌, if◌then◌else◌, Bool, true, false, List, length, Option, Some, None, Result, Ok, Err}
use Rattle.apei_space.specs.declared.faults.SpaceFault.{SpaceFault}
use Rattle.erst_entries.specs.Layout.{Erst}
use Rattle.erst_client.specs.declared.attaching.FoundRange.{FoundRange}
use Rattle.erst_client.specs.declared.finding.Finding.{Finding}
use Rattle.erst_client.specs.Finding.{finding_first, FindingMoves}
use Rattle.erst_client.specs.Writing.{write_first}
use Rattle.erst_session.specs.declared.demands.WorkDemand.{WorkDemand}
use Rattle.erst_session.specs.declared.errors.SessionError.{SessionError}
use Rattle.erst_session.specs.declared.errors.SessionError.TheVariants.{Unattached, Busy, Short}
use Rattle.erst_session.specs.declared.errors.WorkError.{WorkError}
use Rattle.erst_session.specs.declared.orders.Order.{Order}
use Rattle.erst_session.specs.declared.works.Work.{Work}
use Rattle.erst_session.specs.declared.works.Work.TheVariants.{Attaching, Writing}
use Rattle.erst_session.specs.Works.{work_first, work_demanded, work_answered, work_result, listed_in, found_by, Goes}

pub record SessionState : Type 0 where
  pub table : Erst
  pub found : FoundRange
  pub is_attached : Bool
  pub work : Work

abbrev pub with_found : SessionState → Option FoundRange → SessionState
with_found session None = session
with_found session (Some range) = record { table = session.table; found = range; is_attached = true; work = session.work }

-- what attaching found is noted
abbrev pub noted : SessionState → SessionState
noted session = with_found session (found_by session.work)

abbrev pub with_work : SessionState → Work → SessionState
with_work session work = record { table = session.table; found = session.found; is_attached = session.is_attached; work = work }

abbrev pub unfound : FoundRange
unfound = record { address = 0; len = 0; timings = None }

abbrev pub Opens : Erst → SessionState → Type 0
Opens erst session =
    (at : Finding) × FindingMoves erst.entries (finding_first erst.entries 65536) at × (session ≡ noted (record { table = erst; found = unfound; is_attached = false; work = Attaching at }))

abbrev pub session_demanded : SessionState → Option WorkDemand
session_demanded session = work_demanded session.found session.work

abbrev pub session_result : SessionState → Option (Result ℕ WorkError)
session_result session = work_result session.work

abbrev pub session_range : SessionState → Option FoundRange
session_range session = if session.is_attached then Some session.found else None

abbrev pub listed_by : SessionState → ℕ
listed_by session = listed_in session.work

abbrev pub busy_by : Option (Result ℕ WorkError) → Option SessionError
busy_by None = Some Busy
busy_by (Some result) = None

-- why no command may begin
abbrev pub session_refusal : SessionState → Option SessionError
session_refusal session = if session.is_attached then busy_by (session_result session) else Some Unattached

abbrev pub BeginsWrite : List ℕ → SessionState → Result (Unit {0}) SessionError → SessionState → Type 0
BeginsWrite bytes old (Ok done) new = (session_refusal old ≡ None) × (new ≡ with_work old (Writing (write_first old.found bytes)))
BeginsWrite bytes old (Err error) new = (session_refusal old ≡ Some error) × (new ≡ old)

-- with a listing's buffer before and after
abbrev pub Begins : Order → SessionState → List ℕ → Result (Unit {0}) SessionError → SessionState → List ℕ → Type 0
Begins order old held (Ok done) new after =
    (session_refusal old ≡ None) × (work : Work) × Goes old.table.entries old.found (work_first old.table.entries old.found order) held work after × (new ≡ with_work old work)
Begins order old held (Err error) new after = (session_refusal old ≡ Some error) × (new ≡ old) × (after ≡ held)

abbrev pub GoesOn : Result ℕ SpaceFault → SessionState → List ℕ → Result (Unit {0}) SessionError → SessionState → List ℕ → Type 0
GoesOn answer old held (Ok done) new after =
    (listed_by old ≤ length held)
    × (work : Work) × Goes old.table.entries old.found (work_answered old.table.entries old.found old.work answer) held work after × (new ≡ noted (with_work old work))
GoesOn answer old held (Err error) new after = (length held < listed_by old) × (error ≡ Short) × (new ≡ old) × (after ≡ held)
