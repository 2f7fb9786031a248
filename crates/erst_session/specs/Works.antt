-- A command of a session: where it begins, what it wants, where an answer leads, and its end.
use Rattle.std.specs.Prelude.{◌≡◌, ℕ, Bool, List, Option, Some, None, Result, Ok, Err}
use Rattle.apei_space.specs.declared.faults.SpaceFault.{SpaceFault}
use Rattle.erst_entries.specs.declared.actions.Action.TheVariants.{GetRecordCount, GetRecordIdentifier}
use Rattle.erst_entries.specs.declared.entries.Entry.{Entry}
use Rattle.erst_interp.specs.Told.{demanded, ended, is_sound_state}
use Rattle.erst_client.specs.declared.asking.Asking.{Asking}
use Rattle.erst_client.specs.declared.attaching.FoundRange.{FoundRange}
use Rattle.erst_client.specs.declared.errors.AttachError.{AttachError}
use Rattle.erst_client.specs.declared.errors.ClientError.{ClientError}
use Rattle.erst_client.specs.declared.finding.Finding.{Finding}
use Rattle.erst_client.specs.declared.positions.Position.{Position}
use Rattle.erst_client.specs.declared.reading.Reading.{Reading}
use Rattle.erst_client.specs.declared.stages.Command.TheVariants.{Clear as ClearCommand, Dummy as DummyCommand}
use Rattle.erst_client.specs.declared.stages.Part.TheVariants.{Begin}
use Rattle.erst_client.specs.declared.stages.Stage.TheVariants.{Requesting}
use Rattle.erst_client.specs.declared.writing.Writing.{Writing}
use Rattle.erst_client.specs.Asking.{asking_first, asking_answered, counted_by, named_by, AskingMoves}
use Rattle.erst_client.specs.Finding.{finding_demanded, finding_answered, finding_result, is_sound_finding, FindingMoves}
use Rattle.erst_client.specs.Positions.{entered, demanded_at, answered_at, result_at, is_sound_at, Moves}
use Rattle.erst_client.specs.Reading.{read_first, read_demanded, read_answered, read_result, is_sound_read, ReadMoves}
use Rattle.erst_client.specs.Timings.{enough_steps}
use Rattle.erst_client.specs.Writing.{write_demanded, write_answered, write_result, is_sound_write, WriteMoves}
use Rattle.erst_listing.specs.declared.errors.ListError.{ListError}
use Rattle.erst_listing.specs.declared.errors.ListError.TheVariants.{Full as ListFull, Refused}
use Rattle.erst_listing.specs.declared.listing.Listing.{Listing}
use Rattle.erst_listing.specs.Listing.{listing_first, listing_demanded, listing_answered, listing_result, is_sound_listing, ListingMoves}
use Rattle.erst_listing.specs.Listing.{listed_by as listed_of}
use Rattle.erst_session.specs.declared.demands.WorkDemand.{WorkDemand}
use Rattle.erst_session.specs.declared.errors.WorkError.{WorkError}
use Rattle.erst_session.specs.declared.errors.WorkError.TheVariants.{Attach, Client, NoMore, Full}
use Rattle.erst_session.specs.declared.orders.Order.{Order}
use Rattle.erst_session.specs.declared.orders.Order.TheVariants.{Read, Clear, Dummy, Count, Next, List as ListAll}
use Rattle.erst_session.specs.declared.works.Work.{Work}
use Rattle.erst_session.specs.declared.works.Work.TheVariants.{Attaching, Writing as Writes, Reading as Reads, Running, Counting, Naming, Listing as Lists}
use Rattle.erst_session.specs.Demands.{of_access, of_write, of_read}

-- the steps of a command
abbrev pub enough : FoundRange → ℕ
enough found = enough_steps found.timings

abbrev pub work_first : List Entry → FoundRange → Order → Work
work_first entries found (Read id room) = Reads id room (read_first entries id (enough found))
work_first entries found (Clear id) = Running (ClearCommand id) (entered entries (ClearCommand id) (Requesting Begin) (enough found))
work_first entries found Dummy = Running DummyCommand (entered entries DummyCommand (Requesting Begin) (enough found))
work_first entries found Count = Counting (asking_first entries GetRecordCount (enough found))
work_first entries found Next = Naming (asking_first entries GetRecordIdentifier (enough found))
work_first entries found ListAll = Lists (listing_first entries (enough found))

abbrev pub work_demanded : FoundRange → Work → Option WorkDemand
work_demanded found (Attaching at) = of_access (finding_demanded at)
work_demanded found (Writes at) = of_write (write_demanded found at)
work_demanded found (Reads id room at) = of_read (read_demanded found at)
work_demanded found (Running command at) = of_access (demanded_at found.timings at)
work_demanded found (Counting at) = of_access (demanded at.state)
work_demanded found (Naming at) = of_access (demanded at.state)
work_demanded found (Lists at) = of_access (listing_demanded at)

abbrev pub work_answered : List Entry → FoundRange → Work → Result ℕ SpaceFault → Work
work_answered entries found (Attaching at) answer = Attaching (finding_answered at answer)
work_answered entries found (Writes at) answer = Writes (write_answered entries (enough found) at answer)
work_answered entries found (Reads id room at) answer = Reads id room (read_answered entries found.len id room at answer)
work_answered entries found (Running command at) answer = Running command (answered_at entries command at answer)
work_answered entries found (Counting at) answer = Counting (asking_answered at answer)
work_answered entries found (Naming at) answer = Naming (asking_answered at answer)
work_answered entries found (Lists at) answer = Lists (listing_answered at answer)

-- what it does without an access, with a listing's buffer before and after
abbrev pub Goes : List Entry → FoundRange → Work → List ℕ → Work → List ℕ → Type 0
Goes entries found (Attaching old) held new after = (at : Finding) × FindingMoves entries old at × (new ≡ Attaching at) × (after ≡ held)
Goes entries found (Writes old) held new after = (at : Writing) × WriteMoves entries found.timings old at × (new ≡ Writes at) × (after ≡ held)
Goes entries found (Reads id room old) held new after = (at : Reading) × ReadMoves entries id found.timings old at × (new ≡ Reads id room at) × (after ≡ held)
Goes entries found (Running command old) held new after = (at : Position) × Moves entries command found.timings old at × (new ≡ Running command at) × (after ≡ held)
Goes entries found (Counting old) held new after = (at : Asking) × AskingMoves entries old at × (new ≡ Counting at) × (after ≡ held)
Goes entries found (Naming old) held new after = (at : Asking) × AskingMoves entries old at × (new ≡ Naming at) × (after ≡ held)
Goes entries found (Lists old) held new after = (at : Listing) × ListingMoves entries (enough found) old held at after × (new ≡ Lists at)

abbrev pub is_sound_work : Work → Bool
is_sound_work (Attaching at) = is_sound_finding at
is_sound_work (Writes at) = is_sound_write at
is_sound_work (Reads id room at) = is_sound_read at
is_sound_work (Running command at) = is_sound_at at
is_sound_work (Counting at) = is_sound_state at.state
is_sound_work (Naming at) = is_sound_state at.state
is_sound_work (Lists at) = is_sound_listing at

abbrev pub listed_in : Work → ℕ
listed_in (Lists at) = listed_of at
listed_in work = 0

-- what attaching found
abbrev pub found_of : Option (Result FoundRange AttachError) → Option FoundRange
found_of None = None
found_of (Some (Ok found)) = Some found
found_of (Some (Err error)) = None

abbrev pub found_by : Work → Option FoundRange
found_by (Attaching at) = found_of (finding_result at)
found_by work = None

-- its answer
abbrev pub result_of_finding : Option (Result FoundRange AttachError) → Option (Result ℕ WorkError)
result_of_finding None = None
result_of_finding (Some (Ok found)) = Some (Ok 0)
result_of_finding (Some (Err error)) = Some (Err (Attach error))

abbrev pub result_of : Option (Result (Unit {0}) ClientError) → Option (Result ℕ WorkError)
result_of None = None
result_of (Some (Ok done)) = Some (Ok 0)
result_of (Some (Err error)) = Some (Err (Client error))

abbrev pub result_of_read : Option (Result ℕ ClientError) → Option (Result ℕ WorkError)
result_of_read None = None
result_of_read (Some (Ok len)) = Some (Ok len)
result_of_read (Some (Err error)) = Some (Err (Client error))

abbrev pub result_of_asking : Option (Result ℕ ClientError) → Option (Result ℕ WorkError)
result_of_asking None = None
result_of_asking (Some (Ok count)) = Some (Ok count)
result_of_asking (Some (Err error)) = Some (Err (Client error))

abbrev pub result_of_next : Option (Result (Option ℕ) ClientError) → Option (Result ℕ WorkError)
result_of_next None = None
result_of_next (Some (Ok (Some id))) = Some (Ok id)
result_of_next (Some (Ok None)) = Some (Err NoMore)
result_of_next (Some (Err error)) = Some (Err (Client error))

abbrev pub result_of_listing : Option (Result (Unit {0}) ListError) → ℕ → Option (Result ℕ WorkError)
result_of_listing None listed = None
result_of_listing (Some (Ok done)) listed = Some (Ok listed)
result_of_listing (Some (Err ListFull)) listed = Some (Err Full)
result_of_listing (Some (Err (Refused error))) listed = Some (Err (Client error))

abbrev pub work_result : Work → Option (Result ℕ WorkError)
work_result (Attaching at) = result_of_finding (finding_result at)
work_result (Writes at) = result_of (write_result at)
work_result (Reads id room at) = result_of_read (read_result at)
work_result (Running command at) = result_of (result_at at.stage)
work_result (Counting at) = result_of_asking (counted_by (ended at.state))
work_result (Naming at) = result_of_next (named_by (ended at.state))
work_result (Lists at) = result_of_listing (listing_result at) (listed_of at)
