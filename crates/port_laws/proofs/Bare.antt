-- What an action makes of an outline, it makes of the bare one.
use Rattle.std.proofs.Common.{◌≡◌, ℕ, ◌+◌, Bool, true, false, List, Option, Some, None, refl, sym, ap, subst, ◌∙◌}
use Rattle.std.specs.Prelude.{if◌then◌else◌, nat_lt, length}
use Rattle.std.specs.FinMap.{get}
use Rattle.base_model.specs.Bytes.{part}
use Rattle.record_model.specs.Records.{Stored, is_reserved}
use Rattle.record_model.specs.RecordMap.{Refusal, Write as write_command, Clear as clear_command, refusal_of}
use Rattle.record_store.specs.Store.{Pending, Clearing}
use Rattle.erst_entries.specs.declared.actions.Action.{Action}
use Rattle.erst_entries.specs.declared.actions.Action.TheVariants.{BeginWriteOperation, BeginReadOperation, BeginClearOperation, EndOperation, SetRecordOffset}
use Rattle.erst_entries.specs.declared.actions.Action.TheVariants.{ExecuteOperation, CheckBusyStatus, GetRecordIdentifier, SetRecordIdentifier, GetRecordCount}
use Rattle.erst_entries.specs.declared.actions.Action.TheVariants.{BeginDummyWriteOperation}
use Rattle.erst_device.specs.declared.registers.Operation.{Operation}
use Rattle.erst_device.specs.declared.registers.Operation.TheVariants.{Write, Read, Clear, Dummy}
use Rattle.erst_device.specs.Drafts.{draft_at}
use Rattle.erst_device.specs.Starts.{named}
use Rattle.erst_device.specs.DeviceState.{is_busy}
use Rattle.erst_device.specs.Actions.{told_by}
use Rattle.erst_commands.specs.Equivalence.{DeviceOutline}
use Rattle.erst_commands.proofs.StoreOutlines.{write_pending}
use Rattle.erst_commands.proofs.DeviceOutlines.{running, giving_up, start_by, start_write, show_record, find_record, start_read, start_clear, start, step_on}
use Rattle.erst_commands.proofs.DeviceOutlines.{go_on, find_next, tell, become, range_shown, range_after, looks, IsFound, found_once, Became}
use Rattle.port_laws.specs.Equivalence.{bare}

by_test : (b : Bool) (x y other also : DeviceOutline) → bare x ≡ bare other → bare y ≡ bare also → bare (if b then x else y) ≡ bare (if b then other else also)
by_test true x y other also one two = one
by_test false x y other also one two = two

start_by_bare : (refusal : Option Refusal) (pending : Pending) (o : DeviceOutline) → bare (start_by refusal pending o) ≡ bare (start_by refusal pending (bare o))
start_by_bare None pending o = refl
start_by_bare (Some refusal) pending o = refl

start_write_bare : (draft : Option (ℕ × ℕ)) (o : DeviceOutline) (range : List ℕ) → bare (start_write draft o range) ≡ bare (start_write draft (bare o) range)
start_write_bare None o range = refl
start_write_bare (Some draft) o range =
    start_by_bare (refusal_of o.store.layout (write_command draft.1 (part range o.offset draft.0)) o.store.records)
    (write_pending o.store.layout o.store.records draft.1 (part range o.offset draft.0)) o

show_bare : (beyond : Bool) (id : ℕ) (o : DeviceOutline) → bare (show_record beyond id o) ≡ bare (show_record beyond id (bare o))
show_bare true id o = refl
show_bare false id o = refl

find_bare : (kept : Option (List ℕ × ℕ)) (id : ℕ) (o : DeviceOutline) (range : List ℕ) → bare (find_record kept id o range) ≡ bare (find_record kept id (bare o) range)
find_bare None id o range = refl
find_bare (Some kept) id o range = show_bare (nat_lt (length range) (o.offset + length kept.0)) id o

start_read_bare : (next : Option ℕ) (o : DeviceOutline) (range : List ℕ) → bare (start_read next o range) ≡ bare (start_read next (bare o) range)
start_read_bare None o range = refl
start_read_bare (Some least) o range = find_bare (get o.store.records (named o.id least)) (named o.id least) o range

start_clear_bare : (reserved : Bool) (o : DeviceOutline) → bare (start_clear reserved o) ≡ bare (start_clear reserved (bare o))
start_clear_bare true o = refl
start_clear_bare false o = start_by_bare (refusal_of o.store.layout (clear_command o.id) o.store.records) (Clearing o.id) o

start_bare : (operation : Option Operation) (o : DeviceOutline) (range : List ℕ) (next : Option ℕ) → bare (start operation o range next) ≡ bare (start operation (bare o) range next)
start_bare None o range next = refl
start_bare (Some Write) o range next = start_write_bare (draft_at o.offset range) o range
start_bare (Some Read) o range next = start_read_bare next o range
start_bare (Some Clear) o range next = start_clear_bare (is_reserved o.id) o
start_bare (Some Dummy) o range next = refl

step_bare : (busy : Bool) (o : DeviceOutline) → bare (step_on busy o) ≡ bare (step_on busy (bare o))
step_bare true o = refl
step_bare false o = refl

go_on_bare : (reading : Option ℕ) (o : DeviceOutline) → bare (go_on reading o) ≡ bare (go_on reading (bare o))
go_on_bare None o = step_bare (is_busy o.store.pending) o
go_on_bare (Some id) o = refl

find_next_bare : (next : Option ℕ) (o : DeviceOutline) → bare (find_next next (giving_up o)) ≡ bare (find_next next (giving_up (bare o)))
find_next_bare (Some id) o = refl
find_next_bare None o = refl

tell_bare : (number : Option ℕ) (o : DeviceOutline) → bare (tell number o) ≡ bare (tell number (bare o))
tell_bare (Some number) o = refl
tell_bare None o = refl

become_bare : (action : Option Action) (o : DeviceOutline) (range : List ℕ) (next : Option ℕ) → bare (become action o range next) ≡ bare (become action (bare o) range next)
become_bare (Some BeginWriteOperation) o range next = refl
become_bare (Some BeginReadOperation) o range next = refl
become_bare (Some BeginClearOperation) o range next = refl
become_bare (Some BeginDummyWriteOperation) o range next = refl
become_bare (Some EndOperation) o range next = refl
become_bare (Some SetRecordOffset) o range next = by_test (running o) o (record o { offset = o.value }) (bare o) (record (bare o) { offset = o.value }) refl refl
become_bare (Some SetRecordIdentifier) o range next = by_test (running o) o (record o { id = o.value }) (bare o) (record (bare o) { id = o.value }) refl refl
become_bare (Some ExecuteOperation) o range next =
    by_test (running o) o (start o.operation o range next) (bare o) (start o.operation (bare o) range next) refl (start_bare o.operation o range next)
become_bare (Some CheckBusyStatus) o range next = go_on_bare o.reading o
become_bare (Some GetRecordIdentifier) o range next = find_next_bare next o
become_bare (Some GetRecordCount) o range next = refl
become_bare (Some action) o range next = tell_bare (told_by action o.status o.store.layout) o
become_bare None o range next = refl

shown_bare : (reading : Option ℕ) (o : DeviceOutline) (range : List ℕ) → range_shown reading o range ≡ range_shown reading (bare o) range
shown_bare None o range = refl
shown_bare (Some id) o range = refl

range_bare : (action : Option Action) (o : DeviceOutline) (range : List ℕ) → range_after action o range ≡ range_after action (bare o) range
range_bare (Some CheckBusyStatus) o range = shown_bare o.reading o range
range_bare (Some action) o range = refl
range_bare None o range = refl

looks_bare : (action : Option Action) (o : DeviceOutline) → looks action o ≡ looks action (bare o)
looks_bare (Some ExecuteOperation) o = refl
looks_bare (Some GetRecordIdentifier) o = refl
looks_bare (Some action) o = refl
looks_bare None o = refl

-- two devices whose bare outlines are the same
pub became_alike : (action : Option Action) (one other : DeviceOutline) (range : List ℕ) (one_after : DeviceOutline) (one_range : List ℕ) (other_after : DeviceOutline) (other_range : List ℕ)
    → bare one ≡ bare other → Became action one range one_after one_range → Became action other range other_after other_range → (bare one_after ≡ bare other_after) × (one_range ≡ other_range)
became_alike action one other range one_after one_range other_after other_range equivalent first second =
    let sought : looks action one ≡ looks action other = looks_bare action one ∙ ap (looks action) equivalent ∙ sym (looks_bare action other) in
    let records : one.store.records ≡ other.store.records = ap (λ (o : DeviceOutline). o.store.records) equivalent in
    let back : IsFound (looks action one) one.store.records second.next =
    subst (λ (l : Option ℕ). IsFound l one.store.records second.next) (sym sought)
    (subst (λ (map : Stored). IsFound (looks action other) map second.next) (sym records) second.is_found) in
    let same = found_once (looks action one) one.store.records first.next second.next first.is_found back in (
      ap bare first.outline ∙ become_bare action one range first.next
          ∙ ap (λ (n : Option ℕ). bare (become action (bare one) range n)) same
          ∙ ap (λ (o : DeviceOutline). bare (become action o range second.next)) equivalent
          ∙ sym (become_bare action other range second.next) ∙ sym (ap bare second.outline),
      first.range_is ∙ range_bare action one range ∙ ap (λ (o : DeviceOutline). range_after action o range) equivalent ∙ sym (range_bare action other range) ∙ sym second.range_is,
    )
