-- The laws, from a client's commands by the machine's own table.
use Rattle.std.proofs.Common.{◌≡◌, ℕ, ◌+◌, ◌%◌, ◌^◌, ◌<◌, ◌≤◌, List, length, Option, Result, Ok, refl, ap, arith}
use Rattle.record_model.specs.RecordMap.{Command, Write, Clear, after}
use Rattle.apei_tables.specs.declared.registers.Place.TheVariants.{Memory}
use Rattle.apei_tables.specs.declared.widths.Width.TheVariants.{B32}
use Rattle.apei_space.specs.declared.faults.SpaceFault.{SpaceFault}
use Rattle.apei_space.specs.Calls.{Write as write_call, ReadBytes, WriteBytes}
use Rattle.erst_client.specs.declared.errors.ClientError.{ClientError}
use Rattle.erst_client.specs.declared.requests.Request.{Request}
use Rattle.erst_device.specs.Actions.{log_range_at}
use Rattle.erst_device.specs.DeviceState.{records}
use Rattle.erst_machine.specs.declared.areas.Area.TheVariants.{LogRange}
use Rattle.erst_machine.specs.declared.areas.Location.TheVariants.{Inside}
use Rattle.erst_machine.specs.MachineState.{MachineState, records_of}
use Rattle.erst_machine.proofs.PlaceLemmas.{area_found}
use Rattle.erst_commands.specs.Causes.{HasItsCause, GoesThrough}
use Rattle.erst_commands.specs.Changes.{ChangeCommand, IsTaken, IsRefused, IsFailed, IsStopped}
use Rattle.erst_commands.specs.Looks.{Answers, StopsBehind, StopsAtOnce}
use Rattle.erst_commands.specs.Operations.{ClientOperation, WriteOperation, ReadOperation, ClearOperation, DummyWriteOperation, requests_of}
use Rattle.erst_commands.specs.Runs.{CallFrom, own_table, shown_run, IsSequence, IsCount, IsWrite, IsRead}
use Rattle.erst_commands.specs.Theorems.{timings_in, EachCountIsTheMaps, EachWriteIsTheMaps, EachClearIsTheMaps, EachDummyWriteChangesNothing}
use Rattle.erst_commands.specs.Theorems.{EachReadIsTheMaps, ClientWritesAsTheMap, ClientReadsAsTheMap}
use Rattle.erst_commands.specs.Theorems.{EachSequenceHasItsCause, EachCountHasItsCause, EachNextHasItsCause, EachWriteHasItsCause, EachReadHasItsCause}
use Rattle.erst_commands.specs.Theorems.{EachSequenceGoesThrough, EachCountGoesThrough, EachNextGoesThrough, EachWriteGoesThrough, EachReadGoesThrough}
use Rattle.erst_commands.specs.Attached.{own_client}
use Rattle.erst_commands.specs.Writes.{marked, id_of, WriteAnswered, IsNoRecord, IsWritten}
use Rattle.erst_commands.proofs.WriteLemmas.{written}
use Rattle.erst_commands.proofs.CopyLemmas.{read_out}
use Rattle.erst_commands.proofs.StartLemmas.{write_command, clear_command, dummy_command}
use Rattle.erst_commands.proofs.ReadLemmas.{read_command}
use Rattle.erst_commands.proofs.LookLemmas.{count_command}
use Rattle.erst_commands.proofs.LimitLemmas.{reach-few, reach-least}
use Rattle.erst_commands.proofs.CallCauses.{client_write_cause, client_read_cause}
use Rattle.erst_commands.proofs.CauseLemmas.{count_cause}
use Rattle.erst_commands.proofs.EnoughLemmas.{enough-most}
use Rattle.erst_commands.proofs.OperationLemmas.{operation_cause, operation_through}
use Rattle.erst_commands.proofs.ThroughLemmas.{count_through, client_write_through, client_read_through}
use Rattle.erst_port.specs.declared.windows.Addresses.{Addresses}
use Rattle.erst_port.specs.PortState.{IsPort}
use Rattle.port_laws.specs.PortSpaces.{SpaceState}
use Rattle.port_laws.specs.Looks.{NextRound, IsAbove, IsFirst, IsNone, IsNotFound}
use Rattle.port_laws.specs.Machines.{machine_of, AreShared}
use Rattle.port_laws.specs.PortClients.{port_table, port_client, IsTheMachines, MakesRecords}
use Rattle.port_laws.proofs.AccessLemmas.{action_written, bytes_told, bytes_written}
use Rattle.port_laws.proofs.MachineLemmas.{is_machine}
use Rattle.port_laws.proofs.RoundLemmas.{next_round}
use Rattle.port_laws.proofs.CommandLemmas.{own_runs, sequence_own, write_carried, read_carried, clear_carried, dummy_carried, counts_own, writes_own, reads_own}
use Rattle.erst_machine.specs.Areas.{place_location}

-- Accesses

module _ (addresses : Addresses) (old : SpaceState) where
  pub code_written : (number : ℕ) (answer : Result (Unit {0}) SpaceFault) → (number % 2 ^ 32 ≡ 0xD → ⊥) → (number % 2 ^ 32 ≡ 0x8 → ⊥)
      → IsTheMachines addresses old (write_call (Memory addresses.registers) B32 number answer) (write_call (Memory 0x200000) B32 number answer)
  code_written number answer not_address not_next new goes = action_written addresses old new number (number % 2 ^ 32) answer refl not_address not_next goes

  range_location : IsPort old.port → (k n : ℕ) → 0 < n → k + n ≤ length old.port.range → place_location (length old.port.range) (Memory (log_range_at + k)) n ≡ Inside LogRange k
  range_location port k n some fits = area_found (length old.port.range) LogRange k n (omega (arith, port.range, reach-few old.port.device.store.layout)) some fits

  pub range_read : (k : ℕ) (before after : List ℕ) (answer : Result (Unit {0}) SpaceFault) → 0 < length before → k + length before ≤ length old.port.range
      → IsTheMachines addresses old (ReadBytes (addresses.range + k) before after answer) (ReadBytes (log_range_at + k) before after answer)
  range_read k before after answer some fits new goes =
      (bytes_told addresses old new (addresses.range + k) (log_range_at + k) k refl before after answer some fits (range_location goes.before k (length before) some fits) goes).1

  pub range_written : (k : ℕ) (bytes : List ℕ) (answer : Result (Unit {0}) SpaceFault) → 0 < length bytes → k + length bytes ≤ length old.port.range
      → IsTheMachines addresses old (WriteBytes (addresses.range + k) bytes answer) (WriteBytes (log_range_at + k) bytes answer)
  range_written k bytes answer some fits new goes =
      (bytes_written addresses old new (addresses.range + k) (log_range_at + k) k refl bytes answer some fits (range_location goes.before k (length bytes) some fits) goes).1

-- Runs by the port's table are runs by the machine's own

carried : (operation : ClientOperation) → AreShared (requests_of operation)
carried WriteOperation = write_carried
carried (ReadOperation id) = read_carried id
carried (ClearOperation id) = clear_carried id
carried DummyWriteOperation = dummy_carried

module _ (addresses : Addresses) (first : SpaceState) where
  own_sequence : (timings : Option (ℕ × ℕ)) (operation : ClientOperation) (run : CallFrom first (Unit {0})) → IsSequence (port_table addresses) timings operation run
      → IsSequence (own_table (Unit {0})) timings operation (shown_run (port_table addresses) run)
  own_sequence timings operation run = sequence_own addresses timings (requests_of operation) (carried operation) run.budget first run.answer run.left run.last

  own_count : (run : CallFrom first ℕ) → IsCount (port_table addresses) run → IsCount (own_table (Unit {0})) (shown_run (port_table addresses) run)
  own_count run = counts_own addresses run.budget first run.answer run.left run.last

module _ (first : SpaceState) (port : IsPort first.port) where
  own_write : (bytes : List ℕ) (run : CallFrom first (Unit {0})) → IsWrite (port_table first.port.addresses) (port_client first) bytes run
      → IsWrite (own_table (Unit {0})) (own_client (machine_of first)) bytes (shown_run (port_table first.port.addresses) run)
  own_write bytes run = writes_own first port bytes run.budget run.answer run.left run.last

  own_read : (id : ℕ) → id < 2 ^ 64 → (out after : List ℕ) (run : CallFrom first ℕ) → IsRead (port_table first.port.addresses) (port_client first) id out after run
      → IsRead (own_table (Unit {0})) (own_client (machine_of first)) id out after (shown_run (port_table first.port.addresses) run)
  own_read id small out after run = reads_own first port id small out run.budget run.answer after run.left run.last

-- Commands

-- a change that is answered well was taken
taken : (first last : MachineState) (id : ℕ) (command : Command) (requests : List Request) (budget : ℕ) (result : Result (Unit {0}) ClientError) (left : ℕ) → result ≡ Ok tt
    → ChangeCommand first last id command requests budget result left → records_of last ≡ after first.device.store.layout command (records_of first)
taken first last id command requests budget result left is change =
    (elim change as (λ result left change. result ≡ Ok tt → records_of last ≡ after first.device.store.layout command (records_of first)) [
      | IsTaken pauses left none made_records made spent ↦ λ e. made_records
      | IsRefused refusal error left refused same of made spent ↦ λ e. absurd (cc e)
      | IsFailed pauses left usable rose which leaves checks spent ↦ λ e. absurd (cc e)
      | IsStopped pauses leaves checks short ↦ λ e. absurd (cc e)
    ]) is

module _ (first : SpaceState) (port : IsPort first.port) where
  pub writes_as_the_map : ClientWritesAsTheMap (port_table first.port.addresses) (port_client first) first
  writes_as_the_map bytes run is =
      written (Unit {0}) own_runs tt bytes run.budget (machine_of first) run.answer run.left (machine_of run.last) (is_machine first port) (own_write first port bytes run is)

  by_answer : (bytes : List ℕ) (budget : ℕ) (result : Result (Unit {0}) ClientError) (left : ℕ) (last : MachineState) → result ≡ Ok tt → WriteAnswered bytes budget (machine_of first) result left last
      → records_of last ≡ after first.port.device.store.layout (Write (id_of bytes) (marked bytes)) (records first.port.device)
  by_answer bytes budget result left last is answered =
      (elim answered as (λ result left last answered. result ≡ Ok tt → records_of last ≡ after first.port.device.store.layout (Write (id_of bytes) (marked bytes))
      (records first.port.device)) [
        | IsNoRecord error refused ↦ λ e. absurd (cc e)
        | IsWritten result left last none change ↦ λ e. taken _ last (id_of bytes) (Write (id_of bytes) (marked bytes)) _ budget result left e change
      ]) is

  pub write_made : (bytes : List ℕ) (run : CallFrom first (Unit {0})) → IsWrite (port_table first.port.addresses) (port_client first) bytes run → MakesRecords (Write (id_of bytes) (marked bytes)) run
  write_made bytes run is ok = by_answer bytes run.budget run.answer run.left (machine_of run.last) ok (writes_as_the_map bytes run is)

  pub reads_as_the_map : ClientReadsAsTheMap (port_table first.port.addresses) (port_client first) first
  reads_as_the_map id small out after run is =
      read_out (Unit {0}) own_runs tt id out run.budget (machine_of first) run.answer after run.left (machine_of run.last) (is_machine first port) small (reach-least first.port.device.store.layout)
      (own_read first port id small out after run is)

module _ (addresses : Addresses) (first : SpaceState) where
  pub write_is_the_maps : EachWriteIsTheMaps (port_table addresses) first
  write_is_the_maps id bytes holds fits run is =
      write_command (Unit {0}) own_runs tt (machine_of first) id bytes holds fits run.budget run.answer run.left (machine_of run.last)
      (own_sequence addresses first (timings_in (port_table addresses) first) WriteOperation run is)

  pub read_is_the_maps : IsPort first.port → EachReadIsTheMaps (port_table addresses) first
  read_is_the_maps port id small timings run is =
      read_command (Unit {0}) own_runs tt (machine_of first) (is_machine first port) id small timings run.budget run.answer run.left (machine_of run.last)
      (own_sequence addresses first timings (ReadOperation id) run is)

  pub clear_is_the_maps : EachClearIsTheMaps (port_table addresses) first
  clear_is_the_maps id small run is =
      clear_command (Unit {0}) own_runs tt (machine_of first) id small run.budget run.answer run.left (machine_of run.last)
      (own_sequence addresses first (timings_in (port_table addresses) first) (ClearOperation id) run is)

  pub clear_made : (id : ℕ) → id < 2 ^ 64 → (run : CallFrom first (Unit {0})) → IsSequence (port_table addresses) (timings_in (port_table addresses) first)
      (ClearOperation id) run → MakesRecords (Clear id) run
  clear_made id small run is ok = taken (machine_of first) (machine_of run.last) id (Clear id) _ run.budget run.answer run.left ok (clear_is_the_maps id small run is)

  pub dummy_changes_nothing : EachDummyWriteChangesNothing (port_table addresses) first
  dummy_changes_nothing run is =
      dummy_command (Unit {0}) own_runs (machine_of first) run.budget run.answer run.left (machine_of run.last)
      (own_sequence addresses first (timings_in (port_table addresses) first) DummyWriteOperation run is)

  pub count_is_the_maps : EachCountIsTheMaps (port_table addresses) first
  count_is_the_maps run is = count_command (Unit {0}) own_runs tt run.budget (machine_of first) run.answer run.left (machine_of run.last) (own_count addresses first run is)

-- Causes

-- the action of a next identifier
round_caused : (first last : MachineState) (result : Result (Option ℕ) ClientError) → NextRound first last result → HasItsCause first last result
round_caused first last result round = elim round as (λ result round. HasItsCause first last result) [
  | IsAbove id asked least cursor ↦ record { never_falls = asked.looked.never_falls; hardware = λ e. absurd (cc e) }
  | IsFirst id asked none least cursor ↦ record { never_falls = asked.looked.never_falls; hardware = λ e. absurd (cc e) }
  | IsNone asked none empty cursor ↦ record { never_falls = asked.looked.never_falls; hardware = λ e. absurd (cc e) }
  | IsNotFound failed ↦ record { never_falls = failed.looked.never_falls; hardware = λ e. failed.rose }
]

module _ (addresses : Addresses) (first : SpaceState) where
  pub sequence_caused : EachSequenceHasItsCause (port_table addresses) first
  sequence_caused timings operation run is =
      operation_cause (Unit {0}) own_runs (machine_of first) timings operation (shown_run (port_table addresses) run) (own_sequence addresses first timings operation run is)

  pub count_caused : EachCountHasItsCause (port_table addresses) first
  count_caused run is = count_cause (Unit {0}) own_runs run.budget (machine_of first) run.answer run.left (machine_of run.last) (own_count addresses first run is)

  pub next_caused : EachNextHasItsCause (port_table addresses) first
  next_caused run is =
      elim (next_round addresses run.budget first run.answer run.left run.last is) as (λ result left asks. HasItsCause (machine_of first) (machine_of run.last) result) [
        | Answers result left made spent ↦ round_caused (machine_of first) (machine_of run.last) result made
        | StopsBehind result made one ↦ record { never_falls = (round_caused (machine_of first) (machine_of run.last) result made).never_falls; hardware = λ e. absurd (cc e) }
        | StopsAtOnce none same ↦ record { never_falls = faults_kept run.last same; hardware = λ e. absurd (cc e) }
      ]
    where
      faults_kept : (last : SpaceState) → machine_of last ≡ machine_of first → first.port.device.store.flash.faults ≤ last.port.device.store.flash.faults
      faults_kept last same = let kept : last.port.device.store.flash.faults ≡ first.port.device.store.flash.faults = ap (λ (m : MachineState). m.device.store.flash.faults) same in omega (arith, kept)

module _ (first : SpaceState) (port : IsPort first.port) where
  pub write_caused : EachWriteHasItsCause (port_table first.port.addresses) (port_client first) first
  write_caused bytes run is = client_write_cause (Unit {0}) own_runs bytes run.budget (machine_of first) run.answer run.left (machine_of run.last) (own_write first port bytes run is)

  pub read_caused : (id : ℕ) → id < 2 ^ 64 → EachReadHasItsCause (port_table first.port.addresses) (port_client first) id first
  read_caused id small out after run is = client_read_cause (Unit {0}) own_runs id out run.budget (machine_of first) run.answer after run.left
      (machine_of run.last) (own_read first port id small out after run is)

-- Steps

round_goes : (first last : MachineState) (result : Result (Option ℕ) ClientError) → NextRound first last result → GoesThrough result
round_goes first last result round = elim round as (λ result round. GoesThrough result) [
  | IsAbove id asked least cursor ↦ record { not_stopped = λ stop e. absurd (cc e); in_time = λ waited e. absurd (cc e) }
  | IsFirst id asked none least cursor ↦ record { not_stopped = λ stop e. absurd (cc e); in_time = λ waited e. absurd (cc e) }
  | IsNone asked none empty cursor ↦ record { not_stopped = λ stop e. absurd (cc e); in_time = λ waited e. absurd (cc e) }
  | IsNotFound failed ↦ record { not_stopped = λ stop e. absurd (cc e); in_time = λ waited e. absurd (cc e) }
]

module _ (addresses : Addresses) (first : SpaceState) where
  pub count_goes : EachCountGoesThrough (port_table addresses) first
  count_goes run enough is = count_through (Unit {0}) own_runs (machine_of first) run.budget enough run.answer run.left (machine_of run.last) (own_count addresses first run is)

  pub next_goes : EachNextGoesThrough (port_table addresses) first
  next_goes run enough is =
      let many : 2 ≤ run.budget = omega (arith, enough-most (machine_of first), enough) in
      elim (next_round addresses run.budget first run.answer run.left run.last is) as (λ result left asks. GoesThrough result) [
        | Answers result left made spent ↦ round_goes (machine_of first) (machine_of run.last) result made
        | StopsBehind result made one ↦ absurd (omega (arith, many, one))
        | StopsAtOnce none same ↦ absurd (omega (arith, many, none))
      ]

module _ (first : SpaceState) (port : IsPort first.port) where
  pub sequence_goes : EachSequenceGoesThrough (port_table first.port.addresses) first
  sequence_goes operation given run enough is =
      operation_through (Unit {0}) own_runs (machine_of first) (is_machine first port) operation given (shown_run (port_table first.port.addresses) run) enough
      (own_sequence first.port.addresses first (timings_in (port_table first.port.addresses) first) operation run is)

  pub write_goes : EachWriteGoesThrough (port_table first.port.addresses) (port_client first) first
  write_goes bytes run enough is =
      client_write_through (Unit {0}) own_runs (machine_of first) (is_machine first port) run.budget enough bytes run.answer run.left (machine_of run.last) (own_write first port bytes run is)

  pub read_goes : EachReadGoesThrough (port_table first.port.addresses) (port_client first) first
  read_goes id small out after run enough is =
      client_read_through (Unit {0}) own_runs (machine_of first) (is_machine first port) run.budget enough id small out run.answer after run.left (machine_of run.last)
      (own_read first port id small out after run is)
