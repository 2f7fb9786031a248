-- With the steps that are enough by the machine's timings each command goes through, whatever the flash tells.
use Rattle.std.proofs.Common.{◌≡◌, ◌∙◌, ℕ, ◌+◌, ◌*◌, ◌/◌, ◌^◌, ◌≤◌, ◌<◌, List, length, Option, Some, Result, sym, subst, arith}
use Rattle.std.specs.Prelude.{min}
use Rattle.base_model.specs.Layout.{Layout, room_of, reach_of}
use Rattle.erst_client.specs.declared.errors.ClientError.{ClientError}
use Rattle.erst_client.specs.declared.requests.Request.{Request}
use Rattle.erst_client.specs.Commands.{Writes, Reads}
use Rattle.erst_client.specs.Sequences.{Sequence, write_requests, read_requests, clear_requests, dummy_requests}
use Rattle.erst_client.specs.Timings.{enough_steps}
use Rattle.erst_device.specs.Timings.{most_changes}
use Rattle.erst_machine.specs.MachineState.{MachineState, IsMachine, reach_in}
use Rattle.erst_machine.specs.Allowed.{Allows}
use Rattle.erst_commands.specs.OwnPrograms.{OwnProgramsRun}
use Rattle.erst_commands.specs.Attached.{own_client}
use Rattle.erst_commands.specs.Causes.{GoesThrough}
use Rattle.erst_commands.proofs.EnoughLemmas.{HasSteps}
use Rattle.erst_commands.proofs.LimitLemmas.{most-small}
use Rattle.erst_commands.proofs.ThroughLemmas.{write_through as own_write_through, clear_through as own_clear_through, read_through as own_read_through}
use Rattle.erst_commands.proofs.ThroughLemmas.{dummy_through as own_dummy_through, writes_through, reads_through}
use Rattle.erst_shadow.specs.ShadowTables.{shadow_entries, pieces_of}
use Rattle.erst_shadow.specs.ShadowMoves.{holding}
use Rattle.erst_shadow.specs.ShadowSequences.{SequenceAsOwn}
use Rattle.erst_shadow.specs.ShadowCommands.{pieces_in, shadow_client}
use Rattle.erst_shadow.proofs.CommandLemmas.{holds_pieces, length_moved}
use Rattle.erst_shadow.proofs.NeedLemmas.{own_paid}
use Rattle.erst_shadow.proofs.SequenceLemmas.{write_as_own, clear_as_own, read_as_own, dummy_as_own}
use Rattle.erst_shadow.proofs.Terms.{range_with_record}

-- they are those of the most changes, of a read and of both moves
pub enough-all : (state : MachineState) → 16 * pieces_in state + 22 + 2 * most_changes state.device.store.layout ≤ enough_steps (own_client state).timings
enough-all state = by_number (most_changes state.device.store.layout) (pieces_in state) (most-small state.device.store.layout) (omega arith)
  where
    by_number : (n pieces : ℕ) → n ≤ 2058 → pieces ≤ 31 → 16 * pieces + 22 + 2 * n ≤ min (1024 + 8 * (10 * n / 10 + 2)) 1048576
    by_number n pieces few less = omega arith

module _ (tells : Type 0) (own : OwnProgramsRun tells) (first : MachineState) (machine : IsMachine first) (budget : ℕ) (enough : enough_steps (own_client first).timings ≤ budget) where
  -- the machine's own programs have all of them but those of both moves
  own_steps : (requests : List Request) (result : Result (Unit {0}) ClientError) (left : ℕ) (last : MachineState)
      (is : SequenceAsOwn tells (pieces_in first) (own_client first).timings requests budget first result left last)
      → HasSteps first.device.store.layout is.own_budget
  own_steps requests result left last is =
      let paid = own_paid (pieces_in first) budget result left is.own_budget is.own_left is.paid in
      omega (arith, enough-all first, enough, paid)

  own_range : length (range_with_record (pieces_in first) first) ≡ reach_in first.device
  own_range = length_moved first (pieces_in first) (holds_pieces first machine) ∙ machine.sizes.range

  pub write_through : (result : Result (Unit {0}) ClientError) (left : ℕ) (last : MachineState) → Sequence (Allows tells) (shadow_entries (pieces_in first))
      (own_client first).timings write_requests budget first result left last
      → GoesThrough result
  write_through result left last sequence =
      let is = write_as_own tells own (pieces_in first) (own_client first).timings budget first (holds_pieces first machine) result left last sequence in
      own_write_through tells own (holding (range_with_record (pieces_in first) first) is.scratch first) is.own_budget
      (own_steps write_requests result left last is) own_range result is.own_left is.own_last is.sequence

  pub clear_through : (id : ℕ) → id < 2 ^ 64 → (result : Result (Unit {0}) ClientError) (left : ℕ) (last : MachineState)
      → Sequence (Allows tells) (shadow_entries (pieces_in first)) (own_client first).timings (clear_requests id) budget first result left last → GoesThrough result
  clear_through id small result left last sequence =
      let is = clear_as_own tells own (pieces_in first) (own_client first).timings budget first (holds_pieces first machine) result left last id sequence in
      own_clear_through tells own (holding (range_with_record (pieces_in first) first) is.scratch first) is.own_budget
      (own_steps (clear_requests id) result left last is) own_range id small result is.own_left is.own_last is.sequence

  pub read_through : (id : ℕ) → id < 2 ^ 64 → (result : Result (Unit {0}) ClientError) (left : ℕ) (last : MachineState)
      → Sequence (Allows tells) (shadow_entries (pieces_in first)) (own_client first).timings (read_requests id) budget first result left last → GoesThrough result
  read_through id small result left last sequence =
      let is = read_as_own tells own (pieces_in first) (own_client first).timings budget first (holds_pieces first machine) result left last id sequence in
      own_read_through tells own (holding (range_with_record (pieces_in first) first) is.scratch first) is.own_budget
      (own_steps (read_requests id) result left last is) own_range id small result is.own_left is.own_last is.sequence

  pub dummy_through : (result : Result (Unit {0}) ClientError) (left : ℕ) (last : MachineState) → Sequence (Allows tells) (shadow_entries (pieces_in first))
      (own_client first).timings dummy_requests budget first result left last
      → GoesThrough result
  dummy_through result left last sequence =
      let is = dummy_as_own tells own (pieces_in first) (own_client first).timings budget first (holds_pieces first machine) result left last sequence in
      own_dummy_through tells own (holding (range_with_record (pieces_in first) first) is.scratch first) is.own_budget
      (own_steps dummy_requests result left last is) own_range result is.own_left is.own_last is.sequence

-- A client's write and read

module _ (tells : Type 0) (own : OwnProgramsRun tells) (first : MachineState) (machine : IsMachine first) (budget : ℕ) (enough : enough_steps (own_client first).timings ≤ budget) where
  abbrev pieces_by : Layout → ℕ
  pieces_by layout = pieces_of (reach_of (room_of layout))

  abbrev timings_by : Layout → Option (ℕ × ℕ)
  timings_by layout = Some (10 * most_changes layout, 10 * (layout.per_slot + 4))

  -- a machine with the same layout has the same client
  asked_through : (mid : MachineState) (result : Result (Unit {0}) ClientError) (left : ℕ) (last : MachineState) → IsMachine mid → mid.device.store.layout ≡ first.device.store.layout
      → Sequence (Allows tells) (shadow_entries (pieces_in first)) (own_client first).timings write_requests budget mid result left last → GoesThrough result
  asked_through mid result left last is same sequence =
      write_through tells own mid is budget (subst (λ (l : Layout). enough_steps (timings_by l) ≤ budget) (sym same) enough) result left last
      (subst (λ (l : Layout). Sequence (Allows tells) (shadow_entries (pieces_by l)) (timings_by l) write_requests budget mid result left last) (sym same) sequence)

  pub client_write_through : (bytes : List ℕ) (result : Result (Unit {0}) ClientError) (left : ℕ) (last : MachineState) →
      Writes (Allows tells) (shadow_client first) bytes budget first result left last → GoesThrough result
  client_write_through bytes result left last = writes_through tells (shadow_client first) bytes budget first machine result left last asked_through

  pub client_read_through : (id : ℕ) → id < 2 ^ 64 → (out : List ℕ) (result : Result ℕ ClientError) (after : List ℕ) (left : ℕ) (last : MachineState) →
      Reads (Allows tells) (shadow_client first) id out budget first result after left last
      → GoesThrough result
  client_read_through id small out result after left last =
      reads_through tells (shadow_client first) id out budget first result after left last (read_through tells own first machine budget enough id small)
