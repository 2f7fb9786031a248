-- A sequence by the table says that the flash failed only where its count of faults rose.
use Rattle.std.proofs.Common.{◌≡◌, ℕ, ◌≤◌, List, Option, Result, sym, ap, subst}
use Rattle.base_model.specs.Faults.{Rose}
use Rattle.base_model.specs.Layout.{room_of, reach_of}
use Rattle.record_store.specs.Store.{StoreView}
use Rattle.erst_client.specs.declared.errors.ClientError.{ClientError}
use Rattle.erst_client.specs.Commands.{Writes, Reads}
use Rattle.erst_client.specs.declared.requests.Request.{Request}
use Rattle.erst_client.specs.Sequences.{write_requests, read_requests, clear_requests, dummy_requests, Sequence}
use Rattle.erst_machine.specs.MachineState.{MachineState, IsMachine}
use Rattle.erst_machine.specs.Allowed.{Allows}
use Rattle.erst_machine.specs.OwnTables.{own_entries}
use Rattle.erst_commands.specs.OwnPrograms.{OwnProgramsRun}
use Rattle.erst_commands.specs.Attached.{own_client}
use Rattle.erst_commands.specs.Causes.{HasItsCause}
use Rattle.erst_commands.proofs.CallCauses.{write_cause, clear_cause, dummy_cause, read_cause, writes_cause, reads_cause}
use Rattle.erst_shadow.specs.ShadowTables.{shadow_entries, pieces_of}
use Rattle.erst_shadow.specs.ShadowMoves.{holding}
use Rattle.erst_shadow.specs.ShadowSequences.{SequenceAsOwn}
use Rattle.erst_shadow.specs.ShadowCommands.{pieces_in, shadow_client}
use Rattle.erst_shadow.proofs.SequenceLemmas.{write_as_own, clear_as_own, read_as_own, dummy_as_own}
use Rattle.erst_shadow.proofs.CommandLemmas.{holds_pieces}
use Rattle.erst_shadow.proofs.Terms.{HoldsPieces, range_with_record}

module _ (tells : Type 0) (own : OwnProgramsRun tells) (pieces : ℕ) (timings : Option (ℕ × ℕ)) (budget : ℕ) (first : MachineState)
    (rooms : HoldsPieces first pieces) (result : Result (Unit {0}) ClientError) (left : ℕ) (last : MachineState) where
  -- the device of the machine beside the last is that of the last
  moved_cause : (requests : List Request) → SequenceAsOwn tells pieces timings requests budget first result left last
      → ((b : ℕ) (m : MachineState) (l : ℕ) (v : MachineState) → Sequence (Allows tells) own_entries timings requests b m result l v → HasItsCause m v result) → HasItsCause first last result
  moved_cause requests is causes =
      let cause = causes is.own_budget (holding (range_with_record pieces first) is.scratch first) is.own_left is.own_last is.sequence in
      let same = ap (λ (m : MachineState). m.device.store.flash.faults) is.last_is in
      record {
        never_falls = subst (λ (n : ℕ). first.device.store.flash.faults ≤ n) (sym same) cause.never_falls;
        hardware = λ e. subst (λ (n : ℕ). Rose first.device.store.flash.faults n) (sym same) (cause.hardware e);
      }

  pub shadow_write_cause : Sequence (Allows tells) (shadow_entries pieces) timings write_requests budget first result left last → HasItsCause first last result
  shadow_write_cause sequence = moved_cause write_requests (write_as_own tells own pieces timings budget first rooms result left last sequence)
      (λ b m l v s. write_cause tells own timings b m result l v s)

  pub shadow_clear_cause : (id : ℕ) → Sequence (Allows tells) (shadow_entries pieces) timings (clear_requests id) budget first result left last → HasItsCause first last result
  shadow_clear_cause id sequence = moved_cause (clear_requests id) (clear_as_own tells own pieces timings budget first rooms result left last id sequence)
      (λ b m l v s. clear_cause tells own id timings b m result l v s)

  pub shadow_dummy_cause : Sequence (Allows tells) (shadow_entries pieces) timings dummy_requests budget first result left last → HasItsCause first last result
  shadow_dummy_cause sequence = moved_cause dummy_requests (dummy_as_own tells own pieces timings budget first rooms result left last sequence)
      (λ b m l v s. dummy_cause tells own timings b m result l v s)

  pub shadow_read_cause : (id : ℕ) → Sequence (Allows tells) (shadow_entries pieces) timings (read_requests id) budget first result left last → HasItsCause first last result
  shadow_read_cause id sequence = moved_cause (read_requests id) (read_as_own tells own pieces timings budget first rooms result left last id sequence)
      (λ b m l v s. read_cause tells own id timings b m result l v s)

-- A client's write and read

module _ (tells : Type 0) (own : OwnProgramsRun tells) (first : MachineState) (machine : IsMachine first) where
  -- a machine with the same store has room for as many pieces
  same_room : (mid : MachineState) → IsMachine mid → mid.device.store ≡ first.device.store → HoldsPieces mid (pieces_in first)
  same_room mid is same = subst (λ (s : StoreView). HoldsPieces mid (pieces_of (reach_of (room_of s.layout)))) same (holds_pieces mid is)

  pub client_write_cause : (bytes : List ℕ) (budget : ℕ) (result : Result (Unit {0}) ClientError) (left : ℕ) (last : MachineState) →
      Writes (Allows tells) (shadow_client first) bytes budget first result left last → HasItsCause first last result
  client_write_cause bytes budget result left last =
      writes_cause tells (shadow_client first) bytes budget first result left last
      (λ mid result left last kept same. shadow_write_cause tells own (pieces_in first) (own_client first).timings budget mid (same_room mid (kept machine) same) result left last)

  pub client_read_cause : (id : ℕ) (out : List ℕ) (budget : ℕ) (result : Result ℕ ClientError) (after : List ℕ) (left : ℕ) (last : MachineState) →
      Reads (Allows tells) (shadow_client first) id out budget first result after left last
      → HasItsCause first last result
  client_read_cause id out budget result after left last =
      reads_cause tells (shadow_client first) id out budget first result after left last
      (λ result left last. shadow_read_cause tells own (pieces_in first) (own_client first).timings budget first (holds_pieces first machine) result left last id)
