-- Each call of a client over the machine's own table has its cause.
use Rattle.std.proofs.Common.{◌≡◌, ℕ, ◌≤◌, true, List, [], ◌∷◌, length, Option, Result, Ok, Err, refl, sym, ap, subst, ◌∙◌, arith}
use Rattle.base_model.specs.Faults.{Rose}
use Rattle.base_model.specs.Bytes.{number_at}
use Rattle.apei_space.specs.declared.faults.SpaceFault.{SpaceFault}
use Rattle.record_store.specs.Store.{StoreView}
use Rattle.erst_entries.specs.declared.actions.Action.TheVariants.{BeginWriteOperation, BeginReadOperation, BeginClearOperation, BeginDummyWriteOperation}
use Rattle.erst_entries.specs.declared.actions.Action.TheVariants.{SetRecordOffset, SetRecordIdentifier, ExecuteOperation}
use Rattle.erst_client.specs.declared.errors.ClientError.{ClientError}
use Rattle.erst_client.specs.declared.errors.ClientError.TheVariants.{Hardware, Range}
use Rattle.erst_client.specs.Commands.{ClientState, Writes, IsNoRecord, IsNotPut, IsAsked, CopiesOut, IsFilled, IsNotFilled, copied, Reads, IsNotRead, HasNoLength, IsNotCopied, IsCopied}
use Rattle.erst_client.specs.Sequences.{write_requests, read_requests, clear_requests, dummy_requests, Sequence}
use Rattle.erst_client.proofs.RefusalLemmas.{is_own, write_own, copy_own}
use Rattle.erst_device.specs.declared.registers.Operation.TheVariants as operations
use Rattle.erst_machine.specs.MachineState.{MachineState, IsMachine}
use Rattle.erst_machine.specs.Allowed.{Allows}
use Rattle.erst_machine.specs.OwnTables.{own_entries}
use Rattle.erst_commands.specs.OwnPrograms.{OwnProgramsRun}
use Rattle.erst_commands.specs.Attached.{own_client}
use Rattle.erst_commands.specs.Causes.{HasItsCause}
use Rattle.erst_commands.proofs.SequenceLemmas.{begin_run}
use Rattle.erst_commands.proofs.OwnProgramLemmas.{steps-begin_write, steps-begin_read, steps-begin_clear, steps-begin_dummy}
use Rattle.erst_commands.proofs.CauseLemmas.{sequence_cause}
use Rattle.erst_commands.proofs.PutLemmas.{has_put}

-- The sequences

module _ (tells : Type 0) (own : OwnProgramsRun tells) where
  pub write_cause : (timings : Option (ℕ × ℕ)) (budget : ℕ) (first : MachineState) (result : Result (Unit {0}) ClientError) (left : ℕ) (last : MachineState)
      → Sequence (Allows tells) own_entries timings write_requests budget first result left last → HasItsCause first last result
  write_cause timings budget first =
      sequence_cause tells own first BeginWriteOperation operations.Write (record { action = SetRecordOffset; given = 0 } ∷ record { action = ExecuteOperation; given = 0 } ∷ [])
      (λ budget result left last run. begin_run tells own first BeginWriteOperation operations.Write refl refl refl (λ m. refl) steps-begin_write refl budget result left last run) timings budget

  pub read_cause : (id : ℕ) (timings : Option (ℕ × ℕ)) (budget : ℕ) (first : MachineState) (result : Result (Unit {0}) ClientError) (left : ℕ) (last : MachineState)
      → Sequence (Allows tells) own_entries timings (read_requests id) budget first result left last → HasItsCause first last result
  read_cause id timings budget first =
      sequence_cause tells own first BeginReadOperation operations.Read
      (record { action = SetRecordOffset; given = 0 } ∷ record { action = SetRecordIdentifier; given = id } ∷ record { action = ExecuteOperation; given = 0 } ∷ [])
      (λ budget result left last run. begin_run tells own first BeginReadOperation operations.Read refl refl refl (λ m. refl) steps-begin_read refl budget result left last run) timings budget

  pub clear_cause : (id : ℕ) (timings : Option (ℕ × ℕ)) (budget : ℕ) (first : MachineState) (result : Result (Unit {0}) ClientError) (left : ℕ) (last : MachineState)
      → Sequence (Allows tells) own_entries timings (clear_requests id) budget first result left last → HasItsCause first last result
  clear_cause id timings budget first =
      sequence_cause tells own first BeginClearOperation operations.Clear (record { action = SetRecordIdentifier; given = id } ∷ record { action = ExecuteOperation; given = 0 } ∷ [])
      (λ budget result left last run. begin_run tells own first BeginClearOperation operations.Clear refl refl refl (λ m. refl) steps-begin_clear refl budget result left last run) timings budget

  pub dummy_cause : (timings : Option (ℕ × ℕ)) (budget : ℕ) (first : MachineState) (result : Result (Unit {0}) ClientError) (left : ℕ) (last : MachineState)
      → Sequence (Allows tells) own_entries timings dummy_requests budget first result left last → HasItsCause first last result
  dummy_cause timings budget first =
      sequence_cause tells own first BeginDummyWriteOperation operations.Dummy (record { action = SetRecordOffset; given = 0 } ∷ record { action = ExecuteOperation; given = 0 } ∷ [])
      (λ budget result left last run. begin_run tells own first BeginDummyWriteOperation operations.Dummy refl refl refl (λ m. refl) steps-begin_dummy refl budget result left last run) timings budget

-- Answers that are not `Hardware`

own_not_hardware : (error : ClientError) → is_own error ≡ true → error ≡ Hardware → ⊥
own_not_hardware error own is = absurd (cc (sym own ∙ ap is_own is))

same_error : {T : Type 0} (error : ClientError) → ◌≡◌ {A = Result T ClientError} (Err error) (Err Hardware) → error ≡ Hardware
same_error error e = cc

not_range : {T : Type 0} (fault : SpaceFault) → ◌≡◌ {A = Result T ClientError} (Err (Range fault)) (Err Hardware) → ⊥
not_range fault e = absurd (cc)

-- where the store is the same
cause_same : {T : Type 0} (first last : MachineState) (result : Result T ClientError) → last.device.store ≡ first.device.store → (result ≡ Err Hardware → ⊥) → HasItsCause first last result
cause_same first last result is well = record {
  never_falls = subst (λ (s : StoreView). first.device.store.flash.faults ≤ s.flash.faults) (sym is) (omega arith);
  hardware = λ e. absurd (well e);
}

-- The write and the read of any client whose sequences have their cause

module _ (tells : Type 0) (client : ClientState) where
  cause_from : {T : Type 0} (first mid last : MachineState) (result : Result T ClientError) → mid.device.store ≡ first.device.store → HasItsCause mid last result → HasItsCause first last result
  cause_from first mid last result is cause = record {
    never_falls = subst (λ (s : StoreView). s.flash.faults ≤ last.device.store.flash.faults) is cause.never_falls;
    hardware = λ e. subst (λ (s : StoreView). Rose s.flash.faults last.device.store.flash.faults) is (cause.hardware e);
  }

  pub writes_cause : (bytes : List ℕ) (budget : ℕ) (first : MachineState) (result : Result (Unit {0}) ClientError) (left : ℕ) (last : MachineState)
      → ((mid : MachineState) (result : Result (Unit {0}) ClientError) (left : ℕ) (last : MachineState) → (IsMachine first → IsMachine mid) → mid.device.store ≡ first.device.store
      → Sequence (Allows tells) client.table.entries client.timings write_requests budget mid result left last → HasItsCause mid last result)
      → Writes (Allows tells) client bytes budget first result left last → HasItsCause first last result
  writes_cause bytes budget first result left last by_sequence writes = elim writes as (λ result left last writes. HasItsCause first last result) [
    | IsNoRecord error is ↦
        cause_same first first (Err error) refl
        (λ e. own_not_hardware error (write_own bytes client.range error is) (same_error error e))
    | IsNotPut error last is puts ↦
        let put = has_put tells _ bytes first (Err error) last puts in
        cause_same first last (Err error) put.store (λ e. let by = put.by_space error refl in not_range by.0 (ap (λ (x : ClientError). Err x) (sym by.1) ∙ e))
    | IsAsked mid result left last is puts sequence ↦
        let put = has_put tells _ bytes first (Ok tt) mid puts in
        cause_from first mid last result put.store (by_sequence mid result left last put.machine put.store sequence)
  ]

  -- behind a read's sequence nothing is changed, and no error is `Hardware`
  read_behind : (first mid last : MachineState) (result : Result ℕ ClientError) → HasItsCause {T = Unit {0}} first mid (Ok tt) → last ≡ mid →
      (result ≡ Err Hardware → ⊥) → HasItsCause first last result
  read_behind first mid last result cause is well = record {
    never_falls = subst (λ (m : MachineState). first.device.store.flash.faults ≤ m.device.store.flash.faults) (sym is) cause.never_falls;
    hardware = λ e. absurd (well e);
  }

  record HasCopied (old : MachineState) (answer : Result (Unit {0}) ClientError) (new : MachineState) : Type 0 where
    same : new ≡ old
    well : (len : ℕ) → copied answer len ≡ Err Hardware → ⊥

  has_copied : (address : ℕ) (before after : List ℕ) (old : MachineState) (answer : Result (Unit {0}) ClientError) (new : MachineState) →
      CopiesOut (Allows tells) address before after old answer new → HasCopied old answer new
  has_copied address before after old answer new copies = elim copies as (λ answer new copies. HasCopied old answer new) [
    | IsFilled new allowed ↦ record { same = allowed.2; well = λ len e. absurd (cc e) }
    | IsNotFilled fault new allowed ↦ record { same = allowed.2; well = λ len e. not_range fault e }
  ]

  pub reads_cause : (id : ℕ) (out : List ℕ) (budget : ℕ) (first : MachineState) (result : Result ℕ ClientError) (after : List ℕ) (left : ℕ) (last : MachineState)
      → ((result : Result (Unit {0}) ClientError) (left : ℕ) (last : MachineState)
      → Sequence (Allows tells) client.table.entries client.timings (read_requests id) budget first result left last → HasItsCause first last result)
      → Reads (Allows tells) client id out budget first result after left last → HasItsCause first last result
  reads_cause id out budget first result after left last by_sequence reads = elim reads as (λ result after left last reads. HasItsCause first last result) [
    | IsNotRead error left last sequence ↦
        let cause = by_sequence (Err error) left last sequence in
        record { never_falls = cause.never_falls; hardware = λ e. cause.hardware (ap (λ (x : ClientError). Err x) (same_error error e)) }
    | HasNoLength left mid field fault last sequence length_at ↦
        read_behind first mid last (Err (Range fault)) (by_sequence (Ok tt) left mid sequence) length_at.2 (λ e. not_range fault e)
    | IsNotCopied left mid field error last sequence length_at refused ↦
        read_behind first mid last (Err error) (by_sequence (Ok tt) left mid sequence) length_at.2
        (λ e. own_not_hardware error (copy_own (number_at field 0 4) client.range (length out) error refused) (same_error error e))
    | IsCopied left mid field next whole answer last sequence length_at fits copies ↦
        let done = has_copied _ _ whole next answer last copies in
        read_behind first mid last (copied answer (number_at field 0 4)) (by_sequence (Ok tt) left mid sequence) (done.same ∙ length_at.2)
        (done.well (number_at field 0 4))
  ]

-- by the machine's own table

module _ (tells : Type 0) (own : OwnProgramsRun tells) where
  pub client_write_cause : (bytes : List ℕ) (budget : ℕ) (first : MachineState) (result : Result (Unit {0}) ClientError) (left : ℕ) (last : MachineState)
      → Writes (Allows tells) (own_client first) bytes budget first result left last → HasItsCause first last result
  client_write_cause bytes budget first result left last =
      writes_cause tells (own_client first) bytes budget first result left last (λ mid result left last kept same. write_cause tells own (own_client first).timings budget mid result left last)

  pub client_read_cause : (id : ℕ) (out : List ℕ) (budget : ℕ) (first : MachineState) (result : Result ℕ ClientError) (after : List ℕ) (left : ℕ) (last : MachineState)
      → Reads (Allows tells) (own_client first) id out budget first result after left last → HasItsCause first last result
  client_read_cause id out budget first result after left last =
      reads_cause tells (own_client first) id out budget first result after left last (read_cause tells own id (own_client first).timings budget first)
