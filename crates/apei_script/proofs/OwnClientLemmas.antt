-- What a line asks of the client of the machine's own table.
use Rattle.std.proofs.Common.{◌≡◌, ℕ, true, false, List}
use Rattle.std.specs.Prelude.{codes}
use Rattle.base_model.specs.Faults.{Rose}
use Rattle.erst_client.specs.declared.errors.ClientError.TheVariants.{Hardware}
use Rattle.erst_machine.specs.MachineState.{MachineState, IsMachine}
use Rattle.erst_commands.specs.OwnPrograms.{OwnProgramsRun}
use Rattle.erst_commands.specs.Attached.{own_client}
use Rattle.erst_commands.proofs.LookLemmas.{count_command, next_command}
use Rattle.erst_commands.proofs.WriteLemmas.{written}
use Rattle.erst_commands.proofs.StartLemmas.{clear_command, dummy_command}
use Rattle.erst_commands.proofs.CopyLemmas.{read_out}
use Rattle.erst_commands.proofs.LimitLemmas.{reach-least}
use Rattle.erst_commands.proofs.CauseLemmas.{count_cause, next_cause}
use Rattle.erst_commands.proofs.CallCauses.{clear_cause, dummy_cause, client_write_cause, client_read_cause}
use Rattle.script_text.specs.ScriptGrammar.{Line, IsValid}
use Rattle.apei_script.specs.ClientWords.{words_of_client}
use Rattle.apei_script.specs.Players.{asker_of}
use Rattle.apei_script.specs.Words.{refused}
use Rattle.apei_script.specs.Asked.{Asked, WritesRecord, ReadsRecord, ClearsRecord, CountsRecords, FindsNext, WritesDummy, RunsAction}
use Rattle.apei_script.specs.Mapped.{Mapped, IsWrite, IsRead, IsClear, IsCount, IsNext, IsDummy}
use Rattle.apei_script.specs.Plays.{names_command}
use Rattle.apei_script.proofs.WordLemmas.{failed, of_write, of_read, of_clear, of_count, of_next, of_dummy}

pub no_command : {Goal : Type 0} → false ≡ true → Goal
no_command e = absurd (cc e)

module _ (tells : Type 0) (own : OwnProgramsRun tells) (steps : ℕ) (old : MachineState) where
  -- it is the record map's command
  pub asked_by_map : tells → IsMachine old → (line : Line) (words : List ℕ) (new : MachineState) → Asked tells (asker_of (own_client old) steps) old line words new →
      IsValid line → names_command line ≡ true → Mapped steps old line words new
  asked_by_map told machine line words new asked = elim asked as (λ line words new asked. IsValid line → names_command line ≡ true → Mapped steps old line words new) [
    | WritesRecord hex bytes result left new decoded writes ↦ λ valid names. IsWrite hex bytes result left new decoded (written tells own told bytes steps old result left new machine writes)
    | ReadsRecord id out after result left new long reads ↦ λ valid names.
        IsRead id out after result left new long (read_out tells own told id out steps old result after left new machine valid (reach-least old.device.store.layout) reads)
    | ClearsRecord id result left new sequence ↦ λ valid names. IsClear id result left new (clear_command tells own told old id valid steps result left new sequence)
    | CountsRecords result left new counts ↦ λ valid names. IsCount result left new (count_command tells own told steps old result left new counts)
    | FindsNext result left new finds ↦ λ valid names. IsNext result left new (next_command tells own told steps old result left new finds)
    | WritesDummy result left new sequence ↦ λ valid names. IsDummy result left new (dummy_command tells own old steps result left new sequence)
    | RunsAction code value answer left new run ↦ λ valid names. no_command names
  ]

  -- and says that the flash failed only where it did
  pub asked_cause : (line : Line) (words : List ℕ) (new : MachineState) → Asked tells (asker_of (own_client old) steps) old line words new → names_command line ≡ true →
      words ≡ refused (words_of_client Hardware) → Rose old.device.store.flash.faults new.device.store.flash.faults
  asked_cause line words new asked =
      elim asked as (λ line words new asked. names_command line ≡ true → words ≡ refused (words_of_client Hardware) → Rose old.device.store.flash.faults new.device.store.flash.faults) [
        | WritesRecord hex bytes result left new decoded writes ↦ λ names says. (client_write_cause tells own bytes steps old result left new writes).hardware
            (failed result (of_write (codes "hardware") bytes result says))
        | ReadsRecord id out after result left new long reads ↦ λ names says.
            (client_read_cause tells own id out steps old result after left new reads).hardware (failed result (of_read (codes "hardware") after result says))
        | ClearsRecord id result left new sequence ↦ λ names says.
            (clear_cause tells own id (own_client old).timings steps old result left new sequence).hardware (failed result (of_clear (codes "hardware") id result says))
        | CountsRecords result left new counts ↦ λ names says. (count_cause tells own steps old result left new counts).hardware (failed result (of_count (codes "hardware") result says))
        | FindsNext result left new finds ↦ λ names says. (next_cause tells own steps old result left new finds).hardware (failed result (of_next (codes "hardware") result says))
        | WritesDummy result left new sequence ↦ λ names says.
            (dummy_cause tells own (own_client old).timings steps old result left new sequence).hardware (failed result (of_dummy (codes "hardware") result says))
        | RunsAction code value answer left new run ↦ λ names. no_command names
      ]
