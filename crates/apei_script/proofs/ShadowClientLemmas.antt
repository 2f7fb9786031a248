-- What a line asks of the client of the machine's table whose own programs move the record.
use Rattle.std.proofs.Common.{◌≡◌, ℕ, ◌≤◌, true, List}
use Rattle.std.specs.Prelude.{codes}
use Rattle.base_model.specs.Faults.{Rose}
use Rattle.erst_client.specs.declared.errors.ClientError.TheVariants.{Hardware}
use Rattle.erst_client.specs.Timings.{enough_steps}
use Rattle.erst_machine.specs.MachineState.{MachineState, IsMachine}
use Rattle.erst_commands.specs.OwnPrograms.{OwnProgramsRun}
use Rattle.erst_commands.specs.Attached.{own_client}
use Rattle.erst_commands.proofs.LookLemmas.{count_command, next_command}
use Rattle.erst_commands.proofs.CauseLemmas.{count_cause, next_cause}
use Rattle.erst_commands.proofs.ThroughLemmas.{count_through, next_through}
use Rattle.erst_shadow.specs.ShadowCommands.{pieces_in, shadow_client}
use Rattle.erst_shadow.proofs.CommandLemmas.{holds_pieces, writes_as_map, reads_as_map, shadow_clear, shadow_dummy}
use Rattle.erst_shadow.proofs.ProgramLemmas.{own_count, own_next}
use Rattle.erst_shadow.proofs.CauseLemmas.{shadow_clear_cause, shadow_dummy_cause, client_write_cause, client_read_cause}
use Rattle.erst_shadow.proofs.EnoughLemmas.{client_write_through, clear_through, dummy_through, client_read_through}
use Rattle.script_text.specs.ScriptGrammar.{Line, IsValid}
use Rattle.apei_script.specs.ClientWords.{words_of_client}
use Rattle.apei_script.specs.Players.{asker_of}
use Rattle.apei_script.specs.Words.{refused}
use Rattle.apei_script.specs.Asked.{Asked, WritesRecord, ReadsRecord, ClearsRecord, CountsRecords, FindsNext, WritesDummy, RunsAction}
use Rattle.apei_script.specs.ShadowMapped.{ShadowMapped, ShadowWrite, ShadowRead, ShadowClear, ShadowCount, ShadowNext, ShadowPlayed}
use Rattle.apei_script.specs.Plays.{names_command}
use Rattle.apei_script.proofs.OwnClientLemmas.{no_command}
use Rattle.apei_script.proofs.EnoughSteps.{SaysNeither, says_neither}
use Rattle.apei_script.proofs.WordLemmas.{failed, of_write, of_read, of_clear, of_count, of_next, of_dummy}

module _ (tells : Type 0) (own : OwnProgramsRun tells) (steps : ℕ) (old : MachineState) (machine : IsMachine old) where
  -- it is the record map's command
  pub shadow_by_map : tells → (line : Line) (words : List ℕ) (new : MachineState) → Asked tells (asker_of (shadow_client old) steps) old line words new → IsValid line → names_command line ≡ true
      → ShadowMapped steps old line words new
  shadow_by_map told line words new asked = elim asked as (λ line words new asked. IsValid line → names_command line ≡ true → ShadowMapped steps old line words new) [
    | WritesRecord hex bytes result left new decoded writes ↦ λ valid names. ShadowWrite hex bytes result left new decoded (writes_as_map tells own told bytes steps old result left new machine writes)
    | ReadsRecord id out after result left new long reads ↦ λ valid names.
        ShadowRead id out after result left new long (reads_as_map tells own told id out steps old machine valid result after left new reads)
    | ClearsRecord id result left new sequence ↦ λ valid names.
        ShadowClear id result left new (shadow_clear tells own told old (pieces_in old) id (holds_pieces old machine) valid steps result left new sequence)
    | CountsRecords result left new counts ↦ λ valid names.
        ShadowCount result left new (count_command tells own told steps old result left new (own_count tells (pieces_in old) steps old result left new counts))
    | FindsNext result left new finds ↦ λ valid names. ShadowNext result left new (next_command tells own told steps old result left new
        (own_next tells (pieces_in old) steps old result left new finds))
    | WritesDummy result left new sequence ↦ λ valid names. ShadowPlayed result left new (shadow_dummy tells own old (pieces_in old) (holds_pieces old machine) steps result left new sequence)
    | RunsAction code value answer left new run ↦ λ valid names. no_command names
  ]

  -- it says that the flash failed only where it did
  pub shadow_cause : (line : Line) (words : List ℕ) (new : MachineState) → Asked tells (asker_of (shadow_client old) steps) old line words new → names_command line ≡ true
      → words ≡ refused (words_of_client Hardware) → Rose old.device.store.flash.faults new.device.store.flash.faults
  shadow_cause line words new asked =
      elim asked as (λ line words new asked. names_command line ≡ true → words ≡ refused (words_of_client Hardware) → Rose old.device.store.flash.faults new.device.store.flash.faults) [
        | WritesRecord hex bytes result left new decoded writes ↦ λ names says.
            (client_write_cause tells own old machine bytes steps result left new writes).hardware (failed result (of_write (codes "hardware") bytes result says))
        | ReadsRecord id out after result left new long reads ↦ λ names says.
            (client_read_cause tells own old machine id out steps result after left new reads).hardware (failed result (of_read (codes "hardware") after result says))
        | ClearsRecord id result left new sequence ↦ λ names says.
            (shadow_clear_cause tells own (pieces_in old) (own_client old).timings steps old (holds_pieces old machine) result left new id sequence).hardware
            (failed result (of_clear (codes "hardware") id result says))
        | CountsRecords result left new counts ↦ λ names says.
            (count_cause tells own steps old result left new (own_count tells (pieces_in old) steps old result left new counts)).hardware (failed result (of_count (codes "hardware") result says))
        | FindsNext result left new finds ↦ λ names says.
            (next_cause tells own steps old result left new (own_next tells (pieces_in old) steps old result left new finds)).hardware (failed result (of_next (codes "hardware") result says))
        | WritesDummy result left new sequence ↦ λ names says.
            (shadow_dummy_cause tells own (pieces_in old) (own_client old).timings steps old (holds_pieces old machine) result left new sequence).hardware
            (failed result (of_dummy (codes "hardware") result says))
        | RunsAction code value answer left new run ↦ λ names. no_command names
      ]

  -- and with enough steps it is neither stopped nor late
  pub shadow_through : enough_steps (own_client old).timings ≤ steps → (line : Line) (words : List ℕ) (new : MachineState) → Asked tells (asker_of (shadow_client old) steps) old line words new
      → IsValid line → names_command line ≡ true → SaysNeither words
  shadow_through enough line words new asked = elim asked as (λ line words new asked. IsValid line → names_command line ≡ true → SaysNeither words) [
    | WritesRecord hex bytes result left new decoded writes ↦ λ valid names.
        says_neither _ result (client_write_through tells own old machine steps enough bytes result left new writes) (λ refusal. of_write refusal bytes result)
    | ReadsRecord id out after result left new long reads ↦ λ valid names.
        says_neither _ result (client_read_through tells own old machine steps enough id valid out result after left new reads) (λ refusal. of_read refusal after result)
    | ClearsRecord id result left new sequence ↦ λ valid names.
        says_neither _ result (clear_through tells own old machine steps enough id valid result left new sequence) (λ refusal. of_clear refusal id result)
    | CountsRecords result left new counts ↦ λ valid names.
        says_neither _ result (count_through tells own old steps enough result left new (own_count tells (pieces_in old) steps old result left new counts)) (λ refusal. of_count refusal result)
    | FindsNext result left new finds ↦ λ valid names.
        says_neither _ result (next_through tells own old steps enough result left new (own_next tells (pieces_in old) steps old result left new finds)) (λ refusal. of_next refusal result)
    | WritesDummy result left new sequence ↦ λ valid names.
        says_neither _ result (dummy_through tells own old machine steps enough result left new sequence) (λ refusal. of_dummy refusal result)
    | RunsAction code value answer left new run ↦ λ valid names. no_command names
  ]
