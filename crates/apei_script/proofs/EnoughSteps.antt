-- A command of the machine's own client that has enough steps is neither stopped nor late. Nothing is asked of the flash.
use Rattle.std.proofs.Common.{◌≡◌, ℕ, ◌≤◌, true, List, ◌++◌, Result, Err, ap, ◌∙◌}
use Rattle.std.specs.Prelude.{codes, decimal}
use Rattle.erst_interp.specs.declared.stops.RunStop.{RunStop}
use Rattle.erst_client.specs.declared.errors.ClientError.{ClientError}
use Rattle.erst_client.specs.Timings.{enough_steps}
use Rattle.erst_machine.specs.MachineState.{MachineState, IsMachine}
use Rattle.erst_commands.specs.OwnPrograms.{OwnProgramsRun}
use Rattle.erst_commands.specs.Attached.{own_client}
use Rattle.erst_commands.specs.Causes.{GoesThrough}
use Rattle.erst_commands.proofs.EnoughLemmas.{has_steps}
use Rattle.erst_commands.proofs.ThroughLemmas.{clear_through, dummy_through, count_through, next_through, client_write_through, client_read_through}
use Rattle.script_text.specs.ScriptGrammar.{Line, IsValid}
use Rattle.apei_script.specs.RunWords.{words_of_stop}
use Rattle.apei_script.proofs.RefusalLemmas.{told}
use Rattle.apei_script.specs.Players.{asker_of}
use Rattle.apei_script.specs.Words.{refused}
use Rattle.apei_script.specs.Asked.{Asked, WritesRecord, ReadsRecord, ClearsRecord, CountsRecords, FindsNext, WritesDummy, RunsAction}
use Rattle.apei_script.specs.Plays.{names_command}
use Rattle.apei_script.proofs.OwnClientLemmas.{no_command}
use Rattle.apei_script.proofs.WordLemmas.{Refuses, of_write, of_read, of_clear, of_count, of_next, of_dummy}

-- the words of a reply are neither of a stop nor of a wait
pub record SaysNeither (words : List ℕ) : Type 0 where
  pub not_stopped : (stop : RunStop) → words ≡ refused (codes "stopped " ++ words_of_stop stop) → ⊥
  pub in_time : (time : ℕ) → words ≡ refused (codes "late " ++ decimal time) → ⊥

pub says_neither : {T : Type 0} (words : List ℕ) (result : Result T ClientError) → GoesThrough result
    → ((refusal : List ℕ) → words ≡ refused refusal → Refuses refusal result) → SaysNeither words
says_neither words result through of = record {
  not_stopped = λ stop says.
      let refuses = of (codes "stopped " ++ words_of_stop stop) says in
      let why = (told refuses.error).stopped stop refuses.says in
      through.not_stopped why.0 (refuses.is ∙ ap (λ (x : ClientError). Err x) why.1);
  in_time = λ time says.
      let refuses = of (codes "late " ++ decimal time) says in
      let waited = (told refuses.error).late time refuses.says in
      through.in_time waited.0 (refuses.is ∙ ap (λ (x : ClientError). Err x) waited.1);
}

pub asked_through : (tells : Type 0) → OwnProgramsRun tells → (steps : ℕ) (old : MachineState) → IsMachine old → enough_steps (own_client old).timings ≤ steps
    → (line : Line) (words : List ℕ) (new : MachineState) → Asked tells (asker_of (own_client old) steps) old line words new → IsValid line → names_command line ≡ true → SaysNeither words
asked_through tells own steps old machine enough line words new asked = elim asked as (λ line words new asked. IsValid line → names_command line ≡ true → SaysNeither words) [
  | WritesRecord hex bytes result left new decoded writes ↦ λ valid names.
      says_neither _ result (client_write_through tells own old machine steps enough bytes result left new writes) (λ refusal. of_write refusal bytes result)
  | ReadsRecord id out after result left new long reads ↦ λ valid names.
      says_neither _ result (client_read_through tells own old machine steps enough id valid out result after left new reads) (λ refusal. of_read refusal after result)
  | ClearsRecord id result left new sequence ↦ λ valid names.
      says_neither _ result (clear_through tells own old steps (has_steps old steps enough) machine.sizes.range id valid result left new sequence) (λ refusal. of_clear refusal id result)
  | CountsRecords result left new counts ↦ λ valid names.
      says_neither _ result (count_through tells own old steps enough result left new counts) (λ refusal. of_count refusal result)
  | FindsNext result left new finds ↦ λ valid names.
      says_neither _ result (next_through tells own old steps enough result left new finds) (λ refusal. of_next refusal result)
  | WritesDummy result left new sequence ↦ λ valid names.
      says_neither _ result (dummy_through tells own old steps (has_steps old steps enough) machine.sizes.range result left new sequence) (λ refusal. of_dummy refusal result)
  | RunsAction code value answer left new run ↦ λ valid names. no_command names
]
