-- Names for what contracts write out.
use Rattle.std.proofs.Common.{ℕ, ◌||◌, Bool, true, not, is_some, Some, List, [], ◌∷◌, ◌++◌, codes}
use Rattle.clap.specs.Words.{App, Row, Rule, Text, new_rule}
use Rattle.clap_words.specs.Commands.{with_option}
use Rattle.base_model.specs.Flash.{FlashState}
use Rattle.erst_machine.specs.MachineState.{MachineState}
use Rattle.script_lines.specs.Streams.{Stream}
use Rattle.script_text.specs.ScriptGrammar.{Line}
use Rattle.script_text.specs.ScriptText.{Means}
use Rattle.apei_script.specs.Plays.{FailsRestart, BringsTable}
use Rattle.apei_cli.specs.CommandWords.{belongs, name_of}
use Rattle.apei_cli.specs.Commands.{command_of, line_for}
use Rattle.apei_cli.specs.Generated.{begins}
use Rattle.apei_cli.specs.Outcomes.{Streams, Start, Outcome}
use Rattle.apei_cli.specs.Plan.{given}
use Rattle.apei_cli.specs.declared.job.Job.{Job}
use Rattle.apei_cli.specs.declared.job.Plan.{Plan}
use Rattle.apei_cli.specs.declared.setting.Setting.{Setting}
use Rattle.apei_cli.specs.declared.status.Status.{Status}
use Rattle.apei_cli.specs.declared.status.Status.TheVariants.{Done, BadLine, TooLong, Memory}
use Rattle.std.specs.Prelude.{◌^◌, ◌/◌}

-- the command line
abbrev pub job_rule : Rule
job_rule = record (new_rule (codes "job")) { required = true }

abbrev pub option_rule : Text → Rule
option_rule name = record (new_rule name) { long = Some name }

abbrev pub with_setting : App → Setting → App
with_setting app setting = with_option app (name_of setting)

abbrev pub is_own : List Row → Job → Setting → Bool
is_own rows job setting = not (is_some (given setting rows)) || belongs setting job

-- what a run is given, and what it leaves
abbrev pub streams_of : Stream → Stream → Type 0 → Type 0 → Streams
streams_of source sink unread unwritten = record { source = source; sink = sink; unread = unread; unwritten = unwritten }

abbrev pub start_of : {L : Type 0} → Plan → FlashState → List L → Start L
start_of order flash listeners = record { order = order; flash = flash; listeners = listeners }

abbrev pub outcome_of : {L : Type 0} → Status → FlashState → List L → Outcome L
outcome_of status flash listeners = record { status = status; flash = flash; listeners = listeners }

-- a run that ends by itself: the script was read to its end, there was no memory, or one of its lines stopped it
abbrev pub EndsByItself : Status → Type 0
EndsByItself Done = Unit {0}
EndsByItself (BadLine line column) = Unit {0}
EndsByItself (TooLong line) = Unit {0}
EndsByItself Memory = Unit {0}
EndsByItself status = ⊥

-- a text gives a table, or is a line in whose restart the flash failed
abbrev pub GivesTable : List ℕ → Type 0
GivesTable text = (line : Line) × Means text line × BringsTable line

abbrev pub FailsInRestart : Type 0 → MachineState → MachineState → List ℕ → Type 0
FailsInRestart tells last final text = (line : Line) × Means text line × FailsRestart tells last line final

-- what is generated
abbrev pub line_at : ℕ → Line
line_at x = line_for (command_of (x / 2 ^ 33))

abbrev pub is_refusal : List ℕ → Bool
is_refusal reply = begins (codes "refused") reply

abbrev pub first_fields : List ℕ
first_fields = codes "CPER" ++ (1 ∷ 1 ∷ 255 ∷ 255 ∷ 255 ∷ 255 ∷ 0 ∷ 0 ∷ 2 ∷ 0 ∷ 0 ∷ 0 ∷ 0 ∷ 0 ∷ 0 ∷ 0 ∷ [])
