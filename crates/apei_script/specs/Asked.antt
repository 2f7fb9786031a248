-- What a line asks of the client in use, by the client's table whatever it is, over the machine. `tells` says whether the flash tells its
-- content.
use Rattle.std.specs.Prelude.{◌≡◌, ◌≤◌, ℕ, List, length, Option, Result, Ok, IfOk}
use Rattle.hex.specs.Hex.{decode_of}
use Rattle.apei_space.specs.Accesses.{Reaches}
use Rattle.erst_entries.specs.Programs.{program_of}
use Rattle.erst_interp.specs.declared.stops.RunStop.{RunStop}
use Rattle.erst_interp.specs.Runs.{Run}
use Rattle.erst_client.specs.declared.errors.ClientError.{ClientError}
use Rattle.erst_client.specs.Commands.{Writes, Reads, Counts, Names}
use Rattle.erst_client.specs.Sequences.{Sequence, clear_requests, dummy_requests}
use Rattle.erst_machine.specs.MachineState.{MachineState}
use Rattle.erst_machine.specs.Allowed.{Allows}
use Rattle.script_text.specs.ScriptGrammar.{Line, write, read, clear, count, next, dummy, action}
use Rattle.apei_script.specs.Players.{Asker}
use Rattle.apei_script.specs.Replies.{IsMade}
use Rattle.apei_script.specs.Words.{words_of_write, words_of_read, words_of_clear, words_of_count, words_of_next, words_of_dummy, words_of_action}

-- the bytes of a buffer for the longest record
abbrev pub READ_BUFFER : ℕ
READ_BUFFER = 65536

-- the line, the words of its reply, and the machine afterwards: the client's sequence, or the run of an action's program
pub data Asked (tells : Type 0) (asker : Asker) (old : MachineState) : Line → List ℕ → MachineState → Type 0 where
  WritesRecord : (hex bytes : List ℕ) (result : Result (Unit {0}) ClientError) (left : ℕ) (new : MachineState) → decode_of hex ≡ Ok bytes
      → Writes (Allows tells) asker.client bytes asker.steps old result left new → Asked tells asker old (write hex) (words_of_write bytes result) new
  ReadsRecord : (id : ℕ) (out after : List ℕ) (result : Result ℕ ClientError) (left : ℕ) (new : MachineState) → length out ≡ READ_BUFFER
      → Reads (Allows tells) asker.client id out asker.steps old result after left new → Asked tells asker old (read id) (words_of_read after result) new
  ClearsRecord : (id : ℕ) (result : Result (Unit {0}) ClientError) (left : ℕ) (new : MachineState)
      → Sequence (Allows tells) asker.client.table.entries asker.client.timings (clear_requests id) asker.steps old result left new
      → Asked tells asker old (clear id) (words_of_clear id result) new
  CountsRecords : (result : Result ℕ ClientError) (left : ℕ) (new : MachineState) → Counts (Allows tells) asker.client.table.entries asker.steps old result left new
      → Asked tells asker old count (words_of_count result) new
  FindsNext : (result : Result (Option ℕ) ClientError) (left : ℕ) (new : MachineState) → Names (Allows tells) asker.client.table.entries asker.steps old result left new
      → Asked tells asker old next (words_of_next result) new
  WritesDummy : (result : Result (Unit {0}) ClientError) (left : ℕ) (new : MachineState)
      → Sequence (Allows tells) asker.client.table.entries asker.client.timings dummy_requests asker.steps old result left new
      → Asked tells asker old dummy (words_of_dummy result) new
  RunsAction : (code value : ℕ) (answer : Result ℕ RunStop) (left : ℕ) (new : MachineState)
      → Run (Allows tells) (program_of code asker.client.table.entries) value asker.steps old answer left new
      → Asked tells asker old (action code value) (words_of_action answer) new

-- a line was carried out, by accesses alone, one after another, and its reply made, but for the step behind it
pub record Answers (tells : Type 0) (asker : Asker) (old : MachineState) (line : Line) (new : MachineState) (reply : List ℕ) : Type 0 where
  pub words : List ℕ
  pub commanded : Asked tells asker old line words new × Reaches (Allows tells) old new
  pub made : IsMade reply words

-- A read was asked for, and this is what is answered. `shown` is what the buffer holds then: of its bytes the first are the record's, as
-- many as are answered
pub record ReadAsked (tells : Type 0) (asker : Asker) (old : MachineState) (id : ℕ) (result : Result ℕ ClientError) (new : MachineState) : Type 0 where
  pub out : List ℕ
  pub shown : List ℕ
  pub left : ℕ
  pub room : length out ≡ READ_BUFFER
  pub reads : Reads (Allows tells) asker.client id out asker.steps old result shown left new
  pub reaches : Reaches (Allows tells) old new
  pub within : IfOk result (λ size. size ≤ length shown)
