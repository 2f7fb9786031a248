-- What a line asks of the client of the machine's own table: its command on the record map, answered as the map does.
use Rattle.std.specs.Prelude.{◌≡◌, ℕ, List, length, Option, is_none, if◌then◌else◌, Result, Ok, Err}
use Rattle.hex.specs.Hex.{decode_of}
use Rattle.record_model.specs.Records.{Stored}
use Rattle.record_model.specs.RecordMap.{Write, Clear, after}
use Rattle.erst_client.specs.declared.errors.ClientError.{ClientError}
use Rattle.erst_client.specs.Commands.{write_refusal}
use Rattle.erst_client.specs.Sequences.{clear_requests, dummy_requests}
use Rattle.erst_machine.specs.MachineState.{MachineState, records_of}
use Rattle.erst_commands.specs.Looks.{AsksOnce, CountMade, NextMade}
use Rattle.erst_commands.specs.Changes.{ChangeCommand, DummyCommand}
use Rattle.erst_commands.specs.Writes.{WriteAnswered, id_of, marked}
use Rattle.erst_commands.specs.Reads.{ReadAnswered}
use Rattle.script_text.specs.ScriptGrammar.{Line, write, read, clear, count, next, dummy}
use Rattle.apei_script.specs.Words.{words_of_write, words_of_read, words_of_clear, words_of_count, words_of_next, words_of_dummy}
use Rattle.apei_script.specs.Asked.{READ_BUFFER}

-- the line, the words of its reply, and the machine afterwards, with its records
pub data Mapped (steps : ℕ) (old : MachineState) : Line → List ℕ → MachineState → Type 0 where
  IsWrite : (hex bytes : List ℕ) (result : Result (Unit {0}) ClientError) (left : ℕ) (new : MachineState) → decode_of hex ≡ Ok bytes
      → WriteAnswered bytes steps old result left new → Mapped steps old (write hex) (words_of_write bytes result) new
  IsRead : (id : ℕ) (out after : List ℕ) (result : Result ℕ ClientError) (left : ℕ) (new : MachineState) → length out ≡ READ_BUFFER
      → ReadAnswered id out steps old result after left new → Mapped steps old (read id) (words_of_read after result) new
  IsClear : (id : ℕ) (result : Result (Unit {0}) ClientError) (left : ℕ) (new : MachineState)
      → ChangeCommand old new id (Clear id) (clear_requests id) steps result left → Mapped steps old (clear id) (words_of_clear id result) new
  IsCount : (result : Result ℕ ClientError) (left : ℕ) (new : MachineState) → AsksOnce (CountMade old new) steps old new result left
      → Mapped steps old count (words_of_count result) new
  IsNext : (result : Result (Option ℕ) ClientError) (left : ℕ) (new : MachineState) → AsksOnce (NextMade old new) steps old new result left
      → Mapped steps old next (words_of_next result) new
  IsDummy : (result : Result (Unit {0}) ClientError) (left : ℕ) (new : MachineState) → DummyCommand old new dummy_requests steps result left
      → Mapped steps old dummy (words_of_dummy result) new

-- the records as a line leaves them where nothing fails and its steps are enough, by a client of this log range: only clears make others, and writes of
-- bytes that the client does not refuse
abbrev pub after_line : ℕ → MachineState → Line → Stored
after_line range state (write hex) = elim (decode_of hex) [
  | Ok bytes ↦
      if is_none (write_refusal bytes range) then after state.device.store.layout (Write (id_of bytes) (marked bytes)) (records_of state)
      else records_of state
  | Err error ↦ records_of state
]
after_line range state (clear id) = after state.device.store.layout (Clear id) (records_of state)
after_line range state line = records_of state
