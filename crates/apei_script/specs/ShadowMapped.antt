-- What a line asks of the client of the machine's table whose own programs move the record: its command on the record map, answered as the map
-- does, but that a longer record than the table's pieces hold is neither written nor shown.
use Rattle.std.specs.Prelude.{◌≡◌, ℕ, List, length, Option, Result, Ok}
use Rattle.hex.specs.Hex.{decode_of}
use Rattle.record_model.specs.RecordMap.{Clear}
use Rattle.erst_client.specs.declared.errors.ClientError.{ClientError}
use Rattle.erst_client.specs.Sequences.{clear_requests}
use Rattle.erst_machine.specs.MachineState.{MachineState}
use Rattle.erst_commands.specs.Looks.{AsksOnce, CountMade, NextMade}
use Rattle.erst_shadow.specs.ShadowCommands.{pieces_in, ShadowChange, ShadowDummy, ShadowWriteAnswered, ShadowReadAnswered}
use Rattle.script_text.specs.ScriptGrammar.{Line, write, read, clear, count, next, dummy}
use Rattle.apei_script.specs.Words.{words_of_write, words_of_read, words_of_clear, words_of_count, words_of_next, words_of_dummy}
use Rattle.apei_script.specs.Asked.{READ_BUFFER}

-- the line, the words of its reply, and the machine afterwards, with its records
pub data ShadowMapped (steps : ℕ) (old : MachineState) : Line → List ℕ → MachineState → Type 0 where
  ShadowWrite : (hex bytes : List ℕ) (result : Result (Unit {0}) ClientError) (left : ℕ) (new : MachineState) → decode_of hex ≡ Ok bytes
      → ShadowWriteAnswered bytes steps old result left new → ShadowMapped steps old (write hex) (words_of_write bytes result) new
  ShadowRead : (id : ℕ) (out after : List ℕ) (result : Result ℕ ClientError) (left : ℕ) (new : MachineState) → length out ≡ READ_BUFFER
      → ShadowReadAnswered id out steps old result after left new → ShadowMapped steps old (read id) (words_of_read after result) new
  ShadowClear : (id : ℕ) (result : Result (Unit {0}) ClientError) (left : ℕ) (new : MachineState)
      → ShadowChange (pieces_in old) old new id (Clear id) (clear_requests id) steps result left → ShadowMapped steps old (clear id) (words_of_clear id result) new
  ShadowCount : (result : Result ℕ ClientError) (left : ℕ) (new : MachineState) → AsksOnce (CountMade old new) steps old new result left
      → ShadowMapped steps old count (words_of_count result) new
  ShadowNext : (result : Result (Option ℕ) ClientError) (left : ℕ) (new : MachineState) → AsksOnce (NextMade old new) steps old new result left
      → ShadowMapped steps old next (words_of_next result) new
  ShadowPlayed : (result : Result (Unit {0}) ClientError) (left : ℕ) (new : MachineState) → ShadowDummy (pieces_in old) old new steps result left
      → ShadowMapped steps old dummy (words_of_dummy result) new
