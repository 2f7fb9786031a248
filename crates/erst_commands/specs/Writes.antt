-- A client's write over the machine: the record is put into the log range, marked, and then written.
use Rattle.std.specs.Prelude.{◌≡◌, ℕ, List, codes, Some, None, Result, Err}
use Rattle.base_model.specs.Bytes.{number_at, put_at}
use Rattle.record_model.specs.RecordMap.{Write}
use Rattle.erst_client.specs.declared.errors.ClientError.{ClientError}
use Rattle.erst_client.specs.Commands.{write_refusal}
use Rattle.erst_client.specs.Sequences.{write_requests}
use Rattle.erst_machine.specs.MachineState.{MachineState, reach_in}
use Rattle.erst_commands.specs.OwnPrograms.{with_range}
use Rattle.erst_commands.specs.Changes.{ChangeCommand}

-- the bytes of a record, marked as one in persistent storage (UEFI 2.8, appendix N.2.1)
abbrev pub marked : List ℕ → List ℕ
marked bytes = put_at bytes 108 (codes "ER")

-- the identifier that a record's header says
abbrev pub id_of : List ℕ → ℕ
id_of bytes = number_at bytes 96 8

-- bytes that are no one record, or too long, are refused before all else; those of a record are put at the start of the log range, marked,
-- and written as the map does
pub data WriteAnswered (bytes : List ℕ) (budget : ℕ) (first : MachineState) : Result (Unit {0}) ClientError → ℕ → MachineState → Type 0 where
  IsNoRecord : (error : ClientError) → write_refusal bytes (reach_in first.device) ≡ Some error → WriteAnswered bytes budget first (Err error) budget first
  IsWritten : (result : Result (Unit {0}) ClientError) (left : ℕ) (last : MachineState) → write_refusal bytes (reach_in first.device) ≡ None
      → ChangeCommand (with_range (put_at first.memory.range 0 (marked bytes)) first) last (id_of bytes) (Write (id_of bytes) (marked bytes))
      write_requests budget result left
      → WriteAnswered bytes budget first result left last
