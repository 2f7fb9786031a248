-- A client's commands by this table: those by the machine's own table, from a machine that differs in its log range and its scratch memory
-- alone, and with the steps of the two moves. A longer record than the pieces hold is not written, and not shown.
use Rattle.std.specs.Prelude.{◌≡◌, ℕ, ◌+◌, ◌*◌, List, ◌++◌, length, drop, Some, None, Result, Ok, Err, OnOk}
use Rattle.base_model.specs.Bytes.{part, number_at}
use Rattle.record_model.specs.RecordMap.{Command, Write}
use Rattle.erst_client.specs.declared.errors.AttachError.{AttachError}
use Rattle.erst_client.specs.declared.errors.ClientError.{ClientError}
use Rattle.erst_client.specs.declared.requests.Request.{Request}
use Rattle.erst_client.specs.Sequences.{write_requests, dummy_requests}
use Rattle.erst_client.specs.Commands.{ClientState, write_refusal, copy_refusal}
use Rattle.erst_device.specs.Timings.{timings_of}
use Rattle.erst_machine.specs.Areas.{scratch_len, base_of}
use Rattle.erst_machine.specs.MachineState.{MachineState, reach_in}
use Rattle.erst_commands.specs.OwnPrograms.{with_value}
use Rattle.erst_commands.specs.Attached.{own_client}
use Rattle.erst_commands.specs.Changes.{ChangeCommand, DummyCommand}
use Rattle.erst_commands.specs.Reads.{ReadCommand}
use Rattle.erst_commands.specs.Writes.{marked, id_of}
use Rattle.erst_shadow.specs.ShadowTables.{pieces_of, shadow_erst}
use Rattle.erst_shadow.specs.ShadowMoves.{holding, AgreesElsewhere}
use Rattle.erst_shadow.specs.ShadowSequences.{PaysMoves, ShowsRecord}
use Rattle.erst_machine.specs.declared.areas.Area.TheVariants.{Scratch}

-- how many pieces the longest record has over a machine
abbrev pub pieces_in : MachineState → ℕ
pieces_in state = pieces_of (reach_in state.device)

-- the client that attaching to the table finds: its log range is the scratch memory, and the timings are the machine's
abbrev pub shadow_client : MachineState → ClientState
shadow_client state = record {
  table = shadow_erst (pieces_in state);
  address = base_of Scratch;
  range = 128 * pieces_in state;
  timings = (own_client state).timings;
}

-- attaching with the steps that its four programs take: it never fails, and beside the bytes of the scratch memory all that it leaves is
-- the timings in VALUE
pub record AttachesShadow (budget : ℕ) (first : MachineState) (result : Result ClientState AttachError) (left : ℕ) (last : MachineState) : Type 0 where
  pub result_is : result ≡ Ok (shadow_client first)
  pub left_is : left + 8 ≡ budget
  pub scratch : length last.memory.scratch ≡ scratch_len
  pub last_is : last ≡ holding first.memory.range last.memory.scratch (with_value (timings_of first.device.store.layout) first)

-- a command by the machine's own table, between a machine beside the first and one beside the last, with fewer steps by the two moves
pub record AsOwn (pieces : ℕ) (first last : MachineState) (Own : MachineState → MachineState → ℕ → Result (Unit {0}) ClientError → ℕ → Type 0) (budget : ℕ)
    (result : Result (Unit {0}) ClientError) (left : ℕ) : Type 0 where
  pub own_first : MachineState
  pub own_last : MachineState
  pub own_budget : ℕ
  pub own_left : ℕ
  pub first_is : AgreesElsewhere own_first first
  pub last_is : AgreesElsewhere last own_last
  pub own : Own own_first own_last own_budget result own_left
  pub paid : PaysMoves pieces budget result left own_budget own_left
  pub shown : OnOk result (ShowsRecord pieces last own_last)

abbrev pub ShadowChange : (pieces : ℕ) (first last : MachineState) (id : ℕ) → Command → List Request → (budget : ℕ) → Result (Unit {0}) ClientError → (left : ℕ) → Type 0
ShadowChange pieces first last id command requests budget result left =
    AsOwn pieces first last (λ own_first own_last own_budget own_result own_left. ChangeCommand own_first own_last id command requests own_budget own_result own_left) budget result left

abbrev pub ShadowDummy : (pieces : ℕ) (first last : MachineState) (budget : ℕ) → Result (Unit {0}) ClientError → (left : ℕ) → Type 0
ShadowDummy pieces first last budget result left =
    AsOwn pieces first last (λ own_first own_last own_budget own_result own_left. DummyCommand own_first own_last dummy_requests own_budget own_result own_left) budget result left

abbrev pub ShadowRead : (pieces : ℕ) (first last : MachineState) (id budget : ℕ) → Result (Unit {0}) ClientError → (left : ℕ) → Type 0
ShadowRead pieces first last id budget result left =
    AsOwn pieces first last (λ own_first own_last own_budget own_result own_left. ReadCommand own_first own_last id own_budget own_result own_left) budget result left

-- a write: bytes that are no one record, or longer than the pieces, are refused before all else; those of a record are written as the map
-- does, from a log range that begins with them
pub data ShadowWriteAnswered (bytes : List ℕ) (budget : ℕ) (first : MachineState) : Result (Unit {0}) ClientError → ℕ → MachineState → Type 0 where
  IsNoRecord : (error : ClientError) → write_refusal bytes (128 * pieces_in first) ≡ Some error → ShadowWriteAnswered bytes budget first (Err error) budget first
  IsWritten : (result : Result (Unit {0}) ClientError) (left : ℕ) (last : MachineState) → write_refusal bytes (128 * pieces_in first) ≡ None
      → (change : ShadowChange (pieces_in first) first last (id_of bytes) (Write (id_of bytes) (marked bytes)) write_requests budget result left)
      → part change.own_first.memory.range 0 (length (marked bytes)) ≡ marked bytes → ShadowWriteAnswered bytes budget first result left last

-- a read: the record's length is that in the log range of the machine beside the last, and so many of its bytes are copied out. Of a
-- longer record than the pieces hold the length is refused, when the cursor has moved
pub data ShadowReadAnswered (id : ℕ) (out : List ℕ) (budget : ℕ) (first : MachineState) : Result ℕ ClientError → List ℕ → ℕ → MachineState → Type 0 where
  IsNotRead : (error : ClientError) (left : ℕ) (last : MachineState) → ShadowRead (pieces_in first) first last id budget (Err error) left →
      ShadowReadAnswered id out budget first (Err error) out left last
  IsNotCopied : (error : ClientError) (left : ℕ) (last : MachineState) (read : ShadowRead (pieces_in first) first last id budget (Ok tt) left)
      → copy_refusal (number_at read.own_last.memory.range 20 4) (128 * pieces_in first) (length out) ≡ Some error → ShadowReadAnswered id out budget first (Err error) out left last
  IsCopied : (left : ℕ) (last : MachineState) (read : ShadowRead (pieces_in first) first last id budget (Ok tt) left)
      → copy_refusal (number_at read.own_last.memory.range 20 4) (128 * pieces_in first) (length out) ≡ None
      → ShadowReadAnswered id out budget first (Ok (number_at read.own_last.memory.range 20 4))
      (part read.own_last.memory.range 0 (number_at read.own_last.memory.range 20 4) ++ drop (number_at read.own_last.memory.range 20 4) out) left last
