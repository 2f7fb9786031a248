-- A client's commands, over any space.
use Rattle.std.specs.Prelude.{◌≡◌, ℕ, ◌+◌, ◌-◌, ◌%◌, ◌^◌, ◌==◌, ◌||◌, nat_lt, if◌then◌else◌, List, [], ◌∷◌, ◌++◌, length, take, drop, codes, Option, Some, None, Result, Ok, Err}
use Rattle.base_model.specs.Bytes.{number_at}
use Rattle.apei_space.specs.declared.faults.SpaceFault.{SpaceFault}
use Rattle.apei_space.specs.Calls.{Call, ReadBytes, WriteBytes}
use Rattle.cper_frame.specs.Reading.{checked}
use Rattle.erst_entries.specs.declared.actions.Action.TheVariants.{GetRecordCount, GetRecordIdentifier}
use Rattle.erst_entries.specs.declared.entries.Entry.{Entry}
use Rattle.erst_entries.specs.Layout.{Erst}
use Rattle.erst_interp.specs.declared.stops.RunStop.{RunStop}
use Rattle.erst_client.specs.declared.errors.ClientError.{ClientError}
use Rattle.erst_client.specs.declared.errors.ClientError.TheVariants.{Hardware, Frame, TooLong, SmallBuffer, BadLength, Stopped, Trailing, Range}
use Rattle.erst_client.specs.Requests.{Performs}
use Rattle.erst_client.specs.Sequences.{write_requests, read_requests, Sequence}

-- a client: its table, the address and the length of its error log address range, and its timings, as attaching found them
pub record ClientState : Type 0 where
  pub table : Erst
  pub address : ℕ
  pub range : ℕ
  pub timings : Option (ℕ × ℕ)

-- why bytes are not written: they are no error record, others follow it, or it is longer than the range
abbrev pub write_refusal : List ℕ → ℕ → Option ClientError
write_refusal bytes range =
    let have = length bytes in
    elim (checked (2 ^ 32 - 1) bytes) [
      | Err error ↦ Some (Frame error)
      | Ok len ↦ if nat_lt len have then Some (Trailing (have - len)) else (if nat_lt range have then Some (TooLong have range) else None)
    ]

-- where the range's byte so far from its start is
abbrev pub address_in : ℕ → ℕ → ℕ
address_in address offset = (address + offset) % 2 ^ 64

-- the record's bytes are put at the start of the range, and its mark of persistence, "ER", over their bytes 108 and 109
pub data Puts {W : Type 0} (allows : W → Call → W → Type 0) (address : ℕ) (bytes : List ℕ) (old : W) : Result (Unit {0}) ClientError → W → Type 0 where
  NotPut : (fault : SpaceFault) (last : W) → allows old (WriteBytes address bytes (Err fault)) last → Puts allows address bytes old (Err (Range fault)) last
  NotMarked : (mid : W) (fault : SpaceFault) (last : W) → allows old (WriteBytes address bytes (Ok tt)) mid →
      allows mid (WriteBytes (address_in address 108) (codes "ER") (Err fault)) last → Puts allows address bytes old (Err (Range fault)) last
  IsPut : (mid last : W) → allows old (WriteBytes address bytes (Ok tt)) mid →
      allows mid (WriteBytes (address_in address 108) (codes "ER") (Ok tt)) last → Puts allows address bytes old (Ok tt) last

pub data Writes {W : Type 0} (allows : W → Call → W → Type 0) (client : ClientState) (bytes : List ℕ) (budget : ℕ) (old : W) : Result (Unit {0}) ClientError → ℕ → W → Type 0 where
  IsNoRecord : (error : ClientError) → write_refusal bytes client.range ≡ Some error → Writes allows client bytes budget old (Err error) budget old
  IsNotPut : (error : ClientError) (last : W) → write_refusal bytes client.range ≡ None → Puts allows client.address bytes old (Err error) last →
      Writes allows client bytes budget old (Err error) budget last
  IsAsked : (mid : W) (result : Result (Unit {0}) ClientError) (left : ℕ) (last : W) → write_refusal bytes client.range ≡ None → Puts allows client.address bytes old (Ok tt) mid →
      Sequence allows client.table.entries client.timings write_requests budget mid result left last → Writes allows client bytes budget old result left last

-- why a record is not copied out: its length is none of a record in the range, or the buffer is shorter
abbrev pub copy_refusal : ℕ → ℕ → ℕ → Option ClientError
copy_refusal len range room =
    if nat_lt len 128 || nat_lt range len then Some (BadLength len)
    else (if nat_lt room len then Some (SmallBuffer len)
    else None)

-- one access fills a buffer from the start of the range
pub data CopiesOut {W : Type 0} (allows : W → Call → W → Type 0) (address : ℕ) (before after : List ℕ) (old : W) : Result (Unit {0}) ClientError → W → Type 0 where
  IsFilled : (new : W) → allows old (ReadBytes address before after (Ok tt)) new → CopiesOut allows address before after old (Ok tt) new
  IsNotFilled : (fault : SpaceFault) (new : W) → allows old (ReadBytes address before after (Err fault)) new → CopiesOut allows address before after old (Err (Range fault)) new

-- the same with its answer and what the buffer holds then as one value
abbrev pub Fills : {W : Type 0} → (W → Call → W → Type 0) → ℕ → List ℕ → W → Result (Unit {0}) ClientError × List ℕ → W → Type 0
Fills allows address out old filled new = CopiesOut allows address out filled.1 old filled.0 new

-- the answer of a read whose last access was made
abbrev pub copied : Result (Unit {0}) ClientError → ℕ → Result ℕ ClientError
copied (Ok done) len = Ok len
copied (Err error) len = Err error

-- a read, in which one access reads the record's length, the four bytes at 20: its answer, what the buffer holds then, the steps that
-- are left and the space afterwards
pub data Reads {W : Type 0} (allows : W → Call → W → Type 0) (client : ClientState) (id : ℕ) (out : List ℕ) (budget : ℕ) (old : W) : Result ℕ ClientError → List ℕ → ℕ → W → Type 0 where
  IsNotRead : (error : ClientError) (left : ℕ) (last : W) → Sequence allows client.table.entries client.timings (read_requests id) budget old (Err error) left last →
      Reads allows client id out budget old (Err error) out left last
  HasNoLength : (left : ℕ) (mid : W) (field : List ℕ) (fault : SpaceFault) (last : W) → Sequence allows client.table.entries client.timings (read_requests id) budget old (Ok tt) left mid →
      allows mid (ReadBytes (address_in client.address 20) (0 ∷ 0 ∷ 0 ∷ 0 ∷ []) field (Err fault)) last →
      Reads allows client id out budget old (Err (Range fault)) out left last
  IsNotCopied : (left : ℕ) (mid : W) (field : List ℕ) (error : ClientError) (last : W) → Sequence allows client.table.entries client.timings (read_requests id) budget old (Ok tt) left mid →
      allows mid (ReadBytes (address_in client.address 20) (0 ∷ 0 ∷ 0 ∷ 0 ∷ []) field (Ok tt)) last →
      copy_refusal (number_at field 0 4) client.range (length out) ≡ Some error →
      Reads allows client id out budget old (Err error) out left last
  IsCopied : (left : ℕ) (mid : W) (field : List ℕ) (next : W) (whole : List ℕ) (answer : Result (Unit {0}) ClientError) (last : W) →
      Sequence allows client.table.entries client.timings (read_requests id) budget old (Ok tt) left mid →
      allows mid (ReadBytes (address_in client.address 20) (0 ∷ 0 ∷ 0 ∷ 0 ∷ []) field (Ok tt)) next →
      copy_refusal (number_at field 0 4) client.range (length out) ≡ None →
      CopiesOut allows client.address (take (number_at field 0 4) out) whole next answer last →
      Reads allows client id out budget old (copied answer (number_at field 0 4)) (whole ++ drop (number_at field 0 4) out) left last

-- the same with its answer and what the buffer holds then as one value
abbrev pub ReadsInto : {W : Type 0} → (W → Call → W → Type 0) → ClientState → ℕ → List ℕ → ℕ → W → Result ℕ ClientError × List ℕ → ℕ → W → Type 0
ReadsInto allows client id out budget old read left last = Reads allows client id out budget old read.0 read.1 left last

-- GET_RECORD_COUNT, without END_OPERATION
pub record Counts {W : Type 0} (allows : W → Call → W → Type 0) (entries : List Entry) (budget : ℕ) (old : W) (result : Result ℕ ClientError) (left : ℕ) (last : W) : Type 0 where
  pub answer : Result ℕ RunStop
  pub asks : Performs allows entries GetRecordCount 0 budget old answer left last
  pub result_is : result ≡ elim answer [ Err stop ↦ Err (Stopped stop) | Ok count ↦ if count == 2 ^ 32 - 1 then Err Hardware else Ok count ]

-- GET_RECORD_IDENTIFIER, without END_OPERATION
pub record Names {W : Type 0} (allows : W → Call → W → Type 0) (entries : List Entry) (budget : ℕ) (old : W) (result : Result (Option ℕ) ClientError) (left : ℕ) (last : W) : Type 0 where
  pub answer : Result ℕ RunStop
  pub asks : Performs allows entries GetRecordIdentifier 0 budget old answer left last
  pub result_is :
      result ≡ elim answer [
        | Err stop ↦ Err (Stopped stop)
        | Ok id ↦ if id == 0 then Err Hardware else (if id == 2 ^ 64 - 1 then Ok None else Ok (Some id))
      ]
