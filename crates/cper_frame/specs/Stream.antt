-- Records in a stream, however it is cut into pieces.
use Rattle.std.specs.Prelude.{◌≡◌, ℕ, ◌+◌, ◌-◌, ◌≤◌, List, [], ◌++◌, length, take, All, Option, Some, None, Result, Ok, Err, Bool, true, false, cond, if◌then◌else◌, min, ◌==◌, ◌<◌, ◌^◌, is_some}
use Rattle.base_model.specs.Bytes.{joined}
use Rattle.cper_frame.specs.declared.error.FrameError.{FrameError}
use Rattle.cper_frame.specs.declared.error.FrameError.TheVariants.{Need, Start, End, Length, Section, Limit}
use Rattle.cper_frame.specs.declared.fed.Fed.{Fed}
use Rattle.cper_frame.specs.Grammar.{RecordValue, IsRecord}
use Rattle.cper_frame.specs.Reading.{checked, record_of}

-- a reader: the greatest record that it takes, the bytes of the record so far, and the error that it answers for good
pub record Reader : Type 0 where
  pub limit : ℕ
  pub held : List ℕ
  pub failed : Option FrameError

-- too few bytes, and no refusal
abbrev pub is_need : FrameError → Bool
is_need (Need more) = true
is_need Start = false
is_need End = false
is_need (Length found) = false
is_need (Section index) = false
is_need (Limit found) = false

-- what is left of the record, where it isn't whole
abbrev pub missing_by : Result ℕ FrameError → ℕ
missing_by (Err (Need more)) = more
missing_by verdict = 0

-- the reader with an error
abbrev pub reader_failing : Reader → FrameError → Reader
reader_failing reader error = record { limit = reader.limit; held = []; failed = Some error }

abbrev pub reader_holding : Reader → List ℕ → Reader
reader_holding reader held = record { limit = reader.limit; held = held; failed = None }

-- what a reader makes of the record's bytes and a piece that follows them, where they are so judged: it takes the piece up to
-- the record's end, or all of it where the record isn't whole yet, or it fails
abbrev pub feed_result_by : Reader → List ℕ → Result ℕ FrameError → Reader × Result Fed FrameError
feed_result_by reader piece (Ok len) = (reader_holding reader (take len (reader.held ++ piece)), Ok (record { taken = len - length reader.held; whole = true }))
feed_result_by reader piece (Err error) =
    if is_need error then (reader_holding reader (reader.held ++ piece), Ok (record { taken = length piece; whole = false }))
    else (reader_failing reader error, Err error)

-- what a piece does
abbrev pub feed_result : Reader → List ℕ → Reader × Result Fed FrameError
feed_result reader piece =
    elim reader.failed [
      | None ↦ feed_result_by reader piece (checked reader.limit (reader.held ++ piece))
      | Some error ↦ (reader, Err error)
    ]

-- what a reader makes of the first bytes of a piece, as many as are wanted or there
abbrev pub fill_result : Reader → List ℕ → Reader × Result ℕ FrameError
fill_result reader piece =
    let count = min (missing_by (checked reader.limit reader.held)) (length piece) in
    let held = reader.held ++ take count piece in
    elim (checked reader.limit held) [
      | Ok len ↦ (reader_holding reader held, Ok count)
      | Err error ↦ if is_need error then (reader_holding reader held, Ok count) else (reader_failing reader error, Err error)
    ]

-- what is held is the beginning of a record that has its place, or one that is whole
pub record IsReader (limit : ℕ) (held : List ℕ) (capacity missing : ℕ) : Type 0 where
  pub header : 128 ≤ limit
  pub short : limit < 2 ^ 32
  pub room : limit ≤ capacity
  pub within : length held + missing ≤ limit
  pub state : checked limit held ≡ cond (missing == 0) (Ok (length held)) (Err (Need missing))

-- the record that is whole
abbrev pub frame_of : Reader → Option RecordValue
frame_of reader = elim (checked reader.limit reader.held) [ Ok len ↦ Some (record_of reader.held) | Err error ↦ None ]

-- without the record that is whole
abbrev pub without_frame : Reader → Reader
without_frame reader =
    elim (checked reader.limit reader.held) [
      | Ok len ↦ record { limit = reader.limit; held = []; failed = reader.failed }
      | Err error ↦ reader
    ]

-- what a reader took of a piece gets a caller on: with no whole record at hand before it is some of the piece, where none is whole
-- then it is all of it, and `whole` says which
pub record GetsOn (old new : Reader) (piece : List ℕ) (took : Fed) : Type 0 where
  pub some : frame_of old ≡ None → 0 < length piece → 0 < took.taken
  pub all : took.whole ≡ false → took.taken ≡ length piece
  pub whole : took.whole ≡ is_some (frame_of new)

-- a whole record of at most `limit` bytes
pub record IsRecordWithin (limit : ℕ) (bytes : List ℕ) : Type 0 where
  pub within : length bytes ≤ limit
  pub is_record : (value : RecordValue) × IsRecord value bytes

-- the stream is these records, and then a rest that is none: it is too short, or refused
pub record Splits (limit : ℕ) (stream : List ℕ) (records : List (List ℕ)) (rest : List ℕ) (error : FrameError) : Type 0 where
  pub whole : stream ≡ joined records ++ rest
  pub each : All (IsRecordWithin limit) records
  pub stops : checked limit rest ≡ Err error

-- a rest that is only too short is no refusal
abbrev pub refusal : FrameError → Option FrameError
refusal error = if is_need error then None else Some error

-- a reader that is in the midst of a record
pub record Waits (reader : Reader) : Type 0 where
  pub sound : reader.failed ≡ None
  pub missing : (more : ℕ) × (0 < more) × (checked reader.limit reader.held ≡ Err (Need more))

-- the stream so far is these records, and what is held
pub record Going (limit : ℕ) (stream : List ℕ) (records : List (List ℕ)) (held : List ℕ) : Type 0 where
  pub whole : stream ≡ joined records ++ held
  pub each : All (IsRecordWithin limit) records

-- the stream so far is these records, and a rest that is refused
pub record Refused (limit : ℕ) (stream : List ℕ) (records : List (List ℕ)) (error : FrameError) : Type 0 where
  pub rest : List ℕ
  pub whole : stream ≡ joined records ++ rest
  pub each : All (IsRecordWithin limit) records
  pub stops : checked limit rest ≡ Err error
  pub no_need : is_need error ≡ false
