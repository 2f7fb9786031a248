-- The fields of a header, and cases of a verdict, as proofs name them.
use Rattle.std.specs.Prelude.{ℕ, codes, List, ◌++◌, Option, Some, None, Result, Err, Ok, [], if◌then◌else◌}
use Rattle.base_model.specs.Bytes.{little, number_at, part}
use Rattle.cper_frame.specs.Grammar.{SectionValue, RecordValue}
use Rattle.cper_frame.specs.Reading.{section_head_at, checked, record_of}
use Rattle.cper_frame.specs.declared.error.FrameError.{FrameError}
use Rattle.cper_frame.specs.declared.fed.Fed.{Fed}
use Rattle.cper_frame.specs.Stream.{Reader, feed_result_by, is_need, reader_failing, reader_holding}

-- "CPER" as a number
abbrev pub signature : ℕ
signature = little (codes "CPER")

abbrev pub section_count : List ℕ → ℕ
section_count bytes = number_at bytes 10 2

abbrev pub record_length : List ℕ → ℕ
record_length bytes = number_at bytes 20 4

abbrev pub section_in : List ℕ → List ℕ → SectionValue
section_in bytes descriptor = record {
  head = section_head_at descriptor;
  offset = number_at descriptor 0 4;
  body = part bytes (number_at descriptor 0 4) (number_at descriptor 4 4);
}

-- what a piece does to a reader that has failed or not
abbrev pub feed_result_unless : Reader → List ℕ → Option FrameError → Reader × Result Fed FrameError
feed_result_unless reader piece failed =
    elim failed [
      | None ↦ feed_result_by reader piece (checked reader.limit (reader.held ++ piece))
      | Some error ↦ (reader, Err error)
    ]

-- the record that is whole
abbrev pub frame_by : List ℕ → Result ℕ FrameError → Option RecordValue
frame_by held verdict = elim verdict [ Ok len ↦ Some (record_of held) | Err error ↦ None ]

-- without the record that is whole
abbrev pub without_frame_by : Reader → Result ℕ FrameError → Reader
without_frame_by reader verdict =
    elim verdict [
      | Ok len ↦ record { limit = reader.limit; held = []; failed = reader.failed }
      | Err error ↦ reader
    ]

-- what a reader makes of bytes that are so judged
abbrev pub fill_result_by : Reader → List ℕ → ℕ → Result ℕ FrameError → Reader × Result ℕ FrameError
fill_result_by reader held count verdict =
    elim verdict [
      | Ok len ↦ (reader_holding reader held, Ok count)
      | Err error ↦ if is_need error then (reader_holding reader held, Ok count) else (reader_failing reader error, Err error)
    ]
