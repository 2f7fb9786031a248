-- The lines of what was found, and of what was refused.
use Rattle.std.proofs.Common.{◌≡◌, ℕ, ◌-◌, ◌^◌, ◌≤◌, List, [], ◌∷◌, ◌++◌, length, take, codes, Err, inl, inr, refl}
use Rattle.apei_check.specs.Shown.{lines_shown, numbered_lines}
use Rattle.apei_check.specs.declared.text.show.Show.{Show}
use Rattle.cper_frame.specs.Grammar.{RecordValue, IsRecord}
use Rattle.cper_frame.specs.Reading.{checked as checked_record}
use Rattle.cper_frame.specs.declared.error.FrameError.{FrameError}
use Rattle.ghes_block.specs.Grammar.{BlockValue, IsBlock}
use Rattle.ghes_block.specs.Reading.{checked as checked_block}
use Rattle.ghes_block.specs.declared.error.BlockError.{BlockError}
use Rattle.script_text.specs.FrameWords.{words_of_frame, words_of_block}
use Rattle.apei_check.specs.Frames.{section_line, record_line, entry_line, block_line, AreRecordLines, AreBlockLines}

pub lines_of_record : (show : Show) (bytes : List ℕ) (value : RecordValue) (size : ℕ) → size ≤ length bytes → IsRecord value (take size bytes)
    → AreRecordLines show bytes (lines_shown show (record_line value size (length bytes - size)) (numbered_lines section_line value.sections))
lines_of_record show bytes value size within is = inl (record { item = value; size = size; within = within; is = is; shown = refl })

pub lines_of_no_record : (show : Show) (bytes : List ℕ) (error : FrameError) → checked_record (2 ^ 32 - 1) bytes ≡ Err error
    → AreRecordLines show bytes ((codes "bad record " ++ words_of_frame error) ∷ [])
lines_of_no_record show bytes error refused = inr (record { why = error; first = refused; shown = refl })

pub lines_of_block : (show : Show) (bytes : List ℕ) (value : BlockValue) (size : ℕ) → size ≤ length bytes → IsBlock value (take size bytes)
    → AreBlockLines show bytes (lines_shown show (block_line value (length bytes - size)) (numbered_lines entry_line value.entries))
lines_of_block show bytes value size within is = inl (record { item = value; size = size; within = within; is = is; shown = refl })

pub lines_of_no_block : (show : Show) (bytes : List ℕ) (error : BlockError) → checked_block bytes ≡ Err error
    → AreBlockLines show bytes ((codes "bad block " ++ words_of_block error) ∷ [])
lines_of_no_block show bytes error refused = inr (record { why = error; first = refused; shown = refl })
