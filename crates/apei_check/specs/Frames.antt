-- The lines of an error record (UEFI 2.8, appendix N) and of an error status block (ACPI 6.4, 18.3.2.7).
use Rattle.std.specs.Prelude.{◌≡◌, ℕ, ◌-◌, ◌^◌, ◌⊎◌, List, ◌++◌, length, codes, decimal, Err}
use Rattle.apei_bytes.specs.Guid.{guid_text}
use Rattle.apei_check.specs.Items.{ItemShown, ItemRefused}
use Rattle.apei_check.specs.Shown.{numbered_lines}
use Rattle.apei_check.specs.declared.text.show.Show.{Show}
use Rattle.cper_frame.specs.Grammar.{SectionValue, RecordValue, IsRecord}
use Rattle.cper_frame.specs.Reading.{checked as checked_record}
use Rattle.cper_frame.specs.declared.error.FrameError.{FrameError}
use Rattle.ghes_block.specs.Grammar.{EntryValue, BlockValue, IsBlock}
use Rattle.ghes_block.specs.Reading.{checked as checked_block}
use Rattle.ghes_block.specs.declared.error.BlockError.{BlockError}
use Rattle.script_text.specs.FrameWords.{words_of_frame, words_of_block}

-- a section, by its descriptor
unfoldable pub section_line : ℕ → SectionValue → List ℕ
section_line index section =
    codes "section " ++ decimal index
    ++ codes " kind " ++ guid_text section.head.kind
    ++ codes " at " ++ decimal section.offset
    ++ codes " bytes " ++ decimal (length section.body)
    ++ codes " severity " ++ decimal section.head.severity

-- a record of so many bytes, with so many bytes behind it
unfoldable pub record_line : RecordValue → ℕ → ℕ → List ℕ
record_line value size rest =
    codes "record " ++ decimal size
    ++ codes " sections " ++ decimal (length value.sections)
    ++ codes " severity " ++ decimal value.head.severity
    ++ codes " id " ++ decimal value.head.id
    ++ codes " rest " ++ decimal rest

-- an entry of a block, by its head and its data
unfoldable pub entry_line : ℕ → EntryValue → List ℕ
entry_line index entry =
    codes "part " ++ decimal index
    ++ codes " kind " ++ guid_text entry.head.kind
    ++ codes " bytes " ++ decimal (length entry.body)
    ++ codes " severity " ++ decimal entry.head.severity

-- a block, with so many bytes behind it
unfoldable pub block_line : BlockValue → ℕ → List ℕ
block_line value rest =
    codes "block " ++ decimal value.size
    ++ codes " entries " ++ decimal (length value.entries)
    ++ codes " status " ++ decimal value.status
    ++ codes " severity " ++ decimal value.severity
    ++ codes " raw " ++ decimal (length value.raw)
    ++ codes " rest " ++ decimal rest

-- what a check of a record shows
abbrev pub AreRecordLines : Show → List ℕ → List (List ℕ) → Type 0
AreRecordLines show bytes lines =
    ItemShown {X = RecordValue} IsRecord record_line (λ value. numbered_lines section_line value.sections) show bytes lines
    ⊎ ItemRefused {E = FrameError} (λ found error. checked_record (2 ^ 32 - 1) found ≡ Err error) (codes "bad record ") words_of_frame bytes lines

-- what a check of a block shows
abbrev pub AreBlockLines : Show → List ℕ → List (List ℕ) → Type 0
AreBlockLines show bytes lines =
    ItemShown {X = BlockValue} IsBlock (λ value size rest. block_line value rest) (λ value. numbered_lines entry_line value.entries) show bytes lines
    ⊎ ItemRefused {E = BlockError} (λ found error. checked_block found ≡ Err error) (codes "bad block ") words_of_block bytes lines
