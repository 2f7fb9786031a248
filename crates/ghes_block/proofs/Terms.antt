-- Names for terms that definitions write out.
use Rattle.std.specs.Prelude.{List, ℕ, ◌+◌, Option, Some, Result, Ok, Err, length, [], ◌∷◌, codes}
use Rattle.base_model.specs.Bytes.{number_at, part, spelled}
use Rattle.ghes_block.specs.declared.error.BlockError.{BlockError}
use Rattle.ghes_block.specs.Reading.{entry_walk}
use Rattle.apei_bytes.specs.Walk.{item_count, items_in}
use Rattle.ghes_block.specs.Grammar.{EntryValue}

abbrev pub status_at : List ℕ → ℕ
status_at bytes = number_at bytes 0 4

abbrev pub raw_offset : List ℕ → ℕ
raw_offset bytes = number_at bytes 4 4

abbrev pub raw_length : List ℕ → ℕ
raw_length bytes = number_at bytes 8 4

abbrev pub data_length : List ℕ → ℕ
data_length bytes = number_at bytes 12 4

abbrev pub count_in : List ℕ → Result ℕ BlockError
count_in content = item_count entry_walk (length content) 0 20 content

abbrev pub entries_in : List ℕ → List EntryValue
entries_in content = items_in entry_walk (length content) 0 20 content

abbrev pub data_of : List ℕ → List ℕ
data_of bytes = part bytes 20 (number_at bytes 12 4)

abbrev pub block_head : ℕ → ℕ → ℕ → ℕ → ℕ → List (List ℕ)
block_head status raw_offset raw_length data_length severity =
    spelled 4 status ∷ spelled 4 raw_offset ∷ spelled 4 raw_length ∷ spelled 4 data_length ∷ spelled 4 severity ∷ []

-- what stands behind the bytes that were checked
abbrev pub read_at : ℕ → Result ℕ BlockError → Result (Option ℕ) BlockError
read_at at found = elim found [ Ok size ↦ Ok (Some (at + size)) | Err error ↦ Err error ]

abbrev pub signature : List ℕ
signature = codes "BERT"
