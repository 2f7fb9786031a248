-- Which section of a record or of a block is the worst one.
use Rattle.std.specs.Prelude.{◌≡◌, ℕ, zero, suc, ◌+◌, ◌-◌, ◌*◌, ◌/◌, ◌%◌, ◌<◌, ◌≤◌, ◌==◌, min, if◌then◌else◌, List, length, drop, Option, Some, None}
use Rattle.base_model.specs.Bytes.{part, number_at}
use Rattle.ghes_block.specs.Reading.{entry_size}
use Rattle.show_findings.specs.Places.{HasDataEntry, data_part, seen_number}

-- how bad a severity is: fatal, recoverable, corrected, informational (UEFI 2.8, N.2.1). A number that is none of these is least
abbrev pub badness : ℕ → ℕ
badness severity =
    if severity == 1 then 4
    else if severity == 0 then 3
    else if severity == 2 then 2
    else if severity == 3 then 1
    else 0

-- of sections that are equally bad, one with the primary flag ranks higher
abbrev pub rank : (severity flags : ℕ) → ℕ
rank severity flags = 2 * badness severity + flags % 2

-- of those from 0 to `others`: none ranks higher, and each before it ranks lower
pub record IsWorst (rank_of : ℕ → ℕ) (others index : ℕ) : Type 0 where
  pub there : index ≤ others
  pub none_higher : (other : ℕ) → other ≤ others → rank_of other ≤ rank_of index
  pub first : (other : ℕ) → other < index → rank_of other < rank_of index

-- the sections of a record whose descriptors are there
abbrev pub section_count : List ℕ → ℕ
section_count bytes = min (seen_number bytes 10 2) ((length bytes - 128) / 72)

abbrev pub descriptor : List ℕ → ℕ → List ℕ
descriptor bytes index = part bytes (128 + 72 * index) 72

abbrev pub section_rank : List ℕ → ℕ → ℕ
section_rank bytes index = rank (number_at (descriptor bytes index) 48 4) (number_at (descriptor bytes index) 12 4)

pub record IsWorstSection (bytes : List ℕ) (others index : ℕ) : Type 0 where
  pub all : others + 1 ≡ section_count bytes
  pub worst : IsWorst (section_rank bytes) others index

-- where the data entry behind the one at a place begins, and the rank of that one
abbrev pub next_place : List ℕ → ℕ → ℕ
next_place block place = place + entry_size (drop place (data_part block))

abbrev pub rank_at : List ℕ → ℕ → ℕ
rank_at block place = rank (number_at (drop place (data_part block)) 16 4) (number_at (drop place (data_part block)) 23 1)

-- where the data entries of a block begin
abbrev pub entry_place : List ℕ → ℕ → ℕ
entry_place block zero = 20
entry_place block (suc index) = next_place block (entry_place block index)

abbrev pub entry_rank : List ℕ → ℕ → ℕ
entry_rank block index = rank_at block (entry_place block index)

pub record IsWorstEntry (block : List ℕ) (others index : ℕ) : Type 0 where
  pub last : HasDataEntry block (entry_place block others)
  pub no_more : ¬ HasDataEntry block (entry_place block (others + 1))
  pub worst : IsWorst (entry_rank block) others index
