-- Which section the sentence of a record or of a block is of, and what it says. When that was stands behind.
use Rattle.std.specs.Prelude.{◌≡◌, ◌<◌, ◌++◌, ◌+◌, ◌*◌, ℕ, List, codes, decimal, String}
use Rattle.std.specs.declared.alloc.Global.{Global}
use Rattle.cper_frame.specs.Names.{severity_word}
use Rattle.show_findings.specs.ErrorSections.{IsDescribed, IsReported}
use Rattle.show_findings.specs.Places.{seen_number}
use Rattle.show_findings.specs.Sentences.{Tells}
use Rattle.show_findings.specs.Words.{section_words, severity_words, record_words}
use Rattle.show_findings.specs.Worst.{IsWorstSection, IsWorstEntry, entry_place}

-- what the descriptor at a place of a record says of its section is told, and how many sections there are besides
pub record TellsDescribed (bytes : List ℕ) (at others : ℕ) (before after : String Global) : Type 0 where
  pub kind : List ℕ
  pub severity : ℕ
  pub flags : ℕ
  pub label : List ℕ
  pub body : List ℕ
  pub described : IsDescribed bytes at kind severity flags label body
  pub tells : Tells (section_words kind severity flags label body others ++ record_words bytes) before after

-- it is the worst section's
pub record IsOfWorstSection (bytes : List ℕ) (before after : String Global) : Type 0 where
  pub others : ℕ
  pub index : ℕ
  pub worst : IsWorstSection bytes others index
  pub tells : TellsDescribed bytes (128 + 72 * index) others before after

-- a record that has none
abbrev pub bare_record : List ℕ → List ℕ
bare_record bytes = severity_words (severity_word (seen_number bytes 12 4)) ++ codes "error record without sections" ++ record_words bytes

abbrev pub cut_record : ℕ → List ℕ
cut_record len = codes "error record cut off after " ++ decimal len ++ codes " bytes"

-- what the data entry at a place of a block says of its section is told
pub record TellsReported (block : List ℕ) (at others : ℕ) (before after : String Global) : Type 0 where
  pub kind : List ℕ
  pub severity : ℕ
  pub flags : ℕ
  pub label : List ℕ
  pub body : List ℕ
  pub reported : IsReported block at kind severity flags label body
  pub tells : Tells (section_words kind severity flags label body others) before after

pub record IsOfWorstEntry (block : List ℕ) (before after : String Global) : Type 0 where
  pub others : ℕ
  pub index : ℕ
  pub worst : IsWorstEntry block others index
  pub tells : TellsReported block (entry_place block index) others before after

abbrev pub bare_block : List ℕ → List ℕ
bare_block block = severity_words (severity_word (seen_number block 16 4)) ++ codes "error status block without entries"

abbrev pub cut_block : ℕ → List ℕ
cut_block len = codes "error status block cut off after " ++ decimal len ++ codes " bytes"
