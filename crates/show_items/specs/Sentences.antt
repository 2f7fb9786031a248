-- The sentence of a record and of a block: what the clauses of `add_record` and `add_block` say was added to an empty string.
use Rattle.std.specs.Prelude.{◌≡◌, ◌<◌, ◌≤◌, ℕ, List, [], length, String, string_bytes}
use Rattle.std.specs.declared.alloc.Global.{Global}
use Rattle.show_findings.specs.Places.{HasDataEntry}
use Rattle.show_findings.specs.Sentences.{Adds, Tells}
use Rattle.show_findings.specs.Spoken.{IsOfWorstEntry, IsOfWorstSection, bare_block, bare_record, cut_block, cut_record}
use Rattle.show_findings.specs.Worst.{section_count}

-- the sentence is all that was added
pub record IsAdded (AddsIt : (before after : String Global) → Type 0) (sentence : List ℕ) : Type 0 where
  pub before : String Global
  pub after : String Global
  pub blank : string_bytes before ≡ []
  pub whole : sentence ≡ string_bytes after
  pub adds : AddsIt before after

-- a record is cut off, has no section, or its worst section is told
pub record AddsRecord (bytes : List ℕ) (before after : String Global) : Type 0 where
  pub cut : length bytes < 128 → Adds (cut_record (length bytes)) before after
  pub bare : 128 ≤ length bytes → section_count bytes ≡ 0 → Tells (bare_record bytes) before after
  pub worst : 128 ≤ length bytes → 0 < section_count bytes → IsOfWorstSection bytes before after

abbrev pub IsRecordSentence : (bytes sentence : List ℕ) → Type 0
IsRecordSentence bytes sentence = IsAdded (AddsRecord bytes) sentence

-- and so is a block, by its data entries
pub record AddsBlock (block : List ℕ) (before after : String Global) : Type 0 where
  pub cut : length block < 20 → Adds (cut_block (length block)) before after
  pub bare : 20 ≤ length block → (¬ HasDataEntry block 20) → Adds (bare_block block) before after
  pub worst : 20 ≤ length block → HasDataEntry block 20 → IsOfWorstEntry block before after

abbrev pub IsBlockSentence : (block sentence : List ℕ) → Type 0
IsBlockSentence block sentence = IsAdded (AddsBlock block) sentence
