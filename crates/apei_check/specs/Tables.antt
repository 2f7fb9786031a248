-- What a check of one table shows.
use Rattle.std.specs.Prelude.{◌≡◌, ℕ, ◌⊎◌, List, [], length, codes, Some, ◌++◌, decimal}
use Rattle.apei_check.specs.Items.{ItemShown, ItemRefused}
use Rattle.apei_check.specs.Shown.{numbered_lines}
use Rattle.apei_check.specs.TableLines.{entry_line, source_line}
use Rattle.apei_check.specs.declared.text.show.Show.{Show}
use Rattle.apei_tables.specs.declared.headers.TableError.{TableError}
use Rattle.apei_tables.specs.Tables.{refusal as table_refusal}
use Rattle.erst_entries.specs.declared.tables.ErstError.{ErstError}
use Rattle.erst_entries.specs.Layout.{Erst, FitsErst}
use Rattle.erst_entries.specs.Tables.{IsErst, refusal as erst_refusal}
use Rattle.hest_sources.specs.declared.sources.HestSource.{HestSource}
use Rattle.hest_sources.specs.declared.tables.HestError.{HestError}
use Rattle.hest_sources.specs.Tables.{IsHest, refusal as hest_refusal}
use Rattle.ghes_block.specs.declared.table.Bert.{Bert}
use Rattle.ghes_block.specs.Table.{IsBert}
use Rattle.script_text.specs.TableWords.{words_of_table, words_of_erst, words_of_hest}

-- an Error Record Serialization Table: its bytes and entries, and the bytes behind it, with a line for each of its instruction entries
abbrev pub AreErstLines : Show → List ℕ → List (List ℕ) → Type 0
AreErstLines show bytes lines =
    ItemShown {X = Erst} (λ erst table. IsErst erst table × FitsErst erst)
    (λ erst size rest. codes "erst " ++ decimal size ++ codes " entries " ++ decimal (length erst.entries) ++ codes " rest " ++ decimal rest)
    (λ erst. numbered_lines entry_line erst.entries) show bytes lines
    ⊎ ItemRefused {E = ErstError} (λ found why. erst_refusal found ≡ Some why) (codes "bad erst ") words_of_erst bytes lines

-- a Hardware Error Source Table: its bytes and sources, and the bytes behind it, with a line for each of its error sources
abbrev pub AreHestLines : Show → List ℕ → List (List ℕ) → Type 0
AreHestLines show bytes lines =
    ItemShown {X = List HestSource} IsHest
    (λ sources size rest. codes "hest " ++ decimal size ++ codes " sources " ++ decimal (length sources) ++ codes " rest " ++ decimal rest) (numbered_lines source_line) show bytes lines
    ⊎ ItemRefused {E = HestError} (λ found why. hest_refusal found ≡ Some why) (codes "bad hest ") words_of_hest bytes lines

-- a Boot Error Record Table: its bytes, the region that it names, and the bytes behind it. It has no parts
abbrev pub AreBertLines : Show → List ℕ → List (List ℕ) → Type 0
AreBertLines show bytes lines =
    ItemShown {X = Bert} IsBert
    (λ bert size rest. codes "bert " ++ decimal size ++ codes " region " ++ decimal bert.region ++ codes " bytes " ++ decimal bert.len ++ codes " rest "
    ++ decimal rest) (λ bert. []) show bytes lines
    ⊎ ItemRefused {E = TableError} (λ found why. table_refusal (codes "BERT") 48 found ≡ Some why) (codes "bad bert ") words_of_table bytes lines
