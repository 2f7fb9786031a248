-- The lines that were written are those of the table.
use Rattle.std.proofs.Common.{◌≡◌, ℕ, ◌-◌, ◌≤◌, inl, inr, List, [], ◌∷◌, ◌++◌, length, take, refl}
use Rattle.std.specs.Prelude.{codes, Some, decimal}
use Rattle.apei_check.specs.declared.text.show.Show.{Show}
use Rattle.apei_check.specs.Shown.{lines_shown, numbered_lines}
use Rattle.erst_entries.specs.declared.tables.ErstError.{ErstError}
use Rattle.erst_entries.specs.Layout.{Erst, FitsErst}
use Rattle.erst_entries.specs.Tables.{IsErst, refusal as erst_refusal, IsRefusal as erst_is_refusal}
use Rattle.erst_entries.specs.declared.tables.ErstError.TheVariants.{Table as erst_table, HeaderSize as header_size, Count as erst_count, Memory as erst_memory}
use Rattle.apei_tables.specs.declared.headers.TableError.{TableError}
use Rattle.apei_tables.specs.Tables.{refusal as table_refusal}
use Rattle.hest_sources.specs.declared.sources.HestSource.{HestSource}
use Rattle.hest_sources.specs.declared.tables.HestError.{HestError}
use Rattle.hest_sources.specs.declared.tables.HestError.TheVariants.{Table as hest_table, UnknownType as unknown, Cut as cut, Count as hest_count, Memory as hest_memory}
use Rattle.hest_sources.specs.Tables.{IsHest, refusal as hest_refusal, IsRefusal as hest_is_refusal}
use Rattle.ghes_block.specs.declared.table.Bert.{Bert}
use Rattle.ghes_block.specs.Table.{IsBert}
use Rattle.ghes_block.proofs.Terms.{signature as bert_signature}
use Rattle.script_text.specs.TableWords.{words_of_table, words_of_erst, words_of_hest, ErstHasWords, HestHasWords}
use Rattle.apei_check.specs.TableLines.{entry_line, source_line}
use Rattle.apei_check.specs.Tables.{AreErstLines, AreHestLines, AreBertLines}

pub erst_lines : (show : Show) (bytes : List ℕ) (erst : Erst) (len : ℕ) → IsErst erst (take len bytes) → FitsErst erst → len ≤ length bytes
    → AreErstLines show bytes (lines_shown show (codes "erst " ++ decimal len ++ codes " entries " ++ decimal (length erst.entries) ++ codes " rest "
    ++ decimal (length bytes - len)) (numbered_lines entry_line erst.entries))
erst_lines show bytes erst len is fits within = inl (record { item = erst; size = len; within = within; is = (is, fits); shown = refl })

pub hest_lines : (show : Show) (bytes : List ℕ) (sources : List HestSource) (len : ℕ) → IsHest sources (take len bytes) → len ≤ length bytes
    → AreHestLines show bytes (lines_shown show (codes "hest " ++ decimal len ++ codes " sources " ++ decimal (length sources) ++ codes " rest "
    ++ decimal (length bytes - len)) (numbered_lines source_line sources))
hest_lines show bytes sources len is within = inl (record { item = sources; size = len; within = within; is = is; shown = refl })

pub bert_lines : (show : Show) (bytes : List ℕ) (bert : Bert) (len : ℕ) → IsBert bert (take len bytes) → len ≤ length bytes
    → AreBertLines show bytes (lines_shown show (codes "bert " ++ decimal len ++ codes " region " ++ decimal bert.region ++ codes " bytes " ++ decimal bert.len
    ++ codes " rest " ++ decimal (length bytes - len)) [])
bert_lines show bytes bert len is within = inl (record { item = bert; size = len; within = within; is = is; shown = refl })

-- an error that has words is the first reason
pub first_of_erst : (bytes : List ℕ) (why : ErstError) → ErstHasWords why → erst_is_refusal bytes why → erst_refusal bytes ≡ Some why
first_of_erst bytes (erst_table why) has is = is
first_of_erst bytes (header_size found) has is = is
first_of_erst bytes (erst_count found size) has is = is
first_of_erst bytes erst_memory has is = absurd has

pub first_of_hest : (bytes : List ℕ) (why : HestError) → HestHasWords why → hest_is_refusal bytes why → hest_refusal bytes ≡ Some why
first_of_hest bytes (hest_table why) has is = is
first_of_hest bytes (unknown at code) has is = is
first_of_hest bytes (cut at) has is = is
first_of_hest bytes (hest_count declared found) has is = is
first_of_hest bytes hest_memory has is = absurd has

pub bad_erst : (show : Show) (bytes : List ℕ) (why : ErstError) → erst_refusal bytes ≡ Some why → AreErstLines show bytes ((codes "bad erst " ++ words_of_erst why) ∷ [])
bad_erst show bytes why first = inr (record { why = why; first = first; shown = refl })

pub bad_hest : (show : Show) (bytes : List ℕ) (why : HestError) → hest_refusal bytes ≡ Some why → AreHestLines show bytes ((codes "bad hest " ++ words_of_hest why) ∷ [])
bad_hest show bytes why first = inr (record { why = why; first = first; shown = refl })

pub bad_bert : (show : Show) (bytes : List ℕ) (why : TableError) → table_refusal bert_signature 48 bytes ≡ Some why → AreBertLines show bytes ((codes "bad bert " ++ words_of_table why) ∷ [])
bad_bert show bytes why first = inr (record { why = why; first = first; shown = refl })
