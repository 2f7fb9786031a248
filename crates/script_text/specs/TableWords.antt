-- The words of tables that are refused.
use Rattle.std.specs.Prelude.{ℕ, List, [], codes, ◌++◌, decimal}
use Rattle.apei_tables.specs.declared.headers.TableError.{TableError}
use Rattle.apei_tables.specs.declared.headers.TableError.TheVariants.{Short, Signature, Length, Sum}
use Rattle.erst_entries.specs.declared.tables.ErstError.{ErstError}
use Rattle.erst_entries.specs.declared.tables.ErstError.TheVariants.{Table, HeaderSize, Count, Memory}
use Rattle.hest_sources.specs.declared.tables.HestError.{HestError}
use Rattle.hest_sources.specs.declared.tables.HestError.TheVariants.{Table as hest_table, UnknownType, Cut, Count as hest_count, Memory as hest_memory}

abbrev pub words_of_table : TableError → List ℕ
words_of_table (Short have) = codes "short " ++ decimal have
words_of_table (Signature found) = codes "signature"
words_of_table (Length found) = codes "length " ++ decimal found
words_of_table (Sum found) = codes "sum " ++ decimal found

abbrev pub words_of_erst : ErstError → List ℕ
words_of_erst (Table why) = words_of_table why
words_of_erst (HeaderSize found) = codes "header-size " ++ decimal found
words_of_erst (Count found length) = codes "count " ++ decimal found ++ codes " " ++ decimal length
words_of_erst Memory = []

-- want of memory has no words
abbrev pub ErstHasWords : ErstError → Type 0
ErstHasWords Memory = ⊥
ErstHasWords _ = Unit {0}

abbrev pub words_of_hest : HestError → List ℕ
words_of_hest (hest_table why) = words_of_table why
words_of_hest (UnknownType at code) = codes "unknown " ++ decimal at ++ codes " " ++ decimal code
words_of_hest (Cut at) = codes "cut " ++ decimal at
words_of_hest (hest_count declared found) = codes "count " ++ decimal declared ++ codes " " ++ decimal found
words_of_hest hest_memory = []

-- want of memory has no words
abbrev pub HestHasWords : HestError → Type 0
HestHasWords hest_memory = ⊥
HestHasWords _ = Unit {0}
