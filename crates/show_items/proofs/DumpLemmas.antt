-- The lines of a text of acpidump, and the tables in them.
use Rattle.std.proofs.Common.{◌≡◌, ◌∙◌, ◌<◌, ◌+◌, ◌-◌, ℕ, suc, ◌==◌, Bool, true, false, ◌||◌, if◌then◌else◌, List, [], ◌∷◌, ◌++◌, length, take, Option, Some}
use Rattle.std.proofs.Common.{None, refl, sym, ap, subst, append_assoc, append-nil, arith, true≢false}
use Rattle.show_items.specs.Dumps.{AreDumpedAs, AreTables, Dumped, ReadsLine, TakesLine, behind_line, byte_and, first_pair, has_any, in_first, is_title}
use Rattle.show_items.specs.Dumps.{line_bytes, line_len, lines_of, pairs, place_behind, tables_from, tables_left, whole}
use Rattle.show_items.specs.Items.{Shown}
use Rattle.show_items.specs.Judged.{ShowsAll, ShowsOne, StopsAll, StopsIn, StopsOne}
use Rattle.show_items.specs.Sheets.{ItemsBegun, ShowsItems}
use Rattle.show_items.specs.Singles.{IsUnknown}
use Rattle.show_items.specs.Tables.{IsTable}
use Rattle.show_items.specs.declared.dumps.Dump.{Dump}
use Rattle.show_items.specs.declared.sheet.Sheet.{Sheet}
use Rattle.show_items.proofs.BeginningLemmas.{items_begun_then}
use Rattle.show_items.proofs.SheetLemmas.{items_on_pages, items_then}

-- a text that isn't empty has a first line, and the lines behind it
line_first_by : (is_end : Bool) (byte : ℕ) (bytes : List ℕ)
    → (if is_end then [] ∷ lines_of bytes else in_first byte (lines_of bytes))
    ≡ take (if is_end then 0 else suc (line_len bytes)) (byte ∷ bytes) ∷ lines_of (if is_end then bytes else behind_line bytes)
line_first_by true byte bytes = refl
line_first_by false byte [] = refl
line_first_by false byte (next ∷ bytes) = ap (in_first byte) (line_first_by (next == 10) next bytes)

line_first : (text : List ℕ) → 0 < length text → lines_of text ≡ take (line_len text) text ∷ lines_of (behind_line text)
line_first [] some = absurd (omega (arith, some))
line_first (byte ∷ bytes) some = line_first_by (byte == 10) byte bytes

-- a line that is no title is one of the table that is read, and a title ends that table
choice : (is : Bool) (line : List ℕ) (old : Dump) (lines : List (List ℕ)) → is_title line ≡ is → tables_from old.at old.begin old.table.items (line ∷ lines)
    ≡ (if is then whole old.begin old.table.items ++ tables_from (place_behind old.at line) old.at [] lines
    else tables_from (place_behind old.at line) old.begin (old.table.items ++ line_bytes line) lines)
choice is line old lines title = ap (λ (b : Bool). if b then whole old.begin old.table.items ++ tables_from (place_behind old.at line) old.at [] lines
    else tables_from (place_behind old.at line) old.begin (old.table.items ++ line_bytes line) lines) title

pub bytes_read : (line : List ℕ) (old new : Dump) → is_title line ≡ false → new.rest ≡ old.rest → new.at ≡ old.at → new.begin ≡ old.begin
    → new.table.items ≡ old.table.items ++ line_bytes line → new.has_tables ≡ old.has_tables → ReadsLine line old new []
bytes_read line old new no_title rest at begin bytes some = record {
  rest = rest;
  at = at;
  left = λ lines. choice false line old lines no_title
      ∙ ap (λ (b : ℕ). tables_from (place_behind old.at line) b (old.table.items ++ line_bytes line) lines) (sym begin)
      ∙ ap (λ (t : List ℕ). tables_from (place_behind old.at line) new.begin t lines) (sym bytes);
  some = some;
}

-- where the next line is a title, the table that is read comes first
pub left_by_title : (old : Dump) (line : List ℕ) → 0 < length old.rest.now → line ≡ take (line_len old.rest.now) old.rest.now → is_title line ≡ true
    → tables_left old ≡ whole old.begin old.table.items ++ tables_from (place_behind old.at line) old.at [] (lines_of (behind_line old.rest.now))
left_by_title old line some same title =
    let lines = lines_of (behind_line old.rest.now) in
    ap (tables_from old.at old.begin old.table.items) (line_first old.rest.now some)
    ∙ ap (λ (l : List ℕ). tables_from old.at old.begin old.table.items (l ∷ lines)) (sym same)
    ∙ choice true line old lines title

-- a line was taken
pub line_taken : (old read new : Dump) (ended : List Dumped) → 0 < length old.rest.now → ReadsLine (take (line_len old.rest.now) old.rest.now) old read ended
    → new.at ≡ place_behind old.at (take (line_len old.rest.now) old.rest.now) → new.rest.now ≡ behind_line old.rest.now
    → new.begin ≡ read.begin → new.table.items ≡ read.table.items → new.has_tables ≡ read.has_tables → TakesLine old new ended
line_taken old read new ended some reads at rest begin bytes has = record {
  left = ap (tables_from old.at old.begin old.table.items) (line_first old.rest.now some) ∙ reads.left (lines_of (behind_line old.rest.now))
      ∙ ap (λ (n : ℕ). ended ++ tables_from n read.begin read.table.items (lines_of (behind_line old.rest.now))) (sym at)
      ∙ ap (λ (n : ℕ). ended ++ tables_from new.at n read.table.items (lines_of (behind_line old.rest.now))) (sym begin)
      ∙ ap (λ (t : List ℕ). ended ++ tables_from new.at new.begin t (lines_of (behind_line old.rest.now))) (sym bytes)
      ∙ ap (λ (t : List ℕ). ended ++ tables_from new.at new.begin new.table.items (lines_of t)) (sym rest);
  some = has ∙ reads.some;
}

-- tables, some after others
pub tables_then : (early : Bool) (some more : List Dumped) (items others : List Shown) → AreTables false some items → AreTables early more others
    → AreTables early (some ++ more) (items ++ others)
tables_then early [] more items others are rest = subst (λ (some : List Shown). AreTables early more (some ++ others)) (sym are) rest
tables_then early (table ∷ some) more [] others are rest = absurd are
tables_then early (table ∷ some) more (item ∷ items) others are rest = (are.0, tables_then early some more items others are.1 rest)

-- where it is early, none has to be shown
no_tables : (tables : List Dumped) → AreTables true tables []
no_tables [] = refl
no_tables (table ∷ tables) = tt

-- a stop at a table that has bytes
pub whole_begun : (begin : ℕ) (bytes : List ℕ) (before after : Option (List ℕ)) (old : Sheet) → 0 < length bytes → StopsOne (IsTable (Some begin) bytes) before after old
    → StopsAll (AreTables false (whole begin bytes)) before after old
whole_begun begin [] before after old some begun = absurd (omega (arith, some))
whole_begun begin (byte ∷ bytes) before after old some begun = (begun.0 ∷ [], (begun.1, refl), begun.2)

-- a stop at the first tables is one of all
pub tables_begun : (some more all : List Dumped) (before after : Option (List ℕ)) (old : Sheet) → all ≡ some ++ more → StopsAll (AreTables false some) before after old
    → StopsIn (λ early. AreTables early all) before after old
tables_begun some more all before after old same begun =
    let are = tables_then true some more begun.0 [] begun.1 (no_tables more) in
    let alone = subst (λ (items : List Shown). AreTables true (some ++ more) items) (append-nil begun.0) are in
    (true, (begun.0, subst (λ (tables : List Dumped). AreTables true tables begun.0) (sym same) alone, begun.2))

-- and one behind the first
pub tables_behind : (some more all : List Dumped) (before middle after : Option (List ℕ)) (old between : Sheet) → all ≡ some ++ more
    → ShowsAll (AreTables false some) before middle old between → StopsIn (λ early. AreTables early more) middle after between
    → StopsIn (λ early. AreTables early all) before after old
tables_behind some more all before middle after old between same shows begun =
    let early = begun.0 in
    let items = shows.0 ++ begun.1.0 in
    let are : AreTables early (some ++ more) items = tables_then early some more shows.0 begun.1.0 shows.1 begun.1.1 in
    let all_are = subst (λ (tables : List Dumped). AreTables early tables items) (sym same) are in
    (early, (items, all_are, items_begun_then shows.0 begun.1.0 before middle after old between shows.2 begun.1.2))

has_any_then : (some more : List Dumped) → has_any (some ++ more) ≡ (has_any some || has_any more)
has_any_then [] more = refl
has_any_then (table ∷ some) more = refl

-- one pair more
pairs_of : (left : ℕ) (text more : List ℕ) (byte : ℕ) → first_pair text ≡ Some (byte, more) → pairs (suc left) text ≡ byte ∷ pairs left more
pairs_of left text more byte is = ap (λ (p : Option (ℕ × List ℕ)). byte_and p (pairs left)) is

pub pair_added : (most count byte : ℕ) (start table text more : List ℕ) (all : List ℕ) → count < most → first_pair text ≡ Some (byte, more)
    → table ++ pairs (most - count) text ≡ start ++ all → (table ++ byte ∷ []) ++ pairs (most - (count + 1)) more ≡ start ++ all
pair_added most count byte start table text more all below is same =
    let P : ℕ → Type 0 = λ (n : ℕ). pairs n text ≡ byte ∷ pairs (most - (count + 1)) more in
    let left : suc (most - (count + 1)) ≡ most - count = omega (arith, below) in
    append_assoc table (byte ∷ []) (pairs (most - (count + 1)) more)
    ∙ ap (λ (t : List ℕ). table ++ t) (sym (subst P left (pairs_of (most - (count + 1)) text more byte is))) ∙ same

pub no_pair : (most count : ℕ) (table text start all : List ℕ) → count < most → first_pair text ≡ None → table ++ pairs (most - count) text ≡ start ++ all → table ≡ start ++ all
no_pair most count table text start all below none same =
    let P : ℕ → Type 0 = λ (n : ℕ). pairs n text ≡ [] in
    let left : suc (most - (count + 1)) ≡ most - count = omega (arith, below) in
    sym (append-nil table) ∙ ap (λ (t : List ℕ). table ++ t) (sym (subst P left (ap (λ (p : Option (ℕ × List ℕ)). byte_and p (pairs (most - (count + 1)))) none))) ∙ same

pub no_count_left : (most count : ℕ) (table text start all : List ℕ) → (count < most → ⊥) → table ++ pairs (most - count) text ≡ start ++ all → table ≡ start ++ all
no_count_left most count table text start all over same =
    let P : ℕ → Type 0 = λ (n : ℕ). pairs n text ≡ [] in
    let none : 0 ≡ most - count = omega (arith, over) in
    sym (append-nil table) ∙ ap (λ (t : List ℕ). table ++ t) (sym (subst P none refl)) ∙ same

-- whether there is one: before, among those that ended, or among those that are left
pub or_swap : (a b c : Bool) → ((a || b) || c) ≡ (b || (a || c))
or_swap true true c = refl
or_swap true false c = refl
or_swap false true c = refl
or_swap false false c = refl

pub or_comm : (a b : Bool) → (a || b) ≡ (b || a)
or_comm true true = refl
or_comm true false = refl
or_comm false true = refl
or_comm false false = refl

pub any_left : (old new : Dump) (ended : List Dumped) → TakesLine old new ended
    → (new.has_tables || has_any (tables_left new)) ≡ (old.has_tables || has_any (tables_left old))
any_left old new ended takes =
    ap (λ (b : Bool). b || has_any (tables_left new)) takes.some
    ∙ or_swap (has_any ended) old.has_tables (has_any (tables_left new))
    ∙ ap (λ (b : Bool). old.has_tables || b) (sym (has_any_then ended (tables_left new)) ∙ sym (ap has_any takes.left))

pub none_left : (text : List ℕ) → length text ≡ 0 → text ≡ []
none_left [] none = refl
none_left (byte ∷ text) none = absurd (omega (arith, none))

-- a text without a table is one item, and one with tables is these
pub no_table : (tables : List Dumped) (text : List ℕ) (before after : Option (List ℕ)) (old middle new : Sheet) → has_any tables ≡ false
    → ShowsAll (AreTables false tables) before after old middle → ShowsOne (IsUnknown 0 text) (Some []) (Some []) middle new → ShowsAll (AreDumpedAs false tables text) before after old new
no_table [] text before after old middle new none shows one =
    let first : ShowsItems [] before after old middle = subst (λ (items : List Shown). ShowsItems items before after old middle) shows.1 shows.2 in
    (one.0 ∷ [], (one.1, refl), items_then [] (one.0 ∷ []) before after after old middle new first (items_on_pages (one.0 ∷ []) after middle new one.2))
no_table (table ∷ tables) text before after old middle new none shows one = absurd (true≢false none)

-- a stop at the tables of a text is one of its items
pub dumped_begun : (tables : List Dumped) (text : List ℕ) (before after : Option (List ℕ)) (old : Sheet) → StopsIn (λ early. AreTables early tables) before after old
    → StopsIn (λ early. AreDumpedAs early tables text) before after old
dumped_begun [] text before after old begun =
    (true, ([], tt, subst (λ (items : List Shown). ItemsBegun items before after old) begun.1.1 begun.1.2))
dumped_begun (table ∷ tables) text before after old begun = begun
