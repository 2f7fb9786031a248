-- The text of acpidump: for each table a line with its signature and its address, and lines of up to 16 bytes in digits.
use Rattle.std.specs.Prelude.{◌≡◌, ℕ, zero, suc, ◌+◌, ◌*◌, ◌==◌, Bool, true, false, ◌||◌, if◌then◌else◌, List, [], ◌∷◌, ◌++◌, length, codes, Option, Some, None}
use Rattle.std.specs.Str.{bytes_eq}
use Rattle.base_model.specs.Bytes.{part}
use Rattle.show_items.specs.Digits.{value_of}
use Rattle.show_items.specs.Items.{Shown, counted}
use Rattle.show_items.specs.Judged.{MayEnd}
use Rattle.show_items.specs.Singles.{IsUnknown}
use Rattle.show_items.specs.Tables.{IsTable}
use Rattle.show_items.specs.declared.dumps.Dump.{Dump}

-- the lines of a text, without the ends of lines
abbrev pub in_first : ℕ → List (List ℕ) → List (List ℕ)
in_first byte [] = (byte ∷ []) ∷ []
in_first byte (line ∷ lines) = (byte ∷ line) ∷ lines

abbrev pub lines_of : List ℕ → List (List ℕ)
lines_of [] = []
lines_of (byte ∷ bytes) = if byte == 10 then [] ∷ lines_of bytes else in_first byte (lines_of bytes)

-- the length of the first one, and what stands behind its end
abbrev pub line_len : List ℕ → ℕ
line_len [] = 0
line_len (byte ∷ bytes) = if byte == 10 then 0 else suc (line_len bytes)

abbrev pub behind_line : List ℕ → List ℕ
behind_line [] = []
behind_line (byte ∷ bytes) = if byte == 10 then bytes else behind_line bytes

-- the line of a signature: `FACP @ 0x0000000000000000`
abbrev pub is_title : List ℕ → Bool
is_title line = bytes_eq (part line 4 3) (codes " @ ")

abbrev pub behind_colon : List ℕ → List ℕ
behind_colon [] = []
behind_colon (byte ∷ bytes) = if byte == 58 then bytes else behind_colon bytes

-- two digits of sixteen, and what stands behind them
abbrev pub pair_of : Option ℕ → Option ℕ → List ℕ → Option (ℕ × List ℕ)
pair_of (Some high) (Some low) more = Some (high * 16 + low, more)
pair_of high low more = None

abbrev pub digits_first : List ℕ → Option (ℕ × List ℕ)
digits_first (high ∷ low ∷ more) = pair_of (value_of high) (value_of low) more
digits_first other = None

-- one space may stand before them: some tools write two bytes without one between
abbrev pub without_space : List ℕ → List ℕ
without_space [] = []
without_space (byte ∷ bytes) = if byte == 32 then bytes else byte ∷ bytes

abbrev pub first_pair : List ℕ → Option (ℕ × List ℕ)
first_pair text = digits_first (without_space text)

-- the bytes of at most so many pairs
abbrev pub byte_and : Option (ℕ × List ℕ) → (List ℕ → List ℕ) → List ℕ
byte_and None more = []
byte_and (Some pair) more = pair.0 ∷ more pair.1

abbrev pub pairs : ℕ → List ℕ → List ℕ
pairs zero text = []
pairs (suc left) text = byte_and (first_pair text) (pairs left)

-- the bytes of a line stand behind its colon
unfoldable pub line_bytes : List ℕ → List ℕ
line_bytes line = pairs 16 (behind_colon line)

-- a table: where the line of its signature stands, and its bytes; one without bytes is none
abbrev pub Dumped : Type 0
Dumped = ℕ × List ℕ

abbrev pub whole : (begin : ℕ) → (bytes : List ℕ) → List Dumped
whole begin [] = []
whole begin (byte ∷ bytes) = (begin, byte ∷ bytes) ∷ []

-- the place behind a line and its end
abbrev pub place_behind : (at : ℕ) → (line : List ℕ) → ℕ
place_behind at line = counted (counted at (length line)) 1

-- the tables that end in these lines, the first of which stands at a place; of the first table these bytes are known
abbrev pub tables_from : (at begin : ℕ) → (bytes : List ℕ) → (lines : List (List ℕ)) → List Dumped
tables_from at begin bytes [] = whole begin bytes
tables_from at begin bytes (line ∷ lines) =
    if is_title line then whole begin bytes ++ tables_from (place_behind at line) at [] lines
    else tables_from (place_behind at line) begin (bytes ++ line_bytes line) lines

abbrev pub tables_in : List ℕ → List Dumped
tables_in text = tables_from 0 0 [] (lines_of text)

abbrev pub has_any : List Dumped → Bool
has_any [] = false
has_any (table ∷ tables) = true

-- each table is an item
abbrev pub AreTables : (early : Bool) → List Dumped → List Shown → Type 0
AreTables early [] items = items ≡ []
AreTables early (table ∷ tables) [] = MayEnd early
AreTables early (table ∷ tables) (item ∷ items) = IsTable (Some table.0) table.1 item × AreTables early tables items

-- a text without a table is none of what is known
abbrev pub AreDumpedAs : (early : Bool) → List Dumped → (text : List ℕ) → List Shown → Type 0
AreDumpedAs early [] text [] = MayEnd early
AreDumpedAs early [] text (item ∷ items) = IsUnknown 0 text item × (items ≡ [])
AreDumpedAs early (table ∷ tables) text items = AreTables early (table ∷ tables) items

abbrev pub AreDumped : (early : Bool) → List ℕ → List Shown → Type 0
AreDumped early text items = AreDumpedAs early (tables_in text) text items

-- the tables that are left of a text that is read so far
abbrev pub tables_left : Dump → List Dumped
tables_left dump = tables_from dump.at dump.begin dump.table.items (lines_of dump.rest.now)

-- a line was taken: the tables that ended with it are shown, and the others are left
pub record TakesLine (old new : Dump) (ended : List Dumped) : Type 0 where
  pub left : tables_left old ≡ ended ++ tables_left new
  pub some : new.has_tables ≡ (has_any ended || old.has_tables)

-- a line was read, which stands before others: the tables that ended with it are shown, and the others are left
pub record ReadsLine (line : List ℕ) (old new : Dump) (ended : List Dumped) : Type 0 where
  pub rest : new.rest ≡ old.rest
  pub at : new.at ≡ old.at
  pub left : (lines : List (List ℕ)) → tables_from old.at old.begin old.table.items (line ∷ lines)
      ≡ ended ++ tables_from (place_behind old.at line) new.begin new.table.items lines
  pub some : new.has_tables ≡ (has_any ended || old.has_tables)

-- the table that was read is none of those that are left
pub record EndsTable (old new : Dump) : Type 0 where
  pub rest : new.rest ≡ old.rest
  pub at : new.at ≡ old.at
  pub begin : new.begin ≡ old.begin
  pub bytes : new.table.items ≡ []
  pub some : new.has_tables ≡ (has_any (whole old.begin old.table.items) || old.has_tables)
