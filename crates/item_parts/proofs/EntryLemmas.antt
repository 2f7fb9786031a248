-- The instruction entries of a table that was found.
use Rattle.std.proofs.Common.{◌≡◌, ℕ, zero, suc, ◌+◌, ◌*◌, ◌<◌, ◌≤◌, List, [], ◌∷◌, ◌++◌, length, take, drop, get_or, Some, None, refl, sym, ap, subst, ◌∙◌, arith}
use Rattle.std.specs.Prelude.{slice_get}
use Rattle.std.proofs.lemmas.List.{take-append-drop, get_or-take, get_or-drop, get_or-append_right}
use Rattle.base_model.specs.Bytes.{part, number_at, AreBytes}
use Rattle.base_model.proofs.BytesLemmas.{AreBytes-take, AreBytes-drop, part-append, length-part, number_at-lt}
use Rattle.apei_tables.specs.declared.headers.Header.{Header}
use Rattle.hest_sources.specs.Layout.{gas_at}
use Rattle.hest_sources.proofs.Structures.{is_gas, gas_again}
use Rattle.erst_entries.specs.declared.entries.Entry.{Entry}
use Rattle.erst_entries.specs.Layout.{Erst, AreEntries, IsEntry, entry_spelling}
use Rattle.erst_entries.proofs.Terms.{entries_spelling}
use Rattle.erst_entries.specs.Tables.{IsErst, AreRead, FindsErst, refusal}
use Rattle.erst_entries.proofs.EntryBytes.{length-entry, read-spelling}
use Rattle.erst_entries.proofs.Finding.{is_erst, fits_erst, only, not_refused, size_within, read}
use Rattle.item_parts.specs.declared.parts.Part.{Part}
use Rattle.item_parts.specs.Parts.{entry_part, entry_parts}
use Rattle.item_parts.specs.Items.{Begins, ErstParts}
use Rattle.erst_entries.proofs.Terms.{entries_spelling}

pub length-entry_parts : (at : ℕ) (entries : List Entry) → length (entry_parts at entries) ≡ length entries
length-entry_parts at [] = refl
length-entry_parts at (entry ∷ entries) = ap (λ (n : ℕ). suc n) (length-entry_parts (at + 32) entries)

pub entry_part_at : (at : ℕ) (entries : List Entry) (i : ℕ) (entry : Entry) → slice_get entries i ≡ Some entry
    → slice_get (entry_parts at entries) i ≡ Some (entry_part (at + 32 * i) entry)
entry_part_at at [] i entry e = absurd (cc)
entry_part_at at (first ∷ entries) zero entry e =
    let same : first ≡ entry = cc in
    ap (λ (it : Entry). Some (entry_part at it)) same ∙ ap (λ (n : ℕ). Some (entry_part n entry)) (omega arith)
entry_part_at at (first ∷ entries) (suc i) entry e =
    entry_part_at (at + 32) entries i entry e ∙ ap (λ (n : ℕ). Some (entry_part n entry)) (omega arith)

-- the entry that 32 bytes are
entry_in : List ℕ → Entry
entry_in bytes = record {
  action = get_or bytes 0 0;
  code = get_or bytes 1 0;
  flags = get_or bytes 2 0;
  spare = get_or bytes 3 0;
  region =
      gas_at (part bytes 4 12);
  value = number_at bytes 16 8;
  mask = number_at bytes 24 8;
}

part_bytes : (bytes : List ℕ) (at n : ℕ) → AreBytes bytes → AreBytes (part bytes at n)
unfolding part
part_bytes bytes at n each = AreBytes-take n (drop at bytes) (AreBytes-drop at bytes each)

byte_small : (bytes : List ℕ) (i : ℕ) → AreBytes bytes → get_or bytes i 0 < 256
byte_small [] i each = omega arith
byte_small (byte ∷ bytes) zero each = each.0
byte_small (byte ∷ bytes) (suc i) each = byte_small bytes i each.1

record ReadsEntry (bytes : List ℕ) : Type 0 where
  pub spelled_is : bytes ≡ entry_spelling (entry_in bytes)
  pub fits : IsEntry (entry_in bytes)

reads_entry : (bytes : List ℕ) → AreBytes bytes → length bytes ≡ 32 → ReadsEntry bytes
unfolding entry_in
reads_entry bytes each size =
    let region_size : length (part bytes 4 12) ≡ 12 = length-part bytes 4 12 (omega arith) in
    let region_bytes : AreBytes (part bytes 4 12) = part_bytes bytes 4 12 each in
    record {
      spelled_is = read-spelling bytes (gas_at (part bytes 4 12)) each size (sym (gas_again (part bytes 4 12) region_bytes region_size));
      fits = record {
        action = byte_small bytes 0 each;
        code = byte_small bytes 1 each;
        flags = byte_small bytes 2 each;
        spare = byte_small bytes 3 each;
        region = is_gas (part bytes 4 12) region_bytes region_size;
        value = number_at-lt bytes 16 8 each (omega arith);
        mask = number_at-lt bytes 24 8 each (omega arith);
      };
    }

-- so many entries from a place on
entries_at : List ℕ → ℕ → ℕ → List Entry
entries_at table at zero = []
entries_at table at (suc n) = entry_in (part table at 32) ∷ entries_at table (at + 32) n

record ReadsEntries (table : List ℕ) (at n : ℕ) : Type 0 where
  pub many : length (entries_at table at n) ≡ n
  pub spelled_is : part table at (32 * n) ≡ entries_spelling (entries_at table at n)
  pub fit : AreEntries (entries_at table at n)

reads_entries : (table : List ℕ) (at n : ℕ) → AreBytes table → at + 32 * n ≤ length table → ReadsEntries table at n
unfolding entries_at part
reads_entries table at zero each within = record { many = refl; spelled_is = refl; fit = tt }
reads_entries table at (suc n) each within =
    let rest = reads_entries table (at + 32) n each (omega arith) in
    let first = reads_entry (part table at 32) (part_bytes table at 32 each) (length-part table at 32 (omega arith)) in
    record {
      many = ap (λ (k : ℕ). suc k) rest.many;
      spelled_is =
          ap (part table at) (omega arith)
          ∙ sym (part-append table at 32 (32 * n))
          ∙ ap (λ (xs : List ℕ). xs ++ part table (at + 32) (32 * n)) first.spelled_is
          ∙ ap (λ (xs : List ℕ). entry_spelling (entry_in (part table at 32)) ++ xs) rest.spelled_is;
      fit = (first.fits, rest.fit);
    }

-- a table that was found has entries, and begins the bytes with them alone
pub record HasEntries (bytes table : List ℕ) : Type 0 where
  pub entries : List Entry
  pub read_is : AreRead table (number_at bytes 44 4) entries
  pub begins : Begins ErstParts (entry_parts 48 entries) bytes
  pub only_these : (parts : List Part) → Begins ErstParts parts bytes → parts ≡ entry_parts 48 entries

split_at : (bytes : List ℕ) (n : ℕ) → bytes ≡ take n bytes ++ drop n bytes
split_at bytes n = sym (take-append-drop n bytes)

pub has_entries : (bytes : List ℕ) (header : Header) (table : List ℕ) → AreBytes bytes → FindsErst bytes header table → HasEntries bytes table
has_entries bytes header table each found =
    let n = number_at bytes 44 4 in
    let each_table : AreBytes table = subst AreBytes (sym found.finds.prefix) (AreBytes-take (length table) bytes each) in
    let size = found.counted in
    let all = reads_entries table 48 n each_table (omega arith) in
    let entries = entries_at table 48 n in
    let are : AreRead table n entries = record { many = all.many; spelled = all.spelled_is; fit = all.fit } in
    let within = size_within bytes header table found in
    let is : IsErst (read bytes header entries) table = is_erst bytes header table entries each found are in
    record {
      entries = entries;
      read_is = are;
      begins = (length table, within, (read bytes header entries, subst (IsErst (read bytes header entries)) found.finds.prefix is, fits_erst bytes header table entries each found are, refl));
      only_these = λ parts begins.
          let other = begins.2 in
          let same = only bytes header table entries each found are other.0 (take begins.0 bytes) (drop begins.0 bytes) (split_at bytes begins.0) other.2 other.1 in
          other.3 ∙ ap (λ (erst : Erst). entry_parts 48 erst.entries) (sym same.0);
    }

-- nothing is refused where such a table begins the bytes
pub none_refused : (bytes : List ℕ) (parts : List Part) → Begins ErstParts parts bytes → refusal bytes ≡ None
none_refused bytes parts begins =
    let other = begins.2 in
    not_refused other.0 bytes (take begins.0 bytes) (drop begins.0 bytes) (split_at bytes begins.0) other.2 other.1

-- the byte of an entry's action
first_byte : (entry : Entry) (more : List ℕ) → get_or (entry_spelling entry ++ more) 0 0 ≡ entry.action
unfolding entry_spelling
first_byte entry more = refl

record ActsAt (bytes : List ℕ) (entries : List Entry) (i : ℕ) : Type 0 where
  pub entry : Entry
  pub found : slice_get entries i ≡ Some entry
  pub action : get_or bytes (32 * i) 0 ≡ entry.action

acts_at : (entries : List Entry) (i : ℕ) → i < length entries → ActsAt (entries_spelling entries) entries i
acts_at [] i within = absurd (omega arith)
acts_at (entry ∷ entries) zero within = record { entry = entry; found = refl; action = first_byte entry (entries_spelling entries) }
acts_at (entry ∷ entries) (suc i) within =
    let rest = acts_at entries i (omega arith) in
    record {
      entry = rest.entry;
      found = rest.found;
      action =
          get_or-append_right (entry_spelling entry) (entries_spelling entries) 32 (32 * suc i) 0 (length-entry entry) (omega arith)
          ∙ ap (λ (n : ℕ). get_or (entries_spelling entries) n 0) (omega arith)
          ∙ rest.action;
    }

byte_of_part : (bytes : List ℕ) (at n i : ℕ) → i < n → get_or (part bytes at n) i 0 ≡ get_or bytes (at + i) 0
unfolding part
byte_of_part bytes at n i less = get_or-take n (drop at bytes) i 0 less ∙ get_or-drop at bytes i 0

-- an entry of a table, and the byte of its action
pub record EntryOf (table : List ℕ) (entries : List Entry) (i : ℕ) : Type 0 where
  pub entry : Entry
  pub found : slice_get entries i ≡ Some entry
  pub action : get_or table (48 + 32 * i) 0 ≡ entry.action

pub entry_of : (table : List ℕ) (n : ℕ) (entries : List Entry) (i : ℕ) → AreRead table n entries → i < n → EntryOf table entries i
entry_of table n entries i are less =
    let many = are.many in
    let here = acts_at entries i (omega arith) in
    record {
      entry = here.entry;
      found = here.found;
      action =
          sym (byte_of_part table 48 (32 * n) (32 * i) (omega arith))
          ∙ ap (λ (bytes : List ℕ). get_or bytes (32 * i) 0) are.spelled
          ∙ here.action;
    }
