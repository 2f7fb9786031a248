-- The walk over a block's entries.
use Rattle.std.proofs.Common.{◌≡◌, ℕ, ◌+◌, ◌<◌, ◌≤◌, false, List, [], ◌∷◌, ◌++◌, length, take, drop, Ok, Err, refl, sym, ap, ◌∙◌, arith, length-append, length-drop}
use Rattle.std.specs.Prelude.{All, nat_lt, ◌==◌}
use Rattle.std.proofs.lemmas.Bool.{eqb-true, eq-eqb, ne_eqb, ltb-false, le-ltb, cond-false}
use Rattle.std.proofs.lemmas.List.{nil_from_length, drop_at, drop-drop}
use Rattle.std.proofs.lemmas.List.Elements.{All-nil, All-cons, All-head, All-tail}
use Rattle.base_model.specs.Bytes.{part, AreBytes}
use Rattle.apei_bytes.specs.Walk.{AreItems, item_count}
use Rattle.apei_bytes.proofs.Tests.{ok_unless}
use Rattle.apei_bytes.proofs.Walks.{GetsOn, IsFaithful, count_on, counts as items_counted, counts_again as items_again}
use Rattle.ghes_block.specs.declared.error.BlockError.TheVariants.{Entry, Rest}
use Rattle.ghes_block.specs.Grammar.{EntryValue, entry_bytes, entries_bytes, IsEntry}
use Rattle.ghes_block.specs.Reading.{entry_size, first_entry, whole_entry_size, entry_walk}
use Rattle.ghes_block.proofs.Terms.{entries_in}
use Rattle.ghes_block.proofs.Terms.{count_in}
use Rattle.ghes_block.proofs.EntryLaws.{reads_again, reads, entry_size-le}

-- an entry that is whole, and the two that aren't
pub size_whole : (index at : ℕ) (rest : List ℕ) → 64 ≤ length rest → entry_size rest ≤ length rest → whole_entry_size index at rest ≡ Ok (entry_size rest)
unfolding whole_entry_size
size_whole index at rest long fits =
    cond-false (nat_lt (length rest) 64) (Err (Rest (length rest))) _ (le-ltb (length rest) 64 long)
    ∙ cond-false (nat_lt (length rest) (entry_size rest)) (Err (Entry index at)) _ (le-ltb (length rest) (entry_size rest) fits)

record IsWholeEntry (n : ℕ) (rest : List ℕ) : Type 0 where
  pub long : 64 ≤ length rest
  pub fits : entry_size rest ≤ length rest
  pub size : entry_size rest ≡ n

is_whole_entry : (index at n : ℕ) (rest : List ℕ) → whole_entry_size index at rest ≡ Ok n → IsWholeEntry n rest
unfolding whole_entry_size
is_whole_entry index at n rest h =
    let a = ok_unless _ _ _ _ h in
    let b = ok_unless _ _ _ _ a.1 in
    record { long = ltb-false (length rest) 64 a.0; fits = ltb-false (length rest) (entry_size rest) b.0; size = cc }

pub gets_on : GetsOn entry_walk
gets_on = record {
  empty = refl;
  within = λ index at n rest h.
      let w = is_whole_entry index at n rest h in
      let low = entry_size-le rest in
      let size = w.size in
      let fits = w.fits in
      (omega arith, omega arith);
}

-- one more entry is counted
pub count_more : (content : List ℕ) (index at len : ℕ) → at < length content → whole_entry_size index (20 + at) (drop at content) ≡ Ok len
    → item_count entry_walk (length content) (index + 1) (20 + (at + len)) (drop (at + len) content) ≡ item_count entry_walk (length content) index (20 + at) (drop at content)
count_more content index at len some here =
    let size = length-drop at content in
    let left : (length (drop at content) == 0) ≡ false = ne_eqb (length (drop at content)) 0 (λ z. omega arith) in
    ap (item_count entry_walk (length content) (index + 1) (20 + (at + len))) (sym (drop-drop len at content))
    ∙ ap (λ (n : ℕ). item_count entry_walk (length content) (index + 1) n (drop len (drop at content))) (omega arith)
    ∙ sym (count_on entry_walk (length content) index (20 + at) len (drop at content) gets_on left (omega arith) here)

-- the bytes of an entry, and nothing
IsEntryAt : ℕ → EntryValue → List ℕ → Type 0
IsEntryAt at entry front = IsEntry entry × (front ≡ entry_bytes entry)

IsNothing : List ℕ → Type 0
IsNothing rest = rest ≡ []

-- an entry and others behind it
pub record FirstOf (entry : EntryValue) (content rest : List ℕ) : Type 0 where
  pub long : 64 ≤ length content
  pub fits : entry_size content ≤ length content
  pub entry_is : first_entry content ≡ entry
  pub behind : drop (entry_size content) content ≡ rest
  pub size_is : entry_size content ≡ length (entry_bytes entry)

pub first_of : (entry : EntryValue) (content rest : List ℕ) → IsEntry entry → content ≡ entry_bytes entry ++ rest → FirstOf entry content rest
first_of entry content rest is e =
    let r = reads_again entry content rest is e in
    let low = entry_size-le content in
    let size = r.size_is in
    let all : length content ≡ length (entry_bytes entry) + length rest = ap length e ∙ length-append (entry_bytes entry) rest in
    record {
      long = omega arith;
      fits = omega arith;
      entry_is = r.entry_is;
      behind = ap (drop (entry_size content)) e ∙ drop_at (entry_bytes entry) rest (entry_size content) (sym size);
      size_is = size;
    }

faithful : IsFaithful entry_walk IsEntryAt IsNothing
unfolding IsEntryAt IsNothing part
faithful = record {
  reads = λ index at n rest each h.
      let w = is_whole_entry index at n rest h in
      let r = reads rest each w.long w.fits in
      (r.is_entry, ap (λ (k : ℕ). take k rest) (sym w.size) ∙ sym r.bytes_are);
  ends = λ rest h. nil_from_length rest (eqb-true (length rest) 0 h);
  size_again = λ index at entry front rest is.
      let f = first_of entry (front ++ rest) rest is.0 (ap (λ (xs : List ℕ). xs ++ rest) is.1) in
      size_whole index at (front ++ rest) f.long f.fits ∙ ap (λ (n : ℕ). Ok n) (f.size_is ∙ ap length (sym is.1));
  item_again = λ at entry front rest is. (first_of entry (front ++ rest) rest is.0 (ap (λ (xs : List ℕ). xs ++ rest) is.1)).entry_is;
  goes_on = λ at entry front rest is.
      let long = (first_of entry (front ++ rest) rest is.0 (ap (λ (xs : List ℕ). xs ++ rest) is.1)).long in
      ne_eqb (length (front ++ rest)) 0 (λ z. omega arith);
  ends_again = λ rest is. eq-eqb (length rest) 0 (ap length is);
}

-- entries one after another are their bytes, joined
from_items : (at : ℕ) (entries : List EntryValue) (content : List ℕ) → AreItems IsEntryAt IsNothing at entries content → All IsEntry entries × (content ≡ entries_bytes entries)
unfolding IsEntryAt IsNothing entries_bytes
from_items at [] content are = (All-nil IsEntry, are)
from_items at (entry ∷ entries) content are =
    let rest = from_items (at + length are.0) entries are.1 are.4 in
    (All-cons IsEntry entry entries are.3.0 rest.0, are.2 ∙ ap (λ (xs : List ℕ). xs ++ are.1) are.3.1 ∙ ap (λ (xs : List ℕ). entry_bytes entry ++ xs) rest.1)

to_items : (at : ℕ) (entries : List EntryValue) (content : List ℕ) → All IsEntry entries → content ≡ entries_bytes entries → AreItems IsEntryAt IsNothing at entries content
unfolding IsEntryAt IsNothing entries_bytes
to_items at [] content all e = e
to_items at (entry ∷ entries) content all e = (
  entry_bytes entry,
  entries_bytes entries,
  e,
  (All-head IsEntry entry entries all, refl),
  to_items (at + length (entry_bytes entry)) entries
      (entries_bytes entries) (All-tail IsEntry entry entries all) refl,
)

-- what was counted is spelled so
pub record Counts (n : ℕ) (content : List ℕ) (entries : List EntryValue) : Type 0 where
  pub count : n ≡ length entries
  pub all : All IsEntry entries
  pub spelled_is : entries_bytes entries ≡ content

pub counts : (content : List ℕ) (n : ℕ) → AreBytes content → count_in content ≡ Ok n → Counts n content (entries_in content)
counts content n each h =
    let c = items_counted entry_walk IsEntryAt IsNothing (length content) 0 20 n content gets_on faithful each (omega arith) h in
    let count = c.count in
    let are = from_items 20 (entries_in content) content c.are_items in
    record { count = omega arith; all = are.0; spelled_is = sym are.1 }

-- what is spelled so is counted
pub record CountsAgain (content : List ℕ) (entries : List EntryValue) : Type 0 where
  pub count : count_in content ≡ Ok (length entries)
  pub read : entries_in content ≡ entries

pub counts_again : (entries : List EntryValue) (content : List ℕ) → All IsEntry entries → content ≡ entries_bytes entries → CountsAgain content entries
counts_again entries content all e =
    let c = items_again entry_walk IsEntryAt IsNothing entries (length content) 0 20 content gets_on faithful (to_items 20 entries content all e) (omega arith) in
    record { count = c.count ∙ ap (λ (n : ℕ). Ok n) (omega arith); read = c.read }
