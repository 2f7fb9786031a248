-- A line for each part, which are counted from 0.
use Rattle.std.proofs.Common.{◌≡◌, ℕ, ◌+◌, ◌<◌, ◌≤◌, List, [], length, get_or, sym, ap, ◌∙◌, arith}
use Rattle.std.specs.Prelude.{slice_get, Some}
use Rattle.std.specs.List.{enumerate_from}
use Rattle.std.proofs.lemmas.List.{get_or-map, length-map}
use Rattle.std.proofs.lemmas.List.FromFn.{get_or-enumerate_from, length-enumerate_from}
use Rattle.std.proofs.lemmas.Option.{slice_get_within, get_or_from_slice_get}
use Rattle.cper_frame.specs.Grammar.{SectionValue}
use Rattle.ghes_block.specs.Grammar.{EntryValue}
use Rattle.ghes_block.specs.Entries.{place_of, EntryAt}
use Rattle.apei_check.specs.Shown.{numbered_lines}
use Rattle.apei_check.specs.Frames.{section_line, entry_line}
use Rattle.apei_check.proofs.PlaceLemmas.{is_here}

pub length_numbered : {X : Type 0} (line : ℕ → X → List ℕ) (parts : List X) → length (numbered_lines line parts) ≡ length parts
length_numbered line parts = length-map (enumerate_from 0 parts) (λ part. line part.0 part.1) ∙ length-enumerate_from 0 parts

-- whatever is read where there is none
pub numbered_at : {X : Type 0} (line : ℕ → X → List ℕ) (parts : List X) (i : ℕ) (d : X) → i < length parts
    → line i (get_or parts i d) ≡ get_or (numbered_lines line parts) i []
numbered_at line parts i d within =
    sym (get_or-map (λ part. line part.0 part.1) (enumerate_from 0 parts) i (i, d) [] (omega (arith, length-enumerate_from 0 parts))
    ∙ ap (λ p. line p.0 p.1) (get_or-enumerate_from 0 parts i (i, d) within)
    ∙ ap (λ (k : ℕ). line k (get_or parts i d)) zero_more)
  where
    zero_more : 0 + i ≡ i
    zero_more = omega arith

pub numbered_of : {X : Type 0} (line : ℕ → X → List ℕ) (parts : List X) (i : ℕ) (part : X) → i < length parts → slice_get parts i ≡ Some part
    → line i part ≡ get_or (numbered_lines line parts) i []
numbered_of line parts i part within is = ap (λ p. line i p) (sym (get_or_from_slice_get parts i part part is)) ∙ numbered_at line parts i part within

pub section_line_at : (sections : List SectionValue) (k : ℕ) (section : SectionValue) → slice_get sections k ≡ Some section →
    section_line k section ≡ get_or (numbered_lines section_line sections) k []
section_line_at sections k section found = numbered_of section_line sections k section (slice_get_within sections k section found) found

-- the line of an entry that was found at its place is the next one
pub record IsNextLine (entries : List EntryValue) (index next : ℕ) (line : List ℕ) : Type 0 where
  pub few : index < length entries
  pub within : index < length (numbered_lines entry_line entries)
  pub is : line ≡ get_or (numbered_lines entry_line entries) index []
  pub next_place : next ≡ place_of entries (index + 1)

pub is_next_line : (entries : List EntryValue) (index at next : ℕ) (entry : EntryValue) (line : List ℕ) → index ≤ length entries → at ≡ place_of entries index → EntryAt entries at next entry
    → line ≡ entry_line index entry → IsNextLine entries index next line
is_next_line entries index at next entry line low place there text =
    let here = is_here entries index at next entry low place there in
    record {
      few = here.within;
      within = omega (arith, here.within, length_numbered entry_line entries);
      is = text ∙ numbered_of entry_line entries index entry here.within here.found;
      next_place = here.next_place;
    }
