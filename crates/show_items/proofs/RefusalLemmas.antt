-- What Linux refuses of the first of the parts of a table, and of those behind it.
use Rattle.std.proofs.Common.{◌≡◌, ◌≢◌, ◌∙◌, ℕ, zero, suc, ◌+◌, ◌-◌, ◌*◌, ◌<◌, ◌≤◌, Bool, true, false, if◌then◌else◌, nat_lt, min, List, [], ◌∷◌, ◌++◌, length}
use Rattle.std.proofs.Common.{drop, Option, Some, None, is_some, Result, Ok, Err, refl, sym, ap, subst, arith}
use Rattle.std.proofs.lemmas.Bool.Decides.{nat_tests}
use Rattle.base_model.specs.Bytes.{part}
use Rattle.show_items.proofs.BlockLemmas.{length_of_part}
use Rattle.hest_sources.specs.Layout.{length_by_type}
use Rattle.hest_sources.specs.declared.tables.HestError.{HestError}
use Rattle.linux_checks.specs.declared.reasons.Refusal.{Refusal}
use Rattle.show_findings.specs.Places.{HasInstruction, IsNoSource, IsSource, seen_number}
use Rattle.show_items.specs.Groups.{Group, Head}
use Rattle.show_items.specs.Refusals.{entry_refusals, has_any, reason_as, reason_json, refusal_groups, refused_and_more, refused_entries, refused_sources, source_refusals}
use Rattle.show_items.specs.declared.sheet.Form.{Form}
use Rattle.show_items.specs.declared.sheet.Form.TheVariants.{Json}
use Rattle.show_items.specs.TablePlaces.{instruction_at, source_kind, source_length}

-- something is refused, or nothing
pub some_refused : (head : Head) (refused : Option Refusal) (more : List Group) → is_some refused ≡ true → has_any (refusal_groups head refused ++ more) ≡ true
some_refused head (Some refused) more some = refl
some_refused head None more some = absurd (let e : false ≡ true = some in cc)

pub none_refused : (head : Head) (refused : Option Refusal) (more : List Group) → is_some refused ≡ false → more ≡ refusal_groups head refused ++ more
none_refused head None more none = refl
none_refused head (Some refused) more none = absurd (let e : true ≡ false = none in cc)

-- in JSON it is the object
pub reason_in_json : (form : Form) (places : Bool) (head : Head) (reason : List ℕ) → form ≡ Json → reason_json head reason ≡ reason_as form places head reason
reason_in_json form places head reason json =
    let T : Form → Type 0 = λ (it : Form). reason_json head reason ≡ reason_as it places head reason in
    subst T (sym json) refl

-- an entry that is there has 32 bytes
pub entry_size : (bytes entry : List ℕ) (index : ℕ) → HasInstruction bytes index → entry ≡ part bytes (48 + 32 * index) 32 → length entry ≡ 32
entry_size bytes entry index has same =
    let whole : 48 + 32 * index + 32 ≤ length bytes = has.within in
    let size : length entry ≡ min 32 (length bytes - (48 + 32 * index)) =
    ap (λ (it : List ℕ). length it) same ∙ length_of_part bytes (48 + 32 * index) 32 in
    omega (arith, size, whole)

-- instruction entries
pub refused_entry_and_more : (bytes : List ℕ) (left more index next : ℕ) (entry : List ℕ) → left ≡ suc more → next ≡ suc index → HasInstruction bytes index
    → entry ≡ part bytes (48 + 32 * index) 32 → entry_refusals index entry ++ refused_entries bytes more next ≡ refused_entries bytes left index
refused_entry_and_more bytes left more index next entry one behind has same =
    let whole : 48 + 32 * index + 32 ≤ length bytes = has.within in
    let is_there : nat_lt (length bytes) (instruction_at index + 32) ≡ false = grind (arith, nat_tests, whole) in
    let all : List Group = entry_refusals index (part bytes (instruction_at index) 32) ++ refused_entries bytes more (suc index) in
    let first : entry_refusals index entry ++ refused_entries bytes more next ≡ all =
    ap (λ (it : List ℕ). entry_refusals index it ++ refused_entries bytes more next) same
    ∙ ap (λ (n : ℕ). entry_refusals index (part bytes (instruction_at index) 32) ++ refused_entries bytes more n) behind in
    let tested : all ≡ refused_entries bytes (suc more) index = ap (λ (ends : Bool). if ends then [] else all) (sym is_there) in
    first ∙ tested ∙ ap (λ (n : ℕ). refused_entries bytes n index) (sym one)

entries_end : (bytes : List ℕ) (left index : ℕ) (ends : Bool) → nat_lt (length bytes) (instruction_at index + 32) ≡ ends → index < seen_number bytes 44 4
    → ¬ HasInstruction bytes index → [] ≡ refused_entries bytes left index
entries_end bytes zero index ends is counted none = refl
entries_end bytes (suc left) index true is counted none =
    let all : List Group = entry_refusals index (part bytes (instruction_at index) 32) ++ refused_entries bytes left (suc index) in
    ap (λ (ends : Bool). if ends then [] else all) (sym is)
entries_end bytes (suc left) index false is counted none =
    let whole : 48 + 32 * index + 32 ≤ length bytes = grind (arith, nat_tests, is) in
    absurd (none (record { counted = counted; within = whole }))

pub no_refused_entry : (bytes : List ℕ) (left index : ℕ) → index < seen_number bytes 44 4 → ¬ HasInstruction bytes index → [] ≡ refused_entries bytes left index
no_refused_entry bytes left index counted none = entries_end bytes left index (nat_lt (length bytes) (instruction_at index + 32)) refl counted none

-- error sources
pub refused_source_then : (bytes : List ℕ) (left more index next at kind : ℕ) (source : List ℕ) (behind : ℕ) → left ≡ suc more → next ≡ suc index
    → IsSource bytes at kind source behind
    → source_refusals index at kind source ++ refused_sources bytes more next behind ≡ refused_sources bytes left index at
refused_source_then bytes left more index next at kind source behind one is_next it =
    let is_there : nat_lt (length bytes) (at + 2) ≡ false = grind (arith, nat_tests, it.within) in
    let known : source_length bytes at ≡ Ok it.size = subst (λ (k : ℕ). length_by_type k 0 (drop at bytes) ≡ Ok it.size) it.kind_is it.known in
    let rest : ℕ → List Group = λ (place : ℕ). refused_sources bytes more (suc index) place in
    let all : List Group = refused_and_more bytes index at (source_length bytes at) rest in
    let first : source_refusals index at kind source ++ refused_sources bytes more next behind ≡ refused_and_more bytes index at (Ok it.size) rest =
    ap (λ (k : ℕ). source_refusals index at k source ++ refused_sources bytes more next behind) it.kind_is
    ∙ ap (λ (content : List ℕ). source_refusals index at (source_kind bytes at) content ++ refused_sources bytes more next behind) it.content
    ∙ ap (λ (n : ℕ). source_refusals index at (source_kind bytes at) (part bytes at it.size) ++ refused_sources bytes more n behind) is_next
    ∙ ap (λ (place : ℕ). source_refusals index at (source_kind bytes at) (part bytes at it.size) ++ rest place) it.behind in
    let by_length : refused_and_more bytes index at (Ok it.size) rest ≡ all =
    ap (λ (size : Result ℕ HestError). refused_and_more bytes index at size rest) (sym known) in
    let tested : all ≡ refused_sources bytes (suc more) index at = ap (λ (ends : Bool). if ends then [] else all) (sym is_there) in
    first ∙ by_length ∙ tested ∙ ap (λ (n : ℕ). refused_sources bytes n index at) (sym one)

no_length : (bytes : List ℕ) (index at : ℕ) (told : Result ℕ HestError) (rest : ℕ → List Group) → ((size : ℕ) → ¬ (told ≡ Ok size))
    → [] ≡ refused_and_more bytes index at told rest
no_length bytes index at (Ok size) rest none = absurd (none size refl)
no_length bytes index at (Err error) rest none = refl

sources_end : (bytes : List ℕ) (left index at : ℕ) (ends : Bool) → nat_lt (length bytes) (at + 2) ≡ ends → IsNoSource bytes at → [] ≡ refused_sources bytes left index at
sources_end bytes zero index at ends is none = refl
sources_end bytes (suc left) index at true is none =
    let all : List Group = refused_and_more bytes index at (source_length bytes at) (λ (place : ℕ). refused_sources bytes left (suc index) place) in
    ap (λ (ends : Bool). if ends then [] else all) (sym is)
sources_end bytes (suc left) index at false is none =
    let whole : at + 2 ≤ length bytes = grind (arith, nat_tests, is) in
    let rest : ℕ → List Group = λ (place : ℕ). refused_sources bytes left (suc index) place in
    let all : List Group = refused_and_more bytes index at (source_length bytes at) rest in
    no_length bytes index at (source_length bytes at) rest (none whole) ∙ ap (λ (ends : Bool). if ends then [] else all) (sym is)

pub no_refused_source : (bytes : List ℕ) (left index at : ℕ) → IsNoSource bytes at → [] ≡ refused_sources bytes left index at
no_refused_source bytes left index at none = sources_end bytes left index at (nat_lt (length bytes) (at + 2)) refl none
