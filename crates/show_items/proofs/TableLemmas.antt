-- The first of the parts of a table, and those behind it.
use Rattle.std.proofs.Common.{◌≡◌, ◌∙◌, ℕ, zero, suc, ◌+◌, ◌*◌, ◌<◌, ◌≤◌, Bool, true, false, if◌then◌else◌, nat_lt, List, [], ◌∷◌, length, drop, Option, Some}
use Rattle.std.proofs.Common.{Result, Ok, Err, refl, sym, ap, subst, arith}
use Rattle.std.proofs.lemmas.Bool.Decides.{nat_tests}
use Rattle.base_model.specs.Bytes.{part}
use Rattle.hest_sources.specs.Layout.{length_by_type}
use Rattle.hest_sources.specs.declared.tables.HestError.{HestError}
use Rattle.show_findings.specs.Places.{HasInstruction, IsNoSource, IsSource, seen_number}
use Rattle.show_items.specs.Groups.{Group}
use Rattle.show_items.specs.Sheets.{AddsGroups, GroupsBegun}
use Rattle.show_items.specs.TablePlaces.{instruction_at, source_kind, source_length}
use Rattle.show_items.specs.Tables.{instruction_group, instruction_groups, source_and_more, source_group, source_groups}
use Rattle.show_items.specs.declared.sheet.Sheet.{Sheet}
use Rattle.show_items.proofs.BeginningLemmas.{groups_begun_then}
use Rattle.show_items.proofs.SheetLemmas.{groups_then, on_pages}

-- a group on the sheet alone, and then those behind it
pub group_and_more : (group : Group) (more : List Group) (before after : Option (List ℕ)) (old added new : Sheet)
    → AddsGroups (group ∷ []) (Some []) (Some []) old added → AddsGroups more before after added new → AddsGroups (group ∷ more) before after old new
group_and_more group more before after old added new first rest =
    groups_then (group ∷ []) more before before after old added new (on_pages (group ∷ []) before old added first) rest

pub group_and_begun : (group : Group) (more : List Group) (before after : Option (List ℕ)) (old added : Sheet)
    → AddsGroups (group ∷ []) (Some []) (Some []) old added → GroupsBegun more before after added → GroupsBegun (group ∷ more) before after old
group_and_begun group more before after old added first begun =
    groups_begun_then (group ∷ []) more before before after old added (on_pages (group ∷ []) before old added first) begun

-- the same where a page may be written between them
pub group_turned_and_more : (group : Group) (more : List Group) (before middle after : Option (List ℕ)) (old added turned new : Sheet)
    → AddsGroups (group ∷ []) (Some []) (Some []) old added → AddsGroups [] before middle added turned → AddsGroups more middle after turned new
    → AddsGroups (group ∷ more) before after old new
group_turned_and_more group more before middle after old added turned new first turns rest =
    group_and_more group more before after old added new first (groups_then [] more before middle after added turned new turns rest)

-- instruction entries
pub instruction_and_more : (bytes : List ℕ) (left more index next : ℕ) (entry : List ℕ) → left ≡ suc more → next ≡ suc index → HasInstruction bytes index
    → entry ≡ part bytes (48 + 32 * index) 32 → instruction_group index entry ∷ instruction_groups bytes more next ≡ instruction_groups bytes left index
instruction_and_more bytes left more index next entry one behind has same =
    let whole : 48 + 32 * index + 32 ≤ length bytes = has.within in
    let is_there : nat_lt (length bytes) (instruction_at index + 32) ≡ false = grind (arith, nat_tests, whole) in
    let all : List Group = instruction_group index (part bytes (instruction_at index) 32) ∷ instruction_groups bytes more (suc index) in
    let first : instruction_group index entry ∷ instruction_groups bytes more next ≡ all =
    ap (λ (it : List ℕ). instruction_group index it ∷ instruction_groups bytes more next) same
    ∙ ap (λ (n : ℕ). instruction_group index (part bytes (instruction_at index) 32) ∷ instruction_groups bytes more n) behind in
    let tested : all ≡ instruction_groups bytes (suc more) index = ap (λ (ends : Bool). if ends then [] else all) (sym is_there) in
    first ∙ tested ∙ ap (λ (n : ℕ). instruction_groups bytes n index) (sym one)

instructions_end : (bytes : List ℕ) (left index : ℕ) (ends : Bool) → nat_lt (length bytes) (instruction_at index + 32) ≡ ends → index < seen_number bytes 44 4
    → ¬ HasInstruction bytes index → [] ≡ instruction_groups bytes left index
instructions_end bytes zero index ends is counted none = refl
instructions_end bytes (suc left) index true is counted none =
    let all : List Group = instruction_group index (part bytes (instruction_at index) 32) ∷ instruction_groups bytes left (suc index) in
    ap (λ (ends : Bool). if ends then [] else all) (sym is)
instructions_end bytes (suc left) index false is counted none =
    let whole : 48 + 32 * index + 32 ≤ length bytes = grind (arith, nat_tests, is) in
    absurd (none (record { counted = counted; within = whole }))

pub no_instruction : (bytes : List ℕ) (left index : ℕ) → index < seen_number bytes 44 4 → ¬ HasInstruction bytes index → [] ≡ instruction_groups bytes left index
no_instruction bytes left index counted none = instructions_end bytes left index (nat_lt (length bytes) (instruction_at index + 32)) refl counted none

-- error sources
pub source_then : (bytes : List ℕ) (left more index next at kind : ℕ) (source : List ℕ) (behind : ℕ) → left ≡ suc more → next ≡ suc index
    → IsSource bytes at kind source behind → source_group index at kind source ∷ source_groups bytes more next behind ≡ source_groups bytes left index at
source_then bytes left more index next at kind source behind one is_next it =
    let is_there : nat_lt (length bytes) (at + 2) ≡ false = grind (arith, nat_tests, it.within) in
    let known : source_length bytes at ≡ Ok it.size = subst (λ (k : ℕ). length_by_type k 0 (drop at bytes) ≡ Ok it.size) it.kind_is it.known in
    let rest : ℕ → List Group = λ (place : ℕ). source_groups bytes more (suc index) place in
    let all : List Group = source_and_more bytes index at (source_length bytes at) rest in
    let first : source_group index at kind source ∷ source_groups bytes more next behind ≡ source_and_more bytes index at (Ok it.size) rest =
    ap (λ (k : ℕ). source_group index at k source ∷ source_groups bytes more next behind) it.kind_is
    ∙ ap (λ (content : List ℕ). source_group index at (source_kind bytes at) content ∷ source_groups bytes more next behind) it.content
    ∙ ap (λ (n : ℕ). source_group index at (source_kind bytes at) (part bytes at it.size) ∷ source_groups bytes more n behind) is_next
    ∙ ap (λ (place : ℕ). source_group index at (source_kind bytes at) (part bytes at it.size) ∷ rest place) it.behind in
    let by_length : source_and_more bytes index at (Ok it.size) rest ≡ all =
    ap (λ (size : Result ℕ HestError). source_and_more bytes index at size rest) (sym known) in
    let tested : all ≡ source_groups bytes (suc more) index at = ap (λ (ends : Bool). if ends then [] else all) (sym is_there) in
    first ∙ by_length ∙ tested ∙ ap (λ (n : ℕ). source_groups bytes n index at) (sym one)

no_length : (bytes : List ℕ) (index at : ℕ) (told : Result ℕ HestError) (rest : ℕ → List Group) → ((size : ℕ) → ¬ (told ≡ Ok size))
    → [] ≡ source_and_more bytes index at told rest
no_length bytes index at (Ok size) rest none = absurd (none size refl)
no_length bytes index at (Err error) rest none = refl

sources_end : (bytes : List ℕ) (left index at : ℕ) (ends : Bool) → nat_lt (length bytes) (at + 2) ≡ ends → IsNoSource bytes at → [] ≡ source_groups bytes left index at
sources_end bytes zero index at ends is none = refl
sources_end bytes (suc left) index at true is none =
    let all : List Group = source_and_more bytes index at (source_length bytes at) (λ (place : ℕ). source_groups bytes left (suc index) place) in
    ap (λ (ends : Bool). if ends then [] else all) (sym is)
sources_end bytes (suc left) index at false is none =
    let whole : at + 2 ≤ length bytes = grind (arith, nat_tests, is) in
    let rest : ℕ → List Group = λ (place : ℕ). source_groups bytes left (suc index) place in
    let all : List Group = source_and_more bytes index at (source_length bytes at) rest in
    no_length bytes index at (source_length bytes at) rest (none whole) ∙ ap (λ (ends : Bool). if ends then [] else all) (sym is)

pub no_source : (bytes : List ℕ) (left index at : ℕ) → IsNoSource bytes at → [] ≡ source_groups bytes left index at
no_source bytes left index at none = sources_end bytes left index at (nat_lt (length bytes) (at + 2)) refl none
