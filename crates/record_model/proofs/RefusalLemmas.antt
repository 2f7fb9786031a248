-- When the map refuses a command, by what it has under the identifier and by how many slots are free.
use Rattle.std.proofs.Common.{◌≡◌, ◌≢◌, ℕ, ◌+◌, ◌-◌, ◌<◌, ◌≤◌, Bool, true, false, cond, nat_eq, List, length, Option, Some, None, sym, ap, ◌∙◌, arith}
use Rattle.std.specs.Prelude.{nat_lt, is_none, is_some, ◌||◌}
use Rattle.std.specs.FinMap.{get, len}
use Rattle.std.proofs.lemmas.Bool.{lt-ltb, le-ltb, eq-eqb, ne_eqb}
use Rattle.base_model.specs.Layout.{Layout, room_of}
use Rattle.record_model.specs.Records.{Stored, is_reserved, parts_of, parts_in}
use Rattle.record_model.specs.RecordMap.{changes_of_parts, Command, Write, Clear, Read, Refusal, Failed, NoSpace, NotFound, Empty, LAST_GENERATION, changes_of, refusal_of}
use Rattle.record_model.proofs.MapLemmas.{free_by, is_last_generation, slots_wanted, refusal_of-new}

-- the changes of a write of so many bytes
abbrev pub changes_of_write : Layout → ℕ → Option (List ℕ × ℕ) → ℕ
changes_of_write layout size None = changes_of_parts layout size (parts_of (room_of layout) size) + 1
changes_of_write layout size (Some kept) = changes_of_parts layout size (parts_of (room_of layout) size) + 2

-- no record has identifier 0
pub allowed_not_zero : (id : ℕ) → is_reserved id ≡ false → id ≢ 0
unfolding is_reserved
allowed_not_zero id allowed zero_id = differ (sym (ap (λ (b : Bool). cond b true (nat_eq id 18446744073709551615)) (eq-eqb id 0 zero_id)) ∙ allowed)
  where
    differ : true ≡ false → ⊥
    differ e = cc

-- a write, by what the map has under its identifier
write_by : (layout : Layout) (id : ℕ) (bytes : List ℕ) (stored : Stored) (kept : Option (List ℕ × ℕ)) → is_reserved id ≡ false → get stored id ≡ kept
    → refusal_of layout (Write id bytes) stored
    ≡ cond {A = Option Refusal} (is_last_generation kept) (Some Failed) (cond (nat_lt (free_by layout stored) (slots_wanted (parts_of (room_of layout) (length bytes)) kept)) (Some NoSpace) None)
unfolding refusal_of
write_by layout id bytes stored kept allowed is =
    ap (λ (b : Bool). cond {A = Option Refusal} b (Some Failed) (cond (is_last_generation (get stored id)) (Some Failed)
    (cond (nat_lt (free_by layout stored) (slots_wanted (parts_of (room_of layout) (length bytes)) (get stored id))) (Some NoSpace) None))) allowed
    ∙ ap (λ (o : Option (List ℕ × ℕ)). cond {A = Option Refusal} (is_last_generation o) (Some Failed)
    (cond (nat_lt (free_by layout stored) (slots_wanted (parts_of (room_of layout) (length bytes)) o)) (Some NoSpace) None)) is

-- the record that is stored has the last generation
pub write_at_last : (layout : Layout) (id : ℕ) (bytes body : List ℕ) (stored : Stored) → is_reserved id ≡ false → get stored id ≡ Some (body, LAST_GENERATION)
    → refusal_of layout (Write id bytes) stored ≡ Some Failed
write_at_last layout id bytes body stored allowed is = write_by layout id bytes stored (Some (body, LAST_GENERATION)) allowed is

-- a new identifier wants two free slots
pub write_new_no_space : (layout : Layout) (free id : ℕ) (bytes : List ℕ) (stored : Stored) → is_reserved id ≡ false → get stored id ≡ None →
    free + parts_in (room_of layout) stored ≡ layout.slots → free < parts_of (room_of layout) (length bytes) + 1
    → refusal_of layout (Write id bytes) stored ≡ Some NoSpace
write_new_no_space layout free id bytes stored allowed is counted few =
    refusal_of-new layout free id bytes stored allowed is counted
    ∙ ap (λ (b : Bool). cond {A = Option Refusal} b (Some NoSpace) None) (lt-ltb free (parts_of (room_of layout) (length bytes) + 1) few)

pub write_new_taken : (layout : Layout) (free id : ℕ) (bytes : List ℕ) (stored : Stored) → is_reserved id ≡ false → get stored id ≡ None →
    free + parts_in (room_of layout) stored ≡ layout.slots → parts_of (room_of layout) (length bytes) + 1 ≤ free
    → refusal_of layout (Write id bytes) stored ≡ None
write_new_taken layout free id bytes stored allowed is counted enough =
    refusal_of-new layout free id bytes stored allowed is counted
    ∙ ap (λ (b : Bool). cond {A = Option Refusal} b (Some NoSpace) None) (le-ltb free (parts_of (room_of layout) (length bytes) + 1) enough)

-- one that is stored wants one
write_over : (layout : Layout) (free id generation : ℕ) (bytes body : List ℕ) (stored : Stored) → is_reserved id ≡ false → get stored id ≡ Some (body, generation) → generation ≢ LAST_GENERATION
    → free + parts_in (room_of layout) stored ≡ layout.slots → refusal_of layout (Write id bytes) stored ≡ cond (nat_lt free (parts_of (room_of layout) (length bytes))) (Some NoSpace) None
write_over layout free id generation bytes body stored allowed is apart counted =
    let left : layout.slots - parts_in (room_of layout) stored ≡ free = omega arith in
    write_by layout id bytes stored (Some (body, generation)) allowed is
    ∙ ap (λ (b : Bool). cond {A = Option Refusal} b (Some Failed) (cond (nat_lt (free_by layout stored) (parts_of (room_of layout) (length bytes)))
    (Some NoSpace) None)) (ne_eqb generation LAST_GENERATION apart)
    ∙ ap (λ (n : ℕ). cond {A = Option Refusal} (nat_lt n (parts_of (room_of layout) (length bytes))) (Some NoSpace) None) left

pub write_over_no_space : (layout : Layout) (free id generation : ℕ) (bytes body : List ℕ) (stored : Stored) → is_reserved id ≡ false → get stored id ≡ Some (body, generation)
    → generation ≢ LAST_GENERATION → free + parts_in (room_of layout) stored ≡ layout.slots → free < parts_of (room_of layout) (length bytes) → refusal_of layout (Write id bytes) stored ≡ Some NoSpace
write_over_no_space layout free id generation bytes body stored allowed is apart counted few =
    write_over layout free id generation bytes body stored allowed is apart counted
    ∙ ap (λ (b : Bool). cond {A = Option Refusal} b (Some NoSpace) None) (lt-ltb free (parts_of (room_of layout) (length bytes)) few)

pub write_over_taken : (layout : Layout) (free id generation : ℕ) (bytes body : List ℕ) (stored : Stored) → is_reserved id ≡ false → get stored id ≡ Some (body, generation)
    → generation ≢ LAST_GENERATION → free + parts_in (room_of layout) stored ≡ layout.slots → parts_of (room_of layout) (length bytes) ≤ free → refusal_of layout (Write id bytes) stored ≡ None
write_over_taken layout free id generation bytes body stored allowed is apart counted enough =
    write_over layout free id generation bytes body stored allowed is apart counted
    ∙ ap (λ (b : Bool). cond {A = Option Refusal} b (Some NoSpace) None) (le-ltb free (parts_of (room_of layout) (length bytes)) enough)

-- a clear is refused only where the identifier is not stored
clear_by : (layout : Layout) (id : ℕ) (stored : Stored) (kept : Option (List ℕ × ℕ)) → is_reserved id ≡ false → get stored id ≡ kept
    → refusal_of layout (Clear id) stored ≡ cond {A = Option Refusal} (is_some kept) None (Some NotFound)
unfolding refusal_of
clear_by layout id stored kept allowed is =
    ap (λ (b : Bool). cond {A = Option Refusal} b (Some Failed) (cond (is_some (get stored id)) None (Some NotFound))) allowed
    ∙ ap (λ (o : Option (List ℕ × ℕ)). cond {A = Option Refusal} (is_some o) None (Some NotFound)) is

pub clear_missing : (layout : Layout) (id : ℕ) (stored : Stored) → is_reserved id ≡ false → get stored id ≡ None → refusal_of layout (Clear id) stored ≡ Some NotFound
clear_missing layout id stored allowed is = clear_by layout id stored None allowed is

pub clear_taken : (layout : Layout) (id : ℕ) (stored : Stored) (kept : List ℕ × ℕ) → is_reserved id ≡ false → get stored id ≡ Some kept → refusal_of layout (Clear id) stored ≡ None
clear_taken layout id stored kept allowed is = clear_by layout id stored (Some kept) allowed is

-- a read of an identifier that a record can have
pub read_empty : (layout : Layout) (id : ℕ) (stored : Stored) → len stored ≡ 0 → refusal_of layout (Read id) stored ≡ Some Empty
unfolding refusal_of
read_empty layout id stored none =
    ap (λ (b : Bool). cond {A = Option Refusal} b (Some Empty) (cond (nat_eq id 0 || is_some (get stored id)) None (Some NotFound))) (eq-eqb (len stored) 0 none)

read_by : (layout : Layout) (id : ℕ) (stored : Stored) (kept : Option (List ℕ × ℕ)) → len stored ≢ 0 → id ≢ 0 → get stored id ≡ kept
    → refusal_of layout (Read id) stored ≡ cond {A = Option Refusal} (is_some kept) None (Some NotFound)
unfolding refusal_of
read_by layout id stored kept some apart is =
    ap (λ (b : Bool). cond {A = Option Refusal} b (Some Empty) (cond (nat_eq id 0 || is_some (get stored id)) None (Some NotFound))) (ne_eqb (len stored) 0 some)
    ∙ ap (λ (b : Bool). cond {A = Option Refusal} (b || is_some (get stored id)) None (Some NotFound)) (ne_eqb id 0 apart)
    ∙ ap (λ (o : Option (List ℕ × ℕ)). cond {A = Option Refusal} (is_some o) None (Some NotFound)) is

pub read_missing : (layout : Layout) (id : ℕ) (stored : Stored) → len stored ≢ 0 → is_reserved id ≡ false → get stored id ≡ None → refusal_of layout (Read id) stored ≡ Some NotFound
read_missing layout id stored some allowed is = read_by layout id stored None some (allowed_not_zero id allowed) is

pub read_taken : (layout : Layout) (id : ℕ) (stored : Stored) (kept : List ℕ × ℕ) → len stored ≢ 0 → is_reserved id ≡ false → get stored id ≡ Some kept → refusal_of layout (Read id) stored ≡ None
read_taken layout id stored kept some allowed is = read_by layout id stored (Some kept) some (allowed_not_zero id allowed) is

-- the flash changes that a command takes
abbrev changes_made : Layout → Stored → Command → ℕ
changes_made layout stored (Write id bytes) = changes_of_write layout (length bytes) (get stored id)
changes_made layout stored (Clear id) = 1
changes_made layout stored command = 0

pub changes_of-done : (layout : Layout) (command : Command) (stored : Stored) → refusal_of layout command stored ≡ None → changes_of layout command stored ≡ changes_made layout stored command
unfolding changes_of
changes_of-done layout command stored none = ap (λ (o : Option Refusal). cond (is_none o) (changes_made layout stored command) 0) none

pub changes_of-refused : (layout : Layout) (command : Command) (stored : Stored) (refusal : Refusal) → refusal_of layout command stored ≡ Some refusal → changes_of layout command stored ≡ 0
unfolding changes_of
changes_of-refused layout command stored refusal some = ap (λ (o : Option Refusal). cond (is_none o) (changes_made layout stored command) 0) some

pub changes_of-new : (layout : Layout) (id : ℕ) (bytes : List ℕ) (stored : Stored) → refusal_of layout (Write id bytes) stored ≡ None → get stored id ≡ None
    → changes_of layout (Write id bytes) stored ≡ changes_of_parts layout (length bytes) (parts_of (room_of layout) (length bytes)) + 1
changes_of-new layout id bytes stored taken is =
    changes_of-done layout (Write id bytes) stored taken
    ∙ ap (λ (o : Option (List ℕ × ℕ)). changes_of_write layout (length bytes) o) is

pub changes_of-over : (layout : Layout) (id : ℕ) (bytes : List ℕ) (stored : Stored) (kept : List ℕ × ℕ) → refusal_of layout (Write id bytes) stored ≡ None → get stored id ≡ Some kept
    → changes_of layout (Write id bytes) stored ≡ changes_of_parts layout (length bytes) (parts_of (room_of layout) (length bytes)) + 2
changes_of-over layout id bytes stored kept taken is =
    changes_of-done layout (Write id bytes) stored taken
    ∙ ap (λ (o : Option (List ℕ × ℕ)). changes_of_write layout (length bytes) o) is

pub changes_of-clear : (layout : Layout) (id : ℕ) (stored : Stored) → refusal_of layout (Clear id) stored ≡ None → changes_of layout (Clear id) stored ≡ 1
changes_of-clear layout id stored taken = changes_of-done layout (Clear id) stored taken
