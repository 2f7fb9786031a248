-- Laws of the record map.
use Rattle.std.proofs.Common.{◌≡◌, ℕ, ◌+◌, ◌-◌, Bool, false, cond, nat_eq, List, length, Option, Some, None, ap, ◌∙◌, arith}
use Rattle.std.specs.Prelude.{nat_lt, is_none}
use Rattle.std.specs.FinMap.{get}
use Rattle.base_model.specs.Layout.{Layout, room_of}
use Rattle.record_model.specs.Records.{Stored, is_reserved, parts_of, parts_in}
use Rattle.record_model.specs.RecordMap.{LAST_GENERATION, Command, Write, Refusal, Failed, NoSpace, refusal_of, made_by, after}

-- what a write finds under its identifier, the free slots that it wants, and those that there are
abbrev pub is_last_generation : Option (List ℕ × ℕ) → Bool
is_last_generation None = false
is_last_generation (Some kept) = nat_eq kept.1 LAST_GENERATION

abbrev pub slots_wanted : ℕ → Option (List ℕ × ℕ) → ℕ
slots_wanted parts None = parts + 1
slots_wanted parts (Some kept) = parts

abbrev pub free_by : Layout → Stored → ℕ
free_by layout stored = layout.slots - parts_in (room_of layout) stored

-- a new identifier is refused only for want of space
pub refusal_of-new : (layout : Layout) (free id : ℕ) (bytes : List ℕ) (stored : Stored) → is_reserved id ≡ false → get stored id ≡ None → free + parts_in (room_of layout) stored ≡ layout.slots
    → refusal_of layout (Write id bytes) stored ≡ cond (nat_lt free (parts_of (room_of layout) (length bytes) + 1)) (Some NoSpace) None
unfolding refusal_of
refusal_of-new layout free id bytes stored reserved new counted =
    let left : layout.slots - parts_in (room_of layout) stored ≡ free = omega arith in
    ap (λ (b : Bool). cond {A = Option Refusal} b (Some Failed) (cond (is_last_generation (get stored id)) (Some Failed)
    (cond (nat_lt (free_by layout stored) (slots_wanted (parts_of (room_of layout) (length bytes)) (get stored id))) (Some NoSpace) None))) reserved
    ∙ ap (λ (o : Option (List ℕ × ℕ)). cond {A = Option Refusal} (is_last_generation o) (Some Failed)
    (cond (nat_lt (free_by layout stored) (slots_wanted (parts_of (room_of layout) (length bytes)) o)) (Some NoSpace) None)) new
    ∙ ap (λ (n : ℕ). cond {A = Option Refusal} (nat_lt n (parts_of (room_of layout) (length bytes) + 1)) (Some NoSpace) None) left

-- a command that is not refused is done
pub after-done : (layout : Layout) (command : Command) (stored : Stored) → refusal_of layout command stored ≡ None → after layout command stored ≡ made_by command stored
unfolding after
after-done layout command stored none = ap (λ (o : Option Refusal). cond (is_none o) (made_by command stored) stored) none
