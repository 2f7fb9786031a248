-- The further slots of a record that is written.
use Rattle.std.specs.Prelude.{◌≡◌, ℕ, ◌+◌, ◌-◌, ◌*◌, ◌<◌, ◌≤◌, true, false, ◌==◌, List, [], ◌∷◌, ◌++◌, length, take, replicate}
use Rattle.std.specs.List.{list_any}
use Rattle.base_model.specs.Layout.{reach_of}
use Rattle.base_model.specs.Bytes.{part}
use Rattle.record_model.specs.Heads.{Head, gate_open, not_killed}
use Rattle.record_model.specs.Slots.{parts_of, part_len, Slot}
use Rattle.record_model.specs.Entries.{is_part}

-- the three numbers of a first slot that names these further slots
unfoldable pub named : List ℕ → List ℕ
named further = further ++ replicate (3 - length further) 0xFFFF

-- the head of a first slot behind an open gate
abbrev pub first_head : ℕ → ℕ → List ℕ → List ℕ → Head
first_head id generation further body = record {
  gate = gate_open;
  kill = not_killed;
  format = 2;
  generation = generation;
  id = id;
  len = length body;
  next = named further;
}

-- a slot has this part of a record of slot k
pub record HasPart (room k id generation : ℕ) (further body : List ℕ) (number : ℕ) (slot : Slot) : Type 0 where
  pub is : is_part room k (first_head id generation further body) number slot ≡ true
  pub its_body : take (part_len room (length body) number) slot.body ≡ part body (number * room) (part_len room (length body) number)

-- these slots have the parts from this number on
abbrev pub HaveParts : ℕ → ℕ → ℕ → ℕ → List ℕ → List ℕ → (ℕ → Slot) → ℕ → List ℕ → Type 0
HaveParts room k id generation further body slot number [] = Unit {0}
HaveParts room k id generation further body slot number (n ∷ rest) =
    HasPart room k id generation further body number (slot n) × HaveParts room k id generation further body slot (number + 1) rest

-- numbers of which none stands twice, and numbers below n
abbrev pub AreDistinct : List ℕ → Type 0
AreDistinct [] = Unit {0}
AreDistinct (x ∷ xs) = (list_any (λ n. x == n) xs ≡ false) × AreDistinct xs

abbrev pub AreBelow : ℕ → List ℕ → Type 0
AreBelow n [] = Unit {0}
AreBelow n (x ∷ xs) = (x < n) × AreBelow n xs

-- a record of this body gets as many further slots as it has parts behind the first
pub record NamesAll (room slots : ℕ) (further body : List ℕ) : Type 0 where
  pub least : 128 ≤ length body
  pub most : length body ≤ reach_of room
  pub counted : 1 + length further ≡ parts_of room (length body)
  pub few : length further ≤ 3
  pub below : AreBelow slots further
