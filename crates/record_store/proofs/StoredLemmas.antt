-- The records that a flash holds have an identifier that a record can have, and a length that fits.
use Rattle.std.proofs.Common.{◌≡◌, ℕ, ◌+◌, ◌-◌, ◌*◌, ◌≤◌, true, false, List, [], ◌∷◌, length, take, Option, Some, None, refl, sym, ap, ◌∙◌, arith, length-append}
use Rattle.std.specs.FinMap.{get}
use Rattle.std.proofs.Math.Nat.{add-mul}
use Rattle.std.proofs.lemmas.List.{length-take}
use Rattle.base_model.specs.Layout.{Layout, room_of, reach_of}
use Rattle.record_model.specs.Records.{Head, Slot, Entry, is_reserved, is_up, slot_at, part_len, further_of, parts_joined, record_of, entry_of, entry_at, stored_in}
use Rattle.record_model.proofs.SelectionLemmas.{get-selected, best_from}
use Rattle.record_model.proofs.LiveLemmas.{up_entry, live_record}
use Rattle.record_model.proofs.PartsLemmas.{up_form}
use Rattle.record_slots.proofs.LookLemmas.{upright_id, len_reach}
use Rattle.record_store.specs.Store.{records_of}

-- what an upright slot says
record IsUpright (room : ℕ) (head : Head) : Type 0 where
  usable : is_reserved head.id ≡ false
  most : head.len ≤ reach_of room

upright_says : (room slots : ℕ) (slot : Slot) → room ≤ 65536 → is_up room slots slot ≡ true → IsUpright room slot.head
unfolding is_up
upright_says room slots slot few up =
    record { usable = upright_id room slots slot.head slot.tail up; most = len_reach room slots slot.head few (up_form room slots slot up) }

-- the parts of a record have no more bytes than it has from there on
length-parts_joined : (room len : ℕ) (slot : ℕ → Slot) (number : ℕ) (slots : List ℕ) → length (parts_joined room len slot number slots) ≤ len - number * room
unfolding part_len
length-parts_joined room len slot number [] = omega arith
length-parts_joined room len slot number (n ∷ rest) =
    let more = length-parts_joined room len slot (number + 1) rest in
    let here = length-take (part_len room len number) (slot n).body in
    let both = length-append (take (part_len room len number) (slot n).body) (parts_joined room len slot (number + 1) rest) in
    let next : (number + 1) * room ≡ number * room + 1 * room = add-mul number 1 room in
    omega arith

-- a record that a flash of this layout holds
pub record IsRecordOf (layout : Layout) (id : ℕ) (kept : List ℕ × ℕ) : Type 0 where
  pub usable : is_reserved id ≡ false
  pub most : length kept.0 ≤ reach_of (room_of layout)

pub stored_says : (layout : Layout) (id : ℕ) (image : List ℕ) (kept : List ℕ × ℕ) → get (records_of layout image) id ≡ Some kept → IsRecordOf layout id kept
unfolding stored_in entry_at record_of
stored_says layout id image kept here =
    let room = room_of layout in
    let slot = slot_at layout.slot_size image in
    let from = best_from (entry_of room layout.slots slot) id layout.slots kept (sym (get-selected (entry_of room layout.slots slot) layout.slots id) ∙ here) in
    let up = up_entry room layout.slots slot from.0 from.1 from.3 in
    let is : from.1 ≡ record_of room slot from.0 = live_record room layout.slots slot from.0 from.1 from.3 in
    let greatest = layout.greatest_slot in
    let says = upright_says room layout.slots (slot from.0) (omega arith) up.1 in
    let body : kept.0 ≡ from.1.body = sym (ap (λ (p : List ℕ × ℕ). p.0) from.5) in
    let most : (slot from.0).head.len ≤ reach_of room = says.most in
    let joined = length-parts_joined room (slot from.0).head.len slot 0 (from.0 ∷ further_of room (slot from.0).head) in
    let whole = ap (λ (e : Entry). length e.body) is in
    record {
      usable = ap is_reserved (sym from.4 ∙ ap (λ (e : Entry). e.id) is) ∙ says.usable;
      most = omega (arith, ap length body);
    }

-- an identifier that no record has is not stored
pub reserved_absent : (layout : Layout) (id : ℕ) (image : List ℕ) → is_reserved id ≡ true → get (records_of layout image) id ≡ None
reserved_absent layout id image reserved = by_case (get (records_of layout image) id) refl
  where
    by_case : (found : Option (List ℕ × ℕ)) → get (records_of layout image) id ≡ found → found ≡ None
    by_case None e = refl
    by_case (Some kept) e =
        let says = stored_says layout id image kept e in
        let clash : true ≡ false = sym reserved ∙ says.usable in absurd (cc clash)
