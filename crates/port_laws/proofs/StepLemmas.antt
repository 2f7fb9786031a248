-- The medium keeps step with the flash.
use Rattle.std.proofs.Common.{◌≡◌, ◌∙◌, ℕ, zero, suc, ◌+◌, ◌<◌, ◌≤◌, List, [], ◌∷◌, length, take, drop, Option, Some, inl, inr, refl, sym, ap, subst, arith}
use Rattle.std.specs.Prelude.{slice_get}
use Rattle.std.proofs.lemmas.List.{length-drop}
use Rattle.std.proofs.lemmas.Bool.{cases_lt}
use Rattle.std.proofs.lemmas.Option.{slice_get_within}
use Rattle.base_model.specs.Bytes.{SameOutside, put_at}
use Rattle.base_model.proofs.BytesLemmas.{SameOutside-put_at, SameOutside-refl, length-put_at}
use Rattle.base_model.specs.Flash.{Change, Told, CrashImage, IsLater, image_at}
use Rattle.base_model.proofs.CrashLemmas.{image_at-now, past_grows, same_past}
use Rattle.erst_port.specs.declared.due.Kind.{Kind}
use Rattle.erst_port.proofs.Dues.{change_of_due, image_before}
use Rattle.erst_port.proofs.PartLemmas.{held_whole, held_later, held_next, held_size, next_is, next_stays, tears_part}
use Rattle.erst_port.specs.Parts.{held}
use Rattle.erst_port.specs.PortState.{PortState, flash_of}
use Rattle.erst_port.specs.Changes.{IsDueOn, noted}
use Rattle.port_laws.specs.Calls.{Embedded, Call, Writes, Puts, Restarts, MovesTo, Looks, Makes, Happens, IsInStep}
use Rattle.port_laws.specs.Losses.{IsLeft, SameFront}
use Rattle.port_laws.proofs.Mediums.{same_behind, same_front, put_behind}
use Rattle.port_laws.proofs.CallLemmas.{IsOneCall, one_call, noted_made, told_of}

-- where the part of a change that is due stands behind the first bytes of the medium
abbrev place_of : (now : Embedded) (kind : Kind) (at : ℕ) (bytes : List ℕ) → IsDueOn now.port kind at bytes → ℕ
place_of now kind at bytes due = due.0 + now.port.made.bytes

place_is : (now : Embedded) (kind : Kind) (at : ℕ) (bytes : List ℕ) (due : IsDueOn now.port kind at bytes) → at ≡ now.port.origin + place_of now kind at bytes due
place_is now kind at bytes due = let starts = due.3.starts in omega (arith, starts)

-- it stands within the medium
due_within : (now : Embedded) (kind : Kind) (at : ℕ) (bytes : List ℕ) (due : IsDueOn now.port kind at bytes) → IsInStep now
    → now.port.origin + place_of now kind at bytes due + length bytes ≤ length now.medium
due_within now kind at bytes due step =
    let inside = due.3.inside in
    let long = held_size (flash_of now.port).sector_size (told_of now.port) now.port.made.changes kind due.0 due.1 due.2 now.port.made.bytes (omega (arith, inside)) in
    let size : length (drop now.port.origin now.medium) ≡ length (image_at (told_of now.port) now.port.made.changes) = ap length step.image ∙ long in
    let rest = length-drop now.port.origin now.medium in
    let within = due.2.within in
    let room = step.room in
    omega (arith, inside, size, rest, within, room)

torn_within : (now : Embedded) → IsInStep now → 0 < now.port.made.bytes → now.port.made.changes < length (told_of now.port).past
torn_within now step more = let torn = step.begun more in slice_get_within (told_of now.port).past now.port.made.changes torn.0 torn.1

-- a call that does not alter the medium
still : (old new : Embedded) → IsInStep old → new.medium ≡ old.medium → new.port.made ≡ old.port.made → new.port.origin ≡ old.port.origin
    → IsLater (told_of old.port) (told_of new.port) → IsInStep new
still old new step medium made origin later =
    let grown = past_grows (told_of old.port) (told_of new.port) later in
    let torn : 0 < old.port.made.bytes
    → (change : Change) × (slice_get (told_of new.port).past old.port.made.changes ≡ Some change) × SameOutside change.at change.len change.before (drop old.port.origin old.medium) =
    λ more. let is = step.begun more in (is.0, same_past (told_of old.port) (told_of new.port) old.port.made.changes later (torn_within old step more) ∙ is.1, is.2) in
    record {
      behind = rw made (let behind = step.behind in omega (arith, behind, grown));
      begun = rw (made, medium, origin) torn;
      room = rw (origin, medium) step.room;
      image = rw (origin, medium, made) (step.image ∙ sym (held_later (told_of old.port) (told_of new.port) old.port.made later step.behind (torn_within old step)));
    }

-- the caller's change of it
made_one : (old : Embedded) (kind : Kind) (at : ℕ) (bytes : List ℕ) (port : PortState) (medium : List ℕ) → IsInStep old → (due : IsDueOn old.port kind at bytes)
    → port ≡ noted old.port → medium ≡ put_at old.medium at bytes → IsInStep (record { port = port; medium = medium })
made_one old kind at bytes port medium step due is put =
    let told = told_of old.port in
    let made = old.port.made in
    let sector = (flash_of old.port).sector_size in
    let within = due_within old kind at bytes due step in
    let place = place_of old kind at bytes due in
    let change = change_of_due sector told made.changes kind due.0 due.1 due.2 in
    let stays = next_stays old.port.origin told made change.0 change.1 in
    let there : medium ≡ put_at old.medium (old.port.origin + place) bytes = put ∙ ap (λ (k : ℕ). put_at old.medium k bytes) (place_is old kind at bytes due) in
    let size : length medium ≡ length old.medium = ap length there ∙ length-put_at old.medium (old.port.origin + place) bytes within in
    let next = next_is sector old.port.origin told made kind due.0 due.1 at bytes due.2 due.3 in
    let behind : drop old.port.origin medium ≡ put_at (held told made) place bytes =
    ap (drop old.port.origin) there ∙ put_behind old.port.origin place old.medium bytes within ∙ ap (λ (image : List ℕ). put_at image place bytes) step.image in
    let here : place + length bytes ≤ length (held told made) =
    let size = ap length step.image in let rest = length-drop old.port.origin old.medium in let room = step.room in omega (arith, within, size, rest, room) in
    let torn = tears_part sector told made.changes kind due.0 due.1 due.2 made.bytes (length bytes) (put_at (held told made) place bytes) due.3.inside
    (SameOutside-put_at (held told made) place bytes here) in
    subst (λ (p : PortState). IsInStep (record { port = p; medium = medium })) (sym is) (record {
      behind = stays.1;
      begun = λ more. (
        torn.0,
        ap (λ (k : ℕ). slice_get told.past k) (stays.2 more) ∙ torn.1,
        subst (λ (image : List ℕ). SameOutside torn.0.at torn.0.len torn.0.before image) (sym behind) torn.2,
      );
      room = let room = step.room in omega (arith, room, size);
      image = behind
          ∙ held_next sector told made.changes kind due.0 due.1 due.2 made.bytes bytes due.3.inside due.3.bytes_are ∙ ap (held told) (sym next);
    })

-- the first bytes of the medium
pub front_refl : (origin : ℕ) (old new : List ℕ) → new ≡ old → SameFront origin old new
front_refl origin old new is = record { front = ap (take origin) is; size = ap length is }

front_put : (old : Embedded) (kind : Kind) (at : ℕ) (bytes medium : List ℕ) → IsInStep old → IsDueOn old.port kind at bytes → medium ≡ put_at old.medium at bytes
    → SameFront old.port.origin old.medium medium
front_put old kind at bytes medium step due put =
    let within = due_within old kind at bytes due step in
    let place = place_of old kind at bytes due in
    let there : medium ≡ put_at old.medium (old.port.origin + place) bytes = put ∙ ap (λ (k : ℕ). put_at old.medium k bytes) (place_is old kind at bytes due) in
    let same = SameOutside-put_at old.medium (old.port.origin + place) bytes within in
    record {
      front = ap (take old.port.origin) there ∙ same_front old.port.origin place (length bytes) old.medium _ same;
      size = ap length there ∙ same.same_length;
    }

pub front_then : (origin : ℕ) (old mid new : List ℕ) → SameFront origin old mid → SameFront origin mid new → SameFront origin old new
front_then origin old mid new first second = record { front = second.front ∙ first.front; size = second.size ∙ first.size }

-- one call
pub record StepsOn (old new : Embedded) : Type 0 where
  pub step : IsInStep new
  pub front : SameFront old.port.origin old.medium new.medium
  pub made : old.port.made.changes ≤ new.port.made.changes

quiet : (old new : Embedded) (command : Option _) → IsInStep old → IsOneCall old.port command new.port → new.port.made ≡ old.port.made → new.medium ≡ old.medium → StepsOn old new
quiet old new command step one made medium = record {
  step = still old new step medium made one.origin one.leaves.later;
  front = front_refl old.port.origin old.medium new.medium medium;
  made = rw made (omega arith);
}

made_more : (old : Embedded) (kind : Kind) (at : ℕ) (bytes : List ℕ) → IsDueOn old.port kind at bytes → old.port.made.changes ≤ (noted old.port).made.changes
made_more old kind at bytes due =
    let change = change_of_due (flash_of old.port).sector_size (told_of old.port) old.port.made.changes kind due.0 due.1 due.2 in
    (next_stays old.port.origin (told_of old.port) old.port.made change.0 change.1).0

pub one_step : (old : Embedded) (call : Call) (new : Embedded) → Happens old call new → IsInStep old → StepsOn old new
one_step old (Writes window offset width value answer) new happens step =
    let one = one_call old.port (Writes window offset width value answer) new.port happens.does in
    quiet old new _ step one.0 one.1 happens.medium
one_step old (Puts offset bytes answer) new happens step =
    let one = one_call old.port (Puts offset bytes answer) new.port happens.does in
    quiet old new _ step one.0 one.1 happens.medium
one_step old (Restarts answer) new happens step =
    let one = one_call old.port (Restarts answer) new.port happens.does in
    quiet old new _ step one.0 one.1 happens.medium
one_step old (MovesTo addresses answer) new happens step =
    let one = one_call old.port (MovesTo addresses answer) new.port happens.does in
    quiet old new _ step one.0 one.1 happens.medium
one_step old Looks new happens step =
    let one = one_call old.port Looks new.port happens.does in
    quiet old new _ step one.0 one.1 happens.medium
one_step old (Makes kind at bytes) new happens step =
    let one = one_call old.port (Makes kind at bytes) new.port happens.does in
    record {
      step = made_one old kind at bytes new.port new.medium step happens.does.0 (noted_made old.port new.port happens.does.1) happens.medium;
      front = front_put old kind at bytes new.medium step happens.does.0 happens.medium;
      made = rw one.1 (made_more old kind at bytes happens.does.0);
    }

-- the medium as it is is a crash image
change_at : {X : Type 0} (xs : List X) (i : ℕ) → i < length xs → (x : X) × (slice_get xs i ≡ Some x)
change_at [] i within = absurd (omega arith)
change_at (x ∷ xs) zero within = (x, refl)
change_at (x ∷ xs) (suc i) within = change_at xs i (omega arith)

pub as_it_is : (told : Told) (s : ℕ) (image : List ℕ) → s ≤ length told.past → image ≡ image_at told s → CrashImage told s image
as_it_is told s image behind is = elim (cases_lt s (length told.past)) [
  | inl before ↦
      let here = change_at told.past s before in
      inr (
        here.0,
        here.1,
        subst (λ (i : List ℕ). SameOutside here.0.at here.0.len here.0.before i) (sym (is ∙ image_before told s here.0 here.1)) (SameOutside-refl here.0.at here.0.len here.0.before),
      )
  | inr last ↦ let e : s ≡ length told.past = omega (arith, last, behind) in inl (e, is ∙ image_at-now told s (omega (arith, e)))
]

-- whatever power lost at the medium leaves is one
kept_is : (now : Embedded) (n : ℕ) → now.port.made.bytes ≡ n → IsInStep now → CrashImage (told_of now.port) now.port.made.changes (drop now.port.origin now.medium)
kept_is now zero none step =
    as_it_is (told_of now.port) now.port.made.changes (drop now.port.origin now.medium) step.behind (step.image ∙ held_whole (told_of now.port) now.port.made none)
kept_is now (suc n) some step = inr (step.begun (omega (arith, some)))

torn_same : (now : Embedded) (left : List ℕ) (kind : Kind) (at : ℕ) (bytes : List ℕ) (due : IsDueOn now.port kind at bytes) → SameOutside at (length bytes) now.medium left
    → SameOutside (now.port.origin + place_of now kind at bytes due) (length bytes) now.medium left
torn_same now left kind at bytes due same = subst (λ (k : ℕ). SameOutside k (length bytes) now.medium left) (place_is now kind at bytes due) same

pub left_is : (now : Embedded) (left : List ℕ) → IsInStep now → IsLeft now left → CrashImage (told_of now.port) now.port.made.changes (drop now.port.origin left)
left_is now left step (inl same) =
    subst (λ (image : List ℕ). CrashImage (told_of now.port) now.port.made.changes (drop now.port.origin image)) (sym same) (kept_is now now.port.made.bytes refl step)
left_is now left step (inr torn) =
    let due = torn.3 in
    let place = place_of now torn.0 torn.1 torn.2 due in
    inr (tears_part (flash_of now.port).sector_size (told_of now.port) now.port.made.changes torn.0 due.0 due.1 due.2 now.port.made.bytes (length torn.2) (drop now.port.origin left) due.3.inside
    (subst (λ (image : List ℕ). SameOutside place (length torn.2) image (drop now.port.origin left)) step.image
    (same_behind now.port.origin place (length torn.2) now.medium left (torn_same now left torn.0 torn.1 torn.2 due torn.4))))

pub left_front : (now : Embedded) (left : List ℕ) → IsLeft now left → SameFront now.port.origin now.medium left
left_front now left (inl same) = front_refl now.port.origin now.medium left same
left_front now left (inr torn) =
    let due = torn.3 in
    let same = torn_same now left torn.0 torn.1 torn.2 due torn.4 in
    record { front = same_front now.port.origin (place_of now torn.0 torn.1 torn.2 due) (length torn.2) now.medium left same; size = same.same_length }
