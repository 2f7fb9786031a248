-- The objects of records, one after another.
use Rattle.std.proofs.Common.{◌≡◌, ◌∙◌, ℕ, ◌+◌, Bool, false, List, [], ◌∷◌, ◌++◌, refl, ap, sym, subst, append_assoc, append-nil, add-one}
use Rattle.image_survey.specs.Kinds.{kind_at}
use Rattle.image_survey.specs.declared.kinds.SlotKind.{SlotKind}
use Rattle.image_survey.specs.declared.kinds.SlotKind.TheVariants.{First, Further, SecondCopy, Orphan, Filling, Killed, Erased, Unknown}
use Rattle.apei_look.specs.FileObjects.{separator}
use Rattle.apei_look.specs.RecordObjects.{AreObjects, IsSlotObject, IsStoredObject, is_empty, is_first_behind}
use Rattle.apei_look.specs.Texts.{GrowsBy}

-- the objects of the first n slots stand behind a text
pub record HasObjects (slot_size slots : ℕ) (image : List ℕ) (n : ℕ) (is_first : Bool) (old new : List ℕ) : Type 0 where
  pub objects : List ℕ
  pub are_objects : AreObjects slot_size slots image n objects
  pub first : is_first ≡ is_empty objects
  pub is : new ≡ old ++ objects

-- an object is not empty
not_empty : (slot_size slots : ℕ) (image : List ℕ) (k : ℕ) (is_first : Bool) (before last object : List ℕ)
    → is_first ≡ is_empty before → last ≡ separator is_first ++ object → IsStoredObject slot_size slots image k object → false ≡ is_empty (before ++ last)
not_empty slot_size slots image k is_first (byte ∷ bytes) last object first is of = refl
not_empty slot_size slots image k is_first [] last object first is of =
    sym (ap is_empty (is ∙ ap (λ (b : Bool). separator b ++ object) first ∙ of.is))

nothing_more : (is_first : Bool) (before last : List ℕ) → is_first ≡ is_empty before → last ≡ [] → is_first ≡ is_empty (before ++ last)
nothing_more is_first before last first is = first ∙ sym (ap is_empty (ap (λ (t : List ℕ). before ++ t) is ∙ append-nil before))

-- whether the next one is the first
behind : (slot_size slots : ℕ) (image : List ℕ) (k : ℕ) (kind : SlotKind) (is_first : Bool) (before last : List ℕ)
    → is_first ≡ is_empty before → IsSlotObject slot_size slots image k kind is_first last → is_first_behind kind is_first ≡ is_empty (before ++ last)
behind slot_size slots image k First is_first before last first of = not_empty slot_size slots image k is_first before last of.0 first of.2 of.1
behind slot_size slots image k Further is_first before last first of = nothing_more is_first before last first of
behind slot_size slots image k SecondCopy is_first before last first of = nothing_more is_first before last first of
behind slot_size slots image k Orphan is_first before last first of = nothing_more is_first before last first of
behind slot_size slots image k Filling is_first before last first of = nothing_more is_first before last first of
behind slot_size slots image k Killed is_first before last first of = nothing_more is_first before last first of
behind slot_size slots image k Erased is_first before last first of = nothing_more is_first before last first of
behind slot_size slots image k Unknown is_first before last first of = nothing_more is_first before last first of

-- what was written of a slot stands behind the objects of those before it
pub next_object : (slot_size slots : ℕ) (image : List ℕ) (n : ℕ) (is_first next : Bool) {old middle new : List ℕ}
    → HasObjects slot_size slots image n is_first old middle
    → GrowsBy (IsSlotObject slot_size slots image n (kind_at slot_size slots image n) is_first) middle new
    → next ≡ is_first_behind (kind_at slot_size slots image n) is_first
    → HasObjects slot_size slots image (n + 1) next old new
next_object slot_size slots image n is_first next {old} before last is_next =
    let kind = kind_at slot_size slots image n in
    let of_kind = subst (λ (first : Bool). IsSlotObject slot_size slots image n kind first last.more) before.first last.of_kind in
    rw add-one (record {
      objects = before.objects ++ last.more;
      are_objects = (before.objects, last.more, before.are_objects, of_kind, refl);
      first = is_next ∙ behind slot_size slots image n kind is_first before.objects last.more before.first last.of_kind;
      is = last.is ∙ ap (λ (t : List ℕ). t ++ last.more) before.is ∙ append_assoc old before.objects last.more;
    })
