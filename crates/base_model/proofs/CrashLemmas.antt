-- The calculus of crash images: no call, one call, one after another.
use Rattle.std.proofs.Common.{◌≡◌, ℕ, zero, suc, ◌+◌, ◌<◌, ◌≤◌, List, [], ◌∷◌, ◌++◌, length, take, Option, Some, None, refl, sym, ap, subst, ◌∙◌, arith, inl, inr}
use Rattle.std.specs.Prelude.{slice_get}
use Rattle.std.proofs.lemmas.List.{take_all, take_at, take-take, length-take, length_push}
use Rattle.std.proofs.lemmas.Option.{slice_get_past, slice_get_within, none-some, same_Some}
use Rattle.std.proofs.lemmas.Bool.{cases_lt}
use Rattle.base_model.specs.Bytes.{SameOutside}
use Rattle.base_model.proofs.BytesLemmas.{SameOutside-none, SameOutside-refl}
use Rattle.base_model.specs.Flash.{Change, Told, image_at, CrashImage, IsLater, Leaves, Changed, MayChange}

-- a place within a front of a list
pub slice_get-take : {X : Type 0} → (xs : List X) (n i : ℕ) → i < n → slice_get (take n xs) i ≡ slice_get xs i
slice_get-take [] zero i h = absurd (omega arith)
slice_get-take [] (suc n) i h = refl
slice_get-take (x ∷ xs) zero i h = absurd (omega arith)
slice_get-take (x ∷ xs) (suc n) zero h = refl
slice_get-take (x ∷ xs) (suc n) (suc i) h = slice_get-take xs n i (omega arith)

-- the place behind a list
pub slice_get-push : {X : Type 0} → (xs : List X) (y : X) → slice_get (xs ++ y ∷ []) (length xs) ≡ Some y
slice_get-push [] y = refl
slice_get-push (x ∷ xs) y = slice_get-push xs y

-- a list that begins with another is no shorter
front_length : {X : Type 0} → (xs ys : List X) → take (length xs) ys ≡ xs → length xs ≤ length ys
front_length xs ys e =
    let same = ap length e in
    let cut = length-take (length xs) ys in
    omega arith

pub past_grows : (old new : Told) → IsLater old new → length old.past ≤ length new.past
past_grows old new later = front_length old.past new.past later.past

-- a step before old's last is the same in what is later
pub same_past : (old new : Told) (s : ℕ) → IsLater old new → s < length old.past → slice_get new.past s ≡ slice_get old.past s
same_past old new s later h = sym (slice_get-take new.past (length old.past) s h) ∙ ap (λ (xs : List Change). slice_get xs s) later.past

-- the image before a change, or the one now where there is none
abbrev before_or : List ℕ → Option Change → List ℕ
before_or image None = image
before_or image (Some change) = change.before

-- the image after all changes is the image now
pub image_at-now : (told : Told) (s : ℕ) → length told.past ≤ s → image_at told s ≡ told.image
unfolding image_at
image_at-now told s h = ap (before_or told.image) (slice_get_past told.past s h)

within_before : (o : Option Change) (one other : List ℕ) (change : Change) → o ≡ Some change → before_or one o ≡ before_or other o
within_before (Some c) one other change e = refl
within_before None one other change e = absurd (none-some change e)

-- a past image is the same in what is later
pub image_at-later : (old new : Told) (s : ℕ) → IsLater old new → s ≤ length old.past → image_at new s ≡ image_at old s
unfolding image_at
image_at-later old new s later h = elim (cases_lt s (length old.past)) [
  | inl before ↦
      let here = slice_get-within_some old.past s before in
      ap (before_or new.image) (same_past old new s later before)
      ∙ within_before (slice_get old.past s) new.image old.image here.0 here.1
  | inr last ↦
      let e : s ≡ length old.past = omega arith in
      subst (λ (k : ℕ). image_at new k ≡ image_at old k) (sym e) (later.image ∙ sym (image_at-now old (length old.past) (omega arith)))
]
  where
    slice_get-within_some : {X : Type 0} → (xs : List X) (i : ℕ) → i < length xs → (x : X) × (slice_get xs i ≡ Some x)
    slice_get-within_some [] i h = absurd (omega arith)
    slice_get-within_some (x ∷ xs) zero h = (x, refl)
    slice_get-within_some (x ∷ xs) (suc i) h = slice_get-within_some xs i (omega arith)

-- nothing happened
pub IsLater-refl : (told : Told) → IsLater told told
IsLater-refl told = record { past = take_all (length told.past) told.past (omega arith); image = image_at-now told (length told.past) (omega arith) }

-- one change was made
pub IsLater-changed : (place size : ℕ) (old new : Told) → Changed place size old new → IsLater old new
unfolding image_at
IsLater-changed place size old new changed = record {
  past = ap (take (length old.past)) changed.past ∙ take_at old.past _ (length old.past) refl;
  image = ap (λ (xs : List Change). before_or new.image (slice_get xs (length old.past))) changed.past
      ∙ ap (before_or new.image) (slice_get-push old.past (record { before = old.image; at = place; len = size }));
}

-- some changes, and then some more
pub IsLater-then : (old mid new : Told) → IsLater old mid → IsLater mid new → IsLater old new
IsLater-then old mid new first second =
    let grown = past_grows old mid first in
    record {
      past = sym (take-take (length old.past) (length mid.past) new.past grown) ∙ ap (take (length old.past)) second.past ∙ first.past;
      image = image_at-later mid new (length old.past) second grown ∙ first.image;
    }

-- power lost before mid's last step leaves what it may leave of mid
pub CrashImage-earlier : (mid new : Told) (s : ℕ) (image : List ℕ) → IsLater mid new → s < length mid.past → CrashImage new s image → CrashImage mid s image
CrashImage-earlier mid new s image later before crash = elim crash [
  | inl last ↦
      let grown = past_grows mid new later in
      let e : s ≡ length new.past = last.0 in
      absurd (omega arith)
  | inr torn ↦ inr (torn.0, sym (same_past mid new s later before) ∙ torn.1, torn.2)
]

-- with no change under way, power lost leaves the image
pub CrashImage-now : (told : Told) (s : ℕ) (image : List ℕ) → length told.past ≤ s → CrashImage told s image → image ≡ told.image
CrashImage-now told s image h crash = elim crash [
  | inl last ↦ last.1
  | inr torn ↦ absurd (none-some torn.0 (sym (slice_get_past told.past s h) ∙ torn.1))
]

-- no call
pub Leaves-none : (told : Told) (P : List ℕ → Type 0) → P told.image → Leaves told told P
Leaves-none told P here = record {
  later = IsLater-refl told;
  each = λ s image from crash. subst P (sym (CrashImage-now told s image from crash)) here;
}

-- a change of a range, where whatever differs in the range alone has P
pub Leaves-changed : (place size : ℕ) (old new : Told) (P : List ℕ → Type 0) → Changed place size old new
    → ((image : List ℕ) → SameOutside place size old.image image → P image) → Leaves old new P
Leaves-changed place size old new P changed all = record {
  later = IsLater-changed place size old new changed;
  each = λ s image from crash. each_image s image from crash;
}
  where
    each_image : (s : ℕ) (image : List ℕ) → length old.past ≤ s → CrashImage new s image → P image
    each_image s image from crash = elim crash [
      | inl last ↦ subst P (sym last.1) (all new.image changed.image)
      | inr torn ↦
          let last : ℕ = length old.past in
          let long : length new.past ≡ length old.past + 1 = ap length changed.past ∙ length_push old.past (record { before = old.image; at = place; len = size }) in
          let below = slice_get_within new.past s torn.0 torn.1 in
          let e : s ≡ length old.past = omega arith in
          let here : Some (record { before = old.image; at = place; len = size }) ≡ Some torn.0 =
          sym (slice_get-push old.past (record { before = old.image; at = place; len = size }))
          ∙ ap (λ (xs : List Change). slice_get xs (length old.past)) (sym changed.past)
          ∙ ap (slice_get new.past) (sym e) ∙ torn.1 in
          all image (subst (λ (c : Change). SameOutside c.at c.len c.before image) (sym (same_Some _ _ here)) torn.2)
    ]

-- a call that changes at most one range
pub Leaves-change : (place size : ℕ) (old new : Told) (P : List ℕ → Type 0) → MayChange place size old new
    → ((image : List ℕ) → SameOutside place size old.image image → P image) → Leaves old new P
Leaves-change place size old new P change all = elim change [
  | inl same ↦ subst (λ (t : Told). Leaves old t P) (sym same) (Leaves-none old P (all old.image (SameOutside-refl place size old.image)))
  | inr some ↦ elim some [
    | inl whole ↦ Leaves-changed place size old new P whole all
    | inr empty ↦
        Leaves-changed 0 0 old new P empty
        (λ image same. subst P (sym (SameOutside-none 0 old.image image same)) (all old.image (SameOutside-refl place size old.image)))
  ]
]

-- a weaker P
pub Leaves-weaker : (old new : Told) (P Q : List ℕ → Type 0) → Leaves old new P → ((image : List ℕ) → P image → Q image) → Leaves old new Q
Leaves-weaker old new P Q leaves weaker = record {
  later = leaves.later;
  each = λ s image from crash. weaker image (leaves.each s image from crash);
}

-- one call after another
pub Leaves-then : (old mid new : Told) (P : List ℕ → Type 0) → Leaves old mid P → Leaves mid new P → Leaves old new P
Leaves-then old mid new P first second = record {
  later = IsLater-then old mid new first.later second.later;
  each = λ s image from crash. elim (cases_lt s (length mid.past)) [
    | inl before ↦ first.each s image from (CrashImage-earlier mid new s image second.later before crash)
    | inr after ↦ second.each s image after crash
  ];
}

-- the image at the exit is one of those left
pub Leaves-exit : (old new : Told) (P : List ℕ → Type 0) → Leaves old new P → P new.image
Leaves-exit old new P leaves = leaves.each (length new.past) new.image (past_grows old new leaves.later) (inl (refl, refl))
