-- The changes of a flash that made one more.
use Rattle.std.proofs.Common.{◌≡◌, ◌∙◌, ℕ, ◌+◌, ◌<◌, ◌≤◌, List, [], ◌∷◌, ◌++◌, length, Option, Some, None, refl, sym, ap, subst, inr, arith}
use Rattle.std.specs.Prelude.{slice_get}
use Rattle.std.specs.Option.{option_map}
use Rattle.std.proofs.lemmas.List.{length_push}
use Rattle.std.proofs.lemmas.Option.{slice_get_within, same_Some, none-some}
use Rattle.base_model.specs.Bytes.{part, put_at, SameOutside}
use Rattle.base_model.proofs.BytesLemmas.{SameOutside-put_at, length-put_at, part-put_at}
use Rattle.base_model.specs.Flash.{Change, Told, CrashImage, IsLater, image_at}
use Rattle.base_model.proofs.CrashLemmas.{slice_get-push, same_past, image_at-now, image_at-later, IsLater-changed}
use Rattle.erst_port.specs.Dues.{IsDue, MayPut, range_of}
use Rattle.erst_port.specs.Logs.{IsLast}
use Rattle.erst_port.specs.declared.due.Kind.{Kind}
use Rattle.erst_port.specs.declared.log.Range.{Range}

-- a change of such a range
abbrev IsRange : Option Change → (at n : ℕ) → Type 0
IsRange found at n = (change : Change) × (found ≡ Some change) × (change.at ≡ at) × (change.len ≡ n)

is_range : (found : Option Change) (at n : ℕ) → option_map range_of found ≡ Some (at, n) → IsRange found at n
is_range (Some change) at n is =
    let pair = same_Some _ _ is in
    (change, refl, ap (λ (range : ℕ × ℕ). range.0) pair, ap (λ (range : ℕ × ℕ). range.1) pair)
is_range None at n is = absurd (none-some _ is)

pub change_of_due : (sector : ℕ) (told : Told) (s : ℕ) (kind : Kind) (at : ℕ) (bytes : List ℕ) → IsDue sector told s kind at bytes → IsRange (slice_get told.past s) at (length bytes)
change_of_due sector told s kind at bytes due = is_range (slice_get told.past s) at (length bytes) due.range

-- what is due stays so, whatever the flash does later
pub due_later : (sector : ℕ) (old new : Told) (s : ℕ) (kind : Kind) (at : ℕ) (bytes : List ℕ) → IsLater old new → length new.image ≡ length old.image →
    IsDue sector old s kind at bytes → IsDue sector new s kind at bytes
due_later sector old new s kind at bytes later size due =
    let is = change_of_due sector old s kind at bytes due in
    let before : s < length old.past = slice_get_within old.past s is.0 is.1 in
    let same = image_at-later old new s later (omega (arith, before)) in
    record {
      range = ap (λ (found : Option Change). option_map range_of found) (same_past old new s later before) ∙ due.range;
      within = rw same due.within;
      inside = omega (arith, size, due.inside);
      image = image_at-later old new (s + 1) later (omega (arith, before)) ∙ due.image ∙ ap (λ (image : List ℕ). put_at image at bytes) (sym same);
      may = subst (λ (image : List ℕ). MayPut sector image kind at bytes) (sym same) due.may;
    }

-- a flash before a change and after it
abbrev pub flash_of : List Change → List ℕ → Told
flash_of past image = record { past = past; image = image }

abbrev pub change_of : (image : List ℕ) (at : ℕ) (bytes : List ℕ) → Change
change_of image at bytes = record { before = image; at = at; len = length bytes }

abbrev pub after : List Change → (image : List ℕ) (at : ℕ) (bytes new : List ℕ) → Told
after past image at bytes new = flash_of (past ++ change_of image at bytes ∷ []) new

pub later : (past : List Change) (image : List ℕ) (at : ℕ) (bytes new : List ℕ) → at + length bytes ≤ length image → new ≡ put_at image at bytes
    → IsLater (flash_of past image) (after past image at bytes new)
later past image at bytes new within put =
    IsLater-changed at (length bytes) (flash_of past image) (after past image at bytes new) (record { past = refl; image = rw put (SameOutside-put_at image at bytes within) })

-- the change itself
pub due_now : (sector : ℕ) (past : List Change) (image : List ℕ) (kind : Kind) (at : ℕ) (bytes new : List ℕ) → at + length bytes ≤ length image → new ≡ put_at image at bytes
    → MayPut sector image kind at bytes → IsDue sector (after past image at bytes new) (length past) kind at bytes
due_now sector past image kind at bytes new within put may =
    let told = after past image at bytes new in
    let before : image_at told (length past) ≡ image = (later past image at bytes new within put).image in
    let long : length told.past ≡ length past + 1 = length_push past (change_of image at bytes) in
    record {
      range = ap (λ (found : Option Change). option_map range_of found) (slice_get-push past (change_of image at bytes));
      within = rw before within;
      inside = omega (arith, within, ap length put, length-put_at image at bytes within);
      image = image_at-now told (length past + 1) (omega (arith, long)) ∙ put ∙ ap (λ (old : List ℕ). put_at old at bytes) (sym before);
      may = subst (λ (old : List ℕ). MayPut sector old kind at bytes) (sym before) may;
    }

-- its bytes stand in the image
pub last_now : (sector : ℕ) (past : List Change) (image : List ℕ) (range : Range) (at : ℕ) (bytes new : List ℕ) → at + length bytes ≤ length image → new ≡ put_at image at bytes
    → MayPut sector image range.kind at bytes → range.at ≡ at → range.len ≡ length bytes → IsLast sector (after past image at bytes new) range
last_now sector past image range at bytes new within put may place size s last =
    let told = after past image at bytes new in
    let long : length told.past ≡ length past + 1 = length_push past (change_of image at bytes) in
    let is : s ≡ length past = omega (arith, last, long) in
    let long_new : length new ≡ length image = ap length put ∙ length-put_at image at bytes within in
    let there : part new at (length bytes) ≡ bytes = ap (λ (image : List ℕ). part image at (length bytes)) put ∙ part-put_at image at bytes within in
    let due = due_now sector past image range.kind at bytes new within put may in (
      omega (arith, within, place, size, long_new),
      subst (λ (n : ℕ). IsDue sector told n range.kind range.at (part new range.at range.len)) (sym is)
          (subst (λ (place : ℕ). IsDue sector told (length past) range.kind place (part new place range.len)) (sym place)
          (subst (λ (n : ℕ). IsDue sector told (length past) range.kind at (part new at n)) (sym size)
          (subst (λ (found : List ℕ). IsDue sector told (length past) range.kind at found) (sym there) due))),
    )

-- the law of a medium
pub follows : (sector : ℕ) (told : Told) (s : ℕ) (kind : Kind) (at : ℕ) (bytes medium : List ℕ) → IsDue sector told s kind at bytes → medium ≡ image_at told s →
    put_at medium at bytes ≡ image_at told (s + 1)
follows sector told s kind at bytes medium due is = ap (λ (image : List ℕ). put_at image at bytes) is ∙ sym due.image

-- the image before a change
pub image_before : (told : Told) (s : ℕ) (change : Change) → slice_get told.past s ≡ Some change → image_at told s ≡ change.before
unfolding image_at
image_before told s change here = ap (λ (o : Option Change). elim o [ None ↦ told.image | Some one ↦ one.before ]) here

pub tears : (sector : ℕ) (told : Told) (s : ℕ) (kind : Kind) (at : ℕ) (bytes medium left : List ℕ) → IsDue sector told s kind at bytes → medium ≡ image_at told s
    → SameOutside at (length bytes) medium left → CrashImage told s left
tears sector told s kind at bytes medium left due medium_is same =
    let is = change_of_due sector told s kind at bytes due in
    let before : medium ≡ is.0.before = medium_is ∙ image_before told s is.0 is.1 in
    inr (
      is.0,
      is.1,
      subst (λ (n : ℕ). SameOutside is.0.at n is.0.before left) (sym is.3)
          (subst (λ (place : ℕ). SameOutside place (length bytes) is.0.before left) (sym is.2)
          (subst (λ (image : List ℕ). SameOutside at (length bytes) image left) before same)),
    )
