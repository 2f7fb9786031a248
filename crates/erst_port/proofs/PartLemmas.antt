-- What a flash holds whose medium makes a change in parts.
use Rattle.std.proofs.Common.{◌≡◌, ◌∙◌, ℕ, zero, suc, ◌+◌, ◌-◌, ◌%◌, ◌<◌, ◌≤◌, ◌==◌, Bool, true, false, if◌then◌else◌, List, [], ◌∷◌, ◌++◌, length, take, drop}
use Rattle.std.proofs.Common.{Option, Some, None, inl, inr, refl, sym, ap, subst, append-nil, length-append, length-take, arith}
use Rattle.std.specs.Prelude.{slice_get}
use Rattle.std.proofs.lemmas.Bool.{cases_lt, eqb-true}
use Rattle.std.proofs.lemmas.List.{take-append-drop, take-take, take_all}
use Rattle.std.proofs.lemmas.Option.{slice_get_within, none-some}
use Rattle.base_model.specs.Bytes.{SameOutside, part, put_at}
use Rattle.base_model.proofs.BytesLemmas.{SameOutside-put_at, SameOutside-wider, length-part, length-put_at, part-append, part-before, part-put_at, is_put_at}
use Rattle.base_model.specs.Flash.{Change, Told, IsLater, image_at}
use Rattle.base_model.proofs.CrashLemmas.{same_past, image_at-later}
use Rattle.erst_port.specs.Dues.{IsDue}
use Rattle.erst_port.specs.Parts.{IsPart, held, next_made, made_behind, page_size, part_size, size_at}
use Rattle.erst_port.specs.declared.due.Kind.{Kind}
use Rattle.erst_port.specs.declared.due.Kind.TheVariants.{Program}
use Rattle.erst_port.specs.declared.parts.Made.{Made}
use Rattle.erst_port.proofs.Dues.{change_of_due, image_before}

slice_get_some : {X : Type 0} (xs : List X) (i : ℕ) → i < length xs → (x : X) × (slice_get xs i ≡ Some x)
slice_get_some [] i within = absurd (omega arith)
slice_get_some (x ∷ xs) zero within = (x, refl)
slice_get_some (x ∷ xs) (suc i) within = slice_get_some xs i (omega arith)

-- bytes in two steps
same_then : (at n : ℕ) (old mid new : List ℕ) → SameOutside at n old mid → SameOutside at n mid new → SameOutside at n old new
same_then at n old mid new first second = record {
  same_length = second.same_length ∙ first.same_length;
  before = second.before ∙ first.before;
  after = second.after ∙ first.after;
}

put_twice : (image : List ℕ) (at : ℕ) (first rest : List ℕ) → at + (length first + length rest) ≤ length image
    → put_at (put_at image at first) (at + length first) rest ≡ put_at image at (first ++ rest)
put_twice image at first rest within =
    let mid = put_at image at first in
    let new = put_at mid (at + length first) rest in
    let long : length mid ≡ length image = length-put_at image at first (omega (arith, within)) in
    let size : length (first ++ rest) ≡ length first + length rest = length-append first rest in
    let one = SameOutside-put_at image at first (omega (arith, within)) in
    let two = SameOutside-put_at mid (at + length first) rest (omega (arith, within, long)) in
    let whole = length first + length rest in
    let same : SameOutside at whole image new =
    same_then at whole image mid new (SameOutside-wider at (length first) at whole image mid (omega arith) (omega arith) one)
    (SameOutside-wider (at + length first) (length rest) at whole mid new (omega arith) (omega arith) two) in
    let there : part new at (length first) ≡ first =
    part-before (at + length first) (length rest) at (length first) mid new two (omega arith) ∙ part-put_at image at first (omega (arith, within)) in
    let behind : part new (at + length first) (length rest) ≡ rest = part-put_at mid (at + length first) rest (omega (arith, within, long)) in
    let all : part new at whole ≡ first ++ rest =
    sym (part-append new at (length first) (length rest)) ∙ ap (λ (xs : List ℕ). xs ++ part new (at + length first) (length rest)) there ∙ ap (λ (xs : List ℕ). first ++ xs) behind in
    is_put_at image new at (first ++ rest) (subst (λ (n : ℕ). SameOutside at n image new) (sym size) same) (ap (part new at) size ∙ all)

part_first : (bytes : List ℕ) (at n k : ℕ) → k ≤ n → part bytes at k ≡ take k (part bytes at n)
unfolding part
part_first bytes at n k few = sym (take-take k n (drop at bytes) few)

front_and_part : (bytes : List ℕ) (n m : ℕ) → take n bytes ++ part bytes n m ≡ take (n + m) bytes
unfolding part
front_and_part bytes n m =
    let none : 0 + n ≡ n = omega arith in
    ap (λ (k : ℕ). take n bytes ++ take m (drop k bytes)) (sym none) ∙ part-append bytes 0 n m

put_nothing : (bytes : List ℕ) (at : ℕ) → put_at bytes at [] ≡ bytes
unfolding put_at
put_nothing bytes at =
    let e : at + 0 ≡ at = omega arith in
    ap (λ (xs : List ℕ). xs ++ drop (at + 0) bytes) (append-nil (take at bytes)) ∙ ap (λ (k : ℕ). take at bytes ++ drop k bytes) e ∙ take-append-drop at bytes

nothing_of : (bytes : List ℕ) (at : ℕ) → part bytes at 0 ≡ []
unfolding part
nothing_of bytes at = refl

-- where a change is next
held_in : (told : Told) (made : Made) (change : Change) → slice_get told.past made.changes ≡ Some change
    → held told made ≡ put_at change.before change.at (part (image_at told (made.changes + 1)) change.at made.bytes)
unfolding held
held_in told made change here =
    ap (λ (o : Option Change). elim o [ None ↦ told.image | Some one ↦ put_at one.before one.at (part (image_at told (made.changes + 1)) one.at made.bytes) ]) here

pub next_in : (origin : ℕ) (told : Told) (made : Made) (change : Change) → slice_get told.past made.changes ≡ Some change
    → next_made origin told made ≡ made_behind made (part_size (origin + change.at) change.len made.bytes) change.len
unfolding next_made
next_in origin told made change here =
    ap (λ (o : Option Change). elim o [ None ↦ made | Some one ↦ made_behind made (part_size (origin + one.at) one.len made.bytes) one.len ]) here

pub size_in : (told : Told) (s : ℕ) (change : Change) → slice_get told.past s ≡ Some change → size_at told s ≡ change.len
size_in told s change here = ap (λ (o : Option Change). elim o [ None ↦ 0 | Some one ↦ one.len ]) here

-- where nothing of it is made
whole_image : (told : Told) (s : ℕ) (found : Option Change) → slice_get told.past s ≡ found → held told (record { changes = s; bytes = 0 }) ≡ image_at told s
unfolding held image_at
whole_image told s (Some change) here =
    held_in told (record { changes = s; bytes = 0 }) change here
    ∙ ap (put_at change.before change.at) (nothing_of (image_at told (s + 1)) change.at) ∙ put_nothing change.before change.at ∙ sym (image_before told s change here)
whole_image told s None here =
    ap (λ (o : Option Change). elim o [ None ↦ told.image | Some one ↦ put_at one.before one.at (part (image_at told (s + 1)) one.at 0) ]) here
    ∙ sym (ap (λ (o : Option Change). elim o [ None ↦ told.image | Some one ↦ one.before ]) here)

pub held_whole : (told : Told) (made : Made) → made.bytes ≡ 0 → held told made ≡ image_at told made.changes
held_whole told made none =
    ap (λ (n : ℕ). held told (record { changes = made.changes; bytes = n })) none ∙ whole_image told made.changes (slice_get told.past made.changes) refl

-- where every change is made
pub held_now : (told : Told) (made : Made) → length told.past ≤ made.changes → held told made ≡ told.image
unfolding held
held_now told made all = by_found (slice_get told.past made.changes) refl
  where
    by_found : (found : Option Change) → slice_get told.past made.changes ≡ found → held told made ≡ told.image
    by_found (Some change) here = let within = slice_get_within told.past made.changes change here in absurd (omega (arith, within, all))
    by_found None here =
        ap (λ (o : Option Change). elim o [ None ↦ told.image | Some one ↦ put_at one.before one.at (part (image_at told (made.changes + 1)) one.at made.bytes) ]) here

-- what is due, and how much of it
module _ (sector : ℕ) (told : Told) (s : ℕ) (kind : Kind) (place : ℕ) (whole : List ℕ) (due : IsDue sector told s kind place whole) where
  -- its first bytes
  pub held_begun : (begun : ℕ) → begun ≤ length whole → held told (record { changes = s; bytes = begun }) ≡ put_at (image_at told s) place (take begun whole)
  held_begun begun few =
      let is = change_of_due sector told s kind place whole due in
      let after = image_at told (s + 1) in
      let bytes : part after place begun ≡ take begun whole =
      part_first after place (length whole) begun few
      ∙ ap (λ (i : List ℕ). take begun (part i place (length whole))) due.image ∙ ap (take begun) (part-put_at (image_at told s) place whole due.within) in
      held_in told (record { changes = s; bytes = begun }) is.0 is.1
      ∙ ap (λ (i : List ℕ). put_at i is.0.at (part after is.0.at begun)) (sym (image_before told s is.0 is.1))
      ∙ ap (λ (k : ℕ). put_at (image_at told s) k (part after k begun)) is.2 ∙ ap (put_at (image_at told s) place) bytes

  -- and the next ones
  held_more : (begun : ℕ) (bytes : List ℕ) → begun + length bytes ≤ length whole → bytes ≡ part whole begun (length bytes)
      → put_at (held told (record { changes = s; bytes = begun })) (place + begun) bytes ≡ put_at (image_at told s) place (take (begun + length bytes) whole)
  held_more begun bytes inside are =
      let image = image_at told s in
      let first = take begun whole in
      let long : length first ≡ begun = length-take begun whole ∙ (omega (arith, inside)) in
      let within = due.within in
      ap (λ (i : List ℕ). put_at i (place + begun) bytes) (held_begun begun (omega (arith, inside)))
      ∙ ap (λ (k : ℕ). put_at (put_at image place first) (place + k) bytes) (sym long)
      ∙ put_twice image place first bytes (omega (arith, long, inside, within))
      ∙ ap (λ (xs : List ℕ). put_at image place (first ++ xs)) are ∙ ap (put_at image place) (front_and_part whole begun (length bytes))

  by_end : (last : Bool) (begun : ℕ) (bytes : List ℕ) → (begun + length bytes == length whole) ≡ last → begun + length bytes ≤ length whole
      → put_at (image_at told s) place (take (begun + length bytes) whole)
      ≡ held told (made_behind (record { changes = s; bytes = begun }) (length bytes) (length whole))
  by_end true begun bytes is inside =
      let end : begun + length bytes ≡ length whole = eqb-true (begun + length bytes) (length whole) is in
      ap (λ (n : ℕ). put_at (image_at told s) place (take n whole)) end ∙ ap (put_at (image_at told s) place) (take_all (length whole) whole (omega arith))
      ∙ sym due.image ∙ sym (whole_image told (s + 1) (slice_get told.past (s + 1)) refl)
      ∙ ap (λ (b : Bool). held told (if b then record { changes = s + 1; bytes = 0 } else record { changes = s; bytes = begun + length bytes })) (sym is)
  by_end false begun bytes is inside =
      sym (held_begun (begun + length bytes) inside)
      ∙ ap (λ (b : Bool). held told (if b then record { changes = s + 1; bytes = 0 } else record { changes = s; bytes = begun + length bytes })) (sym is)

  pub held_next : (begun : ℕ) (bytes : List ℕ) → begun + length bytes ≤ length whole → bytes ≡ part whole begun (length bytes)
      → put_at (held told (record { changes = s; bytes = begun })) (place + begun) bytes
      ≡ held told (made_behind (record { changes = s; bytes = begun }) (length bytes) (length whole))
  held_next begun bytes inside are = held_more begun bytes inside are ∙ by_end (begun + length bytes == length whole) begun bytes refl inside

  -- whatever differs from it in these bytes alone
  pub tears_part : (begun n : ℕ) (left : List ℕ) → begun + n ≤ length whole → SameOutside (place + begun) n (held told (record { changes = s; bytes = begun })) left
      → (change : Change) × (slice_get told.past s ≡ Some change) × SameOutside change.at change.len change.before left
  tears_part begun n left inside same =
      let is = change_of_due sector told s kind place whole due in
      let image = image_at told s in
      let now = held told (record { changes = s; bytes = begun }) in
      let first = take begun whole in
      let long : length first ≡ begun = length-take begun whole ∙ (omega (arith, inside)) in
      let within = due.within in
      let put = SameOutside-put_at image place first (omega (arith, long, inside, within)) in
      let begun_is : SameOutside place (length whole) image now =
      subst (λ (i : List ℕ). SameOutside place (length whole) image i) (sym (held_begun begun (omega (arith, inside))))
      (SameOutside-wider place (length first) place (length whole) image (put_at image place first) (omega arith) (omega (arith, long, inside)) put) in
      let torn : SameOutside place (length whole) image left =
      same_then place (length whole) image now left begun_is (SameOutside-wider (place + begun) n place (length whole) now left (omega arith) (omega (arith, inside)) same) in (
        is.0,
        is.1,
        subst (λ (k : ℕ). SameOutside is.0.at k is.0.before left) (sym is.3)
            (subst (λ (k : ℕ). SameOutside k (length whole) is.0.before left) (sym is.2)
            (subst (λ (i : List ℕ). SameOutside place (length whole) i left) (image_before told s is.0 is.1) torn)),
      )

-- whatever the flash does later, it holds the same
held_within : (old new : Told) (made : Made) → IsLater old new → made.changes < length old.past → held new made ≡ held old made
held_within old new made later within = by_found (slice_get old.past made.changes) refl
  where
    by_found : (found : Option Change) → slice_get old.past made.changes ≡ found → held new made ≡ held old made
    by_found (Some change) here =
        held_in new made change (same_past old new made.changes later within ∙ here)
        ∙ ap (λ (i : List ℕ). put_at change.before change.at (part i change.at made.bytes)) (image_at-later old new (made.changes + 1) later (omega (arith, within)))
        ∙ sym (held_in old made change here)
    by_found None here = let is = slice_get_some old.past made.changes within in absurd (none-some _ (sym here ∙ is.1))

pub held_later : (old new : Told) (made : Made) → IsLater old new → made.changes ≤ length old.past → (0 < made.bytes → made.changes < length old.past)
    → held new made ≡ held old made
held_later old new made later behind begun = elim (cases_lt made.changes (length old.past)) [
  | inl within ↦ held_within old new made later within
  | inr all ↦
      let none : made.bytes ≡ 0 = no_bytes made.bytes begun all in
      held_whole new made none ∙ image_at-later old new made.changes later behind ∙ sym (held_whole old made none)
]
  where
    no_bytes : (n : ℕ) → (0 < n → made.changes < length old.past) → length old.past ≤ made.changes → n ≡ 0
    no_bytes zero begun all = refl
    no_bytes (suc n) begun all = absurd (let within = begun (omega arith) in omega (arith, within, all))

-- its size stays
pub held_size : (sector : ℕ) (told : Told) (s : ℕ) (kind : Kind) (place : ℕ) (whole : List ℕ) → IsDue sector told s kind place whole → (begun : ℕ) → begun ≤ length whole
    → length (held told (record { changes = s; bytes = begun })) ≡ length (image_at told s)
held_size sector told s kind place whole due begun few =
    let long : length (take begun whole) ≡ begun = length-take begun whole ∙ (omega (arith, few)) in
    let within = due.within in
    ap length (held_begun sector told s kind place whole due begun few) ∙ length-put_at (image_at told s) place (take begun whole) (omega (arith, long, few, within))

-- what is made behind the next part
by_last : (last : Bool) (made : Made) (n end : ℕ) → made.changes < end
    → let next : Made = if last then record { changes = made.changes + 1; bytes = 0 } else record { changes = made.changes; bytes = made.bytes + n } in
    (made.changes ≤ next.changes) × (next.changes ≤ end) × (0 < next.bytes → next.changes ≡ made.changes)
by_last true made n end before = (omega arith, omega (arith, before), λ more. absurd (omega (arith, more)))
by_last false made n end before = (omega arith, omega (arith, before), λ more. refl)

pub next_stays : (origin : ℕ) (told : Told) (made : Made) (change : Change) → slice_get told.past made.changes ≡ Some change
    → (made.changes ≤ (next_made origin told made).changes) × ((next_made origin told made).changes ≤ length told.past)
    × (0 < (next_made origin told made).bytes → (next_made origin told made).changes ≡ made.changes)
next_stays origin told made change here =
    let n = part_size (origin + change.at) change.len made.bytes in
    subst (λ (m : Made). (made.changes ≤ m.changes) × (m.changes ≤ length told.past) × (0 < m.bytes → m.changes ≡ made.changes)) (sym (next_in origin told made change here))
    (by_last (made.bytes + n == change.len) made n (length told.past) (slice_get_within told.past made.changes change here))

-- fewer bytes of what is due are made than it has
pub begun_below : (sector : ℕ) (told : Told) (made : Made) (kind : Kind) (place : ℕ) (whole : List ℕ) → IsDue sector told made.changes kind place whole
    → (0 < made.bytes → made.bytes < size_at told made.changes) → 0 < made.bytes → made.bytes < length whole
begun_below sector told made kind place whole due begun more =
    let is = change_of_due sector told made.changes kind place whole due in
    let size : size_at told made.changes ≡ length whole = size_in told made.changes is.0 is.1 ∙ is.3 in
    let below = begun more in
    omega (arith, below, size)

pub next_of_due : (sector origin : ℕ) (told : Told) (made : Made) (kind : Kind) (place : ℕ) (whole : List ℕ) → IsDue sector told made.changes kind place whole
    → next_made origin told made ≡ made_behind made (part_size (origin + place) (length whole) made.bytes) (length whole)
next_of_due sector origin told made kind place whole due =
    let is = change_of_due sector told made.changes kind place whole due in
    next_in origin told made is.0 is.1
    ∙ ap (λ (k : ℕ). made_behind made (part_size (origin + k) is.0.len made.bytes) is.0.len) is.2
    ∙ ap (λ (k : ℕ). made_behind made (part_size (origin + place) k made.bytes) k) is.3

pub next_is : (sector origin : ℕ) (told : Told) (made : Made) (kind : Kind) (place : ℕ) (whole : List ℕ) (at : ℕ) (bytes : List ℕ) → IsDue sector told made.changes kind place whole
    → IsPart (origin + place) whole made.bytes kind at bytes → next_made origin told made ≡ made_behind made (length bytes) (length whole)
next_is sector origin told made kind place whole at bytes due part =
    next_of_due sector origin told made kind place whole due ∙ ap (λ (k : ℕ). made_behind made k (length whole)) (sym part.size_is)

-- what a part is
part_of : (whole : List ℕ) (begun k n : ℕ) → k ≡ n → take k (drop begun whole) ≡ part whole begun n
unfolding part
part_of whole begun k n is = ap (λ (m : ℕ). take m (drop begun whole)) is

below_all : (begun size : ℕ) → (0 < begun → begun < size) → 0 < size → begun < size
below_all zero size below some = some
below_all (suc n) size below some = below (omega arith)

pub is_part : (start : ℕ) (whole : List ℕ) (begun n : ℕ) (kind : Kind) → n ≡ part_size start (length whole) begun → begun + n ≤ length whole
    → (length whole ≤ 256 → (start + begun) % page_size + n ≤ page_size) → (begun < length whole → 0 < n) → (0 < begun → begun < length whole)
    → (kind ≡ Program → (0 < length whole) × (length whole ≤ 256)) → IsPart start whole begun kind (start + begun) (take (begun + n - begun) (drop begun whole))
is_part start whole begun n kind size inside page some below few =
    let count : begun + n - begun ≡ n = omega arith in
    let same : take (begun + n - begun) (drop begun whole) ≡ part whole begun n = part_of whole begun (begun + n - begun) n count in
    let long : length (take (begun + n - begun) (drop begun whole)) ≡ n = ap length same ∙ length-part whole begun n inside in
    record {
      starts = refl;
      inside = rw long inside;
      size_is = long ∙ size;
      bytes_are = same ∙ ap (part whole begun) (sym long);
      page = λ program. (
        rw long (some (below_all begun (length whole) below (few program).0)),
        rw long (page (few program).1),
      );
    }
