-- What a format leaves, also where power is lost in it.
use Rattle.std.proofs.Common.{◌≡◌, ◌≢◌, ◌⊎◌, ℕ, zero, suc, ◌+◌, ◌-◌, ◌*◌, ◌%◌, ◌^◌, ◌<◌, ◌≤◌, List, [], ◌∷◌, ◌++◌, length, take, drop, replicate, Some, refl}
use Rattle.std.proofs.Common.{sym, ap, subst, inl, inr, ◌∙◌, arith, lit≤, length-append, zero-add}
use Rattle.std.specs.List.{slice_get}
use Rattle.std.proofs.lemmas.Bool.{cases_eq, cases_lt}
use Rattle.std.proofs.lemmas.Nat.{mul-le}
use Rattle.std.proofs.lemmas.List.{length-replicate, drop-drop, drop-replicate, drop_at}
use Rattle.base_model.specs.Bytes.{part, number_at, little, put_at, SameOutside}
use Rattle.base_model.proofs.BytesLemmas.{length-part, length-put_at, part-put_at, is_put_at, number_at-before, number_at-after, part-append_right}
use Rattle.apei_bytes.proofs.Parts.{number_at-front, part-first, part-take}
use Rattle.flash_model.specs.declared.geometry.Geometry.{Geometry}
use Rattle.image_survey.specs.declared.format.FormatChange.{FormatChange}
use Rattle.image_survey.specs.Headers.{header_of, header_checksum, flash_size, medium_size, whole, not_ended, ended, IsWhole, IsMedium, IsForeign}
use Rattle.image_survey.specs.Formats.{marks, puts_header, erases, erases_from, flash_sectors, format_changes, after, new_medium, LeftByFormat, NoMedium, NotBegun, AllErased}
use Rattle.image_survey.proofs.SumLemmas.{word_sum-front}
use Rattle.image_survey.proofs.HeaderLemmas.{length-header_with, header_sealed, signature_there}
use Rattle.image_survey.proofs.ChangeLemmas.{last_changes, first_at, flash_erase_at, last_at, take-flash, take-last}
use Rattle.image_survey.proofs.ImageLemmas.{after-append, IsErasing, begins_erasing, erases_more, behind_erased, all_erased, headed, marked}

-- a medium once its end mark is put
abbrev begun_of : List ℕ → List ℕ
begun_of before = put_at before 49 (ended ∷ [])

long_enough : (geometry : Geometry) → 257 ≤ medium_size geometry
long_enough geometry = let least = geometry.least_sector in let slot = geometry.least_slot in let few = geometry.few_slots in size geometry.slot_size geometry.slots least slot few
  where
    size : (slot slots : ℕ) → 256 ≤ geometry.sector → 512 ≤ slot → 2 ≤ slots → 257 ≤ geometry.sector + slot * slots
    size slot slots least some few = grind arith

-- n sectors erased
erased_to : (geometry : Geometry) (before : List ℕ) (n : ℕ) → length before ≡ medium_size geometry → n ≤ flash_sectors geometry
    → IsErasing geometry n (begun_of before) (after (marks 49 ended ∷ erases_from geometry 1 n) before)
unfolding after
erased_to geometry before n size within =
    let least = long_enough geometry in
    let long : length (begun_of before) ≡ medium_size geometry = length-put_at before 49 (ended ∷ []) (omega arith) ∙ size in
    let some : 0 + n ≤ flash_sectors geometry = omega arith in
    subst (λ (m : ℕ). IsErasing geometry m (begun_of before) (after (erases_from geometry 1 n) (begun_of before))) (zero-add n)
    (erases_more geometry n 0 (begun_of before) (begun_of before) some (begins_erasing geometry (begun_of before) long))

-- The whole format

pub all_made : (geometry : Geometry) (before : List ℕ) → length before ≡ medium_size geometry → after (format_changes geometry) before ≡ new_medium geometry
unfolding format_changes after
all_made geometry before size =
    let sectors = flash_sectors geometry in
    let begun : List ℕ = begun_of before in
    let image : List ℕ = after (erases_from geometry 1 sectors) begun in
    let erasing : IsErasing geometry sectors begun image = erased_to geometry before sectors size (omega arith) in
    after-append (erases_from geometry 1 sectors) (last_changes geometry) begun
    ∙ ap (λ (xs : List ℕ). put_at (put_at xs 0 (header_of geometry)) 48 (whole ∷ [])) (all_erased geometry begun image erasing)
    ∙ ap (λ (xs : List ℕ). put_at xs 48 (whole ∷ [])) (headed geometry)
    ∙ marked geometry

pub new_is_medium : (geometry : Geometry) → IsMedium geometry (new_medium geometry)
unfolding new_medium number_at
new_is_medium geometry =
    let header : List ℕ = header_of geometry in
    let rest : List ℕ = replicate (medium_size geometry - 49) 0xFF in
    let least = long_enough geometry in
    let long : length header ≡ 48 = length-header_with geometry (header_checksum geometry) in
    let size : length (header ++ whole ∷ rest) ≡ medium_size geometry =
    let all : length (header ++ whole ∷ rest) ≡ length header + suc (length rest) = length-append header (whole ∷ rest) in
    let more : length rest ≡ medium_size geometry - 49 = length-replicate (medium_size geometry - 49) 0xFF in
    omega arith in
    let first : part (header ++ whole ∷ rest) 48 1 ≡ whole ∷ [] = part-append_right header (whole ∷ rest) 48 0 1 (omega arith) ∙ one whole rest in
    let next : part (header ++ whole ∷ rest) 49 1 ≡ not_ended ∷ [] =
    part-append_right header (whole ∷ rest) 49 1 1 (omega arith) ∙ second whole (medium_size geometry - 49) (omega arith) in
    record {
      has = record {
        whole = record {
          long = omega arith;
          signed = number_at-front header (whole ∷ rest) 0 8 (omega arith) ∙ signature_there geometry (header_checksum geometry);
          sealed = ap (λ (n : ℕ). n % 2 ^ 32) (word_sum-front header (whole ∷ rest) 12 (omega arith)) ∙ header_sealed geometry;
          marked = ap little first;
          begun = ap little next;
        };
        header = part-first header (whole ∷ rest) 48 long;
      };
      size = size;
    }
  where
    one : (x : ℕ) (xs : List ℕ) → part (x ∷ xs) 0 1 ≡ x ∷ []
    one x xs = unfold part in refl

    second : (x n : ℕ) → 0 < n → part (x ∷ replicate n 0xFF) 1 1 ≡ 0xFF ∷ []
    second x zero some = absurd (omega arith)
    second x (suc n) some = unfold part in refl

-- Power lost in it

not_whole : (left : List ℕ) → (number_at left 48 1 ≡ whole → ⊥) ⊎ (number_at left 49 1 ≡ not_ended → ⊥) → IsForeign left
not_whole left (inl unmarked) = inl (λ (found : IsWhole left). unmarked found.marked)
not_whole left (inr begun) = inl (λ (found : IsWhole left). begun found.begun)

-- in the first change
cut_first : (geometry : Geometry) (before left : List ℕ) → length before ≡ medium_size geometry → SameOutside 49 1 before left → LeftByFormat geometry before 0 left
cut_first geometry before left size same = by_mark (cases_eq (number_at left 49 1) not_ended)
  where
    one_byte : (byte : List ℕ) → length byte ≡ 1 → little byte ≡ not_ended → byte ≡ not_ended ∷ []
    one_byte [] long is = absurd (omega arith)
    one_byte (x ∷ []) long is = ap (λ (y : ℕ). y ∷ []) (omega (arith, is))
    one_byte (x ∷ y ∷ rest) long is = absurd (omega arith)

    by_mark : (number_at left 49 1 ≡ not_ended) ⊎ (number_at left 49 1 ≢ not_ended) → LeftByFormat geometry before 0 left
    by_mark (inl erased) =
        let least = long_enough geometry in
        let long : length left ≡ length before = same.same_length in
        let byte : part left 49 1 ≡ not_ended ∷ [] = one_byte (part left 49 1) (length-part left 49 1 (omega arith)) (unfold number_at in erased) in
        NotBegun refl (is_put_at before left 49 (not_ended ∷ []) same byte)
    by_mark (inr other) = NoMedium (not_whole left (inr other))

-- in the erase of a sector of the flash
cut_erase : (geometry : Geometry) (before image left : List ℕ) (n step : ℕ) → length before ≡ medium_size geometry → IsErasing geometry n (begun_of before) image
    → 0 < step → SameOutside (step * geometry.sector) geometry.sector image left → LeftByFormat geometry before step left
cut_erase geometry before image left n step size erasing some same =
    let sector = geometry.sector in
    let least = geometry.least_sector in
    let most = long_enough geometry in
    let above : 1 * sector ≤ step * sector = mul-le 1 sector step sector (omega arith) (omega arith) in
    let mine : number_at left 49 1 ≡ number_at image 49 1 = number_at-before (step * sector) sector 49 1 image left same (omega arith) in
    let first : number_at image 49 1 ≡ number_at (begun_of before) 49 1 = in_front image (begun_of before) sector (omega arith) erasing.front in
    let put : number_at (begun_of before) 49 1 ≡ ended = mark_put before (omega arith) in
    NoMedium (not_whole left (inr (λ (is : number_at left 49 1 ≡ not_ended). absurd (omega arith))))
  where
    in_front : (xs ys : List ℕ) (n : ℕ) → 50 ≤ n → take n xs ≡ take n ys → number_at xs 49 1 ≡ number_at ys 49 1
    in_front xs ys n long same =
        unfold number_at in ap little (sym (part-take xs n 49 1 long)) ∙ ap (λ (zs : List ℕ). little (part zs 49 1)) same ∙ ap little (part-take ys n 49 1 long)

    mark_put : (before : List ℕ) → 50 ≤ length before → number_at (put_at before 49 (ended ∷ [])) 49 1 ≡ ended
    mark_put before long = unfold number_at in ap little (part-put_at before 49 (ended ∷ []) long)

-- behind a header over erased bytes all is erased
behind_header : (geometry : Geometry) → drop geometry.sector (header_of geometry ++ replicate (medium_size geometry - 48) 0xFF) ≡ replicate (flash_size geometry) 0xFF
behind_header geometry =
    let header : List ℕ = header_of geometry in
    let rest : List ℕ = replicate (medium_size geometry - 48) 0xFF in
    let least = geometry.least_sector in
    let long : length header ≡ 48 = length-header_with geometry (header_checksum geometry) in
    let more : 48 + (geometry.sector - 48) ≡ geometry.sector = omega arith in
    let left : medium_size geometry - 48 - (geometry.sector - 48) ≡ flash_size geometry = omega arith in
    ap (λ (n : ℕ). drop n (header ++ rest)) (sym more) ∙ sym (drop-drop (geometry.sector - 48) 48 (header ++ rest))
    ∙ ap (drop (geometry.sector - 48)) (drop_at header rest 48 long)
    ∙ drop-replicate (geometry.sector - 48) (medium_size geometry - 48) 0xFF ∙ ap (λ (n : ℕ). replicate n 0xFF) left

-- behind the first sector the flash stays erased
still_behind : (at size sector : ℕ) (image left erased : List ℕ) → at + size ≤ sector → SameOutside at size image left → drop sector image ≡ erased → drop sector left ≡ erased
still_behind at size sector image left erased inside same is =
    let more : at + size + (sector - (at + size)) ≡ sector = omega arith in
    ap (λ (n : ℕ). drop n left) (sym more) ∙ sym (drop-drop (sector - (at + size)) (at + size) left)
    ∙ ap (drop (sector - (at + size))) same.after
    ∙ drop-drop (sector - (at + size)) (at + size) image ∙ ap (λ (n : ℕ). drop n image) more ∙ is

-- behind the erases of the flash: power lost in the erase of the first sector, in the header, and in the mark
cut_last : (geometry : Geometry) (before image left : List ℕ) (step k : ℕ) (change : FormatChange) → step ≡ flash_sectors geometry + 1 + k
    → IsErasing geometry (flash_sectors geometry) (begun_of before) image
    → slice_get (last_changes geometry) k ≡ Some change → SameOutside change.at change.len (after (take k (last_changes geometry)) image) left
    → LeftByFormat geometry before step left
unfolding after
cut_last geometry before image left step zero change is erasing found same =
    let change_is : erases geometry 0 ≡ change = cc in
    let of_first : SameOutside (0 * geometry.sector) geometry.sector image left = subst (λ (c : FormatChange). SameOutside c.at c.len image left) (sym change_is) same in
    let erased = behind_erased geometry (begun_of before) image erasing in
    AllErased (inl (omega arith)) (still_behind (0 * geometry.sector) geometry.sector geometry.sector image left (replicate (flash_size geometry) 0xFF) (omega arith) of_first erased)
cut_last geometry before image left step (suc zero) change is erasing found same =
    let change_is : puts_header geometry ≡ change = cc in
    let cleared : List ℕ = put_at image (0 * geometry.sector) (replicate geometry.sector 0xFF) in
    let of_header : SameOutside 0 48 cleared left = subst (λ (c : FormatChange). SameOutside c.at c.len cleared left) (sym change_is) same in
    let all : cleared ≡ replicate (medium_size geometry) 0xFF = all_erased geometry (begun_of before) image erasing in
    let mark : number_at left 48 1 ≡ number_at cleared 48 1 = number_at-after 0 48 48 1 cleared left of_header (lit≤ tt) in
    let blank : number_at cleared 48 1 ≡ 0xFF = ap (λ (xs : List ℕ). number_at xs 48 1) all ∙ erased_byte (medium_size geometry) (let long = long_enough geometry in omega arith) in
    NoMedium (not_whole left (inl (λ (found : number_at left 48 1 ≡ whole). absurd (omega arith))))
  where
    first : (n : ℕ) → 1 ≤ n → little (take 1 (replicate n 0xFF)) ≡ 0xFF
    first zero some = absurd (omega arith)
    first (suc n) some = refl

    erased_byte : (n : ℕ) → 49 ≤ n → number_at (replicate n 0xFF) 48 1 ≡ 0xFF
    erased_byte n long = let some : 1 ≤ n - 48 = omega arith in unfold number_at part in ap (λ (xs : List ℕ). little (take 1 xs)) (drop-replicate 48 n 0xFF) ∙ first (n - 48) some
cut_last geometry before image left step (suc (suc zero)) change is erasing found same =
    let change_is : marks 48 whole ≡ change = cc in
    let sector = geometry.sector in
    let least = geometry.least_sector in
    let cleared : List ℕ = put_at image (0 * sector) (replicate sector 0xFF) in
    let filled : List ℕ = put_at cleared 0 (header_of geometry) in
    let of_mark : SameOutside 48 1 filled left = subst (λ (c : FormatChange). SameOutside c.at c.len filled left) (sym change_is) same in
    let all : cleared ≡ replicate (medium_size geometry) 0xFF = all_erased geometry (begun_of before) image erasing in
    let is_filled : filled ≡ header_of geometry ++ replicate (medium_size geometry - 48) 0xFF = ap (λ (xs : List ℕ). put_at xs 0 (header_of geometry)) all ∙ headed geometry in
    let behind : drop sector filled ≡ replicate (flash_size geometry) 0xFF = ap (drop sector) is_filled ∙ behind_header geometry in
    AllErased (inr (omega arith)) (still_behind 48 1 sector filled left (replicate (flash_size geometry) 0xFF) (omega arith) of_mark behind)
cut_last geometry before image left step (suc (suc (suc k))) change is erasing found same = absurd (none found)
  where
    none : slice_get {X = FormatChange} [] k ≡ Some change → ⊥
    none found = cc

-- in any change
pub cut_format : (geometry : Geometry) (before left : List ℕ) (step : ℕ) (change : FormatChange) → length before ≡ medium_size geometry
    → slice_get (format_changes geometry) step ≡ Some change → SameOutside change.at change.len (after (take step (format_changes geometry)) before) left
    → LeftByFormat geometry before step left
cut_format geometry before left zero change size found same =
    let is : Some (marks 49 ended) ≡ Some change = sym (first_at geometry) ∙ found in
    let change_is : marks 49 ended ≡ change = cc in
    cut_first geometry before left size (subst (λ (c : FormatChange). SameOutside c.at c.len before left) (sym change_is) (unfold after in same))
cut_format geometry before left (suc n) change size found same = by_place geometry before left n change size found same (cases_lt n (flash_sectors geometry))
  where
    by_place : (geometry : Geometry) (before left : List ℕ) (n : ℕ) (change : FormatChange) → length before ≡ medium_size geometry
        → slice_get (format_changes geometry) (suc n) ≡ Some change → SameOutside change.at change.len (after (take (suc n) (format_changes geometry)) before) left
        → (n < flash_sectors geometry) ⊎ (flash_sectors geometry ≤ n) → LeftByFormat geometry before (suc n) left
    by_place geometry before left n change size found same (inl below) =
        let image : List ℕ = after (marks 49 ended ∷ erases_from geometry 1 n) before in
        let is : Some (erases geometry (suc n)) ≡ Some change = sym (flash_erase_at geometry (suc n) (omega arith) (omega arith)) ∙ found in
        let change_is : erases geometry (suc n) ≡ change = cc in
        let here : SameOutside change.at change.len image left =
        subst (λ (changes : List FormatChange). SameOutside change.at change.len (after changes before) left) (take-flash geometry n (omega arith)) same in
        cut_erase geometry before image left n (suc n) size (erased_to geometry before n size (omega arith)) (omega arith)
        (subst (λ (c : FormatChange). SameOutside c.at c.len image left) (sym change_is) here)
    by_place geometry before left n change size found same (inr above) =
        let sectors = flash_sectors geometry in
        let k : ℕ = n - sectors in
        let is : suc n ≡ sectors + 1 + k = omega arith in
        let front : List FormatChange = marks 49 ended ∷ erases_from geometry 1 sectors in
        let here : SameOutside change.at change.len (after (take k (last_changes geometry)) (after front before)) left =
        subst (λ (xs : List ℕ). SameOutside change.at change.len xs left)
        (ap (λ (changes : List FormatChange). after changes before) (take-last geometry (suc n) k is) ∙ after-append front (take k (last_changes geometry)) before) same in
        cut_last geometry before (after front before) left (suc n) k change is (erased_to geometry before sectors size (omega arith))
        (sym (last_at geometry (suc n) k is) ∙ found) here
