-- The bytes of a medium within a format.
use Rattle.std.proofs.Common.{◌≡◌, ℕ, zero, suc, ◌+◌, ◌-◌, ◌*◌, ◌<◌, ◌≤◌, List, [], ◌∷◌, ◌++◌, length, take, drop, replicate, refl, sym, ap, ◌∙◌, arith, add-zero, append_assoc, length-drop}
use Rattle.std.proofs.lemmas.List.{take_all, take_at, drop_at, drop-drop, drop-replicate, length-replicate, replicate-append-replicate}
use Rattle.std.proofs.lemmas.Nat.{mul-le}
use Rattle.std.proofs.Math.Nat.{add-mul, mul_assoc, mul_comm}
use Rattle.base_model.specs.Bytes.{part, put_at, SameOutside}
use Rattle.base_model.proofs.BytesLemmas.{length-put_at, part-put_at, SameOutside-put_at, part-before, part-append}
use Rattle.flash_model.specs.declared.geometry.Geometry.{Geometry}
use Rattle.image_survey.specs.declared.format.FormatChange.{FormatChange}
use Rattle.image_survey.specs.Headers.{header_of, header_checksum, flash_size, medium_size, whole}
use Rattle.image_survey.specs.Formats.{erases_from, flash_sectors, after, new_medium, bytes_of}
use Rattle.image_survey.proofs.HeaderLemmas.{length-header_with}

pub after-append : (first second : List FormatChange) (medium : List ℕ) → after (first ++ second) medium ≡ after second (after first medium)
unfolding after
after-append [] second medium = refl
after-append (change ∷ first) second medium = after-append first second (put_at medium change.at (bytes_of change))

-- the sectors of the flash are its bytes
pub sectors_are : (geometry : Geometry) → flash_sectors geometry * geometry.sector ≡ flash_size geometry
sectors_are geometry =
    mul_comm (flash_sectors geometry) geometry.sector ∙ sym (mul_assoc geometry.sector geometry.per_slot geometry.slots)
    ∙ ap (λ (n : ℕ). n * geometry.slots) (sym geometry.product)

-- n sectors of the flash are erased, and the first one is as it was
pub record IsErasing (geometry : Geometry) (n : ℕ) (begun image : List ℕ) : Type 0 where
  pub size : length image ≡ medium_size geometry
  pub front : take geometry.sector image ≡ take geometry.sector begun
  pub erased : part image geometry.sector (n * geometry.sector) ≡ replicate (n * geometry.sector) 0xFF

pub begins_erasing : (geometry : Geometry) (begun : List ℕ) → length begun ≡ medium_size geometry → IsErasing geometry 0 begun begun
unfolding part
begins_erasing geometry begun size = record {
  size = size;
  front = refl;
  erased =
      let none : 0 * geometry.sector ≡ 0 = omega arith in
      ap (λ (k : ℕ). take k (drop geometry.sector begun)) none ∙ sym (ap (λ (k : ℕ). replicate k 0xFF) none);
}

-- the sector of a number, and where it ends
pub record IsSectorOf (geometry : Geometry) (k : ℕ) : Type 0 where
  pub place : (k + 1) * geometry.sector ≡ geometry.sector + k * geometry.sector
  pub within : (k + 1) * geometry.sector + geometry.sector ≤ medium_size geometry

pub is_sector : (geometry : Geometry) (k : ℕ) → k < flash_sectors geometry → IsSectorOf geometry k
is_sector geometry k below =
    let sector = geometry.sector in
    let more : (k + 1) * sector ≡ k * sector + 1 * sector = add-mul k 1 sector in
    let place : (k + 1) * sector ≡ sector + k * sector = omega arith in
    let most : (k + 1) * sector ≤ flash_sectors geometry * sector = mul-le (k + 1) sector (flash_sectors geometry) sector (omega arith) (omega arith) in
    let all : flash_sectors geometry * sector ≡ flash_size geometry = sectors_are geometry in
    record { place = place; within = omega arith }

pub erases_next : (geometry : Geometry) (k : ℕ) (begun image : List ℕ) → k < flash_sectors geometry → IsErasing geometry k begun image
    → IsErasing geometry (k + 1) begun (put_at image ((k + 1) * geometry.sector) (replicate geometry.sector 0xFF))
erases_next geometry k begun image below erasing =
    let sector = geometry.sector in
    let at : ℕ = (k + 1) * sector in
    let bytes : List ℕ = replicate sector 0xFF in
    let is : IsSectorOf geometry k = is_sector geometry k below in
    let long : length bytes ≡ sector = length-replicate sector 0xFF in
    let size : length image ≡ medium_size geometry = erasing.size in
    let fits : at + length bytes ≤ length image = let within = is.within in omega arith in
    let same : SameOutside at (length bytes) image (put_at image at bytes) = SameOutside-put_at image at bytes fits in
    let place : at ≡ sector + k * sector = is.place in
    let new : part (put_at image at bytes) (sector + k * sector) sector ≡ bytes =
    ap (λ (n : ℕ). part (put_at image at bytes) n sector) (sym place) ∙ ap (λ (n : ℕ). part (put_at image at bytes) at n) (sym long) ∙ part-put_at image at bytes fits in
    let old : part (put_at image at bytes) sector (k * sector) ≡ replicate (k * sector) 0xFF =
    part-before at (length bytes) sector (k * sector) image (put_at image at bytes) same (omega arith) ∙ erasing.erased in
    let both : (k + 1) * sector ≡ k * sector + sector = omega arith in
    record {
      size = length-put_at image at bytes fits ∙ size;
      front = first_part image (put_at image at bytes) sector at (length bytes) same (omega arith) ∙ erasing.front;
      erased =
          ap (part (put_at image at bytes) sector) both ∙ sym (part-append (put_at image at bytes) sector (k * sector) sector)
          ∙ ap (λ (xs : List ℕ). xs ++ part (put_at image at bytes) (sector + k * sector) sector) old
          ∙ ap (λ (xs : List ℕ). replicate (k * sector) 0xFF ++ xs) new
          ∙ replicate-append-replicate (k * sector) sector 0xFF ∙ sym (ap (λ (n : ℕ). replicate n 0xFF) both);
    }
  where
    first_part : (old new : List ℕ) (n at size : ℕ) → SameOutside at size old new → n ≤ at → take n new ≡ take n old
    first_part old new n at size same below = let within : 0 + n ≤ at = omega arith in unfold part in part-before at size 0 n old new same within

pub erases_more : (geometry : Geometry) (n k : ℕ) (begun image : List ℕ) → k + n ≤ flash_sectors geometry → IsErasing geometry k begun image
    → IsErasing geometry (k + n) begun (after (erases_from geometry (k + 1) n) image)
unfolding after erases_from
erases_more geometry zero k begun image within erasing = rw (add-zero k) erasing
erases_more geometry (suc n) k begun image within erasing =
    let next : IsErasing geometry (k + 1 + n) begun (after (erases_from geometry (k + 1 + 1) n) (put_at image ((k + 1) * geometry.sector) (replicate geometry.sector 0xFF))) =
    erases_more geometry n (k + 1) begun (put_at image ((k + 1) * geometry.sector) (replicate geometry.sector 0xFF)) (omega arith)
    (erases_next geometry k begun image (omega arith) erasing) in
    let is : k + suc n ≡ k + 1 + n = omega arith in
    rw is next

-- behind the first sector all is erased
pub behind_erased : (geometry : Geometry) (begun image : List ℕ) → IsErasing geometry (flash_sectors geometry) begun image
    → drop geometry.sector image ≡ replicate (flash_size geometry) 0xFF
unfolding part
behind_erased geometry begun image erasing =
    let all : flash_sectors geometry * geometry.sector ≡ flash_size geometry = sectors_are geometry in
    let size : length image ≡ medium_size geometry = erasing.size in
    let rest : length (drop geometry.sector image) ≡ length image - geometry.sector = length-drop geometry.sector image in
    sym (take_all (flash_sectors geometry * geometry.sector) (drop geometry.sector image) (omega arith))
    ∙ erasing.erased ∙ ap (λ (n : ℕ). replicate n 0xFF) all

-- and then all of it
pub all_erased : (geometry : Geometry) (begun image : List ℕ) → IsErasing geometry (flash_sectors geometry) begun image
    → put_at image (0 * geometry.sector) (replicate geometry.sector 0xFF) ≡ replicate (medium_size geometry) 0xFF
unfolding put_at
all_erased geometry begun image erasing =
    let sector = geometry.sector in
    let bytes : List ℕ = replicate sector 0xFF in
    let none : 0 * sector ≡ 0 = omega arith in
    let size : length bytes ≡ sector = length-replicate sector 0xFF in
    let long : 0 * sector + length bytes ≡ sector = omega arith in
    ap (λ (n : ℕ). take n image ++ bytes ++ drop (0 * sector + length bytes) image) none
    ∙ ap (λ (n : ℕ). bytes ++ drop n image) long
    ∙ ap (λ (xs : List ℕ). bytes ++ xs) (behind_erased geometry begun image erasing)
    ∙ replicate-append-replicate sector (flash_size geometry) 0xFF

-- the header over erased bytes
pub headed : (geometry : Geometry) → put_at (replicate (medium_size geometry) 0xFF) 0 (header_of geometry) ≡ header_of geometry ++ replicate (medium_size geometry - 48) 0xFF
unfolding put_at
headed geometry =
    let long : 0 + length (header_of geometry) ≡ 48 = let size = length-header_with geometry (header_checksum geometry) in omega arith in
    ap (λ (n : ℕ). header_of geometry ++ drop n (replicate (medium_size geometry) 0xFF)) long
    ∙ ap (λ (xs : List ℕ). header_of geometry ++ xs) (drop-replicate 48 (medium_size geometry) 0xFF)

-- the mark behind it
pub marked : (geometry : Geometry) → put_at (header_of geometry ++ replicate (medium_size geometry - 48) 0xFF) 48 (whole ∷ []) ≡ new_medium geometry
unfolding put_at new_medium
marked geometry =
    let header : List ℕ = header_of geometry in
    let rest : List ℕ = replicate (medium_size geometry - 48) 0xFF in
    let long : length header ≡ 48 = length-header_with geometry (header_checksum geometry) in
    let left : medium_size geometry - 48 - 1 ≡ medium_size geometry - 49 = omega arith in
    ap (λ (xs : List ℕ). xs ++ whole ∷ [] ++ drop 49 (header ++ rest)) (take_at header rest 48 long)
    ∙ ap (λ (xs : List ℕ). header ++ whole ∷ [] ++ xs)
    (sym (drop-drop 1 48 (header ++ rest)) ∙ ap (drop 1) (drop_at header rest 48 long) ∙ drop-replicate 1 (medium_size geometry - 48) 0xFF
    ∙ ap (λ (n : ℕ). replicate n 0xFF) left)
    ∙ append_assoc header (whole ∷ []) (replicate (medium_size geometry - 49) 0xFF)
