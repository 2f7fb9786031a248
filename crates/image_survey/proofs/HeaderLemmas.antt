-- The header of a geometry.
use Rattle.std.proofs.Common.{◌≡◌, ℕ, ◌+◌, ◌-◌, ◌%◌, ◌^◌, ◌<◌, List, ◌++◌, length, refl, sym, ap, ◌∙◌, arith, lit<, lit≤}
use Rattle.std.proofs.lemmas.List.{append-nil, drop_all}
use Rattle.base_model.specs.Bytes.{part, number_at, little, spelled, put_at}
use Rattle.base_model.proofs.BytesLemmas.{little-spelled, number_at-part}
use Rattle.flash_model.specs.declared.geometry.Geometry.{Geometry}
use Rattle.flash_model.specs.Limits.{IsGeometry}
use Rattle.image_survey.specs.Checksums.{word_sum}
use Rattle.image_survey.specs.Headers.{signature, medium_size, header_with, header_of, header_checksum}

pub length-header_with : (geometry : Geometry) (checksum : ℕ) → length (header_with geometry checksum) ≡ 48
unfolding header_with spelled
length-header_with geometry checksum = refl

-- bytes that were put over all of others
pub put_at-whole : (old bytes : List ℕ) → length bytes ≡ length old → put_at old 0 bytes ≡ bytes
unfolding put_at
put_at-whole old bytes size =
    ap (λ (xs : List ℕ). bytes ++ xs) (drop_all (0 + length bytes) old (omega arith)) ∙ append-nil bytes

-- the checksum is one of its words
sum_around : (geometry : Geometry) (checksum : ℕ)
    → word_sum 12 (header_with geometry checksum) ≡ word_sum 10 (header_with geometry 0) + little (spelled 4 checksum) + number_at (header_with geometry 0) 44 4
unfolding word_sum number_at part header_with spelled
sum_around geometry checksum = refl

sum_with : (geometry : Geometry) (checksum : ℕ) → checksum < 2 ^ 32 → word_sum 12 (header_with geometry checksum) ≡ word_sum 12 (header_with geometry 0) + checksum
sum_with geometry checksum small =
    let with : word_sum 12 (header_with geometry checksum) ≡ word_sum 10 (header_with geometry 0) + little (spelled 4 checksum) + number_at
    (header_with geometry 0) 44 4 = sum_around geometry checksum in
    let without : word_sum 12 (header_with geometry 0) ≡ word_sum 10 (header_with geometry 0) + little (spelled 4 0) + number_at (header_with geometry 0) 44 4 = sum_around geometry 0 in
    let is : little (spelled 4 checksum) ≡ checksum = little-spelled 4 checksum small in
    let none : little (spelled 4 0) ≡ 0 = little-spelled 4 0 (lit< tt) in
    omega arith

pub checksum_low : (geometry : Geometry) → header_checksum geometry < 2 ^ 32
unfolding header_checksum
checksum_low geometry = omega arith

-- the words add to 0
pub header_sealed : (geometry : Geometry) → word_sum 12 (header_of geometry) % 2 ^ 32 ≡ 0
header_sealed geometry =
    ap (λ (n : ℕ). n % 2 ^ 32) (sum_with geometry (header_checksum geometry) (checksum_low geometry))
    ∙ by_number (word_sum 12 (header_with geometry 0)) (header_checksum geometry) (checksum_is geometry)
  where
    checksum_is : (geometry : Geometry) → header_checksum geometry ≡ (2 ^ 32 - word_sum 12 (header_with geometry 0) % 2 ^ 32) % 2 ^ 32
    checksum_is geometry = unfold header_checksum in refl

    by_number : (total checksum : ℕ) → checksum ≡ (2 ^ 32 - total % 2 ^ 32) % 2 ^ 32 → (total + checksum) % 2 ^ 32 ≡ 0
    by_number total checksum is = omega arith

-- a number that makes them so is the checksum
pub checksum_from : (geometry : Geometry) (total checksum : ℕ) → total ≡ word_sum 12 (header_with geometry 0) % 2 ^ 32 → checksum < 2 ^ 32 → (checksum + total) % 2 ^ 32 ≡ 0
    → checksum ≡ header_checksum geometry
unfolding header_checksum
checksum_from geometry total checksum is small sealed = by_number (word_sum 12 (header_with geometry 0)) is
  where
    by_number : (words : ℕ) → total ≡ words % 2 ^ 32 → checksum ≡ (2 ^ 32 - words % 2 ^ 32) % 2 ^ 32
    by_number words is = omega (arith, small, sealed)

-- its numbers are read where they stand
pub record HasNumbers (geometry : Geometry) (medium : List ℕ) : Type 0 where
  pub sector : number_at medium 16 4 ≡ geometry.sector
  pub per_slot : number_at medium 20 4 ≡ geometry.per_slot
  pub slots : number_at medium 24 4 ≡ geometry.slots

pub spelled_there : (geometry : Geometry) (checksum : ℕ)
    → (number_at (header_with geometry checksum) 16 4 ≡ little (spelled 4 geometry.sector))
    × (number_at (header_with geometry checksum) 20 4 ≡ little (spelled 4 geometry.per_slot))
    × (number_at (header_with geometry checksum) 24 4 ≡ little (spelled 4 geometry.slots))
unfolding number_at part header_with spelled
spelled_there geometry checksum = (refl, refl, refl)

pub has_numbers : (geometry : Geometry) (medium : List ℕ) → part medium 0 48 ≡ header_of geometry → HasNumbers geometry medium
has_numbers geometry medium header =
    let there = spelled_there geometry (header_checksum geometry) in
    record {
      sector =
          sym (number_at-part medium 0 48 16 4 (lit≤ tt)) ∙ ap (λ (xs : List ℕ). number_at xs 16 4) header ∙ there.0
          ∙ little-spelled 4 geometry.sector (let few = geometry.greatest_sector in omega arith);
      per_slot =
          sym (number_at-part medium 0 48 20 4 (lit≤ tt)) ∙ ap (λ (xs : List ℕ). number_at xs 20 4) header ∙ there.1
          ∙ little-spelled 4 geometry.per_slot (let few = geometry.many_sectors in omega arith);
      slots =
          sym (number_at-part medium 0 48 24 4 (lit≤ tt)) ∙ ap (λ (xs : List ℕ). number_at xs 24 4) header ∙ there.2
          ∙ little-spelled 4 geometry.slots (let few = geometry.many_slots in omega arith);
    }

pub signature_there : (geometry : Geometry) (checksum : ℕ) → number_at (header_with geometry checksum) 0 8 ≡ signature
unfolding number_at part header_with spelled
signature_there geometry checksum = refl

-- geometries with the same numbers have the same header
pub record SameNumbers (one other : Geometry) : Type 0 where
  pub sector : one.sector ≡ other.sector
  pub per_slot : one.per_slot ≡ other.per_slot
  pub slots : one.slots ≡ other.slots

same_size : (one other : Geometry) → SameNumbers one other → medium_size one ≡ medium_size other
same_size one other same =
    let mine = one.product in
    let theirs = other.product in
    let sector = same.sector in
    let per_slot = same.per_slot in
    let slots = same.slots in
    cc

same_with : (one other : Geometry) (checksum : ℕ) → SameNumbers one other → header_with one checksum ≡ header_with other checksum
unfolding header_with
same_with one other checksum same =
    let size : medium_size one ≡ medium_size other = same_size one other same in
    let sector = same.sector in
    let per_slot = same.per_slot in
    let slots = same.slots in
    cc

same_checksum : (one other : Geometry) → SameNumbers one other → header_checksum one ≡ header_checksum other
unfolding header_checksum
same_checksum one other same = ap (λ (xs : List ℕ). (2 ^ 32 - word_sum 12 xs % 2 ^ 32) % 2 ^ 32) (same_with one other 0 same)

pub same_header : (one other : Geometry) → SameNumbers one other → header_of one ≡ header_of other
same_header one other same = same_with one other (header_checksum one) same ∙ ap (header_with other) (same_checksum one other same)

-- a geometry's own numbers are within the limits
pub within_limits : (geometry : Geometry) (sector per_slot slots : ℕ) → sector ≡ geometry.sector → per_slot ≡ geometry.per_slot → slots ≡ geometry.slots → IsGeometry sector per_slot slots
within_limits geometry sector per_slot slots a b c = rw (a, b, c) geometry.limits
