-- How many bytes the changes of a format have.
use Rattle.std.proofs.Common.{◌≡◌, ℕ, zero, suc, ◌+◌, ◌^◌, ◌<◌, List, [], ◌∷◌, ◌++◌, Some, subst, arith}
use Rattle.std.specs.Prelude.{slice_get}
use Rattle.flash_model.specs.declared.geometry.Geometry.{Geometry}
use Rattle.image_survey.specs.declared.format.FormatChange.{FormatChange}
use Rattle.image_survey.specs.Formats.{format_changes, erases_from, flash_sectors}

AreFew : List FormatChange → Type 0
AreFew [] = Unit {0}
AreFew (change ∷ changes) = (change.len < 2 ^ 32) × AreFew changes

few_erases : (geometry : Geometry) (number n : ℕ) (others : List FormatChange) → AreFew others → AreFew (erases_from geometry number n ++ others)
unfolding AreFew erases_from
few_erases geometry number zero others few = few
few_erases geometry number (suc n) others few =
    let sector = geometry.greatest_sector in
    (omega arith, few_erases geometry (number + 1) n others few)

few_changes : (geometry : Geometry) → AreFew (format_changes geometry)
unfolding AreFew format_changes
few_changes geometry =
    let sector = geometry.greatest_sector in
    (omega arith, few_erases geometry 1 (flash_sectors geometry) _ (omega arith, (omega arith, (omega arith, tt))))

few_at : (changes : List FormatChange) (i : ℕ) (change : FormatChange) → AreFew changes → slice_get changes i ≡ Some change → change.len < 2 ^ 32
unfolding AreFew
few_at [] i change few e = absurd (cc)
few_at (first ∷ changes) zero change few e = let same : first ≡ change = cc in subst (λ (it : FormatChange). it.len < 2 ^ 32) same few.0
few_at (first ∷ changes) (suc i) change few e = few_at changes i change few.1 e

pub few_bytes : (geometry : Geometry) (step : ℕ) (change : FormatChange) → slice_get (format_changes geometry) step ≡ Some change → change.len < 2 ^ 32
few_bytes geometry step change e = few_at (format_changes geometry) step change (few_changes geometry) e
