-- A medium: its header, and the items of its flash.
use Rattle.std.proofs.Common.{◌≡◌, ℕ, false, List, [], drop, codes, Option, Some, None, Ok, subst}
use Rattle.base_model.specs.Bytes.{part}
use Rattle.field_lines.specs.Layouts.{Structure}
use Rattle.flash_model.specs.declared.geometry.Geometry.{Geometry}
use Rattle.image_survey.specs.declared.header.MediumError.{MediumError}
use Rattle.show_findings.specs.declared.faults.Fault.{Fault}
use Rattle.show_items.specs.Headers.{IsHeader, medium_structure}
use Rattle.show_items.specs.Images.{AreImageItems, AreMediumItemsBy, IsBadMedium, IsMediumHeader, error_place}
use Rattle.show_items.specs.Judged.{ShowsAll, ShowsOne, StopsIn}
use Rattle.show_items.specs.declared.sheet.Sheet.{Sheet}
use Rattle.show_items.proofs.PlaceLemmas.{one_and_all, one_and_begun}

abbrev pub IsHeaderBy : Structure → List ℕ → Option Fault → (old new : Sheet) → Type 0
IsHeaderBy structure medium fault old new = ShowsOne (IsHeader (codes "medium") structure (part medium 0 50) medium fault) (Some []) (Some []) old new

pub bad_shown : (error : MediumError) (medium : List ℕ) (structure : Structure) (fault : Fault) (old new : Sheet)
    → structure ≡ medium_structure → fault.at ≡ error_place error → IsHeaderBy structure medium (Some fault) old new
    → ShowsOne (IsBadMedium medium error) (Some []) (Some []) old new
bad_shown error medium structure fault old new same stands shown =
    let header = subst (λ (it : Structure). IsHeaderBy it medium (Some fault) old new) same shown in
    (header.0, (fault, stands, header.1), header.2)

pub whole_shown : (geometry : Geometry) (medium flash : List ℕ) (structure : Structure) (written after : Option (List ℕ)) (old between new : Sheet)
    → structure ≡ medium_structure → flash ≡ drop geometry.sector medium → IsHeaderBy structure medium None old between
    → ShowsAll (AreImageItems false geometry flash) written after between new → ShowsAll (AreMediumItemsBy false (Ok geometry) medium) written after old new
whole_shown geometry medium flash structure written after old between new same behind shown more =
    let header = subst (λ (it : Structure). IsHeaderBy it medium None old between) same shown in
    let items = subst (λ (it : List ℕ). ShowsAll (AreImageItems false geometry it) written after between new) behind more in
    one_and_all (IsMediumHeader medium None) (AreImageItems false geometry (drop geometry.sector medium)) (AreMediumItemsBy false (Ok geometry) medium)
    written after old between new (λ item items is are. (is, are)) header items

pub whole_begun : (geometry : Geometry) (medium flash : List ℕ) (structure : Structure) (written after : Option (List ℕ)) (old between : Sheet)
    → structure ≡ medium_structure → flash ≡ drop geometry.sector medium → IsHeaderBy structure medium None old between
    → StopsIn (λ early. AreImageItems early geometry flash) written after between → StopsIn (λ early. AreMediumItemsBy early (Ok geometry) medium) written after old
whole_begun geometry medium flash structure written after old between same behind shown more =
    let header = subst (λ (it : Structure). IsHeaderBy it medium None old between) same shown in
    let items = subst (λ (it : List ℕ). StopsIn (λ early. AreImageItems early geometry it) written after between) behind more in
    one_and_begun (IsMediumHeader medium None) (λ early. AreImageItems early geometry (drop geometry.sector medium)) (λ early. AreMediumItemsBy early (Ok geometry) medium)
    written after old between (λ early item items is are. (is, are)) header items
