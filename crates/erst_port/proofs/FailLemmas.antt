-- A port that is opened anew.
use Rattle.std.proofs.Common.{◌≡◌, ◌≢◌, ◌∙◌, ℕ, ◌+◌, ◌-◌, Bool, true, false, List, length, take, drop, refl, sym, ap, subst, arith}
use Rattle.std.proofs.lemmas.List.{take_rest, length-drop}
use Rattle.base_model.specs.Layout.{Layout, room_of, reach_of}
use Rattle.flash_model.specs.declared.geometry.Geometry.{Geometry}
use Rattle.flash_model.specs.Layouts.{layout_of}
use Rattle.image_survey.specs.Headers.{flash_size}
use Rattle.erst_port.specs.declared.windows.Addresses.{Addresses}
use Rattle.erst_port.specs.declared.errors.OpenError.{OpenError}
use Rattle.erst_port.specs.declared.errors.OpenError.TheVariants as errors
use Rattle.erst_port.specs.declared.errors.ReopenError.TheVariants.{Medium}
use Rattle.erst_port.specs.Places.{are_apart}
use Rattle.erst_port.specs.PortState.{PortState, IsPort}
use Rattle.erst_port.specs.Openings.{OpenedAs, RefusesImage, range_size}
use Rattle.erst_port.specs.Failures.{DividesAs, IsItsGeometry, OpenedAnew, RefusesAnew, OtherSize, NoMemory}
use Rattle.erst_port.proofs.SavedLemmas.{same_layout}

pub divides_as : (one : Geometry) (other layout : Layout) → other ≡ layout → DividesAs one other → layout_of one ≡ layout
divides_as one other layout is divides =
    same_layout (layout_of one) other divides.sector divides.per_slot divides.slots ∙ is

pub divides_alike : (one : Geometry) (other layout : Layout) → other ≡ layout → layout_of one ≡ layout → DividesAs one other
divides_alike one other layout is same =
    let alike = same ∙ sym is in
    record { sector = ap (λ (l : Layout). l.sector) alike; per_slot = ap (λ (l : Layout). l.per_slot) alike; slots = ap (λ (l : Layout). l.slots) alike }

module _ (port : PortState) (medium : List ℕ) (geometry : Geometry) (its : IsItsGeometry port medium geometry) (origin : ℕ) (origin_is : origin ≡ port.origin)
    (addresses : Addresses) (addresses_are : addresses ≡ port.addresses) (size : ℕ) (size_is : size ≡ flash_size geometry) where
  abbrev image : List ℕ
  image = take (length medium - origin) (drop origin medium)

  rest : image ≡ drop port.origin medium
  rest = take_rest medium origin ∙ ap (λ (n : ℕ). drop n medium) origin_is

  wanted : origin + size ≡ port.origin + flash_size geometry
  wanted = ap (λ (n : ℕ). n + size) origin_is ∙ ap (λ (n : ℕ). port.origin + n) size_is

  pub opens_anew : (opened : PortState) → OpenedAs origin geometry image addresses opened → OpenedAnew port medium opened
  opens_anew opened is = (
    geometry,
    its,
    subst (λ (n : ℕ). OpenedAs n geometry (drop port.origin medium) port.addresses opened) origin_is
        (subst (λ (a : Addresses). OpenedAs origin geometry (drop port.origin medium) a opened) addresses_are
        (subst (λ (i : List ℕ). OpenedAs origin geometry i addresses opened) rest is)),
  )

  pub other_size : length medium ≢ origin + size → RefusesAnew port medium (Medium (errors.Size (length medium) (origin + size)))
  other_size other = OtherSize geometry (length medium) (origin + size) its refl wanted other

  module _ (whole : IsPort port) (fits : length medium ≡ origin + size) where
    image_size : length image ≡ flash_size geometry
    image_size =
        let long : length image ≡ length medium - origin = ap (λ (xs : List ℕ). length xs) (take_rest medium origin) ∙ length-drop origin medium in
        omega (arith, long, fits, size_is)

    apart : are_apart (range_size geometry) addresses ≡ true
    apart =
        ap (λ (l : Layout). are_apart (reach_of (room_of l)) addresses) its.divided
        ∙ ap (λ (n : ℕ). are_apart n addresses) (sym whole.range)
        ∙ ap (are_apart (length port.range)) addresses_are
        ∙ whole.apart

    pub no_memory : (error : OpenError) → RefusesImage geometry image addresses error → RefusesAnew port medium (Medium error)
    no_memory errors.Foreign refused = absurd refused
    no_memory (errors.Version found) refused = absurd refused
    no_memory (errors.Size found most) refused = absurd (refused.2 (refused.0 ∙ image_size ∙ sym refused.1))
    no_memory errors.Addresses refused = absurd (let both : true ≡ false = sym apart ∙ refused.1 in cc)
    no_memory errors.Memory refused = NoMemory geometry its (fits ∙ wanted)
