-- The opening of a medium, from that of the flash on it.
use Rattle.std.proofs.Common.{◌≡◌, ◌∙◌, ℕ, ◌-◌, ◌≤◌, true, List, length, take, drop, Result, Ok, Err, sym, ap, subst, arith}
use Rattle.std.proofs.lemmas.List.{length-replicate, take_rest}
use Rattle.base_model.specs.Bytes.{zeros}
use Rattle.base_model.specs.Layout.{Layout, room_of, reach_of}
use Rattle.record_store.specs.Store.{IsOpened}
use Rattle.erst_port.specs.Dues.{IsLogged}
use Rattle.erst_device.specs.DeviceState.{DeviceState}
use Rattle.erst_entries.specs.Layout.{spelling}
use Rattle.erst_port.specs.Places.{are_apart}
use Rattle.erst_port.specs.PortTables.{port_erst}
use Rattle.std.specs.Prelude.{IfOk, IfErr}
use Rattle.flash_model.specs.declared.geometry.Geometry.{Geometry}
use Rattle.image_survey.specs.Headers.{IsMedium}
use Rattle.erst_port.specs.declared.windows.Addresses.{Addresses}
use Rattle.erst_port.specs.declared.errors.OpenError.{OpenError}
use Rattle.erst_port.specs.Parts.{nothing_made}
use Rattle.erst_port.specs.PortState.{PortState, IsPort, state_of, table_size}
use Rattle.erst_port.specs.Openings.{OpenedAs, OpenedOn, RefusesImage, RefusesOpening, NoFlash}

module _ (medium : List ℕ) (addresses : Addresses) (geometry : Geometry) (is : IsMedium geometry medium) (origin : ℕ) (start : origin ≡ geometry.sector) where
  -- the bytes behind the first sector
  rest : take (length medium - origin) (drop origin medium) ≡ drop geometry.sector medium
  rest = take_rest medium origin ∙ ap (λ (n : ℕ). drop n medium) start

  pub opened_on : (result : Result PortState OpenError) → IfOk result (OpenedAs origin geometry (take (length medium - origin) (drop origin medium)) addresses)
      → IfOk result (OpenedOn medium addresses)
  opened_on (Ok port) opened =
      (geometry, is, subst (λ (n : ℕ). OpenedAs n geometry (drop geometry.sector medium) addresses port) start (subst (λ (image : List ℕ). OpenedAs origin geometry image addresses port) rest opened))
  opened_on (Err error) opened = tt

  pub refuses_on : {T : Type 0} (result : Result T OpenError) → IfErr result (RefusesImage geometry (take (length medium - origin) (drop origin medium)) addresses)
      → IfErr result (RefusesOpening medium addresses)
  refuses_on (Ok port) refused = tt
  refuses_on (Err error) refused = NoFlash geometry error is (subst (λ (image : List ℕ). RefusesImage geometry image addresses error) rest refused)

-- what was opened is a port
pub is_port : (geometry : Geometry) (device : DeviceState) (range table : List ℕ) (addresses : Addresses) (origin size reach : ℕ) → IsOpened geometry device.store
    → size ≡ reach_of (geometry.slot_size - 64) → reach ≡ reach_of (geometry.slot_size - 64) → range ≡ zeros reach → length table ≡ table_size →
    table ≡ spelling (port_erst addresses.registers) → are_apart size addresses ≡ true → origin ≤ 32768
    → IsLogged device.store.flash → IsPort (state_of device range table addresses origin nothing_made)
is_port geometry device range table addresses origin size reach opened size_is reach_is range_is long tells apart near known =
    let range_size : length range ≡ reach_of (geometry.slot_size - 64) = ap (λ (xs : List ℕ). length xs) range_is ∙ length-replicate reach 0 ∙ reach_is in
    record {
      range = range_size ∙ ap (λ (layout : Layout). reach_of (room_of layout)) (sym opened.layout);
      table = long;
      tells = tells;
      apart = subst (λ (n : ℕ). are_apart n addresses ≡ true) (size_is ∙ sym range_size) apart;
      origin = near;
      behind = omega arith;
      begun = λ more. absurd (omega (arith, more));
      known = λ _. known;
    }
