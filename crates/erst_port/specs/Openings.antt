-- The opening of a port.
use Rattle.std.specs.Prelude.{◌≡◌, ◌≢◌, ℕ, ◌-◌, true, false, List, length, drop}
use Rattle.base_model.specs.Bytes.{zeros}
use Rattle.base_model.specs.Layout.{reach_of}
use Rattle.flash_model.specs.declared.geometry.Geometry.{Geometry}
use Rattle.record_model.specs.Records.{second_copies}
use Rattle.record_store.specs.Store.{IsOpened, IsFlashOf, IsSettled, KeepsRecordsOf}
use Rattle.erst_entries.specs.Layout.{spelling}
use Rattle.erst_entries.specs.Tables.{IsErst}
use Rattle.erst_device.specs.DeviceState.{at_first}
use Rattle.image_survey.specs.declared.header.MediumError.{MediumError}
use Rattle.image_survey.specs.declared.header.MediumError.TheVariants as media
use Rattle.image_survey.specs.Headers.{flash_size, IsMedium, RefusesMedium}
use Rattle.erst_port.specs.States.{first_state}
use Rattle.erst_port.specs.declared.windows.Addresses.{Addresses}
use Rattle.erst_port.specs.declared.errors.OpenError.{OpenError}
use Rattle.erst_port.specs.declared.errors.OpenError.TheVariants as errors
use Rattle.erst_port.specs.Places.{are_apart}
use Rattle.erst_port.specs.Parts.{nothing_made}
use Rattle.erst_port.specs.PortState.{PortState, flash_of}
use Rattle.erst_port.specs.PortTables.{port_erst}

abbrev pub range_size : Geometry → ℕ
range_size geometry = reach_of (geometry.slot_size - 64)

-- the port of a flash of these bytes, which starts behind so many bytes of its medium, with its windows at these places. Its store has just looked at its slots: it made
-- one change for each upright slot that is not the first slot of its identifier's record, and power lost at any step on the way leaves
-- the records of the image
pub record OpenedAs (start : ℕ) (geometry : Geometry) (image : List ℕ) (places : Addresses) (port : PortState) : Type 0 where
  pub store : IsOpened geometry port.device.store
  pub first : port.device ≡ at_first port.device.store
  pub range : port.range ≡ zeros (range_size geometry)
  pub table : port.table ≡ spelling (port_erst places.registers)
  pub erst : IsErst (port_erst places.registers) port.table
  pub addresses_are : port.addresses ≡ places
  pub origin_is : port.origin ≡ start
  pub made : port.made ≡ nothing_made
  pub settled : IsSettled port.device.store
  pub flash : IsFlashOf (first_state image geometry.sector) (flash_of port)
  pub steps : (flash_of port).steps ≡ second_copies geometry.slot_size geometry.slots image
  pub kept : KeepsRecordsOf geometry (first_state image geometry.sector) (flash_of port)

-- the port of a medium, whose first sector says its geometry
abbrev pub OpenedOn : List ℕ → Addresses → PortState → Type 0
OpenedOn medium addresses port =
    (geometry : Geometry) × IsMedium geometry medium × OpenedAs geometry.sector geometry (drop geometry.sector medium) addresses port

-- why a flash is not opened: exactly one reason applies, but for want of memory
abbrev pub RefusesImage : Geometry → List ℕ → Addresses → OpenError → Type 0
RefusesImage geometry image addresses errors.Foreign = ⊥
RefusesImage geometry image addresses (errors.Version found) = ⊥
RefusesImage geometry image addresses (errors.Size found wanted) = (found ≡ length image) × (wanted ≡ flash_size geometry) × (found ≢ wanted)
RefusesImage geometry image addresses errors.Addresses = (length image ≡ flash_size geometry) × (are_apart (range_size geometry) addresses ≡ false)
RefusesImage geometry image addresses errors.Memory = (length image ≡ flash_size geometry) × (are_apart (range_size geometry) addresses ≡ true)

abbrev pub open_error : MediumError → OpenError
open_error media.Foreign = errors.Foreign
open_error (media.Version found) = errors.Version found
open_error (media.Size found wanted) = errors.Size found wanted

-- and why a medium is not
pub data RefusesOpening (medium : List ℕ) (addresses : Addresses) : OpenError → Type 0 where
  NoMedium : (why : MediumError) → RefusesMedium medium why → RefusesOpening medium addresses (open_error why)
  NoFlash : (geometry : Geometry) (error : OpenError) → IsMedium geometry medium → RefusesImage geometry (drop geometry.sector medium) addresses error
      → RefusesOpening medium addresses error
