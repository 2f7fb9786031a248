-- A port whose medium failed a change: it is opened anew over what the medium holds, and goes on.
use Rattle.std.specs.Prelude.{◌≡◌, ◌≢◌, ℕ, ◌+◌, List, length, drop, Option, None, Result, Ok, Err}
use Rattle.base_model.specs.Layout.{Layout}
use Rattle.flash_model.specs.declared.geometry.Geometry.{Geometry}
use Rattle.flash_model.specs.Layouts.{layout_of}
use Rattle.record_store.specs.Store.{StoreView}
use Rattle.erst_device.specs.declared.status.CommandStatus.TheVariants.{Failed}
use Rattle.erst_device.specs.DeviceState.{DeviceState, IsStill}
use Rattle.image_survey.specs.declared.header.MediumError.{MediumError}
use Rattle.image_survey.specs.Headers.{flash_size, IsMedium, RefusesMedium}
use Rattle.erst_port.specs.declared.errors.OpenError.TheVariants.{Size, Memory}
use Rattle.erst_port.specs.declared.errors.ReopenError.{ReopenError}
use Rattle.erst_port.specs.declared.errors.ReopenError.TheVariants.{Medium, Geometry as OtherGeometry}
use Rattle.erst_port.specs.Parts.{nothing_made}
use Rattle.erst_port.specs.PortState.{PortState}
use Rattle.erst_port.specs.Openings.{OpenedAs, open_error}

-- the device with what was begun ended by FAILED, over this store. Its other registers stay
abbrev pub ended_with : StoreView → DeviceState → DeviceState
ended_with store old = record old { operation = None; status = Failed; reading = None; store = store }

-- a geometry divides a flash so
pub record DividesAs (geometry : Geometry) (layout : Layout) : Type 0 where
  pub sector : geometry.sector ≡ layout.sector
  pub per_slot : geometry.per_slot ≡ layout.per_slot
  pub slots : geometry.slots ≡ layout.slots

-- a geometry that divides the flash as the port's own does. Where the flash does not begin the medium, the medium's first sector says it
pub record IsItsGeometry (port : PortState) (medium : List ℕ) (geometry : Geometry) : Type 0 where
  pub divided : layout_of geometry ≡ port.device.store.layout
  pub headed : port.origin ≢ 0 → IsMedium geometry medium

-- a port that is opened over the medium, as this one was
abbrev pub OpenedAnew : PortState → List ℕ → PortState → Type 0
OpenedAnew port medium opened =
    (geometry : Geometry) × IsItsGeometry port medium geometry × OpenedAs port.origin geometry (drop port.origin medium) port.addresses opened

-- why it is not
pub data RefusesAnew (port : PortState) (medium : List ℕ) : ReopenError → Type 0 where
  NoMedium : (why : MediumError) → port.origin ≢ 0 → RefusesMedium medium why → RefusesAnew port medium (Medium (open_error why))
  Divided : (geometry : Geometry) → port.origin ≢ 0 → IsMedium geometry medium → (layout_of geometry ≡ port.device.store.layout → ⊥)
      → RefusesAnew port medium OtherGeometry
  OtherSize : (geometry : Geometry) (found wanted : ℕ) → IsItsGeometry port medium geometry → found ≡ length medium → wanted ≡ port.origin + flash_size geometry → found ≢ wanted
      → RefusesAnew port medium (Medium (Size found wanted))
  NoMemory : (geometry : Geometry) → IsItsGeometry port medium geometry → length medium ≡ port.origin + flash_size geometry → RefusesAnew port medium (Medium Memory)

-- the port goes on over what the medium holds, where each record is one of the medium's. A refusal changes nothing
abbrev pub Fails : (medium : List ℕ) → PortState → Result (Unit {0}) ReopenError → PortState → Type 0
Fails medium old (Ok done) new =
    (opened : PortState) × OpenedAnew old medium opened × (new ≡ record old { device = ended_with opened.device.store old.device; made = nothing_made })
Fails medium old (Err error) new = RefusesAnew old medium error × (new ≡ old)

-- a device that ended what was begun by FAILED, and has begun nothing since
pub record HasFailed (device : DeviceState) : Type 0 where
  pub still : IsStill device
  pub none_begun : device.operation ≡ None
  pub status_is : device.status ≡ Failed
