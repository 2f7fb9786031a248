-- A port that has just been opened over its medium.
use Rattle.std.specs.Prelude.{◌≡◌, ℕ, ◌≤◌, length, drop}
use Rattle.flash_model.specs.declared.geometry.Geometry.{Geometry}
use Rattle.flash_model.specs.Layouts.{layout_of}
use Rattle.erst_port.specs.States.{first_state}
use Rattle.record_store.specs.Store.{KeepsRecordsOf}
use Rattle.erst_port.specs.Parts.{nothing_made}
use Rattle.erst_port.specs.PortState.{flash_of}
use Rattle.port_laws.specs.Calls.{Embedded}

-- the flash stands behind the first bytes of the medium, which has made none of the changes of the opening. Power lost at any of them
-- leaves the records that the medium has
pub record Begins (origin : ℕ) (geometry : Geometry) (first : Embedded) : Type 0 where
  pub room : origin ≤ length first.medium
  pub origin_is : first.port.origin ≡ origin
  pub made : first.port.made ≡ nothing_made
  pub layout : first.port.device.store.layout ≡ layout_of geometry
  pub kept : KeepsRecordsOf geometry (first_state (drop origin first.medium) geometry.sector) (flash_of first.port)
