-- The layout of a store of a geometry, and the flash that one fits.
use Rattle.std.specs.Prelude.{◌≡◌, ◌*◌}
use Rattle.base_model.specs.Flash.{FlashState}
use Rattle.base_model.specs.Layout.{Layout}
use Rattle.flash_model.specs.declared.geometry.Geometry.{Geometry}

abbrev pub layout_of : Geometry → Layout
layout_of geometry = record {
  sector = geometry.sector;
  per_slot = geometry.per_slot;
  slots = geometry.slots;
  slot_size = geometry.slot_size;
  product =
      geometry.product;
  least_sector = geometry.least_sector;
  few_sectors = geometry.few_sectors;
  few_slots = geometry.few_slots;
  many_slots = geometry.many_slots;
  least_slot = geometry.least_slot;
  greatest_slot = geometry.greatest_slot;
}

-- the flash has the geometry's size and sector size
pub record Fits (geometry : Geometry) (flash : FlashState) : Type 0 where
  pub size : flash.size ≡ geometry.slot_size * geometry.slots
  pub sector_size : flash.sector_size ≡ geometry.sector
