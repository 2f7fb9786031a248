-- What is seen of the driver's flash. It tells no content: that it holds what was programmed is a premise.
use Rattle.std.specs.Prelude.{true, [], length}
use Rattle.base_model.specs.Flash.{FlashState}
use Rattle.driver_example.specs.declared.driver_flash.DriverFlash.{DriverFlash}

abbrev pub state_of : DriverFlash → FlashState
state_of flash = record {
  told = record { past = []; image = [] };
  size = length flash.driver.bytes.items;
  sector_size = flash.driver.sector;
  steps =
      flash.steps;
  reads = flash.reads;
  faults = flash.faults;
  powered = true;
  unpowered = 0;
  restarts = flash.restarts;
}
