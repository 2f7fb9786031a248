-- What is seen of a flash in a file. It tells no content, so the content in its state says nothing.
use Rattle.std.specs.Prelude.{true, []}
use Rattle.base_model.specs.Flash.{FlashState}
use Rattle.file_flash.specs.Mediums.{size_of}
use Rattle.file_flash.specs.declared.file_flash.FileFlash.{FileFlash}

abbrev pub state_of : FileFlash → FlashState
state_of flash = record {
  told = record { past = []; image = [] };
  size = size_of flash.medium;
  sector_size = flash.sector;
  steps = flash.steps;
  reads = flash.reads;
  faults = flash.faults;
  powered = true;
  unpowered = 0;
  restarts = flash.restarts;
}
