-- What is seen of the flash. It tells its content, and it is never without power.
use Rattle.std.specs.Prelude.{ℕ, true, List, [], length}
use Rattle.base_model.specs.Flash.{FlashState}
use Rattle.erst_port.specs.declared.mirror.MirrorFlash.{MirrorFlash}

abbrev pub state_of : MirrorFlash → FlashState
state_of flash = record {
  told = record { past = flash.past.changes; image = flash.image.items };
  size = length flash.image.items;
  sector_size = flash.sector;
  steps = flash.steps;
  reads = flash.reads;
  faults = flash.faults;
  powered = true;
  unpowered = 0;
  restarts = flash.restarts;
}

-- a flash that made no change yet
abbrev pub first_state : (image : List ℕ) (sector : ℕ) → FlashState
first_state image sector = record {
  told = record { past = []; image = image };
  size = length image;
  sector_size = sector;
  steps = 0;
  reads = 0;
  faults = 0;
  powered = true;
  unpowered = 0;
  restarts = 0;
}
