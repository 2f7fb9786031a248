-- When the flash of a port fails.
use Rattle.std.specs.Prelude.{◌≡◌, ◌-◌, ◌^◌, ◌<◌}
use Rattle.base_model.specs.Flash.{FlashState}

-- it has counted a fault only where no further change can be counted
abbrev pub FailsLast : FlashState → Type 0
FailsLast flash = 0 < flash.faults → flash.steps ≡ 2 ^ 64 - 1
