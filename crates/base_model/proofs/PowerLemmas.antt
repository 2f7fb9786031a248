-- Calls that find a flash with power and don't restart it, one after another.
use Rattle.std.proofs.Common.{◌≡◌, refl, ◌∙◌}
use Rattle.base_model.specs.Flash.{FlashState, StaysPowered}

pub lit_none : (flash : FlashState) → StaysPowered flash flash
lit_none flash = record { restarts = refl; unpowered = λ on. refl }

pub lit_then : (old mid new : FlashState) → mid.powered ≡ old.powered → StaysPowered old mid → StaysPowered mid new → StaysPowered old new
lit_then old mid new power first second = record {
  restarts = second.restarts ∙ first.restarts;
  unpowered = λ on. second.unpowered (power ∙ on) ∙ first.unpowered on;
}
