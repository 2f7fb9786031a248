use Rattle.std.proofs.Common.{sym}
use Rattle.flash_model.proofs.sim_flash.SimFlashFlash.steps.Goals as goal

pub returns : goal.returns
returns c = rw (← c.self.view_is) (sym c.self.invariant.0)
