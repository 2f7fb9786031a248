-- Which work uses a register.
use Rattle.std.proofs.Common.{◌≡◌, true, refl}
use Rattle.erst_interp.specs.declared.configurations.Task.{Task}
use Rattle.erst_interp.specs.declared.works.FieldUse.TheVariants.{Take, Change}
use Rattle.erst_interp.specs.declared.works.Access.{Access}
use Rattle.erst_interp.specs.declared.works.Access.TheVariants.{Field, Store, Compare, Copy}
use Rattle.erst_interp.specs.Instructions.{uses_register}
use Rattle.erst_interp.specs.Works.{access_meaning}

pub uses_register-access : (access : Access) (task : Task) → uses_register (access_meaning access task) ≡ true
uses_register-access (Field (Take how)) task = refl
uses_register-access (Field (Change how)) task = refl
uses_register-access (Store value) task = refl
uses_register-access Compare task = refl
uses_register-access Copy task = refl
