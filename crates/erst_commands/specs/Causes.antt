-- What a client's call did to the flash's count of faults, and whether its steps and its time were enough.
use Rattle.std.specs.Prelude.{◌≡◌, ℕ, ◌≤◌, Result, Err}
use Rattle.base_model.specs.Faults.{Rose}
use Rattle.erst_interp.specs.declared.stops.RunStop.{RunStop}
use Rattle.erst_client.specs.declared.errors.ClientError.{ClientError}
use Rattle.erst_client.specs.declared.errors.ClientError.TheVariants.{Hardware, Stopped, Late}
use Rattle.erst_machine.specs.MachineState.{MachineState}

-- the count never falls, and a call is answered `Hardware` only where it rose
pub record HasItsCause {T : Type 0} (first last : MachineState) (result : Result T ClientError) : Type 0 where
  pub never_falls : first.device.store.flash.faults ≤ last.device.store.flash.faults
  pub hardware : result ≡ Err Hardware → Rose first.device.store.flash.faults last.device.store.flash.faults

-- and one that is neither stopped by a program nor late
pub record GoesThrough {T : Type 0} (result : Result T ClientError) : Type 0 where
  pub not_stopped : (stop : RunStop) → result ≡ Err (Stopped stop) → ⊥
  pub in_time : (waited : ℕ) → result ≡ Err (Late waited) → ⊥
