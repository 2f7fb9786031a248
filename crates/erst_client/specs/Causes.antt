-- When a client may answer a device's fault: only where the count of faults of its space rose.
use Rattle.std.specs.Prelude.{ℕ, ◌≤◌, Result, Ok, Err, IfErr}
use Rattle.base_model.specs.Faults.{Rose}
use Rattle.apei_space.specs.declared.faults.SpaceFault.{SpaceFault}
use Rattle.apei_space.specs.declared.faults.SpaceFault.TheVariants.{Device}
use Rattle.erst_interp.specs.declared.stops.RunStop.{RunStop}
use Rattle.erst_interp.specs.declared.stops.RunStop.TheVariants.{Space}
use Rattle.erst_client.specs.declared.errors.AttachError.{AttachError}
use Rattle.erst_client.specs.declared.errors.AttachError.TheVariants.{Stopped as CantAsk}
use Rattle.erst_client.specs.declared.errors.ClientError.{ClientError}
use Rattle.erst_client.specs.declared.errors.ClientError.TheVariants.{Stopped, Range}

abbrev pub OfFault : ℕ → ℕ → SpaceFault → Type 0
OfFault before after Device = Rose before after
OfFault before after fault = Unit {0}

abbrev pub OfStop : ℕ → ℕ → RunStop → Type 0
OfStop before after (Space index fault) = OfFault before after fault
OfStop before after stop = Unit {0}

abbrev pub OfError : ℕ → ℕ → ClientError → Type 0
OfError before after (Stopped stop) = OfStop before after stop
OfError before after (Range fault) = OfFault before after fault
OfError before after error = Unit {0}

abbrev pub OfAttaching : {T : Type 0} → ℕ → ℕ → Result T AttachError → Type 0
OfAttaching before after (Ok value) = Unit {0}
OfAttaching before after (Err (CantAsk stop)) = OfStop before after stop
OfAttaching before after (Err error) = Unit {0}

-- the count never falls, and rose where a device's fault is answered
pub record HasDeviceCause {T : Type 0} (before after : ℕ) (result : Result T ClientError) : Type 0 where
  pub never_falls : before ≤ after
  pub of_answer : IfErr result (OfError before after)

pub record HasAttachCause {T : Type 0} (before after : ℕ) (result : Result T AttachError) : Type 0 where
  pub never_falls : before ≤ after
  pub of_answer : OfAttaching before after result
