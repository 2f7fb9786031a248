-- A client's record that is put into the memory of its log range.
use Rattle.std.proofs.Common.{◌≡◌, ℕ, List, length, Result, Ok, Err, ap, ◌∙◌}
use Rattle.std.specs.Prelude.{codes}
use Rattle.apei_space.specs.declared.faults.SpaceFault.{SpaceFault}
use Rattle.apei_space.specs.Calls.{WriteBytes}
use Rattle.erst_client.specs.declared.errors.ClientError.{ClientError}
use Rattle.erst_client.specs.declared.errors.ClientError.TheVariants.{Range}
use Rattle.erst_client.specs.Commands.{address_in, Puts, NotPut, NotMarked, IsPut}
use Rattle.erst_machine.specs.MachineState.{MachineState, IsMachine, location_of}
use Rattle.erst_machine.specs.Allowed.{Allows}
use Rattle.erst_machine.proofs.KeptLemmas.{kept_allowed}
use Rattle.erst_machine.proofs.CrashTrail.{stored_store}
use Rattle.apei_tables.specs.declared.registers.Place.TheVariants.{Memory}

-- it leaves the store alone and a machine one, and what refuses it is the space
pub record HasPut (old : MachineState) (result : Result (Unit {0}) ClientError) (new : MachineState) : Type 0 where
  pub store : new.device.store ≡ old.device.store
  pub machine : IsMachine old → IsMachine new
  pub by_space : (error : ClientError) → result ≡ Err error → (fault : SpaceFault) × (error ≡ Range fault)

same_error : (one other : ClientError) → ◌≡◌ {A = Result (Unit {0}) ClientError} (Err one) (Err other) → other ≡ one
same_error one other e = cc

module _ (tells : Type 0) where
  put_store : (old new : MachineState) (at : ℕ) (bytes : List ℕ) (answer : Result (Unit {0}) SpaceFault) → Allows tells old (WriteBytes at bytes answer) new → new.device.store ≡ old.device.store
  put_store old new at bytes answer allowed = ap (λ (m : MachineState). m.device.store) allowed.1 ∙ stored_store (location_of old (Memory at) (length bytes)) old at bytes

  pub has_put : (address : ℕ) (bytes : List ℕ) (old : MachineState) (result : Result (Unit {0}) ClientError) (new : MachineState) →
      Puts (Allows tells) address bytes old result new → HasPut old result new
  has_put address bytes old result new puts = elim puts as (λ result new puts. HasPut old result new) [
    | NotPut fault last allowed ↦ record {
      store = put_store old last address bytes (Err fault) allowed;
      machine = kept_allowed tells old last (WriteBytes address bytes (Err fault)) allowed;
      by_space = λ error is. (fault, same_error (Range fault) error is);
    }
    | NotMarked mid fault last allowed marks ↦ record {
      store = put_store mid last (address_in address 108) (codes "ER") (Err fault) marks ∙ put_store old mid address bytes (Ok tt) allowed;
      machine = λ is. kept_allowed tells mid last (WriteBytes (address_in address 108) (codes "ER") (Err fault)) marks (kept_allowed tells old mid (WriteBytes address bytes (Ok tt)) allowed is);
      by_space = λ error is. (fault, same_error (Range fault) error is);
    }
    | IsPut mid last allowed marks ↦ record {
      store = put_store mid last (address_in address 108) (codes "ER") (Ok tt) marks ∙ put_store old mid address bytes (Ok tt) allowed;
      machine = λ is. kept_allowed tells mid last (WriteBytes (address_in address 108) (codes "ER") (Ok tt)) marks (kept_allowed tells old mid (WriteBytes address bytes (Ok tt)) allowed is);
      by_space = λ error is. absurd (cc is);
    }
  ]
