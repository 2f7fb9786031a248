-- What attaching to the machine's own table answers.
use Rattle.std.proofs.Common.{◌≡◌, ℕ, Result, Ok, Err, subst, arith}
use Rattle.erst_entries.specs.Layout.{Erst}
use Rattle.erst_client.specs.declared.errors.AttachError.{AttachError}
use Rattle.erst_client.specs.Attaching.{Attaches}
use Rattle.erst_client.specs.Commands.{ClientState}
use Rattle.erst_device.specs.Timings.{timings_of}
use Rattle.erst_machine.specs.MachineState.{MachineState}
use Rattle.erst_machine.specs.Allowed.{Allows}
use Rattle.erst_machine.specs.OwnTables.{own_erst}
use Rattle.erst_commands.specs.OwnPrograms.{with_value}
use Rattle.erst_commands.specs.Attached.{own_client, AttachesOwn}
use Rattle.erst_commands.specs.Theorems.{AttachingFindsItsClient}

module _ (tells : Type 0) (law : (first : MachineState) → AttachingFindsItsClient tells first) where
  pub attaches_own : (erst : Erst) (budget : ℕ) (first : MachineState) (result : Result ClientState AttachError) (left : ℕ) (last : MachineState) → erst ≡ own_erst → budget ≡ 64
      → Attaches (Allows tells) erst budget first result left last → AttachesOwn budget first result left last
  attaches_own erst budget first result left last is given attaches =
      law first (record { budget = budget; answer = result; left = left; last = last }) (omega arith)
      (subst (λ (e : Erst). Attaches (Allows tells) e budget first result left last) is attaches)

  pub never_fails : (erst : Erst) (budget : ℕ) (first : MachineState) (why : AttachError) (left : ℕ) (last : MachineState) → erst ≡ own_erst → budget ≡ 64
      → Attaches (Allows tells) erst budget first (Err why) left last → ⊥
  never_fails erst budget first why left last is given attaches = let never = (attaches_own erst budget first (Err why) left last is given attaches).result_is in cc never

  pub is_own : (erst : Erst) (budget : ℕ) (first : MachineState) (client : ClientState) (left : ℕ) (last : MachineState) → erst ≡ own_erst → budget ≡ 64
      → Attaches (Allows tells) erst budget first (Ok client) left last → (client ≡ own_client first) × (last ≡ with_value (timings_of first.device.store.layout) first)
  is_own erst budget first client left last is given attaches =
      let own = attaches_own erst budget first (Ok client) left last is given attaches in
      let same = own.result_is in
      (cc same, own.last_is)
