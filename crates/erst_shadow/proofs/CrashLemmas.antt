-- What power lost in a command leaves: the store is the same on the machines beside.
use Rattle.std.proofs.Common.{◌≡◌, ◌∙◌, ℕ, List, Result, sym, ap, subst}
use Rattle.record_model.specs.RecordMap.{Command, after}
use Rattle.record_store.specs.Store.{StoreView, KeepsMap, abandoned, KeepsOrMakes, stored}
use Rattle.erst_client.specs.declared.errors.ClientError.{ClientError}
use Rattle.erst_client.specs.declared.requests.Request.{Request}
use Rattle.erst_client.specs.Sequences.{dummy_requests}
use Rattle.erst_machine.specs.MachineState.{MachineState}
use Rattle.erst_commands.specs.Changes.{ChangeCommand, IsTaken, IsRefused, IsFailed, IsStopped, DummyCommand, IsPlayed, IsCut}
use Rattle.erst_commands.specs.Reads.{ReadMade, IsRead, IsRefused as read_refused, IsFailed as read_failed, ReadCommand, Answers, StopsBehind, StopsBefore}
use Rattle.erst_shadow.specs.ShadowCommands.{ShadowChange, ShadowDummy, ShadowRead}

own_change_crash : (first last : MachineState) (id : ℕ) (command : Command) (requests : List Request) (budget : ℕ) (result : Result (Unit {0}) ClientError)
    (left : ℕ) → ChangeCommand first last id command requests budget result left
    → KeepsOrMakes first.device.store last.device.store (after first.device.store.layout command (stored first.device.store))
own_change_crash first last id command requests budget result left change =
    elim change as (λ result left change. KeepsOrMakes first.device.store last.device.store (after first.device.store.layout command (stored first.device.store))) [
      | IsTaken pauses left taken now made spent ↦ made.leaves.crash
      | IsRefused refusal error left refused is now made spent ↦ made.leaves.crash
      | IsFailed pauses left usable rose either leaves few spent ↦ leaves.crash
      | IsStopped pauses leaves few short ↦ leaves.crash
    ]

pub change_crash : (pieces : ℕ) (first last : MachineState) (id : ℕ) (command : Command) (requests : List Request) (budget : ℕ) (result : Result (Unit {0}) ClientError) (left : ℕ)
    → ShadowChange pieces first last id command requests budget result left → KeepsOrMakes first.device.store last.device.store (after first.device.store.layout command (stored first.device.store))
change_crash pieces first last id command requests budget result left change =
    let own = own_change_crash change.own_first change.own_last id command requests change.own_budget result change.own_left change.own in
    let from = ap (λ (m : MachineState). m.device.store) change.first_is in
    let to = ap (λ (m : MachineState). m.device.store) change.last_is in
    subst (λ (s : StoreView). KeepsOrMakes first.device.store s (after first.device.store.layout command (stored first.device.store))) (sym to)
    (subst (λ (s : StoreView). KeepsOrMakes s change.own_last.device.store (after s.layout command (stored s))) from own)

read_made_crash : (first last : MachineState) (id : ℕ) (result : Result (Unit {0}) ClientError) → ReadMade first last id result → KeepsMap first.device.store last.device.store
read_made_crash first last id result made = elim made as (λ result made. KeepsMap first.device.store last.device.store) [
  | IsRead found body generation asked named stored fits range cursor ↦ asked.looked.kept
  | read_refused refusal error asked refused is range cursor ↦ asked.looked.kept
  | read_failed leaves rose range cursor ↦ leaves.kept
]

own_read_crash : (first last : MachineState) (id budget : ℕ) (result : Result (Unit {0}) ClientError) (left : ℕ) → ReadCommand first last id budget result left
    → KeepsMap first.device.store last.device.store
own_read_crash first last id budget result left read = elim read as (λ result left read. KeepsMap first.device.store last.device.store) [
  | Answers result left made spent ↦ read_made_crash first last id result made
  | StopsBehind result made reached short ↦ read_made_crash first last id result made
  | StopsBefore leaves range cursor early short ↦ leaves.kept
]

pub read_crash : (pieces : ℕ) (first last : MachineState) (id budget : ℕ) (result : Result (Unit {0}) ClientError) (left : ℕ) →
    ShadowRead pieces first last id budget result left → KeepsMap first.device.store last.device.store
read_crash pieces first last id budget result left read =
    let own = own_read_crash read.own_first read.own_last id read.own_budget result read.own_left read.own in
    let from = ap (λ (m : MachineState). m.device.store) read.first_is in
    let to = ap (λ (m : MachineState). m.device.store) read.last_is in
    subst (λ (s : StoreView). KeepsMap first.device.store s) (sym to) (subst (λ (s : StoreView). KeepsMap s read.own_last.device.store) from own)

own_dummy_store : (first last : MachineState) (budget : ℕ) (result : Result (Unit {0}) ClientError) (left : ℕ) → DummyCommand first last dummy_requests budget
    result left → last.device.store ≡ abandoned first.device.store
own_dummy_store first last budget result left dummy = elim dummy as (λ result left dummy. last.device.store ≡ abandoned first.device.store) [
  | IsPlayed left leaves spent ↦ leaves.store
  | IsCut leaves short ↦ leaves.store
]

pub dummy_store : (pieces : ℕ) (first last : MachineState) (budget : ℕ) (result : Result (Unit {0}) ClientError) (left : ℕ) →
    ShadowDummy pieces first last budget result left → last.device.store ≡ abandoned first.device.store
dummy_store pieces first last budget result left dummy =
    let own = own_dummy_store dummy.own_first dummy.own_last dummy.own_budget result dummy.own_left dummy.own in
    ap (λ (m : MachineState). m.device.store) dummy.last_is ∙ own ∙ ap (λ (m : MachineState). abandoned m.device.store) dummy.first_is
