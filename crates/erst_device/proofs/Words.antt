-- Words that proofs alone need.
use Rattle.std.specs.Prelude.{◌≡◌, ℕ, ◌^◌, ◌<◌, Bool, true, false, is_some, if◌then◌else◌, List, Option, Some, None, IfSome, Result, IfOk}
use Rattle.record_model.specs.Records.{is_reserved}
use Rattle.record_store.specs.declared.errors.StoreError.{StoreError}
use Rattle.erst_device.specs.declared.registers.Operation.{Operation}
use Rattle.erst_device.specs.declared.registers.Operation.TheVariants.{Write, Read, Clear, Dummy}
use Rattle.erst_device.specs.Drafts.{draft_at}
use Rattle.erst_device.specs.DeviceState.{DeviceState, is_busy}

-- whether an execution runs
abbrev pub is_running : DeviceState → Bool
is_running state = if is_some state.reading then true else is_busy state.store.pending

-- whether the start of an operation asks the store
abbrev pub start_asks : Option Operation → DeviceState → List ℕ → Bool
start_asks begun state range = elim begun [
  | None ↦ false
  | Some operation ↦ elim operation [
    | Write ↦ is_some (draft_at state.offset range)
    | Read ↦ true
    | Clear ↦ if is_reserved state.id then false else true
    | Dummy ↦ false
  ]
]

-- an identifier that a look finds is one that a record can have, and a number of 64 bits
abbrev pub IsAllowed : Result (Option ℕ) StoreError → Type 0
IsAllowed result = IfOk result (λ next. IfSome next (λ id. (is_reserved id ≡ false) × (id < 2 ^ 64)))
