-- Words that proofs alone need.
use Rattle.std.specs.Prelude.{◌≡◌, ◌⊎◌, ℕ, ◌+◌, ◌-◌, ◌≤◌, nat_le, nat_lt, if◌then◌else◌, List, [], ◌∷◌, length, Option, Some, None, Result, Ok, Err}
use Rattle.base_model.specs.Bytes.{part}
use Rattle.base_model.specs.Faults.{Rose}
use Rattle.base_model.specs.Flash.{Leaves}
use Rattle.record_model.specs.Records.{Stored}
use Rattle.record_store.specs.Store.{DividesAlike}
use Rattle.record_store.specs.declared.errors.StoreError.{StoreError}
use Rattle.record_store.specs.declared.errors.StoreError.TheVariants.{Flash as StoreFlash}
use Rattle.apei_tables.specs.declared.registers.Register.{Register as SpaceRegister}
use Rattle.apei_tables.specs.declared.registers.Place.TheVariants.{Memory}
use Rattle.apei_tables.specs.declared.widths.Width.TheVariants.{B32, B64}
use Rattle.apei_tables.specs.declared.structure.Gas.{Gas}
use Rattle.apei_space.specs.declared.windows.Window.{Window}
use Rattle.ghes_block.specs.declared.error.BlockError.{BlockError}
use Rattle.ghes_block.specs.Region.{IsLaidOut}
use Rattle.erst_entries.specs.Actions.{action_of}
use Rattle.erst_device.specs.Effects.{made_by_action}
use Rattle.erst_machine.specs.declared.areas.Area.{Area}
use Rattle.erst_machine.specs.declared.areas.Area.TheVariants.{Device, Scratch, LogRange, Handover, BootErrors}
use Rattle.erst_machine.specs.declared.areas.Location.{Location}
use Rattle.erst_machine.specs.declared.areas.Location.TheVariants.{Inside, Beyond}
use Rattle.erst_machine.specs.declared.areas.Register.{Register}
use Rattle.erst_machine.specs.declared.areas.Register.TheVariants.{Action}
use Rattle.erst_machine.specs.declared.errors.BootError.{BootError}
use Rattle.erst_machine.specs.declared.errors.FatalError.{FatalError}
use Rattle.erst_machine.specs.declared.errors.FatalError.TheVariants.{Malformed, Trailing, Region}
use Rattle.erst_machine.specs.Areas.{base_of}
use Rattle.erst_machine.specs.Memories.{blank, bytes_in}
use Rattle.erst_machine.specs.MachineState.{MachineState, records_of, told_of}
use Rattle.erst_machine.specs.OwnTables.{register_of, tell, told_actions}
use Rattle.erst_machine.specs.Shown.{shown_by}

-- the areas of memory
abbrev pub memory_areas : List Area
memory_areas = Device ∷ Scratch ∷ Handover ∷ BootErrors ∷ LogRange ∷ []

-- the one window of the handover's memory
abbrev pub shared_windows : List Window
shared_windows = blank.windows

-- the boot error region holds whole blocks and then zeros
abbrev pub IsLaid : List ℕ → Type 0
IsLaid region = (blocks : List (List ℕ)) × (left : ℕ) × IsLaidOut blocks left region

-- the answer of a restart as that of its store
abbrev pub store_answer : Result ℕ BootError → Result ℕ StoreError
store_answer result = elim result [ Ok n ↦ Ok n | Err error ↦ Err StoreFlash ]

-- why a block of n bytes is not laid where so many are left, by what was checked of it
abbrev pub unfit : Result ℕ BlockError → ℕ → ℕ → Option FatalError
unfit result n left = elim result [
  | Err error ↦ Some (Malformed error)
  | Ok size ↦ if nat_lt size n then Some (Trailing (n - size)) else (if nat_lt left n then Some (Region n) else None)
]

-- the records as a code in a register leaves them
abbrev pub made_at_register : Register → MachineState → ℕ → Stored
made_at_register register state code = elim register [ Action ↦ made_by_action (action_of code) state.device | other ↦ records_of state ]

-- one move: each image that power lost in it may leave shows the records before it, or as it leaves them without a fault; where no fault
-- was counted they are those. It makes at most one change
pub record IsOneMove (old : MachineState) (made : Stored) (new : MachineState) : Type 0 where
  pub leaves : Leaves (told_of old) (told_of new) (λ image. (shown_by old image ≡ records_of old) ⊎ (shown_by old image ≡ made))
  pub made_is : (Rose old.device.store.flash.faults new.device.store.flash.faults → ⊥) → records_of new ≡ made
  pub few : new.device.store.flash.steps ≤ old.device.store.flash.steps + 1
  pub never_falls : old.device.store.flash.faults ≤ new.device.store.flash.faults
  pub equivalent : DividesAlike old.device.store new.device.store

-- ACTION and VALUE, as the tables say them and as the space has them
abbrev pub action_register : Gas
action_register = register_of 32 3 (base_of Device)

abbrev pub action_at : SpaceRegister
action_at = record { place = Memory (base_of Device); access = B32; offset = 0 }

abbrev pub value_at : SpaceRegister
value_at = record { place = Memory (base_of Device + 8); access = B64; offset = 0 }

abbrev pub own_count : ℕ
own_count = 24 + length (tell told_actions)

-- the bytes that a copy takes
abbrev pub copied_from : Location → MachineState → ℕ → List ℕ
copied_from source state n = elim source [ Inside area start ↦ part (bytes_in area state.memory) start n | other ↦ [] ]

-- of n bytes from an address on, all are in the area, or the first that is not has this address
abbrev pub within : Area → ℕ → ℕ → ℕ → ℕ → Location
within area base size at n = if nat_le (at + n) (base + size) then Inside area (at - base) else Beyond area (base + size)
