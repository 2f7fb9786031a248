-- A program that moves bytes from one memory to another, 128 at a time (ACPI 6.4, section 18.5.1.2).
use Rattle.std.specs.Prelude.{ℕ, ◌-◌, ◌^◌, List, [], ◌∷◌}
use Rattle.erst_entries.specs.declared.actions.Action.{Action}
use Rattle.erst_entries.specs.declared.entries.Entry.{Entry}
pub use Rattle.erst_entries.specs.Actions.{plain_entry}
use Rattle.erst_machine.specs.OwnTables.{register_of}

-- what the program keeps in memory: how far it is, the two addresses, and how many bytes it copies at once
pub data MoveRegister : Type 0 where
  Offset Source Target Length : MoveRegister

-- each is 64 bits, one behind the other
abbrev pub address_of : MoveRegister → ℕ
address_of Offset = 0x1F80
address_of Source = 0x1F88
address_of Target = 0x1F90
address_of Length = 0x1F98

-- WRITE_REGISTER_VALUE: a number goes to a register
abbrev pub put_number : Action → MoveRegister → ℕ → Entry
put_number action r value = plain_entry action 0x3 (register_of 64 4 (address_of r)) value (2 ^ 64 - 1)

-- an instruction that reads or writes a whole register, and has no value of its own
abbrev pub use_register : Action → ℕ → MoveRegister → Entry
use_register action code r = plain_entry action code (register_of 64 4 (address_of r)) 0 (2 ^ 64 - 1)

-- the program, as an action's entries: it moves `size` bytes, a multiple of 128. Behind the four numbers the two addresses and the
-- length are taken (SET_SRC_ADDRESS_BASE, SET_DST_ADDRESS_BASE, LOAD_VAR2). Then come the rounds, from entry 7 on: MOVE_DATA at the
-- offset, to which the length is added (LOAD_VAR1, ADD, STORE_VAR1). SKIP_NEXT_INSTRUCTION_IF_TRUE leaves them once the offset is
-- the size, and GOTO begins the next one. ADD and GOTO use no register: their region is all zeros
unfoldable pub move_entries : Action → (from target size : ℕ) → List Entry
move_entries action from target size =
    put_number action Source from ∷ put_number action Target target ∷ put_number action Length 128 ∷ put_number action Offset 0
    ∷ use_register action 0x10 Source ∷ use_register action 0x11 Target ∷ use_register action 0x06 Length
    ∷ use_register action 0x12 Offset
    ∷ use_register action 0x05 Offset ∷ plain_entry action 0x08 (register_of 0 0 0) 0 0 ∷ use_register action 0x07 Offset
    ∷ plain_entry action 0x0E (register_of 64 4 (address_of Offset)) size (2 ^ 64 - 1) ∷ plain_entry action 0x0F (register_of 0 0 0) 7 0
    ∷ []
