-- Reads and stores of a register's field, over any space: `allows` relates the space before a call, the call with its
-- answer, and the space after it.
use Rattle.std.specs.Prelude.{◌≡◌, ℕ, Result, Ok, Err, bit_and}
use Rattle.apei_tables.specs.declared.registers.Register.{Register}
use Rattle.apei_tables.specs.Fields.{field, stored, merged}
use Rattle.apei_space.specs.declared.faults.SpaceFault.{SpaceFault}
use Rattle.apei_space.specs.Calls.{Call, Read, Write}
use Rattle.erst_entries.specs.declared.entries.Entry.{Entry}

-- one access reads the field, or is refused
pub data FieldRead {W : Type 0} (allows : W → Call → W → Type 0) (register : Register) (mask : ℕ) (old : W) : Result ℕ SpaceFault → W → Type 0 where
  Got : (number : ℕ) (new : W) → allows old (Read register.place register.access (Ok number)) new → FieldRead allows register mask old (Ok (field number register.offset mask)) new
  Refused : (fault : SpaceFault) (new : W) → allows old (Read register.place register.access (Err fault)) new → FieldRead allows register mask old (Err fault) new

-- a store writes the whole register, or with PRESERVE_REGISTER (flag bit 0) reads it first and keeps its other bits
pub data Store {W : Type 0} (allows : W → Call → W → Type 0) (register : Register) (entry : Entry) (value : ℕ) (old : W) : Result (Unit {0}) SpaceFault → W → Type 0 where
  Whole : (answer : Result (Unit {0}) SpaceFault) (new : W) → bit_and entry.flags 1 ≡ 0 →
      allows old (Write register.place register.access (stored value register.offset entry.mask) answer) new → Store allows register entry value old answer new
  Beside : (number : ℕ) (mid : W) (answer : Result (Unit {0}) SpaceFault) (new : W) → (bit_and entry.flags 1 ≡ 0 → ⊥) →
      allows old (Read register.place register.access (Ok number)) mid →
      allows mid (Write register.place register.access (merged number value register.offset entry.mask) answer) new → Store allows register entry value old answer new
  Unread : (fault : SpaceFault) (new : W) → (bit_and entry.flags 1 ≡ 0 → ⊥) →
      allows old (Read register.place register.access (Err fault)) new → Store allows register entry value old (Err fault) new
