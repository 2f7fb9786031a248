-- Plain memory: its windows, the bytes that they hold, and how long it waited.
use Rattle.std.specs.Prelude.{◌≡◌, ℕ, ◌+◌, ◌-◌, ◌/◌, ◌^◌, min, nat_le, ◌==◌, if◌then◌else◌, List, length, Some, None, Result, Ok, Err, bit_and, bit_or}
use Rattle.base_model.specs.Bytes.{part, number_at, spelled, put_at}
use Rattle.apei_tables.specs.declared.registers.Place.{Place}
use Rattle.apei_tables.specs.declared.registers.Place.TheVariants.{Memory}
use Rattle.apei_tables.specs.Access.{bits}
use Rattle.apei_space.specs.declared.faults.SpaceFault.{SpaceFault}
use Rattle.apei_space.specs.declared.faults.SpaceFault.TheVariants.{Unmapped}
use Rattle.apei_space.specs.declared.windows.Window.{Window}
use Rattle.apei_space.specs.Calls.{Call, Read, Write, Wait, Copy, ReadBytes, WriteBytes}
use Rattle.apei_space.specs.Windows.{address_of, location, total, AreApart}

pub record RamState : Type 0 where
  pub windows : List Window
  pub bytes : List ℕ
  pub waited : ℕ

-- its windows are apart, and hold all its bytes
pub record FillsWindows (ram : RamState) : Type 0 where
  pub apart : AreApart ram.windows
  pub as_long : total ram.windows ≡ length ram.bytes

abbrev pub found : List Window → Place → ℕ → Result ℕ ℕ
found windows at n =
    if n == 0 then Ok 0
    else elim (location windows 0 at) [
      | None ↦ Err (address_of at)
      | Some location ↦ if nat_le n location.1 then Ok location.0 else Err (address_of at + location.1)
    ]

abbrev pub refused : Result ℕ ℕ → Result ℕ SpaceFault
refused (Ok start) = Ok start
refused (Err at) = Err (Unmapped at)

abbrev pub located : List Window → Place → ℕ → Result ℕ SpaceFault
located windows at n = refused (found windows at n)

-- a read of a number
abbrev pub number_in : Result ℕ SpaceFault → List ℕ → ℕ → Result ℕ SpaceFault
number_in (Ok start) bytes n = Ok (number_at bytes start n)
number_in (Err fault) bytes n = Err fault

-- what a store answers, and what it leaves: a fault nothing else than before
abbrev pub answer_of : Result ℕ SpaceFault → Result (Unit {0}) SpaceFault
answer_of (Ok start) = Ok tt
answer_of (Err fault) = Err fault

abbrev pub stored : Result ℕ SpaceFault → RamState → List ℕ → RamState
stored (Ok start) old others = record old { bytes = put_at old.bytes start others }
stored (Err fault) old others = old

-- a number in which some bits are kept, and then others set
abbrev pub changed : Result ℕ SpaceFault → RamState → ℕ → ℕ → ℕ → RamState
changed (Ok start) old n keep set = record old { bytes = put_at old.bytes start (spelled n (bit_or (bit_and (number_at old.bytes start n) keep) set)) }
changed (Err fault) old n keep set = old

-- a copy: the source is checked first
abbrev pub copied : Result ℕ SpaceFault → Result ℕ SpaceFault → ℕ → RamState → Result (Unit {0}) SpaceFault × RamState
copied (Err fault) target n old = (Err fault, old)
copied (Ok source) (Err fault) n old = (Err fault, old)
copied (Ok source) (Ok target) n old = (Ok tt, record old { bytes = put_at old.bytes target (part old.bytes source n) })

-- what a reader's buffer holds afterwards
abbrev pub filled : Result ℕ SpaceFault → List ℕ → List ℕ → List ℕ
filled (Ok start) bytes before = part bytes start (length before)
filled (Err fault) bytes before = before

-- before, a call with its answer, after
abbrev pub Allows : RamState → Call → RamState → Type 0
Allows old (Read at width answer) new =
    (answer ≡ number_in (located old.windows at (bits width / 8)) old.bytes (bits width / 8)) × (new ≡ old)
Allows old (Write at width value answer) new =
    let place = located old.windows at (bits width / 8) in
    (answer ≡ answer_of place) × (new ≡ stored place old (spelled (bits width / 8) value))
Allows old (Wait micros) new = new ≡ record old { waited = min (old.waited + micros) (2 ^ 64 - 1) }
Allows old (Copy from target len answer) new =
    let outcome = copied (located old.windows (Memory from) len) (located old.windows (Memory target) len) len old in
    (answer ≡ outcome.0) × (new ≡ outcome.1)
Allows old (ReadBytes at before after answer) new =
    let place = located old.windows (Memory at) (length before) in
    (answer ≡ answer_of place) × (after ≡ filled place old.bytes before) × (new ≡ old)
Allows old (WriteBytes at bytes answer) new =
    let place = located old.windows (Memory at) (length bytes) in
    (answer ≡ answer_of place) × (new ≡ stored place old bytes)
