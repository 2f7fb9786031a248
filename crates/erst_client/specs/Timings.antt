-- How long an operation may take: the greatest time and the nominal one, in microseconds (ACPI 6.4, GET_EXECUTE_OPERATION_TIMINGS).
use Rattle.std.specs.Prelude.{ℕ, ◌+◌, ◌*◌, ◌/◌, ◌%◌, ◌^◌, min, Option, Some, None}

-- the high half of an answer is the greatest time, the low half the nominal one
abbrev pub timings_of : Option ℕ → Option (ℕ × ℕ)
timings_of None = None
timings_of (Some answer) = Some (answer / 2 ^ 32, answer % 2 ^ 32)

-- steps that are enough for a command of a firmware with these timings
abbrev pub enough_steps : Option (ℕ × ℕ) → ℕ
enough_steps None = 65536
enough_steps (Some timings) = min (1024 + 8 * (timings.0 / 10 + 2)) 1048576
