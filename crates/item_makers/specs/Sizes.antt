-- Why an item of so many bytes isn't made in a room of so many.
use Rattle.std.specs.Prelude.{ℕ, ◌^◌, nat_lt, if◌then◌else◌, Option, Some, None}
use Rattle.item_makers.specs.declared.error.MakeError.{MakeError}
use Rattle.item_makers.specs.declared.error.MakeError.TheVariants.{Long, Room}

abbrev pub refusal : (room size : ℕ) → Option MakeError
refusal room size =
    if nat_lt size (2 ^ 32) then (if nat_lt room size then Some (Room size) else None)
    else Some (Long size)
