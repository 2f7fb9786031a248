-- Parts of a MOVE_DATA, as proofs name them.
use Rattle.std.specs.Prelude.{ℕ, ◌+◌, ◌%◌, ◌^◌, Result, if◌then◌else◌, Bool, true}
use Rattle.apei_space.specs.declared.faults.SpaceFault.{SpaceFault}
use Rattle.apei_space.specs.Calls.{Call, Copy}
use Rattle.erst_interp.specs.declared.configurations.Configuration.{Configuration}
use Rattle.erst_interp.specs.Configurations.{next}

-- the longest MOVE_DATA, in bytes
abbrev pub move_limit : ℕ
move_limit = 65536

-- the copy of a MOVE_DATA whose field is x
abbrev pub copy_of : Configuration → ℕ → Result (Unit {0}) SpaceFault → Call
copy_of c x answer = Copy ((c.source + x) % 2 ^ 64) ((c.target + x) % 2 ^ 64) c.var2 answer

-- where STALL_WHILE_TRUE goes on after a comparison: it stays while its field is equal, and waits before it compares again
abbrev pub compared : Bool → Configuration → Configuration
compared equal c = if equal then record c { stalling = true } else next c
