-- What a run keeps from one instruction to the next.
use Rattle.std.specs.Prelude.{◌+◌, false, None}
use Rattle.erst_interp.specs.declared.configurations.Configuration.{Configuration}

-- place 0, no result, and zeros
abbrev pub begin : Configuration
begin = record { place = 0; result = None; var1 = 0; var2 = 0; source = 0; target = 0; stalling = false }

-- the next place, and not stalling
abbrev pub next : Configuration → Configuration
next c = record c { place = c.place + 1; stalling = false }
