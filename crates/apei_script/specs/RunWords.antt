-- The words of what stops a run of an action's program.
use Rattle.std.specs.Prelude.{ℕ, List, ◌++◌, codes, decimal}
use Rattle.apei_space.specs.declared.faults.SpaceFault.{SpaceFault}
use Rattle.apei_space.specs.declared.faults.SpaceFault.TheVariants.{Unmapped, BadAccess, NotMemory, Device}
use Rattle.erst_interp.specs.declared.stops.RunStop.{RunStop}
use Rattle.erst_interp.specs.declared.stops.RunStop.TheVariants.{Budget, Register, UnknownInstruction, Goto, MoveTooLong, NoAction, Space}

abbrev pub words_of_fault : SpaceFault → List ℕ
words_of_fault (Unmapped at) = codes "unmapped " ++ decimal at
words_of_fault (BadAccess at width) = codes "access " ++ decimal at
words_of_fault (NotMemory at) = codes "not-memory " ++ decimal at
words_of_fault Device = codes "device"

abbrev pub words_of_stop : RunStop → List ℕ
words_of_stop Budget = codes "budget"
words_of_stop (Register index why) = codes "register " ++ decimal index
words_of_stop (UnknownInstruction index code) = codes "unknown " ++ decimal index ++ codes " " ++ decimal code
words_of_stop (Goto index to) = codes "goto " ++ decimal index ++ codes " " ++ decimal to
words_of_stop (MoveTooLong index len) = codes "move " ++ decimal index ++ codes " " ++ decimal len
words_of_stop (NoAction code) = codes "no-action " ++ decimal code
words_of_stop (Space index fault) = codes "space " ++ decimal index ++ codes " " ++ words_of_fault fault
