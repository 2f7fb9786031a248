-- One instruction, access by access: how it begins, which access it waits for, and how it goes on once that was answered.
use Rattle.std.specs.Prelude.{◌≡◌, ℕ, ◌+◌, ◌-◌, ◌%◌, ◌^◌, ◌==◌, nat_le, nat_lt, if◌then◌else◌, Bool, true, None, Result, Ok, Err, bit_and}
use Rattle.apei_tables.specs.declared.registers.Register.{Register}
use Rattle.apei_tables.specs.declared.registers.BadRegister.{BadRegister}
use Rattle.apei_tables.specs.Check.{checked}
use Rattle.apei_tables.specs.Fields.{field, stored, merged}
use Rattle.apei_space.specs.declared.faults.SpaceFault.{SpaceFault}
use Rattle.erst_entries.specs.Instructions.{instruction_of}
use Rattle.erst_interp.specs.declared.configurations.Configuration.{Configuration}
use Rattle.erst_interp.specs.declared.configurations.Task.{Task}
use Rattle.erst_interp.specs.declared.demands.Demand.{Demand}
use Rattle.erst_interp.specs.declared.demands.Demand.TheVariants.{Load, Store as StoreDemand, Pause, Move}
use Rattle.erst_interp.specs.declared.states.Awaited.{Awaited}
use Rattle.erst_interp.specs.declared.states.Awaited.TheVariants.{Stall, Delay, Compared, Taken, Changed, Kept, Written, Offset, Copied}
use Rattle.erst_interp.specs.declared.states.Progress.{Progress}
use Rattle.erst_interp.specs.declared.states.Progress.TheVariants.{Done, Awaits, Stopped}
use Rattle.erst_interp.specs.declared.works.FieldUse.TheVariants.{Take, Change}
use Rattle.erst_interp.specs.declared.works.Access.{Access}
use Rattle.erst_interp.specs.declared.works.Access.TheVariants.{Field, Store, Compare, Copy}
use Rattle.erst_interp.specs.declared.stops.RunStop.TheVariants.{Register as BadRegion, UnknownInstruction, Goto as GotoOutside, MoveTooLong, Space, Budget}
use Rattle.erst_interp.specs.Configurations.{next}
use Rattle.erst_interp.specs.Instructions.{GoOn, GoTo, WaitFor, HasWork}
use Rattle.erst_interp.specs.Works.{taken, changed, access_meaning}
use Rattle.erst_interp.specs.Steps.{blocks}

-- the access itself
abbrev pub demand_of : Task → Awaited → Demand
demand_of task (Stall micros) = Pause micros
demand_of task (Delay register) = Pause task.at.var1
demand_of task (Compared register) = Load register.place register.access
demand_of task (Taken register how) = Load register.place register.access
demand_of task (Changed register how) = Load register.place register.access
demand_of task (Kept register value) = Load register.place register.access
demand_of task (Written register number) = StoreDemand register.place register.access number
demand_of task (Offset register) = Load register.place register.access
demand_of task (Copied source target len) = Move source target len

-- the first access of a store: with PRESERVE_REGISTER (flag bit 0) the register is read before it is written
abbrev pub storing : Task → Register → ℕ → Awaited
storing task register value =
    if bit_and task.entry.flags 1 == 0 then Written register (stored value register.offset task.entry.mask) else Kept register value

-- the first access of the work on a register
abbrev pub first_access : Task → Register → Access → Awaited
first_access task register (Field (Take how)) = Taken register how
first_access task register (Field (Change how)) = Changed register how
first_access task register (Store value) = storing task register value
first_access task register Compare = if task.at.stalling then Delay register else Compared register
first_access task register Copy = Offset register

-- GOTO
abbrev pub gone : Task → ℕ → Progress
gone task to = if nat_lt to task.len then Done (record (next task.at) { place = to }) else Stopped (GotoOutside task.at.place to)

-- how an instruction begins, whose first step was taken
pub data Begins (task : Task) : Progress → Type 0 where
  IsUnknown : instruction_of task.entry.code ≡ None → Begins task (Stopped (UnknownInstruction task.at.place task.entry.code))
  IsDone : (d : Configuration) → HasWork task (GoOn d) → Begins task (Done d)
  IsGoto : (to : ℕ) → HasWork task (GoTo to) → Begins task (gone task to)
  IsStall : (micros : ℕ) → HasWork task (WaitFor micros) → Begins task (Awaits (Stall micros))
  HasNoRegister : (access : Access) (why : BadRegister) → HasWork task (access_meaning access task) → checked task.entry.region ≡ Err why →
      Begins task (Stopped (BadRegion task.at.place why))
  HasRegister : (access : Access) (register : Register) → HasWork task (access_meaning access task) → checked task.entry.region ≡ Ok register →
      Begins task (Awaits (first_access task register access))

-- MOVE_DATA once its field was read, and the steps that are left of those before
abbrev pub located : Task → ℕ → ℕ → Progress × ℕ
located task left x =
    if nat_lt 65536 task.at.var2 then (Stopped (MoveTooLong task.at.place task.at.var2), left)
    else (if nat_le (blocks task.at.var2) left
    then (Awaits (Copied ((task.at.source + x) % 2 ^ 64) ((task.at.target + x) % 2 ^ 64) task.at.var2), left - blocks task.at.var2)
    else (Stopped Budget, left - blocks task.at.var2))

-- STALL_WHILE_TRUE stays while its field is equal, and waits before it compares again
abbrev pub compared : Task → ℕ → Configuration
compared task x = if x == task.entry.value then record task.at { stalling = true } else next task.at

-- how an instruction goes on after an access that was made, and the steps that are left then
abbrev pub heard : Task → Awaited → ℕ → ℕ → Progress × ℕ
heard task (Stall micros) left number = (Done (next task.at), left)
heard task (Delay register) left number = (Awaits (Compared register), left)
heard task (Compared register) left number = (Done (compared task (field number register.offset task.entry.mask)), left)
heard task (Taken register how) left number = (Done (taken how task (field number register.offset task.entry.mask)), left)
heard task (Changed register how) left number = (Awaits (storing task register (changed how task (field number register.offset task.entry.mask))), left)
heard task (Kept register value) left number = (Awaits (Written register (merged number value register.offset task.entry.mask)), left)
heard task (Written register sent) left number = (Done (next task.at), left)
heard task (Offset register) left number = located task left (field number register.offset task.entry.mask)
heard task (Copied source target len) left number = (Done (next task.at), left)

-- and after one that was refused, which a wait can't be
abbrev pub refused : Task → Awaited → SpaceFault → Progress
refused task (Stall micros) fault = Done (next task.at)
refused task (Delay register) fault = Awaits (Compared register)
refused task awaited fault = Stopped (Space task.at.place fault)

abbrev pub resumed : Task → Awaited → ℕ → Result ℕ SpaceFault → Progress × ℕ
resumed task awaited left (Ok number) = heard task awaited left number
resumed task awaited left (Err fault) = (refused task awaited fault, left)

-- the field of its register begins within 64 bits
abbrev pub is_near : Awaited → Bool
is_near (Stall micros) = true
is_near (Delay register) = nat_lt register.offset 64
is_near (Compared register) = nat_lt register.offset 64
is_near (Taken register how) = nat_lt register.offset 64
is_near (Changed register how) = nat_lt register.offset 64
is_near (Kept register value) = nat_lt register.offset 64
is_near (Written register number) = nat_lt register.offset 64
is_near (Offset register) = nat_lt register.offset 64
is_near (Copied source target len) = true

abbrev pub is_sound : Progress → Bool
is_sound (Done d) = true
is_sound (Awaits awaited) = is_near awaited
is_sound (Stopped stop) = true

-- how many accesses the instruction still makes at most
abbrev pub awaited_rank : Awaited → ℕ
awaited_rank (Stall micros) = 1
awaited_rank (Delay register) = 2
awaited_rank (Compared register) = 1
awaited_rank (Taken register how) = 1
awaited_rank (Changed register how) = 3
awaited_rank (Kept register value) = 2
awaited_rank (Written register number) = 1
awaited_rank (Offset register) = 2
awaited_rank (Copied source target len) = 1

abbrev pub rank : Progress → ℕ
rank (Done d) = 0
rank (Awaits awaited) = awaited_rank awaited
rank (Stopped stop) = 0
