-- The constructors of the relations, for the search to take.
use Rattle.erst_interp.specs.Runs.{HasEntry, NeedsNone, Begun, Then, NoProgram, Finishes, Exhausted, Halts}
use Rattle.erst_interp.specs.Continuing.{IsUnknown, IsDone, IsGoto, IsStall, HasNoRegister, HasRegister}
use Rattle.erst_interp.specs.Told.{IsOver, IsUnpaid, IsPaid, IsEnded, IsBegun, Here, Further}

pub ruleset runs = (HasEntry, NeedsNone, Begun, Then, NoProgram, Finishes, Exhausted, Halts)

pub ruleset beginnings = (IsUnknown, IsDone, IsGoto, IsStall, HasNoRegister, HasRegister)

pub ruleset turns = (IsOver, IsUnpaid, IsPaid)

pub ruleset comings = (IsEnded, IsBegun, Here, Further)
