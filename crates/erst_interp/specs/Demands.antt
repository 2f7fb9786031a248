-- A demand, with its answer, as a call of a space.
use Rattle.std.specs.Prelude.{ℕ, Result, Ok, Err}
use Rattle.apei_space.specs.declared.faults.SpaceFault.{SpaceFault}
use Rattle.apei_space.specs.Calls.{Call, Read, Write, Wait, Copy}
use Rattle.erst_interp.specs.declared.demands.Demand.{Demand}
use Rattle.erst_interp.specs.declared.demands.Demand.TheVariants.{Load, Store, Pause, Move}

-- the answer of a call that answers no number
abbrev pub unnumbered : Result ℕ SpaceFault → Result (Unit {0}) SpaceFault
unnumbered (Ok number) = Ok tt
unnumbered (Err fault) = Err fault

-- a wait is one whatever is answered
abbrev pub call_of : Demand → Result ℕ SpaceFault → Call
call_of (Load place width) answer = Read place width answer
call_of (Store place width value) answer = Write place width value (unnumbered answer)
call_of (Pause micros) answer = Wait micros
call_of (Move source target len) answer = Copy source target len (unnumbered answer)
