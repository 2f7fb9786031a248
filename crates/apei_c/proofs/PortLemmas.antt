-- Calls on a handle.
use Rattle.std.proofs.Common.{◌≡◌, ℕ, Option, Some, sym, subst}
use Rattle.erst_port.specs.PortState.{PortState}
use Rattle.apei_c.specs.declared.status.Status.{Status}
use Rattle.apei_c.specs.Statuses.{number_of}
use Rattle.apei_c.specs.Handles.{OnPort, LooksAt}

-- a call that was made on the port of a handle
pub on_port : (old new : Option PortState) (number : ℕ) (Call : PortState → Status → PortState → Type 0) (before after : PortState) (status : Status)
    → old ≡ Some before → new ≡ Some after → number ≡ number_of status → Call before status after → OnPort old number new Call
on_port old new number Call before after status old_is new_is number_is made =
    subst (λ (o : Option PortState). OnPort o number new Call) (sym old_is) (after, status, new_is, number_is, made)

-- a look at it
pub looks_at : (old new : Option PortState) (number : ℕ) (untouched : Type 0) (Answer : PortState → Status → Type 0) (port : PortState) (status : Status)
    → old ≡ Some port → new ≡ Some port → number ≡ number_of status → Answer port status → LooksAt old number new untouched Answer
looks_at old new number untouched Answer port status old_is new_is number_is told =
    subst (λ (o : Option PortState). LooksAt o number new untouched Answer) (sym old_is) (status, new_is, number_is, told)
