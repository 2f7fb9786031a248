-- Calls on a handle, whatever it holds.
use Rattle.std.proofs.Common.{◌≡◌, ℕ, true, false, is_some, Option, Some, None, sym, subst, inl, inr}
use Rattle.apei_c.specs.declared.status.Status.{Status}
use Rattle.apei_c.specs.declared.status.Status.TheVariants.{Done, Closed, Open}
use Rattle.apei_c.specs.Statuses.{number_of}
use Rattle.apei_c.specs.Holding.{OnHeld, LooksAtHeld, GetsHeld, LosesHeld}

-- a call that was made on what a handle holds
pub on_held : {Held : Type 0} (old new : Option Held) (number : ℕ) (Call : Held → Status → Held → Type 0) (before after : Held) (status : Status)
    → old ≡ Some before → new ≡ Some after → number ≡ number_of status → Call before status after → OnHeld old number new Call
on_held {Held} old new number Call before after status old_is new_is number_is made =
    subst (λ (o : Option Held). OnHeld o number new Call) (sym old_is) (after, status, new_is, number_is, made)

-- a look at it
pub looks_at_held : {Held : Type 0} (old new : Option Held) (number : ℕ) (untouched : Type 0) (Answer : Held → Status → Type 0) (held : Held) (status : Status)
    → old ≡ Some held → new ≡ Some held → number ≡ number_of status → Answer held status → LooksAtHeld old number new untouched Answer
looks_at_held {Held} old new number untouched Answer held status old_is new_is number_is told =
    subst (λ (o : Option Held). LooksAtHeld o number new untouched Answer) (sym old_is) (status, new_is, number_is, told)

pub has_held : {Held : Type 0} (old new : Option Held) (number : ℕ) (untouched : Type 0) (Opened : Held → Type 0) (Refused : Status → Type 0)
    → is_some old ≡ true → new ≡ old → number ≡ number_of Open → untouched → GetsHeld untouched Opened Refused old number new
has_held (Some held) new number untouched Opened Refused taken same is left = (is, same, left)
has_held None new number untouched Opened Refused taken same is left = absurd (let e : false ≡ true = taken in cc)

pub gets_held : {Held : Type 0} (old new : Option Held) (number : ℕ) (untouched : Type 0) (Opened : Held → Type 0) (Refused : Status → Type 0) (held : Held)
    → is_some old ≡ false → new ≡ Some held → number ≡ number_of Done → Opened held → GetsHeld untouched Opened Refused old number new
gets_held (Some other) new number untouched Opened Refused held closed new_is is opened = absurd (let e : true ≡ false = closed in cc)
gets_held None new number untouched Opened Refused held closed new_is is opened = inl (is, (held, new_is, opened))

pub stays_empty : {Held : Type 0} (old new : Option Held) (number : ℕ) (untouched : Type 0) (Opened : Held → Type 0) (Refused : Status → Type 0) (status : Status)
    → is_some old ≡ false → new ≡ old → number ≡ number_of status → Refused status → GetsHeld untouched Opened Refused old number new
stays_empty (Some other) new number untouched Opened Refused status closed same is refused = absurd (let e : true ≡ false = closed in cc)
stays_empty None new number untouched Opened Refused status closed same is refused = inr ((status, is, refused), same)

pub loses_held : {Held : Type 0} (old new : Option Held) (number : ℕ) (held : Held) → old ≡ Some held → new ≡ None → number ≡ number_of Done → LosesHeld old number new
loses_held {Held} old new number held old_is new_is is = subst (λ (o : Option Held). LosesHeld o number new) (sym old_is) (is, new_is)

pub held_nothing : {Held : Type 0} (old new : Option Held) (number : ℕ) → old ≡ None → new ≡ None → number ≡ number_of Closed → LosesHeld old number new
held_nothing {Held} old new number old_is new_is is = subst (λ (o : Option Held). LosesHeld o number new) (sym old_is) (is, new_is)
