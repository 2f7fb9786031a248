-- A handle gets a device, or loses it.
use Rattle.std.proofs.Common.{◌≡◌, ℕ, true, false, is_some, Option, Some, None, sym, subst, inl, inr}
use Rattle.erst_port.specs.PortState.{PortState}
use Rattle.apei_c.specs.declared.status.Status.{Status}
use Rattle.apei_c.specs.declared.status.Status.TheVariants.{Done, Closed, Open}
use Rattle.apei_c.specs.Statuses.{number_of}
use Rattle.apei_c.specs.Openings.{OpensBy, Closes}

pub has_one : (old new : Option PortState) (number : ℕ) (Opened : PortState → Type 0) (Refused : Status → Type 0)
    → is_some old ≡ true → new ≡ old → number ≡ number_of Open → OpensBy Opened Refused old number new
has_one (Some port) new number Opened Refused taken same is = (is, same)
has_one None new number Opened Refused taken same is = absurd (let e : false ≡ true = taken in cc)

pub gets_one : (old new : Option PortState) (number : ℕ) (Opened : PortState → Type 0) (Refused : Status → Type 0) (port : PortState)
    → is_some old ≡ false → new ≡ Some port → number ≡ number_of Done → Opened port → OpensBy Opened Refused old number new
gets_one (Some other) new number Opened Refused port closed new_is is opened = absurd (let e : true ≡ false = closed in cc)
gets_one None new number Opened Refused port closed new_is is opened = inl (is, (port, new_is, opened))

pub stays_without : (old new : Option PortState) (number : ℕ) (Opened : PortState → Type 0) (Refused : Status → Type 0) (status : Status)
    → is_some old ≡ false → new ≡ old → number ≡ number_of status → Refused status → OpensBy Opened Refused old number new
stays_without (Some other) new number Opened Refused status closed same is refused = absurd (let e : true ≡ false = closed in cc)
stays_without None new number Opened Refused status closed same is refused = inr ((status, is, refused), same)

pub closes_one : (old new : Option PortState) (number : ℕ) (port : PortState) → old ≡ Some port → new ≡ None → number ≡ number_of Done → Closes old number new
closes_one old new number port old_is new_is is = subst (λ (o : Option PortState). Closes o number new) (sym old_is) (is, new_is)

pub closes_none : (old new : Option PortState) (number : ℕ) → old ≡ None → new ≡ None → number ≡ number_of Closed → Closes old number new
closes_none old new number old_is new_is is = subst (λ (o : Option PortState). Closes o number new) (sym old_is) (is, new_is)
