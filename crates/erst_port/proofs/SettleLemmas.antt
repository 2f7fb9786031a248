-- A poll that leaves VALUE as it was.
use Rattle.std.proofs.Common.{◌≡◌, ◌∙◌, ◌⊎◌, ℕ, Result, Ok, Err, inl, inr, sym, ap, subst}
use Rattle.erst_entries.specs.Actions.{code_of}
use Rattle.erst_entries.specs.declared.actions.Action.TheVariants.{CheckBusyStatus}
use Rattle.erst_port.specs.declared.errors.PortError.TheVariants.{Due}
use Rattle.erst_port.specs.Accesses.{ActsOn, ActionWritten, with_value}
use Rattle.erst_port.specs.PortState.{PortState}
use Rattle.erst_port.specs.Settling.{Polls}

pub polls : (old mid new : PortState) (code value : ℕ) → code ≡ code_of CheckBusyStatus → ActionWritten old code (Ok tt) mid → value ≡ old.device.value
    → new ≡ with_value value mid → Polls old (Ok tt) new
polls old mid new code value code_is (inl refused) value_is new_is = absurd (let other : Err Due ≡ Ok tt = sym refused.0 in cc)
polls old mid new code value code_is (inr taken) value_is new_is =
    (taken.1, (mid, subst (λ (n : ℕ). ActsOn old n mid) code_is taken.2, new_is ∙ ap (λ (n : ℕ). with_value n mid) value_is))
