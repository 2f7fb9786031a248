-- Laws of answers and of what causes a failure.
use Rattle.std.proofs.Common.{◌≡◌, ℕ, ◌≤◌, Result, Ok, Err, OnErr, sym, subst}
use Rattle.base_model.specs.Faults.{Rose, HasCause}

pub on_err : {T E P : Type 0} (r : Result T E) → P → OnErr r P
on_err (Ok x) p = tt
on_err (Err e) p = p

-- a failure has its cause, whatever else is answered with it
failed : {T E : Type 0} (before after : ℕ) (e : E) → before ≤ after → Rose before after → HasCause {T = T} {E = E} before after (Err e)
failed before after e never rose = record { never_falls = never; ok = tt; err = rose }

pub has_cause : {T E S D : Type 0} (start before after : ℕ) (r : Result T E) (e : E) (d : D) → before ≡ start → r ≡ Err e →
    HasCause {T = S} {E = D} before after (Err d) → HasCause {T = T} {E = E} start after r
has_cause {T} {E} {S} {D} start before after r e d same is cause =
    subst (λ (n : ℕ). HasCause {T = T} {E = E} n after r) same (subst (λ (x : Result T E). HasCause {T = T} {E = E} before after x) (sym is)
    (failed {T = T} {E = E} before after e cause.never_falls cause.err))

pub same_cause : {T E : Type 0} (start before after : ℕ) (r : Result T E) → before ≡ start → HasCause {T = T} {E = E} before after r → HasCause {T = T} {E = E} start after r
same_cause {T} {E} start before after r same cause = subst (λ (n : ℕ). HasCause {T = T} {E = E} n after r) same cause
