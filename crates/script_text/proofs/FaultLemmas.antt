-- Failures that are handed on.
use Rattle.std.proofs.Common.{◌≡◌, ℕ, Result, Err}
use Rattle.std.specs.Prelude.{IsErrAnd}
use Rattle.std.proofs.lemmas.Result.{err_from_is_err_and}
use Rattle.base_model.specs.Faults.{HasCause}
use Rattle.base_model.proofs.FaultLemmas.{has_cause}

-- a failure that `?` hands on has the cause that it had in the call
pub handed_on : {T E S D : Type 0} (Q : E → Type 0) (start before after : ℕ) (r : Result T E) (d : D) → IsErrAnd r Q → before ≡ start →
    HasCause {T = S} {E = D} before after (Err d) → HasCause {T = T} {E = E} start after r
handed_on Q start before after r d failed same cause = let p = err_from_is_err_and r failed in has_cause start before after r p.0 d same p.1 cause
