-- One text behind another.
use Rattle.std.proofs.Common.{◌≡◌, ℕ, if◌then◌else◌, List, ◌++◌, Ok, Err, true≢false, sym, ap, ◌∙◌, append_assoc}
use Rattle.std.specs.Prelude.{Result, OnOk, IsErr, is_ok, String, string_bytes}
use Rattle.std.specs.declared.alloc.Global.{Global}
use Rattle.show_findings.specs.Sentences.{Adds, Grows, Tells}

pub both : (first second : List ℕ) (old mid new : String Global) → Adds first old mid → Adds second mid new → Adds (first ++ second) old new
both first second old mid new before after = after ∙ ap (λ (text : List ℕ). text ++ second) before ∙ append_assoc (string_bytes old) first second

pub joined : {T E : Type 0} (result : Result T E) (first second : List ℕ) (old mid new : String Global)
    → Adds first old mid → OnOk result (Adds second mid new) → OnOk result (Adds (first ++ second) old new)
joined (Ok value) first second old mid new before after = both first second old mid new before after
joined (Err error) first second old mid new before after = after

-- the same of a text behind which more may stand
pub joined_tells : {T E : Type 0} (result : Result T E) (first second : List ℕ) (old mid new : String Global)
    → Adds first old mid → OnOk result (Tells second mid new) → OnOk result (Tells (first ++ second) old new)
joined_tells (Ok value) first second old mid new before after = record {
  more = after.more;
  is = after.is ∙ ap (λ (text : List ℕ). text ++ after.more) (ap (λ (text : List ℕ). text ++ second) before ∙ append_assoc (string_bytes old) first second);
}
joined_tells (Err error) first second old mid new before after = after

-- and of one behind which something stands that is not said here
pub joined_grows : {T E : Type 0} (result : Result T E) (text : List ℕ) (old mid new : String Global)
    → Adds text old mid → OnOk result (Grows mid new) → OnOk result (Tells text old new)
joined_grows (Ok value) text old mid new before after = record {
  more = after.more;
  is = after.is ∙ ap (λ (bytes : List ℕ). bytes ++ after.more) before;
}
joined_grows (Err error) text old mid new before after = after

-- nothing is said where there was no memory
pub stopped : {T E : Type 0} (result : Result T E) (fact : Type 0) → IsErr result → OnOk result fact
stopped (Ok value) fact err = absurd (true≢false (sym err))
stopped (Err error) fact err = tt

pub pushed : {T E : Type 0} (result : Result T E) (text : List ℕ) (old new : String Global)
    → string_bytes new ≡ (if is_ok result then string_bytes old ++ text else string_bytes old) → OnOk result (Adds text old new)
pushed (Ok value) text old new is = is
pushed (Err error) text old new is = tt
