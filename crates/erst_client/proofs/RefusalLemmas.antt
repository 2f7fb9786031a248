-- What a client refuses by the bytes and the lengths alone, and what it has where it refuses none.
use Rattle.std.proofs.Common.{◌≡◌, ℕ, ◌-◌, ◌^◌, ◌≤◌, Bool, true, false, List, length, Option, Some, None, Result, Ok, Err, refl, subst, arith}
use Rattle.std.specs.Prelude.{nat_lt, if◌then◌else◌}
use Rattle.std.proofs.lemmas.Bool.Decides.{nat_tests}
use Rattle.cper_frame.specs.declared.error.FrameError.{FrameError}
use Rattle.cper_frame.specs.Reading.{checked}
use Rattle.erst_client.specs.declared.errors.ClientError.{ClientError}
use Rattle.erst_client.specs.declared.errors.ClientError.TheVariants.{NoSpace, Hardware, Failed, Empty, NotFound, TooLong, Status, Stopped, Range, Late}
use Rattle.erst_client.specs.Commands.{write_refusal, copy_refusal}
use Rattle.erst_client.specs.Causes.{OfError}
use Rattle.erst_client.proofs.Terms.{length_refusal, frame_refusal}

-- a refusal that is neither a status of the firmware, nor a stop, a fault of the range or a wait
abbrev pub is_own : ClientError → Bool
is_own NoSpace = false
is_own Hardware = false
is_own Failed = false
is_own Empty = false
is_own NotFound = false
is_own (Status found) = false
is_own (Stopped stop) = false
is_own (Range fault) = false
is_own (Late waited) = false
is_own error = true

abbrev none_other : Option ClientError → Bool
none_other None = true
none_other (Some error) = is_own error

of_some : (refusal : Option ClientError) (error : ClientError) → none_other refusal ≡ true → refusal ≡ Some error → is_own error ≡ true
of_some refusal error own is = subst (λ (r : Option ClientError). none_other r ≡ true) is own

frame_own : (verdict : Result ℕ FrameError) (have range : ℕ) → none_other (frame_refusal verdict have range) ≡ true
frame_own (Err error) have range = refl
frame_own (Ok len) have range = grind (arith, nat_tests)

pub write_own : (bytes : List ℕ) (range : ℕ) (error : ClientError) → write_refusal bytes range ≡ Some error → is_own error ≡ true
write_own bytes range error is = of_some (write_refusal bytes range) error (frame_own (checked (2 ^ 32 - 1) bytes) (length bytes) range) is

copies_own : (len range room : ℕ) → none_other (copy_refusal len range room) ≡ true
copies_own len range room = grind (arith, nat_tests)

pub copy_own : (len range room : ℕ) (error : ClientError) → copy_refusal len range room ≡ Some error → is_own error ≡ true
copy_own len range room error is = of_some (copy_refusal len range room) error (copies_own len range room) is

-- it is no fault
pub own_cause : (before after : ℕ) (error : ClientError) → is_own error ≡ true → OfError before after error
own_cause before after (Stopped stop) own = absurd (cc own)
own_cause before after (Range fault) own = absurd (cc own)
own_cause before after error own = tt

-- bytes that are not refused are as long as their record, and within the range
pub record Fits (len have range : ℕ) : Type 0 where
  pub whole : have ≤ len
  pub within : have ≤ range

pub length_fits : (len have range : ℕ) → length_refusal len have range ≡ None → Fits len have range
length_fits len have range is = record { whole = grind (arith, nat_tests); within = grind (arith, nat_tests) }

-- the bytes of a record of at most 4,296 are refused only where they go beyond the range
pub whole_refused : (len range : ℕ) → len ≤ 4296 → length_refusal len len range ≡ (if nat_lt range len then Some (TooLong len range) else None)
whole_refused len range few = grind (arith, nat_tests)

-- and bytes that are copied out are those of a record in the range, and fit the buffer
pub record Copies (len range room : ℕ) : Type 0 where
  pub least : 128 ≤ len
  pub within : len ≤ range
  pub fits : len ≤ room

pub copies : (len range room : ℕ) → copy_refusal len range room ≡ None → Copies len range room
copies len range room is = record { least = grind (arith, nat_tests); within = grind (arith, nat_tests); fits = grind (arith, nat_tests) }
