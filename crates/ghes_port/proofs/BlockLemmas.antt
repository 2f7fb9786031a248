-- A block that is not refused is exactly one.
use Rattle.std.proofs.Common.{◌≡◌, ◌∙◌, ℕ, ◌-◌, ◌≤◌, inl, inr, Bool, true, false, nat_lt, if◌then◌else◌, Some, None, Result, Ok, Err, List, length, refl, ap, arith}
use Rattle.std.proofs.lemmas.Grind.{common_steps}
use Rattle.std.proofs.lemmas.Bool.{cases_lt}
use Rattle.base_model.specs.Bytes.{AreBytes}
use Rattle.ghes_block.specs.declared.error.BlockError.{BlockError}
use Rattle.ghes_block.specs.Reading.{checked}
use Rattle.ghes_block.proofs.Blocks.{passed}
use Rattle.ghes_ack.specs.Machine.{Fits}
use Rattle.ghes_ack.specs.Submissions.{refusal_of}
use Rattle.ghes_ack.specs.declared.submission.SubmitError.TheVariants.{Long, Malformed, Trailing, Full}
use Rattle.ghes_port.specs.Machine.{IsGood}

whole_of : (len : ℕ) (block : List ℕ) → refusal_of len block 0 ≡ None → checked block ≡ Ok (length block)
whole_of len block none = go (nat_lt len (length block)) (checked block) refl none
  where
    ended : (size : ℕ) (short : Bool) → checked block ≡ Ok size → nat_lt size (length block) ≡ short → (if short then Some (Trailing (length block - size)) else None) ≡ None
        → checked block ≡ Ok (length block)
    ended size true is test none = absurd (let e : Some (Trailing (length block - size)) ≡ None = none in cc)
    ended size false is test none =
        let sized = passed block size is in
        let fits = sized.0.there in
        let length_is = sized.1 in
        let long : length block ≤ size = elim (cases_lt size (length block)) [ inl below ↦ grind (arith, common_steps, test, below) | inr above ↦ above ] in
        is ∙ ap Ok (omega (arith, fits, length_is, long))

    go : (long : Bool) (r : Result ℕ BlockError) → checked block ≡ r
        → (if long then Some (Long (length block)) else elim r [
          | Err error ↦ Some (Malformed error)
          | Ok size ↦ if nat_lt size (length block) then Some
              (Trailing (length block - size)) else if nat_lt 0 64 then None else Some Full
        ]) ≡ None
        → checked block ≡ Ok (length block)
    go true r is none = absurd (let e : Some (Long (length block)) ≡ None = none in cc)
    go false (Err error) is none = absurd (let e : Some (Malformed error) ≡ None = none in cc)
    go false (Ok size) is none = ended size (nat_lt size (length block)) is refl none

pub good_of : (len : ℕ) (block : List ℕ) → refusal_of len block 0 ≡ None → Fits len block → AreBytes block → IsGood len block
good_of len block none fits bytes = record { fits = fits; whole = whole_of len block none; bytes = bytes }
