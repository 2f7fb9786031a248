-- The words of a client's refusal tell it.
use Rattle.std.proofs.Common.{◌≡◌, ℕ, ◌+◌, ◌*◌, false, List, [], ◌∷◌, ◌++◌, drop, refl, ap, arith}
use Rattle.std.specs.Prelude.{codes, decimal, ◌==◌}
use Rattle.std.proofs.lemmas.Bool.Decides.{nat_tests}
use Rattle.erst_interp.specs.declared.stops.RunStop.{RunStop}
use Rattle.erst_client.specs.declared.errors.ClientError.{ClientError}
use Rattle.erst_client.specs.declared.errors.ClientError.TheVariants.{Hardware, Stopped, Late}
use Rattle.apei_script.specs.ClientWords.{words_of_client}
use Rattle.apei_script.specs.RunWords.{words_of_stop}

-- the first three codes of a text, as one number
abbrev pub first : List ℕ → ℕ
first [] = 0
first (x ∷ rest) = x

abbrev pub mark : List ℕ → ℕ
mark xs = first xs * 65536 + first (drop 1 xs) * 256 + first (drop 2 xs)

same_number : (a b : ℕ) → a ≡ b → (a == b) ≡ false → ⊥
same_number a b e apart = grind (arith, nat_tests)

-- two texts that begin otherwise
pub apart : (xs ys : List ℕ) → xs ≡ ys → (mark xs == mark ys) ≡ false → ⊥
apart xs ys e other = same_number (mark xs) (mark ys) (ap mark e) other

abbrev of_hardware : List ℕ
of_hardware = codes "hardware"

-- what the words of a refusal tell of it
pub record IsTold (error : ClientError) : Type 0 where
  pub hardware : words_of_client error ≡ of_hardware → error ≡ Hardware
  pub stopped : (stop : RunStop) → words_of_client error ≡ codes "stopped " ++ words_of_stop stop → (why : RunStop) × (error ≡ Stopped why)
  pub late : (time : ℕ) → words_of_client error ≡ codes "late " ++ decimal time → (waited : ℕ) × (error ≡ Late waited)

-- words that begin otherwise than those three
other : (error : ClientError) → (mark (words_of_client error) == mark (codes "har")) ≡ false → (mark (words_of_client error) == mark (codes "sto")) ≡ false
    → (mark (words_of_client error) == mark (codes "lat")) ≡ false → IsTold error
other error not_hardware not_stopped not_late = record {
  hardware = λ e. absurd (apart (words_of_client error) of_hardware e not_hardware);
  stopped = λ stop e. absurd (apart (words_of_client error) (codes "stopped " ++ words_of_stop stop) e not_stopped);
  late = λ time e. absurd (apart (words_of_client error) (codes "late " ++ decimal time) e not_late);
}

pub told : (error : ClientError) → IsTold error
told Hardware = record {
  hardware = λ e. refl;
  stopped = λ stop e. absurd (apart of_hardware (codes "stopped " ++ words_of_stop stop) e refl);
  late = λ time e. absurd (apart of_hardware (codes "late " ++ decimal time) e refl);
}
told (Stopped why) = record {
  hardware = λ e. absurd (apart (words_of_client (Stopped why)) of_hardware e refl);
  stopped = λ stop e. (why, refl);
  late = λ time e. absurd (apart (words_of_client (Stopped why)) (codes "late " ++ decimal time) e refl);
}
told (Late waited) = record {
  hardware = λ e. absurd (apart (words_of_client (Late waited)) of_hardware e refl);
  stopped = λ stop e. absurd (apart (words_of_client (Late waited)) (codes "stopped " ++ words_of_stop stop) e refl);
  late = λ time e. (waited, refl);
}
told error = other error refl refl refl
