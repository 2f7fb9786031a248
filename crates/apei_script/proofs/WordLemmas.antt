-- What the words of a reply say of the answer.
use Rattle.std.proofs.Common.{◌≡◌, ℕ, List, drop, Option, Some, None, Result, Ok, Err, refl, ap, ◌∙◌}
use Rattle.std.specs.Prelude.{codes}
use Rattle.erst_client.specs.declared.errors.ClientError.{ClientError}
use Rattle.erst_client.specs.declared.errors.ClientError.TheVariants.{Hardware}
use Rattle.apei_script.specs.ClientWords.{words_of_client}
use Rattle.apei_script.proofs.RefusalLemmas.{apart, told}
use Rattle.apei_script.specs.Words.{refused, words_of_write, words_of_read, words_of_clear, words_of_count, words_of_next, words_of_dummy}

-- two refusals
same_refusal : (xs ys : List ℕ) → refused xs ≡ refused ys → xs ≡ ys
same_refusal xs ys e = ap (λ (zs : List ℕ). drop 8 zs) e

-- a reply that is a refusal is of an error with these words
pub record Refuses {T : Type 0} (words : List ℕ) (result : Result T ClientError) : Type 0 where
  pub error : ClientError
  pub is : result ≡ Err error
  pub says : words_of_client error ≡ words

module _ (words : List ℕ) where
  of_error : {T : Type 0} (error : ClientError) → refused (words_of_client error) ≡ refused words → Refuses {T = T} words (Err error)
  of_error error e = record { error = error; is = refl; says = same_refusal (words_of_client error) words e }

  pub of_write : (bytes : List ℕ) (result : Result (Unit {0}) ClientError) → words_of_write bytes result ≡ refused words → Refuses words result
  of_write bytes (Ok done) e = absurd (apart _ _ e refl)
  of_write bytes (Err error) e = of_error error e

  pub of_read : (out : List ℕ) (result : Result ℕ ClientError) → words_of_read out result ≡ refused words → Refuses words result
  of_read out (Ok size) e = absurd (apart _ _ e refl)
  of_read out (Err error) e = of_error error e

  pub of_clear : (id : ℕ) (result : Result (Unit {0}) ClientError) → words_of_clear id result ≡ refused words → Refuses words result
  of_clear id (Ok done) e = absurd (apart _ _ e refl)
  of_clear id (Err error) e = of_error error e

  pub of_count : (result : Result ℕ ClientError) → words_of_count result ≡ refused words → Refuses words result
  of_count (Ok n) e = absurd (apart _ _ e refl)
  of_count (Err error) e = of_error error e

  pub of_next : (result : Result (Option ℕ) ClientError) → words_of_next result ≡ refused words → Refuses words result
  of_next (Ok (Some id)) e = absurd (apart _ _ e refl)
  of_next (Ok None) e = absurd (apart _ _ e refl)
  of_next (Err error) e = of_error error e

  pub of_dummy : (result : Result (Unit {0}) ClientError) → words_of_dummy result ≡ refused words → Refuses words result
  of_dummy (Ok done) e = absurd (apart _ _ e refl)
  of_dummy (Err error) e = of_error error e

-- a refusal for the flash is the error `Hardware`
pub failed : {T : Type 0} (result : Result T ClientError) → Refuses (codes "hardware") result → result ≡ Err Hardware
failed result refuses = refuses.is ∙ ap (λ (x : ClientError). Err x) ((told refuses.error).hardware refuses.says)
