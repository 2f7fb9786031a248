-- What fits an option's text.
use Rattle.std.proofs.Common.{◌≡◌, ℕ, Option, Some, None, sym, ◌∙◌}
use Rattle.clap.specs.Words.{Text}
use Rattle.apei_cli.proofs.DecimalLemmas.{IsNumber, number_some}
use Rattle.apei_cli.specs.Decimals.{number_in}
use Rattle.apei_cli.specs.Plan.{IsCount, IsGiven, IsGivenOr}
use Rattle.apei_cli.specs.declared.job.Job.{Job}

-- where a text is no number of an option, it is none with a default
pub none_or : (default most : ℕ) (text : Option Text) → ((n : Option ℕ) → ¬ IsGiven most text n) → (n : ℕ) → ¬ IsGivenOr default most text n
none_or default most None none n is = none None tt
none_or default most (Some text) none n is = none (Some n) is

pub no_count : (job : Job) (text : Option Text) → ((n : Option ℕ) → ¬ IsGiven 100000 text n) → (n : ℕ) → ¬ IsCount job text n
no_count job None none n is = none None tt
no_count job (Some text) none n is = none (Some n) is

-- a text is one number
pub one_number : (text : Text) (m n : ℕ) → number_in text ≡ Some m → IsNumber text n → n ≡ m
one_number text m n is number =
    let same : Some n ≡ Some m = sym (number_some text n number) ∙ is in
    cc
