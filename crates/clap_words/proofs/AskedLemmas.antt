-- What is read of words that a command takes.
use Rattle.std.proofs.Common.{◌≡◌, ◌∙◌, List, Result, Ok, Err, sym, ap, subst}
use Rattle.std.specs.Prelude.{IfOk}
use Rattle.clap.specs.Words.{App, Row, Text, matches_of}
use Rattle.clap_words.specs.Commands.{NoneFits}
use Rattle.clap_words.specs.declared.error.WordsError.{WordsError}
use Rattle.clap_words.specs.declared.error.WordsError.TheVariants.{BadWords}

-- the rows that a command reads of the words are those that the command reads which it is
module _ {X : Type 0} (Is : List Row → X → Type 0) (Of : X → Type 0) (texts : List Text) (app the : App) (same : app ≡ the) (rows : List Row) (read : rows ≡ matches_of app texts) where
  rows_are : rows ≡ matches_of the texts
  rows_are = read ∙ ap (λ (a : App). matches_of a texts) same

  -- so what these say is asked for
  pub asked_for : ((x : X) → Is (matches_of the texts) x → Of x) → (result : Result X WordsError) → IfOk result (Is rows) → IfOk result Of
  asked_for made (Ok x) is = made x (subst (λ (rs : List Row). Is rs x) rows_are is)
  asked_for made (Err error) is = tt

  -- and where they say nothing, nothing is
  pub none_asked_for : ((x : X) → Of x → Is (matches_of the texts) x) → (result : Result X WordsError) → (result ≡ Err BadWords → NoneFits (Is rows) BadWords)
      → result ≡ Err BadWords → (x : X) → ¬ Of x
  none_asked_for values result none bad x of = (none bad).1 x (subst (λ (rs : List Row). Is rs x) (sym rows_are) (values x of))
