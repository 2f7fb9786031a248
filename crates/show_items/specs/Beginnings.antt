-- What was written when no more could be: a beginning of what had to be.
use Rattle.std.specs.Prelude.{◌≡◌, ◌≢◌, ℕ, List, ◌++◌, Option, None, Some, Result, IfErr}
use Rattle.std.specs.Io.KnownBytes.{Appends}
use Rattle.show_items.specs.declared.pages.Stop.{Stop}
use Rattle.show_items.specs.declared.pages.Stop.TheVariants.{Memory}

-- known bytes are all still there, and others may stand behind them
abbrev pub Grows : (before after : Option (List ℕ)) → Type 0
Grows before after = (more : List ℕ) × Appends before after more

-- what was written is the beginning of a text
abbrev pub IsBeginning : (text written : Option (List ℕ)) → Type 0
IsBeginning None written = Unit {0}
IsBeginning (Some text) None = ⊥
IsBeginning (Some text) (Some written) = (rest : List ℕ) × (text ≡ written ++ rest)

-- a whole text had to be written: what was written before is still there, and all of it is a beginning of the whole
pub record IsBegun (before whole after : Option (List ℕ)) : Type 0 where
  pub grows : Grows before after
  pub begins : IsBeginning whole after

-- what is so where a page could not be written; of want of memory nothing is told
abbrev pub IfStopped : {T : Type 0} → Result T Stop → (Begun : Type 0) → Type 0
IfStopped result Begun = IfErr result (λ stop. stop ≢ Memory → Begun)
