-- When no more is shown: where there is no memory, and where the pages could not be written.
use Rattle.std.specs.Prelude.{◌≡◌, ℕ, Option, Some, Result, MatchResult}
use Rattle.base_model.specs.Faults.{Rose}
use Rattle.show_items.specs.declared.pages.Stop.{Stop}
use Rattle.show_items.specs.declared.pages.Stop.TheVariants.{Memory}

-- how many pages could not be written so far, and why the last of them was not
pub record Failures : Type 0 where
  pub count : ℕ
  pub last : Option Stop

-- a page could not be written in this call, for this reason
pub record Failed (before after : Failures) (stop : Stop) : Type 0 where
  pub rose : Rose before.count after.count
  pub reason : after.last ≡ Some stop

abbrev pub IsStop : (before after : Failures) → Stop → Type 0
IsStop before after Memory = after ≡ before
IsStop before after stop = Failed before after stop

-- a success leaves no failure behind, and a stop that isn't want of memory is that of a page
abbrev pub HasStop : {T : Type 0} → (before after : Failures) → Result T Stop → Type 0
HasStop before after result = MatchResult result (λ _. after ≡ before) (IsStop before after)
