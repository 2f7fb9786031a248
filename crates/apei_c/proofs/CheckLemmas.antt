-- An item that is well has no fault.
use Rattle.std.proofs.Common.{◌≡◌, ℕ, Option, Some, None, ap, ◌∙◌}
use Rattle.hest_sources.specs.declared.tables.HestError.TheVariants.{Memory}
use Rattle.item_parts.specs.declared.faults.Fault.{Fault}
use Rattle.item_parts.specs.declared.faults.ItemError.{ItemError}
use Rattle.item_parts.specs.declared.faults.ItemError.TheVariants.{Hest}
use Rattle.item_parts.specs.Faults.{fault_of}

-- want of memory is no fault
pub no_fault : (error : ItemError) (have : ℕ) (found : Fault) → Some found ≡ fault_of error have → error ≡ Hest Memory → ⊥
no_fault error have found is same =
    let clash : ◌≡◌ {A = Option Fault} (Some found) None = is ∙ ap (λ (it : ItemError). fault_of it have) same in
    cc
