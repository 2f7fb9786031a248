-- Small facts that several lemmas share.
use Rattle.std.proofs.Common.{◌≡◌, ℕ, true, false, Result, Ok, Err, ◌∙◌, subst}
use Rattle.record_store.specs.Store.{StoreView, Pending, Idle, IsBusy, DividesAlike}
use Rattle.erst_interp.specs.declared.stops.RunStop.{RunStop}

-- the answers of runs
pub no_answer : (answer : ℕ) (stop : RunStop) → Ok answer ≡ Err stop → ⊥
no_answer answer stop e = absurd (cc)

pub no_stop : (answer : ℕ) (stop : RunStop) → Err stop ≡ Ok answer → ⊥
no_stop answer stop e = absurd (cc)

pub same_stop : (x y : RunStop) → ◌≡◌ {A = Result ℕ RunStop} (Err x) (Err y) → x ≡ y
same_stop x y e = cc

pub same_number : (x y : ℕ) → ◌≡◌ {A = Result ℕ RunStop} (Ok x) (Ok y) → x ≡ y
same_number x y e = cc

-- stores
pub equivalent_then : (a b c : StoreView) → DividesAlike a b → DividesAlike b c → DividesAlike a c
equivalent_then a b c first second = record { layout = second.layout ∙ first.layout; size = second.size ∙ first.size; sector_size = second.sector_size ∙ first.sector_size }

pub idle_busy : (pending : Pending) → pending ≡ Idle → IsBusy pending → ⊥
idle_busy pending idle busy = subst (λ (p : Pending). IsBusy p) idle busy

pub differ : {P : Type 0} → true ≡ false → P
differ e = absurd (cc)
