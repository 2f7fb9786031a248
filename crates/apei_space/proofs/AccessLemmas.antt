-- Accesses, and then more accesses.
use Rattle.std.proofs.Common.{◌≡◌, ◌≤◌, ℕ, List, [], ◌∷◌, ◌++◌, Option, Some, refl, inl, inr, subst, arith}
use Rattle.base_model.specs.Faults.{Rose}
use Rattle.apei_space.specs.declared.faults.SpaceFault.{SpaceFault}
use Rattle.apei_space.specs.declared.faults.SpaceFault.TheVariants.{Device}
use Rattle.apei_space.specs.Calls.{Call, HasReason, Leaves, fault_of}
use Rattle.apei_space.specs.Accesses.{Reaches, Stays, Goes, Move, Trail}

pub reaches_then : {S : Type 0} (allows : S → Call → S → Type 0) (first mid last : S) → Reaches allows first mid → Reaches allows mid last → Reaches allows first last
reaches_then allows first mid last before Stays = before
reaches_then allows first mid last before (Goes second call third more allowed) = Goes second call third (reaches_then allows first mid second before more) allowed

pub Trail-push : {Event S : Type 0} (moves : S → Event → S → Type 0) (first mid : S) (trail : List (Move Event S)) (event : Event) (last : S) →
    Trail moves first trail mid → moves mid event last → Trail moves first (trail ++ (record { event = event; left = last }) ∷ []) last
Trail-push moves first mid [] event last is moved = (subst (λ s. moves s event last) is moved, refl)
Trail-push moves first mid (move ∷ rest) event last is moved = (is.0, Trail-push moves move.left mid rest event last is.1 moved)

-- what accesses reach is reached by a list of them
pub trail_of : {S : Type 0} (allows : S → Call → S → Type 0) (first last : S) → Reaches allows first last → (trail : List (Move Call S)) × Trail allows first trail last
trail_of allows first last Stays = ([], refl)
trail_of allows first last (Goes mid call end more allowed) =
    let before = trail_of allows first mid more in
    (before.0 ++ (record { event = call; left = end }) ∷ [], Trail-push allows first mid before.0 call end before.1 allowed)

-- the last of some accesses answered a fault
pub record IsRefusedAt {S : Type 0} (allows : S → Call → S → Type 0) (first : S) (fault : SpaceFault) (last : S) : Type 0 where
  pub mid : S
  pub call : Call
  pub before : Reaches allows first mid
  pub allowed : allows mid call last
  pub answers : fault_of call ≡ Some fault

pub reaches_refused : {S : Type 0} (allows : S → Call → S → Type 0) (first : S) (fault : SpaceFault) (last : S) → IsRefusedAt allows first fault last → Reaches allows first last
reaches_refused allows first fault last refused = Goes refused.mid refused.call last refused.before refused.allowed

-- the count of faults never falls
pub never_falls : {S : Type 0} (allows : S → Call → S → Type 0) (faults : S → ℕ) (reasons : (old new : S) (call : Call) → allows old call new → HasReason faults old call new)
    (first last : S) → Reaches allows first last → faults first ≤ faults last
never_falls allows faults reasons first last Stays = omega arith
never_falls allows faults reasons first last (Goes mid call end more allowed) =
    let before : faults first ≤ faults mid = never_falls allows faults reasons first mid more in
    let after : faults mid ≤ faults end = (reasons mid end call allowed).never_falls in
    omega arith

-- a device's fault comes only where the count rose
pub device_rose : {S : Type 0} (allows : S → Call → S → Type 0) (faults : S → ℕ) (reasons : (old new : S) (call : Call) → allows old call new → HasReason faults old call new)
    (first last : S) → IsRefusedAt allows first Device last → Rose (faults first) (faults last)
device_rose allows faults reasons first last refused =
    let before : faults first ≤ faults refused.mid = never_falls allows faults reasons first refused.mid refused.before in
    let why = reasons refused.mid last refused.call refused.allowed in
    let rose : Rose (faults refused.mid) (faults last) = subst (λ (fault : Option SpaceFault). Leaves faults refused.mid last fault) refused.answers why.leaves in
    elim rose [ inl more ↦ inl (omega arith) | inr last ↦ inr last ]
