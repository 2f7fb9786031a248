-- Dialogues with two machines that are equivalent.
use Rattle.std.proofs.Common.{◌≡◌, ℕ, ◌≤◌, ap}
use Rattle.base_model.specs.Faults.{Rose}
use Rattle.apei_space.specs.Calls.{Call}
use Rattle.erst_machine.specs.MachineState.{MachineState}
use Rattle.erst_machine.specs.Allowed.{Allows}
use Rattle.erst_machine.proofs.CrashTrail.{one_access}
use Rattle.erst_commands.specs.Equivalence.{EquivalentMachines, FailedNothing, answered, EndAlike, IsDoneAlike}
use Rattle.erst_commands.proofs.MachineOutlines.{answer_alike}
use Rattle.erst_commands.proofs.Dialogues.{Dialogue, Held, ends_alike}
use Rattle.erst_commands.proofs.Terms.{AskAlike}

abbrev faults_of : MachineState → ℕ
faults_of state = state.device.store.flash.faults

module _ (tells : Type 0) (told : tells) where
  grows : (old new : MachineState) (call : Call) → Allows tells old call new → faults_of old ≤ faults_of new
  grows old new call allowed = (one_access tells told old call new allowed).never_falls

  keeps : (one other : MachineState) (call also : Call) (one_after other_after : MachineState) → EquivalentMachines one other → AskAlike call also →
      Allows tells one call one_after → (Rose (faults_of one) (faults_of one_after) → ⊥)
      → Allows tells other also other_after → (Rose (faults_of other) (faults_of other_after) → ⊥) → (answered call ≡ answered also) × EquivalentMachines one_after other_after
  keeps one other call also one_after other_after equivalent asks first quiet second also_quiet = answer_alike tells told one other equivalent call also
      one_after other_after asks first quiet second also_quiet

  pub pair_alike : {A : Type 0} (dialogue : Dialogue (A × ℕ)) (one other : MachineState) (answer also : A) (left also_left : ℕ) (one_after other_after : MachineState) → EquivalentMachines one other
      → Held (Allows tells) dialogue one (answer, left) one_after → FailedNothing one one_after → Held (Allows tells) dialogue other (also, also_left) other_after → FailedNothing other other_after
      → EndAlike answer also left also_left one_after other_after
  pair_alike dialogue one other answer also left also_left one_after other_after equivalent first quiet second also_quiet =
      let both = ends_alike (Allows tells) faults_of EquivalentMachines grows keeps dialogue one other (answer, left) (also, also_left) one_after other_after
      equivalent first quiet second also_quiet in
      record { same_answer = ap (λ p. p.0) both.0; same_left = ap (λ p. p.1) both.0; equivalent = both.1 }

  -- what is a dialogue is done alike
  pub done_alike : {A : Type 0} (does : MachineState → A → ℕ → MachineState → Type 0) (dialogue : Dialogue (A × ℕ))
      → ((first : MachineState) (answer : A) (left : ℕ) (last : MachineState) → does first answer left last → Held (Allows tells) dialogue first (answer, left) last) → IsDoneAlike does
  done_alike does dialogue holds one other answer also left also_left one_after other_after equivalent first quiet second also_quiet =
      pair_alike dialogue one other answer also left also_left one_after other_after equivalent (holds one answer left one_after first) quiet (holds other also also_left other_after second) also_quiet
