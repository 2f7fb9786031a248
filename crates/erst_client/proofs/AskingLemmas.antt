-- A request that is told the answers of its accesses is a request.
use Rattle.std.proofs.Common.{◌≡◌, ◌∙◌, ℕ, List, Option, Some, None, Result, refl, sym, subst}
use Rattle.std.proofs.lemmas.Option.{none-some, same_Some}
use Rattle.apei_space.specs.declared.faults.SpaceFault.{SpaceFault}
use Rattle.apei_space.specs.Calls.{Call}
use Rattle.erst_entries.specs.declared.actions.Action.{Action}
use Rattle.erst_entries.specs.declared.actions.Action.TheVariants.{GetRecordCount, GetRecordIdentifier}
use Rattle.erst_entries.specs.declared.entries.Entry.{Entry}
use Rattle.erst_entries.specs.Actions.{code_of}
use Rattle.erst_entries.specs.Programs.{program_of}
use Rattle.erst_interp.specs.declared.states.RunState.{RunState}
use Rattle.erst_interp.specs.declared.states.RunState.TheVariants.{Ready, Awaiting, Ended}
use Rattle.erst_interp.specs.declared.stops.RunStop.{RunStop}
use Rattle.erst_interp.specs.Told.{answered, demanded, ended, Comes, Stands}
use Rattle.erst_interp.proofs.ToldLemmas.{stands_first, stands_comes, stands_answered}
use Rattle.erst_client.specs.declared.asking.Asking.{Asking}
use Rattle.erst_client.specs.declared.errors.ClientError.{ClientError}
use Rattle.erst_client.specs.Requests.{Performs}
use Rattle.erst_client.specs.Commands.{Counts, Names}
use Rattle.erst_client.specs.Positions.{MadeBy}
use Rattle.erst_client.specs.Asking.{asking_first, asking_answered, counted, named, counted_by, named_by, AskingMoves, AskingStands, AskingMade}

pub asking_begins : {W : Type 0} (allows : W → Call → W → Type 0) (entries : List Entry) (action : Action) (steps : ℕ) (first : W) →
    AskingStands allows entries action steps first (asking_first entries action steps) first
asking_begins allows entries action steps first = (refl, stands_first allows (program_of (code_of action) entries) 0 steps first)

pub asking_moves : {W : Type 0} (allows : W → Call → W → Type 0) (entries : List Entry) (action : Action) (steps : ℕ) (first : W) (old at : Asking) (now : W) → AskingMoves entries old at →
    AskingStands allows entries action steps first old now → AskingStands allows entries action steps first at now
asking_moves allows entries action steps first old at now moves so = (
  moves.0 ∙ so.0,
  stands_comes allows (program_of (code_of action) entries) 0 steps first now old.state old.left at.state at.left
      (subst (λ (a : Action). Comes (program_of (code_of a) entries) 0 old.state old.left at.state at.left) so.0 moves.1) so.1,
)

run_answers : {W : Type 0} (allows : W → Call → W → Type 0) (entries : List Entry) (action : Action) (steps : ℕ) (first : W) (state : RunState) (left : ℕ)
    (now : W) (answer : Result ℕ SpaceFault) (last : W) →
    Stands allows (program_of (code_of action) entries) 0 steps first state left now → MadeBy allows (demanded state) now answer last →
    Stands allows (program_of (code_of action) entries) 0 steps first (answered state left answer).0 (answered state left answer).1 last
run_answers allows entries action steps first (Awaiting task awaited) left now answer last so made =
    stands_answered allows (program_of (code_of action) entries) 0 steps first task awaited left now answer last so made
run_answers allows entries action steps first (Ready c) left now answer last so made = absurd made
run_answers allows entries action steps first (Ended r) left now answer last so made = absurd made

pub asking_answers : {W : Type 0} (allows : W → Call → W → Type 0) (entries : List Entry) (action : Action) (steps : ℕ) (first : W) (at : Asking) (now : W) (answer : Result ℕ SpaceFault) (last : W) →
    AskingStands allows entries action steps first at now → AskingMade allows at now answer last → AskingStands allows entries action steps first (asking_answered at answer) last
asking_answers allows entries action steps first at now answer last so made = (so.0, run_answers allows entries action steps first at.state at.left now answer last so.1 made)

-- once it has ended, the program was run
run_ended : {W : Type 0} (allows : W → Call → W → Type 0) (entries : List Entry) (action : Action) (steps : ℕ) (first : W) (state : RunState) (left : ℕ)
    (now : W) (answer : Result ℕ RunStop) → ended state ≡ Some answer →
    Stands allows (program_of (code_of action) entries) 0 steps first state left now → Performs allows entries action 0 steps first answer left now
run_ended allows entries action steps first (Ready c) left now answer is so = absurd (none-some answer is)
run_ended allows entries action steps first (Awaiting task awaited) left now answer is so = absurd (none-some answer is)
run_ended allows entries action steps first (Ended r) left now answer is so = subst (λ (r : Result ℕ RunStop). Performs allows entries action 0 steps first r left now) (same_Some _ _ is) so

pub asking_performs : {W : Type 0} (allows : W → Call → W → Type 0) (entries : List Entry) (action : Action) (steps : ℕ) (first : W) (at : Asking) (now : W)
    (answer : Result ℕ RunStop) → ended at.state ≡ Some answer →
    AskingStands allows entries action steps first at now → Performs allows entries action 0 steps first answer at.left now
asking_performs allows entries action steps first at now answer is so = run_ended allows entries action steps first at.state at.left now answer is so.1

count_answer : (end : Option (Result ℕ RunStop)) (result : Result ℕ ClientError) → counted_by end ≡ Some result → (answer : Result ℕ RunStop) × ((end ≡ Some answer) × (result ≡ counted answer))
count_answer None result is = absurd (none-some result is)
count_answer (Some answer) result is = (answer, (refl, sym (same_Some _ _ is)))

name_answer : (end : Option (Result ℕ RunStop)) (result : Result (Option ℕ) ClientError) → named_by end ≡ Some result → (answer : Result ℕ RunStop) × ((end ≡ Some answer) × (result ≡ named answer))
name_answer None result is = absurd (none-some result is)
name_answer (Some answer) result is = (answer, (refl, sym (same_Some _ _ is)))

pub asking_counts : {W : Type 0} (allows : W → Call → W → Type 0) (entries : List Entry) (steps : ℕ) (first : W) (at : Asking) (now : W)
    (result : Result ℕ ClientError) → counted_by (ended at.state) ≡ Some result →
    AskingStands allows entries GetRecordCount steps first at now → Counts allows entries steps first result at.left now
asking_counts allows entries steps first at now result is so =
    let told = count_answer (ended at.state) result is in
    record { answer = told.0; asks = asking_performs allows entries GetRecordCount steps first at now told.0 told.1.0 so; result_is = told.1.1 }

pub asking_names : {W : Type 0} (allows : W → Call → W → Type 0) (entries : List Entry) (steps : ℕ) (first : W) (at : Asking) (now : W)
    (result : Result (Option ℕ) ClientError) → named_by (ended at.state) ≡ Some result →
    AskingStands allows entries GetRecordIdentifier steps first at now → Names allows entries steps first result at.left now
asking_names allows entries steps first at now result is so =
    let told = name_answer (ended at.state) result is in
    record { answer = told.0; asks = asking_performs allows entries GetRecordIdentifier steps first at now told.0 told.1.0 so; result_is = told.1.1 }
