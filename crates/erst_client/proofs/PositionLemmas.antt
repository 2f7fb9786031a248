-- A command that is told the answers of its accesses stands where a sequence stands.
use Rattle.std.proofs.Common.{◌≡◌, ℕ, List, Option, Some, None, Result, sym, subst}
use Rattle.std.proofs.lemmas.Option.{none-some, same_Some}
use Rattle.apei_space.specs.declared.faults.SpaceFault.{SpaceFault}
use Rattle.apei_space.specs.Calls.{Call}
use Rattle.erst_entries.specs.declared.actions.Action.TheVariants.{CheckBusyStatus, GetCommandStatus, EndOperation}
use Rattle.erst_entries.specs.declared.entries.Entry.{Entry}
use Rattle.erst_interp.specs.declared.states.RunState.{RunState}
use Rattle.erst_interp.specs.declared.states.RunState.TheVariants.{Ready, Awaiting, Ended}
use Rattle.erst_interp.specs.Told.{answered, Stands, demanded}
use Rattle.erst_interp.proofs.ToldLemmas.{stands_first, stands_comes, stands_answered}
use Rattle.erst_client.specs.declared.errors.ClientError.{ClientError}
use Rattle.erst_client.specs.declared.positions.Position.{Position}
use Rattle.erst_client.specs.declared.requests.Request.{Request}
use Rattle.erst_client.specs.declared.stages.Command.{Command}
use Rattle.erst_client.specs.declared.stages.Part.TheVariants.{Begin}
use Rattle.erst_client.specs.declared.stages.Stage.{Stage}
use Rattle.erst_client.specs.declared.stages.Stage.TheVariants.{Requesting, Checking, Waiting, Judging, Ending, Done}
use Rattle.erst_client.specs.Sequences.{Sequence}
use Rattle.erst_client.specs.Stages.{request_of, request_for, requests_of, turned}
use Rattle.erst_client.specs.Reaching.{steps_for, steps_after, Reached}
use Rattle.erst_client.specs.Positions.{program_for, first_run, entered, answered_in, result_at, Moves, IsThere, GoesOn, Turns, MadeBy, MadeIn, IsRunning, StandsBy, StandsAt}
use Rattle.erst_client.proofs.StageLemmas.{reached_first, reached_run, reached_wait}

-- a stage stands at its beginning once it was reached
stands_run : {W : Type 0} (allows : W → Call → W → Type 0) (entries : List Entry) (command : Command) (timings : Option (ℕ × ℕ)) (budget : ℕ) (first : W)
    (request : Option Request) (stage : Stage) (left : ℕ) (now : W) →
    Reached allows entries command timings budget first stage left now → StandsBy allows entries command timings budget first request stage (first_run entries request) (steps_for stage left) left now
stands_run allows entries command timings budget first None stage left now so = so
stands_run allows entries command timings budget first (Some request) stage left now so =
    record { from = now; reached = so; stands = stands_first allows (program_for entries request) request.given (steps_for stage left) now }

stands_entered : {W : Type 0} (allows : W → Call → W → Type 0) (entries : List Entry) (command : Command) (timings : Option (ℕ × ℕ)) (budget : ℕ) (first : W) (stage : Stage) (left : ℕ) (now : W) →
    Reached allows entries command timings budget first stage left now → StandsAt allows entries command timings budget first (entered entries command stage left) now
stands_entered allows entries command timings budget first stage left now so = stands_run allows entries command timings budget first (request_for command stage) stage left now so

pub at_first : {W : Type 0} (allows : W → Call → W → Type 0) (entries : List Entry) (command : Command) (timings : Option (ℕ × ℕ)) (budget : ℕ) (first : W) →
    StandsAt allows entries command timings budget first (entered entries command (Requesting Begin) budget) first
at_first allows entries command timings budget first =
    stands_entered allows entries command timings budget first (Requesting Begin) budget first (reached_first allows entries command timings budget first)

-- what stands in a stage with a program, by that program
of_request : {W : Type 0} (allows : W → Call → W → Type 0) (entries : List Entry) (command : Command) (timings : Option (ℕ × ℕ)) (budget : ℕ) (first : W)
    (at : Position) (request : Request) (now : W) →
    request_for command at.stage ≡ Some request → StandsAt allows entries command timings budget first at now →
    IsRunning allows entries command timings budget first request at.stage at.state at.left at.kept now
of_request allows entries command timings budget first at request now is so =
    subst (λ (r : Option Request). StandsBy allows entries command timings budget first r at.stage at.state at.left at.kept now) is so

-- what is done without an access keeps it
pub at_moves : {W : Type 0} (allows : W → Call → W → Type 0) (entries : List Entry) (command : Command) (timings : Option (ℕ × ℕ)) (budget : ℕ) (first : W) (old at : Position) (now : W) →
    Moves entries command timings old at → StandsAt allows entries command timings budget first old now → StandsAt allows entries command timings budget first at now
at_moves allows entries command timings budget first old at now IsThere so = so
at_moves allows entries command timings budget first old at now (GoesOn before request state left moves is comes) so =
    let run = of_request allows entries command timings budget first before request now is (at_moves allows entries command timings budget first old before now moves so) in
    subst (λ (r : Option Request). StandsBy allows entries command timings budget first r before.stage state left before.kept now) (sym is)
    (record {
      from = run.from;
      reached = run.reached;
      stands = stands_comes allows (program_for entries request) request.given (steps_for before.stage before.kept) run.from now before.state before.left state left comes run.stands;
    })
at_moves allows entries command timings budget first old at now (Turns before request answer moves is ended) so =
    let run = of_request allows entries command timings budget first before request now is (at_moves allows entries command timings budget first old before now moves so) in
    let done = subst (λ (s : RunState). Stands allows (program_for entries request) request.given (steps_for before.stage before.kept) run.from s before.left now) ended run.stands in
    stands_entered allows entries command timings budget first (turned command timings before.stage answer) (steps_after before.stage before.kept before.left) now
    (reached_run allows entries command timings budget first before.stage request before.kept run.from answer before.left now is run.reached done)

-- and so does an answer
in_run : {W : Type 0} (allows : W → Call → W → Type 0) (entries : List Entry) (command : Command) (timings : Option (ℕ × ℕ)) (budget : ℕ) (first : W)
    (request : Request) (stage : Stage) (state : RunState)
    (left kept : ℕ) (now : W) (answer : Result ℕ SpaceFault) (last : W) → IsRunning allows entries command timings budget first request stage state left kept
    now → MadeBy allows (demanded state) now answer last →
    IsRunning allows entries command timings budget first request stage (answered state left answer).0 (answered state left answer).1 kept last
in_run allows entries command timings budget first request stage (Awaiting task awaited) left kept now answer last so made =
    record {
      from = so.from;
      reached = so.reached;
      stands = stands_answered allows (program_for entries request) request.given (steps_for stage kept) so.from task awaited left now answer last so.stands made;
    }
in_run allows entries command timings budget first request stage (Ready c) left kept now answer last so made = absurd made
in_run allows entries command timings budget first request stage (Ended r) left kept now answer last so made = absurd made

pub in_answered : {W : Type 0} (allows : W → Call → W → Type 0) (entries : List Entry) (command : Command) (timings : Option (ℕ × ℕ)) (budget : ℕ) (first : W)
    (stage : Stage) (state : RunState) (left kept : ℕ) (now : W)
    (answer : Result ℕ SpaceFault) (last : W) → StandsBy allows entries command timings budget first (request_for command stage) stage state left kept now →
    MadeIn allows timings stage state now answer last →
    StandsAt allows entries command timings budget first (answered_in entries command stage state left kept answer) last
in_answered allows entries command timings budget first (Requesting part) state left kept now answer last so made =
    in_run allows entries command timings budget first (request_of command part) (Requesting part) state left kept now answer last so made
in_answered allows entries command timings budget first (Checking waited) state left kept now answer last so made =
    in_run allows entries command timings budget first (record { action = CheckBusyStatus; given = 0 }) (Checking waited) state left kept now answer last so made
in_answered allows entries command timings budget first (Waiting longer) state left kept now answer last so made =
    stands_entered allows entries command timings budget first (Checking longer) kept last (reached_wait allows entries command timings budget first longer kept now last so made)
in_answered allows entries command timings budget first Judging state left kept now answer last so made =
    in_run allows entries command timings budget first (record { action = GetCommandStatus; given = 0 }) Judging state left kept now answer last so made
in_answered allows entries command timings budget first (Ending outcome) state left kept now answer last so made =
    in_run allows entries command timings budget first (record { action = EndOperation; given = 0 }) (Ending outcome) state left kept now answer last so made
in_answered allows entries command timings budget first (Done result) state left kept now answer last so made = absurd made

ended_so : {W : Type 0} (allows : W → Call → W → Type 0) (entries : List Entry) (command : Command) (timings : Option (ℕ × ℕ)) (budget : ℕ) (first : W)
    (stage : Stage) (state : RunState) (left kept : ℕ) (now : W)
    (result : Result (Unit {0}) ClientError) → result_at stage ≡ Some result → StandsBy allows entries command timings budget first (request_for command stage) stage state left kept now →
    Sequence allows entries timings (requests_of command) budget first result kept now
ended_so allows entries command timings budget first (Requesting part) state left kept now result is so = absurd (none-some result is)
ended_so allows entries command timings budget first (Checking waited) state left kept now result is so = absurd (none-some result is)
ended_so allows entries command timings budget first (Waiting longer) state left kept now result is so = absurd (none-some result is)
ended_so allows entries command timings budget first Judging state left kept now result is so = absurd (none-some result is)
ended_so allows entries command timings budget first (Ending outcome) state left kept now result is so = absurd (none-some result is)
ended_so allows entries command timings budget first (Done found) state left kept now result is so =
    subst (λ (r : Result (Unit {0}) ClientError). Sequence allows entries timings (requests_of command) budget first r kept now) (same_Some _ _ is) so

-- once it has its result it was the sequence
pub at_result : {W : Type 0} (allows : W → Call → W → Type 0) (entries : List Entry) (command : Command) (timings : Option (ℕ × ℕ)) (budget : ℕ) (first : W) (at : Position) (now : W)
    (result : Result (Unit {0}) ClientError) → result_at at.stage ≡ Some result → StandsAt allows entries command timings budget first at now →
    Sequence allows entries timings (requests_of command) budget first result at.kept now
at_result allows entries command timings budget first at now result is so = ended_so allows entries command timings budget first at.stage at.state at.left at.kept now result is so
