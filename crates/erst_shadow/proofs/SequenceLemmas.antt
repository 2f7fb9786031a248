-- A sequence by the table is one by the machine's own table, from a machine that holds the record in its log range.
use Rattle.std.proofs.Common.{◌≡◌, ◌∙◌, ℕ, suc, ◌+◌, ◌-◌, ◌*◌, ◌%◌, ◌^◌, ◌≤◌, Bool, true, false, List, [], ◌∷◌, ◌++◌, length, Option, Result, Ok, Err, OnOk, refl, sym, ap, subst, arith}
use Rattle.std.specs.Prelude.{if◌then◌else◌}
use Rattle.base_model.specs.Bytes.{part, put_at}
use Rattle.base_model.proofs.BytesLemmas.{length-part, length-put_at}
use Rattle.erst_entries.specs.declared.actions.Action.{Action}
use Rattle.erst_entries.specs.declared.actions.Action.TheVariants.{ExecuteOperation, CheckBusyStatus, GetCommandStatus, EndOperation}
use Rattle.erst_entries.specs.Actions.{code_of, action_of}
use Rattle.erst_interp.specs.declared.stops.RunStop.{RunStop}
use Rattle.erst_interp.specs.declared.stops.RunStop.TheVariants.{Budget}
use Rattle.erst_client.specs.declared.errors.ClientError.{ClientError}
use Rattle.erst_client.specs.declared.errors.ClientError.TheVariants.{Stopped, Late}
use Rattle.erst_client.specs.declared.requests.Request.{Request}
use Rattle.erst_client.specs.Requests.{Performs, Asks, NoneLeft, Answered, StopsLater, StopsHere}
use Rattle.erst_client.specs.Sequences.{Pauses, Untimed, Timed, TooOften, Busy, NotYet, Again, Waits, IsIdle, IsStopped, IsLate, judged, UntilStatus, NotAsked}
use Rattle.erst_client.specs.Sequences.{NotWaited, NotTold, IsTold, Sequence, write_requests, read_requests, clear_requests, dummy_requests}
use Rattle.erst_machine.specs.Memories.{MemoryState}
use Rattle.erst_machine.specs.MachineState.{MachineState}
use Rattle.erst_machine.specs.Allowed.{Allows, ActsOn}
use Rattle.erst_machine.specs.OwnTables.{own_entries}
use Rattle.erst_shadow.specs.MoveRuns.{move_steps}
use Rattle.erst_commands.specs.OwnPrograms.{with_value, takes_value, given_to, OwnRun, IsMade, StopsAtOnce, StopsBefore, StopsBehind, OwnProgramsRun}
use Rattle.erst_shadow.specs.ShadowTables.{shadow_entries}
use Rattle.erst_shadow.specs.ShadowMoves.{holding, AgreesElsewhere}
use Rattle.erst_shadow.specs.ShadowSequences.{PaysMoves, PaysBoth, PaysPart, ShowsRecord, SequenceAsOwn}
use Rattle.erst_shadow.proofs.ProgramLemmas.{IsCommon, performs_own, moves_then_executes, moves_then_tells}
use Rattle.erst_shadow.proofs.OwnRunLemmas.{IsOfSequence, run_of_own}
use Rattle.erst_shadow.proofs.QuietLemmas.{IsQuiet, runs_beside, with_other_steps}
use Rattle.erst_client.proofs.Terms.{closed, end_steps}
use Rattle.erst_shadow.proofs.Terms.{HoldsPieces, range_with_record, MovesThenExecutes, MovesThenTells, ExecutesMoved, StopsMovingIn, TellsMoved, StopsMovingOut, IsCutShort}

-- a request before EXECUTE_OPERATION: the machine's own program, which leaves the log range alone
abbrev pub IsBefore : Request → Type 0
IsBefore request = IsCommon request.action × IsOfSequence request.action × IsQuiet (action_of (code_of request.action))

abbrev pub AreBefore : List Request → Type 0
AreBefore [] = Unit {0}
AreBefore (request ∷ rest) = IsBefore request × AreBefore rest

abbrev pub executes : List Request → List Request
executes before = before ++ record { action = ExecuteOperation; given = 0 } ∷ []

-- what asking them comes to: the same is asked by the machine's own table, from the machine that holds the record in its log range
pub data AskedAsOwn (tells : Type 0) (pieces : ℕ) (requests : List Request) (budget : ℕ) (first : MachineState) : Result (List ℕ) RunStop → ℕ → MachineState → Type 0 where
  AsksAll : (scratch : List ℕ) (own_budget : ℕ) (result : Result (List ℕ) RunStop) (left : ℕ) (last : MachineState) → length scratch ≡ 4096 → own_budget + move_steps pieces ≡ budget
      → Asks (Allows tells) own_entries requests own_budget (holding (range_with_record pieces first) scratch first) result left last → AskedAsOwn tells pieces requests budget first result left last
  AsksSome : (scratch : List ℕ) (own_budget own_left : ℕ) (own_last : MachineState) (stop : RunStop) (left : ℕ) (last : MachineState) → length scratch ≡ 4096 →
      own_budget ≤ budget → budget ≤ own_budget + move_steps pieces
      → Asks (Allows tells) own_entries requests own_budget (holding (range_with_record pieces first) scratch first) (Err stop) own_left own_last → AgreesElsewhere last own_last
      → AskedAsOwn tells pieces requests budget first (Err stop) left last

module _ (tells : Type 0) (own : OwnProgramsRun tells) (pieces : ℕ) where
  same_rooms : (first next : MachineState) → next.memory ≡ first.memory → HoldsPieces first pieces → HoldsPieces next pieces
  same_rooms first next is rooms = record {
    scratch = ap (λ (m : MemoryState). length m.scratch) is ∙ rooms.scratch;
    range = let e = ap (λ (m : MemoryState). length m.range) is in omega (arith, e, rooms.range);
    small = let e = ap (λ (m : MemoryState). length m.range) is in omega (arith, e, rooms.small);
    some = rooms.some;
    few = rooms.few;
  }

  -- EXECUTE_OPERATION alone
  asked_execute : (budget : ℕ) (first : MachineState) → HoldsPieces first pieces → (result : Result ℕ RunStop) (left : ℕ) (last : MachineState)
      → MovesThenExecutes tells pieces 0 budget first result left last → (answers : Result (List ℕ) RunStop)
      → ((allowed : MachineState) (spare : ℕ) → Performs (Allows tells) own_entries ExecuteOperation 0 spare allowed result left last →
      Asks (Allows tells) own_entries (executes []) spare allowed answers left last)
      → ((stop : RunStop) → result ≡ Err stop → answers ≡ Err stop) → AskedAsOwn tells pieces (executes []) budget first answers left last
  asked_execute budget first rooms result left last ran answers asks stops =
      (elim ran as (λ result left last ran. ((allowed : MachineState) (spare : ℕ) → Performs (Allows tells) own_entries ExecuteOperation 0 spare allowed result
      left last → Asks (Allows tells) own_entries (executes []) spare allowed answers left last)
      → ((stop : RunStop) → result ≡ Err stop → answers ≡ Err stop) → AskedAsOwn tells pieces (executes []) budget first answers left last) [
        | ExecutesMoved spare mid result left last spent moved run ↦ λ asks stops.
            let there : mid ≡ holding (range_with_record pieces first) mid.memory.scratch first = moved.others.elsewhere ∙ ap (λ (r : List ℕ). holding r mid.memory.scratch first) moved.moved in
            AsksAll mid.memory.scratch spare answers left last moved.others.scratch spent
            (subst (λ (w : MachineState). Asks (Allows tells) own_entries (executes []) spare w answers left last) there (asks mid spare run))
        | StopsMovingIn last short comes ↦ λ asks stops.
            let start = holding (range_with_record pieces first) first.memory.scratch first in
            subst (λ (a : Result (List ℕ) RunStop). AskedAsOwn tells pieces (executes []) budget first a 0 last) (sym (stops Budget refl))
            (AsksSome first.memory.scratch 0 0 start Budget 0 last rooms.scratch (omega arith) (omega (arith, short))
            (StopsHere (record { action = ExecuteOperation; given = 0 }) [] 0 start Budget 0 start (run_of_own tells ExecuteOperation tt 0 0 start (Err Budget)
            0 start (StopsAtOnce refl))) comes.elsewhere)
      ]) asks stops

  -- one request before the others
  asked_more : (request : Request) (rest : List Request) (budget : ℕ) (first : MachineState) (answer left : ℕ) (next : MachineState)
      (others all : Result (List ℕ) RunStop) (after : ℕ) (last : MachineState) → IsBefore request
      → Performs (Allows tells) (shadow_entries pieces) request.action request.given budget first (Ok answer) left next
      → ((w v : MachineState) (own_budget own_left left : ℕ) → Performs (Allows tells) own_entries request.action request.given own_budget w (Ok answer) own_left v
      → (last : MachineState) → Asks (Allows tells) own_entries (executes rest) own_left v others left last → Asks (Allows tells) own_entries (executes (request ∷ rest)) own_budget w all left last)
      → ((stop : RunStop) → others ≡ Err stop → all ≡ Err stop)
      → (next.memory ≡ first.memory → AskedAsOwn tells pieces (executes rest) left next others after last) → AskedAsOwn tells pieces (executes (request ∷ rest)) budget first all after last
  asked_more request rest budget first answer left next others all after last before run joins stops later =
      let ran = own request.action request.given budget first (Ok answer) left next (performs_own tells pieces request.action before.0 request.given budget first (Ok answer) left next run) in
      let same = (runs_beside tells request.action request.given budget first (Ok answer) left next first.memory.range first.memory.scratch before.2 ran).0 in
      let moved : range_with_record pieces next ≡ range_with_record pieces first = ap (λ (m : MemoryState). put_at m.range 0 (part m.scratch 0 (128 * pieces))) same in
      let steps = with_other_steps tells request.action request.given budget first (Ok answer) left next answer refl ran in
      let again = λ (scratch : List ℕ) (spare : ℕ). run_of_own tells request.action before.1 request.given (spare + steps.0)
      (holding (range_with_record pieces first) scratch first) (Ok answer) spare (holding (range_with_record pieces first) scratch next)
      (runs_beside tells request.action request.given (spare + steps.0) first (Ok answer) spare next (range_with_record pieces first) scratch before.2 (steps.2 spare)).1 in
      (elim (later same) as (λ others after last asked. ((w v : MachineState) (own_budget own_left left : ℕ) → Performs (Allows tells) own_entries
      request.action request.given own_budget w (Ok answer) own_left v
      → (last : MachineState) → Asks (Allows tells) own_entries (executes rest) own_left v others left last → Asks (Allows tells) own_entries (executes (request ∷ rest)) own_budget w all left last)
      → ((stop : RunStop) → others ≡ Err stop → all ≡ Err stop) → AskedAsOwn tells pieces (executes (request ∷ rest)) budget first all after last) [
        | AsksAll scratch own_budget others after last long spent asks ↦ λ joins stops.
            AsksAll scratch (own_budget + steps.0) all after last long (let e = steps.1 in omega (arith, spent, e))
            (joins (holding (range_with_record pieces first) scratch first) (holding (range_with_record pieces first) scratch next) (own_budget + steps.0)
            own_budget after (again scratch own_budget) last
            (subst (λ (r : List ℕ). Asks (Allows tells) own_entries (executes rest) own_budget (holding r scratch next) others after last) moved asks))
        | AsksSome scratch own_budget own_left own_last stop after last long less more asks beside ↦ λ joins stops.
            subst (λ (a : Result (List ℕ) RunStop). AskedAsOwn tells pieces (executes (request ∷ rest)) budget first a after last) (sym (stops stop refl))
            (AsksSome scratch (own_budget + steps.0) own_left own_last stop after last long (let e = steps.1 in omega (arith, less, e)) (let e = steps.1 in omega (arith, more, e))
            (subst (λ (a : Result (List ℕ) RunStop). Asks (Allows tells) own_entries (executes (request ∷ rest)) (own_budget + steps.0)
            (holding (range_with_record pieces first) scratch first) a own_left own_last) (stops stop refl)
            (joins (holding (range_with_record pieces first) scratch first) (holding (range_with_record pieces first) scratch next) (own_budget + steps.0)
            own_budget own_left (again scratch own_budget) own_last
            (subst (λ (r : List ℕ). Asks (Allows tells) own_entries (executes rest) own_budget (holding r scratch next) (Err stop) own_left own_last) moved asks)))
            beside)
      ]) joins stops

  asked_stop : (request : Request) (rest : List Request) (budget : ℕ) (first : MachineState) → HoldsPieces first pieces → (stop : RunStop) (left : ℕ) (last : MachineState) → IsBefore request
      → Performs (Allows tells) (shadow_entries pieces) request.action request.given budget first (Err stop) left last →
      AskedAsOwn tells pieces (executes (request ∷ rest)) budget first (Err stop) left last
  asked_stop request rest budget first rooms stop left last before run =
      let ran = own request.action request.given budget first (Err stop) left last (performs_own tells pieces request.action before.0 request.given budget first (Err stop) left last run) in
      let range = range_with_record pieces first in
      let there = runs_beside tells request.action request.given budget first (Err stop) left last range first.memory.scratch before.2 ran in
      AsksSome first.memory.scratch budget left (holding range first.memory.scratch last) stop left last rooms.scratch (omega arith) (omega arith)
      (StopsHere request (executes rest) budget (holding range first.memory.scratch first) stop left (holding range first.memory.scratch last)
      (run_of_own tells request.action before.1 request.given budget (holding range first.memory.scratch first) (Err stop) left (holding range first.memory.scratch last) there.1))
      refl

  -- all of them
  pub asked_as_own : (before : List Request) → AreBefore before → (budget : ℕ) (first : MachineState) → HoldsPieces first pieces → (result : Result (List ℕ) RunStop) (left : ℕ) (last : MachineState)
      → Asks (Allows tells) (shadow_entries pieces) (executes before) budget first result left last → AskedAsOwn tells pieces (executes before) budget first result left last
  asked_as_own [] are budget first rooms result left last (Answered request rest b o answer asked mid answers after l run (NoneLeft c p)) =
      asked_execute budget first rooms (Ok answer) left last (moves_then_executes tells pieces first rooms 0 budget (Ok answer) left last run) (Ok (answer ∷ []))
      (λ w spare own_run. Answered (record { action = ExecuteOperation; given = 0 }) [] spare w answer left last [] left last own_run (NoneLeft left last)) (λ stop e. absurd (cc e))
  asked_as_own [] are budget first rooms result left last (StopsLater request rest b o answer asked mid stop after l run asks) = elim asks [ ]
  asked_as_own [] are budget first rooms result left last (StopsHere request rest b o stop after l run) =
      asked_execute budget first rooms (Err stop) left last (moves_then_executes tells pieces first rooms 0 budget (Err stop) left last run) (Err stop)
      (λ w spare own_run. StopsHere (record { action = ExecuteOperation; given = 0 }) [] spare w stop left last own_run) (λ other e. let same : stop ≡ other = cc in ap (λ (s : RunStop). Err s) same)
  asked_as_own (request ∷ before) are budget first rooms result left last (Answered q rest b o answer asked mid answers after l run asks) =
      asked_more request before budget first answer asked mid (Ok answers) (Ok (answer ∷ answers)) left last are.0 run
      (λ w v own_budget own_left end own_run last own_asks. Answered request (executes before) own_budget w answer own_left v answers end last own_run own_asks) (λ stop e. absurd (cc e))
      (λ same. asked_as_own before are.1 asked mid (same_rooms first mid same rooms) (Ok answers) left last asks)
  asked_as_own (request ∷ before) are budget first rooms result left last (StopsLater q rest b o answer asked mid stop after l run asks) =
      asked_more request before budget first answer asked mid (Err stop) (Err stop) left last are.0 run
      (λ w v own_budget own_left end own_run last own_asks. StopsLater request (executes before) own_budget w answer own_left v stop end last own_run own_asks)
      (λ other e. let same : stop ≡ other = cc in ap (λ (s : RunStop). Err s) same)
      (λ same. asked_as_own before are.1 asked mid (same_rooms first mid same rooms) (Err stop) left last asks)
  asked_as_own (request ∷ before) are budget first rooms result left last (StopsHere q rest b o stop after l run) = asked_stop request before budget first rooms stop left last are.0 run

-- What the machine's own programs keep

pub record Keeps (w v : MachineState) : Type 0 where
  pub range : length v.memory.range ≡ length w.memory.range
  pub scratch : v.memory.scratch ≡ w.memory.scratch

keeps_then : (u v w : MachineState) → Keeps u v → Keeps v w → Keeps u w
keeps_then u v w first second = record { range = second.range ∙ first.range; scratch = second.scratch ∙ first.scratch }

acted_keeps : (tells : Type 0) (old : MachineState) (code : ℕ) (new : MachineState) → ActsOn tells old code new → Keeps old new
acted_keeps tells old code new acted = record { range = acted.range; scratch = ap (λ (m : MemoryState). m.scratch) acted.memory }

given_keeps : (b : Bool) (n : ℕ) (w v : MachineState) → Keeps (if b then with_value n w else w) v → Keeps w v
given_keeps true n w v keeps = record { range = keeps.range; scratch = keeps.scratch }
given_keeps false n w v keeps = keeps

given_kept : (b : Bool) (n : ℕ) (w : MachineState) → Keeps w (if b then with_value n w else w)
given_kept true n w = record { range = refl; scratch = refl }
given_kept false n w = record { range = refl; scratch = refl }

run_keeps : (tells : Type 0) (action : Action) (given budget : ℕ) (first : MachineState) (result : Result ℕ RunStop) (left : ℕ) (last : MachineState) →
    OwnRun tells action given budget first result left last → Keeps first last
run_keeps tells action given budget first result left last run = elim run as (λ result left last run. Keeps first last) [
  | IsMade left last acted spent ↦ given_keeps (takes_value action) (given % 2 ^ 64) first last (acted_keeps tells (given_to action given first) (code_of action) last acted)
  | StopsAtOnce none ↦ record { range = refl; scratch = refl }
  | StopsBefore one takes ↦ given_kept (takes_value action) (given % 2 ^ 64) first
  | StopsBehind last one shows acted ↦ acted_keeps tells first (code_of action) last acted
]

module _ (tells : Type 0) (own : OwnProgramsRun tells) where
  asks_keep : (requests : List Request) (budget : ℕ) (first : MachineState) (result : Result (List ℕ) RunStop) (left : ℕ) (last : MachineState) →
      Asks (Allows tells) own_entries requests budget first result left last → Keeps first last
  asks_keep requests budget first result left last (NoneLeft b o) = record { range = refl; scratch = refl }
  asks_keep requests budget first result left last (Answered q rest b o answer asked mid answers after l run asks) =
      keeps_then first mid last (run_keeps tells q.action q.given budget first (Ok answer) asked mid (own q.action q.given budget first (Ok answer) asked mid
      run)) (asks_keep rest asked mid (Ok answers) left last asks)
  asks_keep requests budget first result left last (StopsLater q rest b o answer asked mid stop after l run asks) =
      keeps_then first mid last (run_keeps tells q.action q.given budget first (Ok answer) asked mid (own q.action q.given budget first (Ok answer) asked mid
      run)) (asks_keep rest asked mid (Err stop) left last asks)
  asks_keep requests budget first result left last (StopsHere q rest b o stop after l run) =
      run_keeps tells q.action q.given budget first (Err stop) left last (own q.action q.given budget first (Err stop) left last run)

  pause_keeps : (timings : Option (ℕ × ℕ)) (busy : ℕ) (old : MachineState) (result : Result (Unit {0}) ClientError) (new : MachineState) →
      Pauses (Allows tells) timings busy old result new → Keeps old new
  pause_keeps timings busy old result new pause = elim pause as (λ result new pause. Keeps old new) [
    | Untimed none ↦ record { range = refl; scratch = refl }
    | Timed known new is less waits ↦ record { range = ap (λ (w : MachineState). length w.memory.range) waits; scratch = ap (λ (w : MachineState). w.memory.scratch) waits }
    | TooOften known is more ↦ record { range = refl; scratch = refl }
  ]

  busy_keeps : (timings : Option (ℕ × ℕ)) (budget : ℕ) (first : MachineState) (busy left : ℕ) (last : MachineState) → Busy (Allows tells) own_entries timings
      budget first busy left last → Keeps first last
  busy_keeps timings budget first busy left last NotYet = record { range = refl; scratch = refl }
  busy_keeps timings budget first busy left last (Again before asked mid answer after next new earlier run more pause) =
      keeps_then first mid last (busy_keeps timings budget first before asked mid earlier)
      (keeps_then mid next last (run_keeps tells CheckBusyStatus 0 asked mid (Ok answer) left next (own CheckBusyStatus 0 asked mid (Ok answer) left next run))
      (pause_keeps timings (suc before) next (Ok tt) last pause))

  waits_keep : (timings : Option (ℕ × ℕ)) (budget : ℕ) (first : MachineState) (result : Result (Unit {0}) ClientError) (left : ℕ) (last : MachineState) →
      Waits (Allows tells) own_entries timings budget first result left last → Keeps first last
  waits_keep timings budget first result left last waits = elim waits as (λ result left last waits. Keeps first last) [
    | IsIdle busy asked mid after last earlier run ↦
        keeps_then first mid last (busy_keeps timings budget first busy asked mid earlier) (run_keeps tells CheckBusyStatus 0 asked mid (Ok 0) after last
        (own CheckBusyStatus 0 asked mid (Ok 0) after last run))
    | IsStopped busy asked mid stop after last earlier run ↦
        keeps_then first mid last (busy_keeps timings budget first busy asked mid earlier) (run_keeps tells CheckBusyStatus 0 asked mid (Err stop) after last
        (own CheckBusyStatus 0 asked mid (Err stop) after last run))
    | IsLate busy asked mid answer after next error last earlier run more pause ↦
        keeps_then first mid last (busy_keeps timings budget first busy asked mid earlier)
        (keeps_then mid next last (run_keeps tells CheckBusyStatus 0 asked mid (Ok answer) after next (own CheckBusyStatus 0 asked mid (Ok answer) after next
        run)) (pause_keeps timings (suc busy) next (Err error) last pause))
  ]

  pause_late : (timings : Option (ℕ × ℕ)) (busy : ℕ) (old : MachineState) (result : Result (Unit {0}) ClientError) (new : MachineState) (error : ClientError) →
      result ≡ Err error → Pauses (Allows tells) timings busy old result new → IsCutShort error
  pause_late timings busy old result new error is pause = (elim pause as (λ result new pause. result ≡ Err error → IsCutShort error) [
    | Untimed none ↦ λ e. absurd (cc e)
    | Timed known new is less waits ↦ λ e. absurd (cc e)
    | TooOften known is more ↦ λ e. let same : Late (10 * (busy - 1)) ≡ error = cc in subst (λ (x : ClientError). IsCutShort x) same tt
  ]) is

  waits_halted : (timings : Option (ℕ × ℕ)) (budget : ℕ) (first : MachineState) (error : ClientError) (left : ℕ) (last : MachineState) →
      Waits (Allows tells) own_entries timings budget first (Err error) left last → IsCutShort error
  waits_halted timings budget first error left last (IsStopped busy asked mid stop after l earlier run) = tt
  waits_halted timings budget first error left last (IsLate busy asked mid answer after next e l earlier run more pause) = pause_late timings (suc busy) next (Err error) last error refl pause

  -- With fewer steps, where all is answered

  abbrev AreOfSequence : List Request → Type 0
  AreOfSequence [] = Unit {0}
  AreOfSequence (request ∷ rest) = IsOfSequence request.action × AreOfSequence rest

  asks_with_fewer : (requests : List Request) → AreOfSequence requests → (budget : ℕ) (first : MachineState) (answers : List ℕ) (left : ℕ) (last : MachineState)
      → Asks (Allows tells) own_entries requests budget first (Ok answers) left last
      → (spent : ℕ) × (left + spent ≡ budget) × ((spare total : ℕ) → spare + spent ≡ total → Asks (Allows tells) own_entries requests total first (Ok answers) spare last)
  asks_with_fewer [] are budget first answers left last (NoneLeft b o) =
      (0, omega arith, λ spare total sum. subst (λ (n : ℕ). Asks (Allows tells) own_entries [] n first (Ok []) spare first) (let e : spare ≡ total = omega arith in e) (NoneLeft spare first))
  asks_with_fewer (request ∷ rest) are budget first answers left last (Answered q r b o answer asked mid others after l run asks) =
      let steps = with_other_steps tells request.action request.given budget first (Ok answer) asked mid answer refl (own request.action request.given budget first (Ok answer) asked mid run) in
      let more = asks_with_fewer rest are.1 asked mid others left last asks in (
        more.0 + steps.0,
        (let e = more.1 in let f = steps.1 in omega (arith, e, f)),
        λ spare total sum. subst (λ (n : ℕ). Asks (Allows tells) own_entries (request ∷ rest) n first (Ok (answer ∷ others)) spare last) (let e : spare + more.0 + steps.0 ≡ total = omega arith in e)
            (Answered request rest (spare + more.0 + steps.0) first answer (spare + more.0) mid others spare last
            (run_of_own tells request.action are.0 request.given (spare + more.0 + steps.0) first (Ok answer) (spare + more.0) mid (steps.2 (spare + more.0))) (more.2 spare (spare + more.0) refl)),
      )

  busy_with_fewer : (timings : Option (ℕ × ℕ)) (budget : ℕ) (first : MachineState) (busy left : ℕ) (last : MachineState) → Busy (Allows tells) own_entries timings budget first busy left last
      → (spent : ℕ) × (left + spent ≡ budget) × ((spare total : ℕ) → spare + spent ≡ total → Busy (Allows tells) own_entries timings total first busy spare last)
  busy_with_fewer timings budget first busy left last NotYet =
      (0, omega arith, λ spare total sum. subst (λ (n : ℕ). Busy (Allows tells) own_entries timings n first 0 spare first) (let e : spare ≡ total = omega arith in e) NotYet)
  busy_with_fewer timings budget first busy left last (Again before asked mid answer after next new earlier run more pause) =
      let steps = with_other_steps tells CheckBusyStatus 0 asked mid (Ok answer) left next answer refl (own CheckBusyStatus 0 asked mid (Ok answer) left next run) in
      let inner = busy_with_fewer timings budget first before asked mid earlier in (
        inner.0 + steps.0,
        (let e = inner.1 in let f = steps.1 in omega (arith, e, f)),
        λ spare total sum. Again before (spare + steps.0) mid answer spare next last (inner.2 (spare + steps.0) total (omega arith))
            (run_of_own tells CheckBusyStatus tt 0 (spare + steps.0) mid (Ok answer) spare next (steps.2 spare)) more pause,
      )

  waits_with_fewer : (timings : Option (ℕ × ℕ)) (budget : ℕ) (first : MachineState) (result : Result (Unit {0}) ClientError) (left : ℕ) (last : MachineState) →
      result ≡ Ok tt → Waits (Allows tells) own_entries timings budget first result left last
      → (spent : ℕ) × (left + spent ≡ budget) × ((spare total : ℕ) → spare + spent ≡ total → Waits (Allows tells) own_entries timings total first (Ok tt) spare last)
  waits_with_fewer timings budget first result left last is waits =
      (elim waits as (λ result left last waits. result ≡ Ok tt → (spent : ℕ) × (left + spent ≡ budget) × ((spare total : ℕ) → spare + spent ≡ total →
      Waits (Allows tells) own_entries timings total first (Ok tt) spare last)) [
        | IsIdle busy asked mid after last earlier run ↦ λ e.
            let steps = with_other_steps tells CheckBusyStatus 0 asked mid (Ok 0) after last 0 refl (own CheckBusyStatus 0 asked mid (Ok 0) after last run) in
            let inner = busy_with_fewer timings budget first busy asked mid earlier in (
              inner.0 + steps.0,
              (let e = inner.1 in let f = steps.1 in omega (arith, e, f)),
              λ spare total sum. IsIdle busy (spare + steps.0) mid spare last (inner.2 (spare + steps.0) total (omega arith))
                  (run_of_own tells CheckBusyStatus tt 0 (spare + steps.0) mid (Ok 0) spare last (steps.2 spare)),
            )
        | IsStopped busy asked mid stop after last earlier run ↦ λ e. absurd (cc e)
        | IsLate busy asked mid answer after next error last earlier run more pause ↦ λ e. absurd (cc e)
      ]) is

  -- CHECK_BUSY_STATUS is the machine's own

  busy_own : (pieces : ℕ) (timings : Option (ℕ × ℕ)) (budget : ℕ) (first : MachineState) (busy left : ℕ) (last : MachineState) →
      Busy (Allows tells) (shadow_entries pieces) timings budget first busy left last
      → Busy (Allows tells) own_entries timings budget first busy left last
  busy_own pieces timings budget first busy left last NotYet = NotYet
  busy_own pieces timings budget first busy left last (Again before asked mid answer after next new earlier run more pause) =
      Again before asked mid answer left next last (busy_own pieces timings budget first before asked mid earlier)
      (performs_own tells pieces CheckBusyStatus tt 0 asked mid (Ok answer) left next run) more pause

  waits_own : (pieces : ℕ) (timings : Option (ℕ × ℕ)) (budget : ℕ) (first : MachineState) (result : Result (Unit {0}) ClientError) (left : ℕ) (last : MachineState)
      → Waits (Allows tells) (shadow_entries pieces) timings budget first result left last → Waits (Allows tells) own_entries timings budget first result left last
  waits_own pieces timings budget first result left last waits = elim waits as (λ result left last waits. Waits (Allows tells) own_entries timings budget first result left last) [
    | IsIdle busy asked mid after last earlier run ↦ IsIdle busy asked mid after last (busy_own pieces timings budget first busy asked mid earlier)
        (performs_own tells pieces CheckBusyStatus tt 0 asked mid (Ok 0) after last run)
    | IsStopped busy asked mid stop after last earlier run ↦
        IsStopped busy asked mid stop after last (busy_own pieces timings budget first busy asked mid earlier) (performs_own tells pieces CheckBusyStatus tt 0 asked mid (Err stop) after last run)
    | IsLate busy asked mid answer after next error last earlier run more pause ↦
        IsLate busy asked mid answer after next error last (busy_own pieces timings budget first busy asked mid earlier)
        (performs_own tells pieces CheckBusyStatus tt 0 asked mid (Ok answer) after next run) more pause
  ]

-- A command up to its status

record UntilAsOwn (tells : Type 0) (pieces : ℕ) (timings : Option (ℕ × ℕ)) (requests : List Request) (budget : ℕ) (first : MachineState)
    (outcome : Result (Unit {0}) ClientError) (left : ℕ) (told : MachineState) : Type 0 where
  scratch : List ℕ
  long : length scratch ≡ 4096
  own_budget : ℕ
  own_left : ℕ
  own_told : MachineState
  until : UntilStatus (Allows tells) own_entries timings requests own_budget (holding (range_with_record pieces first) scratch first) outcome own_left own_told
  beside : AgreesElsewhere told own_told
  paid : PaysMoves pieces budget outcome left own_budget own_left
  shown : OnOk outcome (ShowsRecord pieces told own_told)

module _ (tells : Type 0) (own : OwnProgramsRun tells) (pieces : ℕ) (timings : Option (ℕ × ℕ)) (before : List Request) (are : AreBefore before) (budget : ℕ)
    (first : MachineState) (rooms : HoldsPieces first pieces) where
  -- the machine behind EXECUTE_OPERATION still has room
  rooms_behind : (scratch : List ℕ) (own_budget : ℕ) (result : Result (List ℕ) RunStop) (left : ℕ) (mid : MachineState) (asked : ℕ)
      (waited : Result (Unit {0}) ClientError) (after : ℕ) (idle : MachineState) → length scratch ≡ 4096
      → Asks (Allows tells) own_entries (executes before) own_budget (holding (range_with_record pieces first) scratch first) result left mid →
      Waits (Allows tells) own_entries timings asked mid waited after idle → HoldsPieces idle pieces
  rooms_behind scratch own_budget result left mid asked waited after idle long asks waits =
      let one = asks_keep tells own (executes before) own_budget (holding (range_with_record pieces first) scratch first) result left mid asks in
      let two = waits_keep tells own timings asked mid waited after idle waits in
      let size : length (part first.memory.scratch 0 (128 * pieces)) ≡ 128 * pieces = length-part first.memory.scratch 0 (128 * pieces) (omega (arith, rooms.scratch, rooms.few)) in
      let same : length (range_with_record pieces first) ≡ length first.memory.range =
      length-put_at first.memory.range 0 (part first.memory.scratch 0 (128 * pieces)) (omega (arith, size, rooms.range)) in
      record {
        scratch = ap (λ (xs : List ℕ). length xs) (two.scratch ∙ one.scratch) ∙ long;
        range = omega (arith, two.range, one.range, same, rooms.range);
        small = omega (arith, two.range, one.range, same, rooms.small);
        some = rooms.some;
        few = rooms.few;
      }

  are_of : (requests : List Request) → AreBefore requests → AreOfSequence tells own (executes requests)
  are_of [] all = (tt, tt)
  are_of (request ∷ rest) all = (all.0.1, are_of rest all.1)

  -- the status: the record is moved out, and then told by the machine's own program
  told_as_own : (scratch : List ℕ) (own_budget : ℕ) (answers : List ℕ) (asked : ℕ) (mid : MachineState) (waited : ℕ) (idle : MachineState)
      (run : Result ℕ RunStop) (left : ℕ) (told : MachineState) (outcome : Result (Unit {0}) ClientError)
      → length scratch ≡ 4096 → own_budget + move_steps pieces ≡ budget → Asks (Allows tells) own_entries (executes before) own_budget
      (holding (range_with_record pieces first) scratch first) (Ok answers) asked mid
      → Waits (Allows tells) own_entries timings asked mid (Ok tt) waited idle
      → ((own_budget own_asked own_waited own_left : ℕ) (own_told : MachineState) → Asks (Allows tells) own_entries (executes before) own_budget
      (holding (range_with_record pieces first) scratch first) (Ok answers) own_asked mid
      → Waits (Allows tells) own_entries timings own_asked mid (Ok tt) own_waited idle → Performs (Allows tells) own_entries GetCommandStatus 0 own_waited idle run own_left own_told
      → UntilStatus (Allows tells) own_entries timings (executes before) own_budget (holding (range_with_record pieces first) scratch first) outcome own_left own_told)
      → ((stop : RunStop) → run ≡ Err stop → outcome ≡ Err (Stopped stop)) → HoldsPieces idle pieces
      → MovesThenTells tells pieces 0 waited idle run left told → UntilAsOwn tells pieces timings (executes before) budget first outcome left told
  told_as_own scratch own_budget answers asked mid waited idle run left told outcome long spent asks waits joins stops idle_rooms tells_it =
      let fewer_asks = asks_with_fewer tells own (executes before) (are_of before are) own_budget (holding (range_with_record pieces first) scratch first) answers asked mid asks in
      let fewer_waits = waits_with_fewer tells own timings asked mid (Ok tt) waited idle refl waits in
      let asked_steps = fewer_asks.1 in
      let waited_steps = fewer_waits.1 in
      (elim tells_it as (λ run left told tells_it. ((own_budget own_asked own_waited own_left : ℕ) (own_told : MachineState)
      → Asks (Allows tells) own_entries (executes before) own_budget (holding (range_with_record pieces first) scratch first) (Ok answers) own_asked mid
      → Waits (Allows tells) own_entries timings own_asked mid (Ok tt) own_waited idle → Performs (Allows tells) own_entries GetCommandStatus 0 own_waited idle run own_left own_told
      → UntilStatus (Allows tells) own_entries timings (executes before) own_budget (holding (range_with_record pieces first) scratch first) outcome own_left own_told)
      → ((stop : RunStop) → run ≡ Err stop → outcome ≡ Err (Stopped stop)) → UntilAsOwn tells pieces timings (executes before) budget first outcome left told) [
        | TellsMoved spare out run left told paid moved own_run ↦ λ joins stops.
            let back : holding idle.memory.range idle.memory.scratch out ≡ idle = ap (λ (w : MachineState). holding idle.memory.range idle.memory.scratch w) moved.others.elsewhere in
            let quiet = runs_beside tells GetCommandStatus 0 spare out run left told idle.memory.range idle.memory.scratch tt (own GetCommandStatus 0 spare out run left told own_run) in
            let own_told = holding idle.memory.range idle.memory.scratch told in
            let again = run_of_own tells GetCommandStatus tt 0 spare idle run left own_told (subst (λ (w : MachineState). OwnRun tells GetCommandStatus 0 spare w run left own_told) back quiet.1) in
            let total = spare + fewer_waits.0 + fewer_asks.0 in
            let same : total + 2 * move_steps pieces ≡ budget = omega (arith, paid, spent, asked_steps, waited_steps) in
            record {
              scratch = scratch;
              long = long;
              own_budget = total;
              own_left = left;
              own_told = own_told;
              until = joins total (spare + fewer_waits.0) spare left own_told (fewer_asks.2 (spare + fewer_waits.0) total refl) (fewer_waits.2 spare (spare + fewer_waits.0) refl) again;
              beside = refl;
              paid = PaysBoth outcome left total same;
              shown = shown_by outcome {A = ShowsRecord pieces told own_told} (record {
                range = ap (λ (m : MemoryState). m.range) quiet.0 ∙ moved.kept;
                moved = ap (λ (m : MemoryState). part m.scratch 0 (128 * pieces)) quiet.0 ∙ moved.moved;
                small = let e = ap (λ (m : MemoryState). length m.range) quiet.0 in omega (arith, e, ap (λ (xs : List ℕ). length xs) moved.kept, idle_rooms.small);
              });
            }
        | StopsMovingOut told short comes kept ↦ λ joins stops.
            let total = fewer_waits.0 + fewer_asks.0 in
            let again = run_of_own tells GetCommandStatus tt 0 0 idle (Err Budget) 0 idle (StopsAtOnce refl) in
            let at_stop = joins total fewer_waits.0 0 0 idle (fewer_asks.2 fewer_waits.0 total refl) (fewer_waits.2 0 fewer_waits.0 (omega arith)) again in
            cut_by outcome (Stopped Budget) (stops Budget refl) tt total 0 idle told at_stop comes.elsewhere
            (omega (arith, short, spent, asked_steps, waited_steps)) (omega (arith, short, spent, asked_steps, waited_steps))
      ]) joins stops
    where
      shown_by : (outcome : Result (Unit {0}) ClientError) {A : Type 0} → A → OnOk outcome A
      shown_by (Ok done) is = is
      shown_by (Err error) is = tt

      cut_by : (outcome : Result (Unit {0}) ClientError) (error : ClientError) → outcome ≡ Err error → IsCutShort error → (total own_left : ℕ) (own_told told : MachineState)
          → UntilStatus (Allows tells) own_entries timings (executes before) total (holding (range_with_record pieces first) scratch first) outcome own_left
          own_told → AgreesElsewhere told own_told → total ≤ budget → budget ≤ total + 2 * move_steps pieces
          → UntilAsOwn tells pieces timings (executes before) budget first outcome 0 told
      cut_by outcome error is halted total own_left own_told told until beside less more =
          subst (λ (r : Result (Unit {0}) ClientError). UntilAsOwn tells pieces timings (executes before) budget first r 0 told) (sym is)
          (record {
            scratch = scratch;
            long = long;
            own_budget = total;
            own_left = own_left;
            own_told = own_told;
            until = subst (λ (r : Result (Unit {0}) ClientError). UntilStatus (Allows tells) own_entries timings (executes before) total
                (holding (range_with_record pieces first) scratch first) r own_left own_told) is until;
            beside = beside;
            paid = PaysPart error 0 total own_left halted less more;
            shown = tt;
          })

  not_asked : (stop : RunStop) (answers : Result (List ℕ) RunStop) (left : ℕ) (told : MachineState) → answers ≡ Err stop → AskedAsOwn tells pieces (executes before) budget first answers left told
      → UntilAsOwn tells pieces timings (executes before) budget first (Err (Stopped stop)) left told
  not_asked stop answers left told is asked =
      (elim asked as (λ answers left told asked. answers ≡ Err stop → UntilAsOwn tells pieces timings (executes before) budget first (Err (Stopped stop)) left
      told) [
        | AsksAll scratch own_budget answers left told long spent asks ↦ λ e. record {
          scratch = scratch;
          long = long;
          own_budget = own_budget;
          own_left = left;
          own_told = told;
          until = NotAsked stop left told (subst (λ (a : Result (List ℕ) RunStop). Asks (Allows tells) own_entries (executes before) own_budget
              (holding (range_with_record pieces first) scratch first) a left told) e asks);
          beside = refl;
          paid = PaysPart (Stopped stop) left own_budget left tt (omega arith) (omega arith);
          shown = tt;
        }
        | AsksSome scratch own_budget own_left own_told other left told long less more asks beside ↦ λ e. let same : other ≡ stop = cc in record {
          scratch = scratch;
          long = long;
          own_budget = own_budget;
          own_left = own_left;
          own_told = own_told;
          until = NotAsked stop own_left own_told
              (subst (λ (s : RunStop). Asks (Allows tells) own_entries (executes before) own_budget (holding (range_with_record pieces first) scratch first) (Err s)
              own_left own_told) same asks);
          beside = beside;
          paid = PaysPart (Stopped stop) left own_budget own_left tt less (omega arith);
          shown = tt;
        }
      ]) is

  -- what was asked and answered
  record IsAsked (answers : List ℕ) (asked : ℕ) (mid : MachineState) : Type 0 where
    scratch : List ℕ
    own_budget : ℕ
    long : length scratch ≡ 4096
    spent : own_budget + move_steps pieces ≡ budget
    asks : Asks (Allows tells) own_entries (executes before) own_budget (holding (range_with_record pieces first) scratch first) (Ok answers) asked mid

  is_asked : (answers : List ℕ) (result : Result (List ℕ) RunStop) (asked : ℕ) (mid : MachineState) → result ≡ Ok answers →
      AskedAsOwn tells pieces (executes before) budget first result asked mid → IsAsked answers asked mid
  is_asked answers result asked mid is shadow = (elim shadow as (λ result asked mid shadow. result ≡ Ok answers → IsAsked answers asked mid) [
    | AsksAll scratch own_budget result left last long spent asks ↦ λ e. record {
      scratch = scratch;
      own_budget = own_budget;
      long = long;
      spent = spent;
      asks = subst (λ (a : Result (List ℕ) RunStop). Asks (Allows tells) own_entries (executes before) own_budget (holding (range_with_record pieces first) scratch first) a left last) e asks;
    }
    | AsksSome scratch own_budget own_left own_last stop left last long less more asks beside ↦ λ e. absurd (cc e)
  ]) is

  until_as_own : (outcome : Result (Unit {0}) ClientError) (left : ℕ) (told : MachineState) → UntilStatus (Allows tells) (shadow_entries pieces) timings
      (executes before) budget first outcome left told
      → UntilAsOwn tells pieces timings (executes before) budget first outcome left told
  until_as_own outcome left told until = elim until as (λ outcome left told until. UntilAsOwn tells pieces timings (executes before) budget first outcome left told) [
    | NotAsked stop left told asks ↦ not_asked stop (Err stop) left told refl (asked_as_own tells own pieces before are budget first rooms (Err stop) left told asks)
    | NotWaited answers asked mid error left told asks waits ↦
        let is = is_asked answers (Ok answers) asked mid refl (asked_as_own tells own pieces before are budget first rooms (Ok answers) asked mid asks) in
        let own_waits = waits_own tells own pieces timings asked mid (Err error) left told waits in
        let spent = is.spent in
        record {
          scratch = is.scratch;
          long = is.long;
          own_budget = is.own_budget;
          own_left = left;
          own_told = told;
          until = NotWaited answers asked mid error left told is.asks own_waits;
          beside = refl;
          paid = PaysPart error left is.own_budget left (waits_halted tells own timings asked mid error left told own_waits) (omega arith) (omega arith);
          shown = tt;
        }
    | NotTold answers asked mid waited idle stop left told asks waits run ↦
        let is = is_asked answers (Ok answers) asked mid refl (asked_as_own tells own pieces before are budget first rooms (Ok answers) asked mid asks) in
        let own_waits = waits_own tells own pieces timings asked mid (Ok tt) waited idle waits in
        told_as_own is.scratch is.own_budget answers asked mid waited idle (Err stop) left told (Err (Stopped stop)) is.long is.spent is.asks own_waits
        (λ own_budget own_asked own_waited own_left own_told own_asks own_waits own_run. NotTold answers own_asked mid own_waited idle stop own_left own_told own_asks own_waits own_run)
        (λ other e. let same : stop ≡ other = cc in ap (λ (s : RunStop). Err (Stopped s)) same)
        (rooms_behind is.scratch is.own_budget (Ok answers) asked mid asked (Ok tt) waited idle is.long is.asks own_waits)
        (moves_then_tells tells pieces idle (rooms_behind is.scratch is.own_budget (Ok answers) asked mid asked (Ok tt) waited idle is.long is.asks own_waits) 0 waited (Err stop) left told run)
    | IsTold answers asked mid waited idle status left told asks waits run ↦
        let is = is_asked answers (Ok answers) asked mid refl (asked_as_own tells own pieces before are budget first rooms (Ok answers) asked mid asks) in
        let own_waits = waits_own tells own pieces timings asked mid (Ok tt) waited idle waits in
        told_as_own is.scratch is.own_budget answers asked mid waited idle (Ok status) left told (judged status) is.long is.spent is.asks own_waits
        (λ own_budget own_asked own_waited own_left own_told own_asks own_waits own_run. IsTold answers own_asked mid own_waited idle status own_left own_told own_asks own_waits own_run)
        (λ other e. absurd (cc e))
        (rooms_behind is.scratch is.own_budget (Ok answers) asked mid asked (Ok tt) waited idle is.long is.asks own_waits)
        (moves_then_tells tells pieces idle (rooms_behind is.scratch is.own_budget (Ok answers) asked mid asked (Ok tt) waited idle is.long is.asks own_waits) 0 waited (Ok status) left told run)
  ]

  -- END_OPERATION is the machine's own, and leaves both memories alone
  paid_closed : (outcome : Result (Unit {0}) ClientError) (ended : Result ℕ RunStop) (left own_budget own_left : ℕ) → PaysMoves pieces budget outcome left
      own_budget own_left → PaysMoves pieces budget (closed outcome ended) left own_budget own_left
  paid_closed outcome ended left own_budget own_left paid = elim paid as (λ outcome left own_budget own_left paid. PaysMoves pieces budget (closed outcome ended) left own_budget own_left) [
    | PaysBoth result left own_budget same ↦ PaysBoth (closed result ended) left own_budget same
    | PaysPart error left own_budget own_left halted less more ↦ PaysPart error left own_budget own_left halted less more
  ]

  shown_closed : (outcome : Result (Unit {0}) ClientError) (ended : Result ℕ RunStop) {A B : Type 0} → (A → B) → OnOk outcome A → OnOk (closed outcome ended) B
  shown_closed (Ok done) (Ok answer) f is = f is
  shown_closed (Ok done) (Err stop) f is = tt
  shown_closed (Err error) ended f is = tt

  pub sequence_as_own : (result : Result (Unit {0}) ClientError) (left : ℕ) (last : MachineState) → Sequence (Allows tells) (shadow_entries pieces) timings
      (executes before) budget first result left last
      → SequenceAsOwn tells pieces timings (executes before) budget first result left last
  sequence_as_own result left last sequence =
      let is = until_as_own sequence.outcome left sequence.told sequence.until_status in
      let told = sequence.told in
      let own_told = is.own_told in
      let back : holding own_told.memory.range own_told.memory.scratch told ≡ own_told = ap (λ (w : MachineState). holding own_told.memory.range own_told.memory.scratch w) is.beside in
      let quiet = runs_beside tells EndOperation 0 end_steps told sequence.ended sequence.spare last own_told.memory.range own_told.memory.scratch tt
      (own EndOperation 0 end_steps told sequence.ended sequence.spare last (performs_own tells pieces EndOperation tt 0 end_steps told sequence.ended sequence.spare last sequence.ends)) in
      let own_last = holding own_told.memory.range own_told.memory.scratch last in
      let ends = run_of_own tells EndOperation tt 0 end_steps own_told sequence.ended sequence.spare own_last
      (subst (λ (w : MachineState). OwnRun tells EndOperation 0 end_steps w sequence.ended sequence.spare own_last) back quiet.1) in
      subst (λ (r : Result (Unit {0}) ClientError). SequenceAsOwn tells pieces timings (executes before) budget first r left last) (sym sequence.result_is)
      (record {
        scratch = is.scratch;
        long = is.long;
        own_budget = is.own_budget;
        own_left = is.own_left;
        own_last = own_last;
        sequence = record { outcome = sequence.outcome; told = own_told; ended = sequence.ended; spare = sequence.spare; until_status = is.until; ends = ends; result_is = refl };
        last_is = refl;
        paid = paid_closed sequence.outcome sequence.ended left is.own_budget is.own_left is.paid;
        shown = shown_closed sequence.outcome sequence.ended (λ (e : ShowsRecord pieces told own_told). let shown : ShowsRecord pieces last own_last = record {
          range = ap (λ (m : MemoryState). m.range) quiet.0 ∙ e.range;
          moved = ap (λ (m : MemoryState). part m.scratch 0 (128 * pieces)) quiet.0 ∙ e.moved;
          small = let same = ap (λ (m : MemoryState). length m.range) quiet.0 in omega (arith, same, e.small);
        } in shown) is.shown;
      })

-- The client's four

module _ (tells : Type 0) (own : OwnProgramsRun tells) (pieces : ℕ) (timings : Option (ℕ × ℕ)) (budget : ℕ) (first : MachineState)
    (rooms : HoldsPieces first pieces) (result : Result (Unit {0}) ClientError) (left : ℕ) (last : MachineState) where
  pub write_as_own : Sequence (Allows tells) (shadow_entries pieces) timings write_requests budget first result left last →
      SequenceAsOwn tells pieces timings write_requests budget first result left last
  write_as_own = sequence_as_own tells own pieces timings (_ ∷ _ ∷ []) ((tt, tt, tt), ((tt, tt, tt), tt)) budget first rooms result left last

  pub clear_as_own : (id : ℕ) → Sequence (Allows tells) (shadow_entries pieces) timings (clear_requests id) budget first result left last →
      SequenceAsOwn tells pieces timings (clear_requests id) budget first result left last
  clear_as_own id = sequence_as_own tells own pieces timings (_ ∷ _ ∷ []) ((tt, tt, tt), ((tt, tt, tt), tt)) budget first rooms result left last

  pub dummy_as_own : Sequence (Allows tells) (shadow_entries pieces) timings dummy_requests budget first result left last →
      SequenceAsOwn tells pieces timings dummy_requests budget first result left last
  dummy_as_own = sequence_as_own tells own pieces timings (_ ∷ _ ∷ []) ((tt, tt, tt), ((tt, tt, tt), tt)) budget first rooms result left last

  pub read_as_own : (id : ℕ) → Sequence (Allows tells) (shadow_entries pieces) timings (read_requests id) budget first result left last →
      SequenceAsOwn tells pieces timings (read_requests id) budget first result left last
  read_as_own id = sequence_as_own tells own pieces timings (_ ∷ _ ∷ _ ∷ []) ((tt, tt, tt), ((tt, tt, tt), ((tt, tt, tt), tt))) budget first rooms result left last
