-- A client's commands as dialogues.
use Rattle.std.proofs.Common.{◌∙◌, ◌≡◌, ℕ, zero, suc, ◌-◌, ◌*◌, ◌<◌, ◌≤◌, Bool, true, false, List, [], ◌∷◌, ◌++◌, length, take, drop, Option, Some, None, Result, Ok, Err, refl, sym, ap, subst, arith}
use Rattle.std.specs.Prelude.{replicate, IfOk, ◌==◌, nat_lt, codes}
use Rattle.std.proofs.lemmas.Bool.{ne_eqb}
use Rattle.std.proofs.lemmas.List.{length-replicate, length-take-le}
use Rattle.std.proofs.lemmas.Bool.Decides.{nat_tests}
use Rattle.base_model.specs.Bytes.{number_at}
use Rattle.apei_space.specs.declared.faults.SpaceFault.{SpaceFault}
use Rattle.apei_space.specs.Calls.{Call, Wait, ReadBytes, WriteBytes}
use Rattle.erst_entries.specs.declared.actions.Action.{Action}
use Rattle.erst_entries.specs.declared.actions.Action.TheVariants.{CheckBusyStatus, GetCommandStatus, EndOperation, GetRecordCount, GetRecordIdentifier}
use Rattle.erst_entries.specs.declared.entries.Entry.{Entry}
use Rattle.erst_entries.specs.Actions.{code_of}
use Rattle.erst_entries.specs.Layout.{Erst}
use Rattle.erst_entries.specs.Programs.{program_of}
use Rattle.erst_interp.specs.declared.stops.RunStop.{RunStop}
use Rattle.erst_interp.proofs.Consequences.{run_spends_some}
use Rattle.erst_client.specs.declared.errors.AttachError.{AttachError}
use Rattle.erst_client.specs.declared.errors.ClientError.{ClientError}
use Rattle.erst_client.proofs.RefusalLemmas.{copies}
use Rattle.erst_client.specs.declared.errors.ClientError.TheVariants.{Stopped, Late, Range}
use Rattle.erst_client.specs.declared.requests.Request.{Request}
use Rattle.erst_client.specs.Requests.{Performs, Asks, NoneLeft, Answered as asked_one, StopsLater, StopsHere}
use Rattle.erst_client.specs.Sequences.{Pauses, Untimed, Timed, TooOften, Busy, NotYet, Again, Waits, IsIdle, IsStopped, IsLate, judged, UntilStatus, NotAsked}
use Rattle.erst_client.specs.Sequences.{NotWaited, NotTold, IsTold, Sequence, write_requests, read_requests}
use Rattle.erst_client.specs.Commands.{ClientState, write_refusal, address_in, Puts, NotPut, NotMarked, IsPut, Writes, IsNoRecord, IsNotPut, IsAsked}
use Rattle.erst_client.specs.Commands.{copy_refusal, CopiesOut, IsFilled, IsNotFilled, copied, Reads, IsNotRead, HasNoLength, IsNotCopied, IsCopied, Counts}
use Rattle.erst_client.specs.Commands.{Names}
use Rattle.erst_client.specs.Attaching.{Attaches, attach_requests}
use Rattle.erst_commands.proofs.Dialogues.{Dialogue, Ends, Calls, go_on, Held, IsDone, Answered, done, then}
use Rattle.erst_commands.proofs.RunDialogues.{answer_in, run_of, run_held}
use Rattle.erst_client.proofs.Terms.{attached, counted, named, closed, end_steps}
use Rattle.erst_commands.proofs.Terms.{AskAlike}

abbrev filled_in : Call → List ℕ
filled_in (ReadBytes at before after answer) = after
filled_in call = []

abbrev in_range : Result (Unit {0}) SpaceFault → Result (Unit {0}) ClientError
in_range (Ok done) = Ok tt
in_range (Err fault) = Err (Range fault)

abbrev pub Ended : Type 0
Ended = Result (Unit {0}) ClientError × ℕ

module _ (entries : List Entry) where
  pub perform : Action → ℕ → ℕ → Dialogue (Result ℕ RunStop × ℕ)
  perform action given budget = run_of (program_of (code_of action) entries) given budget

  -- requests in order
  abbrev with_answer : ℕ → Result (List ℕ) RunStop × ℕ → Dialogue (Result (List ℕ) RunStop × ℕ)
  with_answer answer (Ok answers, left) = Ends (Ok (answer ∷ answers), left)
  with_answer answer (Err stop, left) = Ends (Err stop, left)

  abbrev ask_rest : (ℕ → Dialogue (Result (List ℕ) RunStop × ℕ)) → Result ℕ RunStop × ℕ → Dialogue (Result (List ℕ) RunStop × ℕ)
  ask_rest more (Ok answer, left) = go_on (more left) (with_answer answer)
  ask_rest more (Err stop, left) = Ends (Err stop, left)

  abbrev pub ask_all : List Request → ℕ → Dialogue (Result (List ℕ) RunStop × ℕ)
  ask_all [] budget = Ends (Ok [], budget)
  ask_all (request ∷ rest) budget = go_on (perform request.action request.given budget) (ask_rest (ask_all rest))

  -- CHECK_BUSY_STATUS until it answers 0. The first number bounds how often it is run
  abbrev pause_if : Bool → ℕ → Dialogue (Result (Unit {0}) ClientError)
  pause_if true busy = Ends (Err (Late (10 * (busy - 1))))
  pause_if false busy = Calls (Wait 10) (λ call. Ends (Ok tt))

  abbrev pause : Option (ℕ × ℕ) → ℕ → Dialogue (Result (Unit {0}) ClientError)
  pause None busy = Ends (Ok tt)
  pause (Some known) busy = pause_if (nat_lt known.0 (10 * busy)) busy

  abbrev when_paused : (ℕ → Dialogue Ended) → ℕ → Result (Unit {0}) ClientError → Dialogue Ended
  when_paused more left (Ok done) = more left
  when_paused more left (Err error) = Ends (Err error, left)

  abbrev if_idle : Bool → Option (ℕ × ℕ) → ℕ → (ℕ → Dialogue Ended) → ℕ → Dialogue Ended
  if_idle true timings busy more left = Ends (Ok tt, left)
  if_idle false timings busy more left = go_on (pause timings (suc busy)) (when_paused more left)

  abbrev when_checked : Option (ℕ × ℕ) → ℕ → (ℕ → Dialogue Ended) → Result ℕ RunStop × ℕ → Dialogue Ended
  when_checked timings busy more (Ok answer, left) = if_idle (answer == 0) timings busy more left
  when_checked timings busy more (Err stop, left) = Ends (Err (Stopped stop), left)

  abbrev wait_from : Option (ℕ × ℕ) → ℕ → ℕ → ℕ → Dialogue Ended
  wait_from timings zero busy left = Ends (Ok tt, 0)
  wait_from timings (suc fuel) busy left = go_on (perform CheckBusyStatus 0 left) (when_checked timings busy (wait_from timings fuel (suc busy)))

  -- a sequence
  abbrev when_told : Result ℕ RunStop × ℕ → Dialogue Ended
  when_told (Ok status, left) = Ends (judged status, left)
  when_told (Err stop, left) = Ends (Err (Stopped stop), left)

  abbrev when_idle : Ended → Dialogue Ended
  when_idle (Ok done, left) = go_on (perform GetCommandStatus 0 left) when_told
  when_idle (Err error, left) = Ends (Err error, left)

  abbrev when_asked : Option (ℕ × ℕ) → Result (List ℕ) RunStop × ℕ → Dialogue Ended
  when_asked timings (Ok answers, left) = go_on (wait_from timings (suc left) 0 left) when_idle
  when_asked timings (Err stop, left) = Ends (Err (Stopped stop), left)

  until_status : Option (ℕ × ℕ) → List Request → ℕ → Dialogue Ended
  until_status timings requests budget = go_on (ask_all requests budget) (when_asked timings)

  abbrev close : Ended → Dialogue Ended
  close told = go_on (perform EndOperation 0 end_steps) (λ ended. Ends (closed told.0 ended.0, told.1))

  pub sequence : Option (ℕ × ℕ) → List Request → ℕ → Dialogue Ended
  sequence timings requests budget = go_on (until_status timings requests budget) close

  pub count : ℕ → Dialogue (Result ℕ ClientError × ℕ)
  count budget = go_on (perform GetRecordCount 0 budget) (λ told. Ends (counted told.0, told.1))

  pub name : ℕ → Dialogue (Result (Option ℕ) ClientError × ℕ)
  name budget = go_on (perform GetRecordIdentifier 0 budget) (λ told. Ends (named told.0, told.1))

pub attach : Erst → ℕ → Dialogue (Result ClientState AttachError × ℕ)
attach erst budget = go_on (ask_all erst.entries (attach_requests erst.entries) budget) (λ told. Ends (attached erst told.0, told.1))

-- the bytes into the log range, and the mark
abbrev put_mark : ℕ → Result (Unit {0}) SpaceFault → Dialogue (Result (Unit {0}) ClientError)
put_mark address (Ok done) = Calls (WriteBytes (address_in address 108) (codes "ER") (Ok tt)) (λ call. Ends (in_range (answer_in call)))
put_mark address (Err fault) = Ends (Err (Range fault))

put : ℕ → List ℕ → Dialogue (Result (Unit {0}) ClientError)
put address bytes = Calls (WriteBytes address bytes (Ok tt)) (λ call. put_mark address (answer_in call))

abbrev when_put : ClientState → ℕ → Result (Unit {0}) ClientError → Dialogue Ended
when_put client budget (Ok done) = sequence client.table.entries client.timings write_requests budget
when_put client budget (Err error) = Ends (Err error, budget)

abbrev write_if : ClientState → List ℕ → ℕ → Option ClientError → Dialogue Ended
write_if client bytes budget None = go_on (put client.address bytes) (when_put client budget)
write_if client bytes budget (Some error) = Ends (Err error, budget)

pub write : ClientState → List ℕ → ℕ → Dialogue Ended
write client bytes budget = write_if client bytes budget (write_refusal bytes client.range)

-- a read into a buffer of so many bytes: its answer with the bytes that it read, and the steps that are left
abbrev pub Copied : Type 0
Copied = Result ℕ ClientError × List ℕ

abbrev copy_if : ClientState → Option ClientError → ℕ → ℕ → Dialogue (Copied × ℕ)
copy_if client (Some error) len left = Ends ((Err error, []), left)
copy_if client None len left = Calls (ReadBytes client.address (replicate len 0) [] (Ok tt)) (λ call. Ends ((copied (in_range (answer_in call)) len, filled_in call), left))

abbrev when_long : ClientState → ℕ → ℕ → Result (Unit {0}) SpaceFault → List ℕ → Dialogue (Copied × ℕ)
when_long client room left (Ok done) field = copy_if client (copy_refusal (number_at field 0 4) client.range room) (number_at field 0 4) left
when_long client room left (Err fault) field = Ends ((Err (Range fault), []), left)

abbrev when_shown : ClientState → ℕ → Ended → Dialogue (Copied × ℕ)
when_shown client room (Ok done, left) =
    Calls (ReadBytes (address_in client.address 20) (0 ∷ 0 ∷ 0 ∷ 0 ∷ []) [] (Ok tt)) (λ call. when_long client room left (answer_in call) (filled_in call))
when_shown client room (Err error, left) = Ends ((Err error, []), left)

pub read : ClientState → ℕ → ℕ → ℕ → Dialogue (Copied × ℕ)
read client id room budget = go_on (sequence client.table.entries client.timings (read_requests id) budget) (when_shown client room)

-- The relations of the client are these dialogues

less_true : (a b : ℕ) → a < b → nat_lt a b ≡ true
less_true a b less = grind (arith, nat_tests)

less_false : (a b : ℕ) → b ≤ a → nat_lt a b ≡ false
less_false a b less = grind (arith, nat_tests)

-- a record that is copied out fits the buffer
pub copy_fits : (len range room : ℕ) → copy_refusal len range room ≡ None → len ≤ room
copy_fits len range room is = (copies len range room is).fits

module _ {W : Type 0} (allows : W → Call → W → Type 0) where
  module _ (entries : List Entry) where
    perform_held : (action : Action) (given budget : ℕ) (old : W) (answer : Result ℕ RunStop) (left : ℕ) (new : W) → Performs allows entries action given budget
        old answer left new → Held allows (perform entries action given budget) old (answer, left) new
    unfolding perform
    perform_held action given budget old answer left new run = run_held allows (program_of (code_of action) entries) given budget old answer left new run

    pub asks_held : (requests : List Request) (budget : ℕ) (old : W) (answers : Result (List ℕ) RunStop) (left : ℕ) (last : W) → Asks allows entries requests budget old answers left last
        → Held allows (ask_all entries requests budget) old (answers, left) last
    asks_held requests budget old answers left last asks = elim asks as (λ requests budget old answers left last asks. Held allows (ask_all entries requests budget) old (answers, left) last) [
      | NoneLeft budget old ↦ IsDone _ old
      | asked_one request rest budget old answer left mid answers after last performs (asks → more) ↦
          then _ (perform_held request.action request.given budget old (Ok answer) left mid performs) (then _ more (IsDone _ last))
      | StopsLater request rest budget old answer left mid stop after last performs (asks → more) ↦
          then _ (perform_held request.action request.given budget old (Ok answer) left mid performs) (then _ more (IsDone _ last))
      | StopsHere request rest budget old stop left last performs ↦ then _ (perform_held request.action request.given budget old (Err stop) left last performs) (IsDone _ last)
    ]

    module _ (timings : Option (ℕ × ℕ)) where
      pause_held : (busy : ℕ) (old : W) (result : Result (Unit {0}) ClientError) (new : W) → Pauses allows timings busy old result new → Held allows (pause entries timings busy) old result new
      pause_held busy old result new pauses = elim pauses as (λ result new pauses. Held allows (pause entries timings busy) old result new) [
        | Untimed none ↦ subst (λ (t : Option (ℕ × ℕ)). Held allows (pause entries t busy) old (Ok tt) old) (sym none) (IsDone _ old)
        | Timed known new is within allowed ↦ subst (λ (t : Option (ℕ × ℕ)). Held allows (pause entries t busy) old (Ok tt) new) (sym is)
            (subst (λ (b : Bool). Held allows (pause_if entries b busy) old (Ok tt) new) (sym (less_false known.0 (10 * busy) within))
            (Answered _ _ old (Wait 10) new _ new refl allowed (IsDone _ new)))
        | TooOften known is beyond ↦ subst (λ (t : Option (ℕ × ℕ)). Held allows (pause entries t busy) old (Err (Late (10 * (busy - 1)))) old) (sym is)
            (subst (λ (b : Bool). Held allows (pause_if entries b busy) old (Err (Late (10 * (busy - 1)))) old) (sym (less_true known.0 (10 * busy) beyond)) (IsDone _ old))
      ]

      abbrev WaitHeld : ℕ → ℕ → W → Ended → W → Type 0
      WaitHeld busy left mid outcome last = (fuel : ℕ) → left < fuel → Held allows (wait_from entries timings fuel busy left) mid outcome last

      checks_on : (fuel busy left : ℕ) (mid : W) (answer after : ℕ) (next new : W) (outcome : Ended) (last : W) → Performs allows entries CheckBusyStatus 0 left
          mid (Ok answer) after next → (answer ≡ 0 → ⊥)
          → Pauses allows timings (suc busy) next (Ok tt) new → WaitHeld (suc busy) after new outcome last → left < fuel → Held allows (wait_from entries timings fuel busy left) mid outcome last
      checks_on zero busy left mid answer after next new outcome last performs more pauses rest enough = absurd (omega arith)
      checks_on (suc fuel) busy left mid answer after next new outcome last performs more pauses rest enough =
          let spent : after < left = run_spends_some allows (program_of (code_of CheckBusyStatus) entries) 0 left mid (Ok answer) after next performs refl in
          then _ (perform_held CheckBusyStatus 0 left mid (Ok answer) after next performs)
          (subst (λ (b : Bool). Held allows (if_idle entries b timings busy (wait_from entries timings fuel (suc busy)) after) next outcome last) (sym (ne_eqb answer 0 more))
          (then _ (pause_held (suc busy) next (Ok tt) new pauses) (rest fuel (omega arith))))

      busy_held : (budget : ℕ) (first : W) (busy left : ℕ) (mid : W) → Busy allows entries timings budget first busy left mid → (outcome : Ended) (last : W) →
          WaitHeld busy left mid outcome last → WaitHeld 0 budget first outcome last
      busy_held budget first busy left mid was_busy = elim was_busy as (λ busy left mid was_busy. (outcome : Ended) (last : W) →
          WaitHeld busy left mid outcome last → WaitHeld 0 budget first outcome last) [
            | NotYet ↦ λ outcome last rest. rest
            | Again busy left mid answer after next new (was → before) performs more pauses ↦ λ outcome last rest. before outcome last
                (λ fuel enough. checks_on fuel busy left mid answer after next new outcome last performs more pauses rest enough)
          ]

      idle_held : (busy left : ℕ) (mid : W) (after : ℕ) (last : W) → Performs allows entries CheckBusyStatus 0 left mid (Ok 0) after last → WaitHeld busy left mid (Ok tt, after) last
      idle_held busy left mid after last performs zero enough = absurd (omega arith)
      idle_held busy left mid after last performs (suc fuel) enough = then _ (perform_held CheckBusyStatus 0 left mid (Ok 0) after last performs) (IsDone _ last)

      stopped_held : (busy left : ℕ) (mid : W) (stop : RunStop) (after : ℕ) (last : W) → Performs allows entries CheckBusyStatus 0 left mid (Err stop) after
          last → WaitHeld busy left mid (Err (Stopped stop), after) last
      stopped_held busy left mid stop after last performs zero enough = absurd (omega arith)
      stopped_held busy left mid stop after last performs (suc fuel) enough = then _ (perform_held CheckBusyStatus 0 left mid (Err stop) after last performs) (IsDone _ last)

      late_held : (busy left : ℕ) (mid : W) (answer after : ℕ) (next : W) (error : ClientError) (last : W) → Performs allows entries CheckBusyStatus 0 left mid
          (Ok answer) after next → (answer ≡ 0 → ⊥)
          → Pauses allows timings (suc busy) next (Err error) last → WaitHeld busy left mid (Err error, after) last
      late_held busy left mid answer after next error last performs more pauses zero enough = absurd (omega arith)
      late_held busy left mid answer after next error last performs more pauses (suc fuel) enough =
          then _ (perform_held CheckBusyStatus 0 left mid (Ok answer) after next performs)
          (subst (λ (b : Bool). Held allows (if_idle entries b timings busy (wait_from entries timings fuel (suc busy)) after) next (Err error, after) last) (sym (ne_eqb answer 0 more))
          (then _ (pause_held (suc busy) next (Err error) last pauses) (IsDone _ last)))

      waits_held : (budget : ℕ) (first : W) (result : Result (Unit {0}) ClientError) (left : ℕ) (last : W) → Waits allows entries timings budget first result left last
          → Held allows (wait_from entries timings (suc budget) 0 budget) first (result, left) last
      waits_held budget first result left last waits = elim waits as (λ result left last waits. Held allows (wait_from entries timings (suc budget) 0 budget) first (result, left) last) [
        | IsIdle busy left mid after last was performs ↦ busy_held budget first busy left mid was _ last (idle_held busy left mid after last performs) (suc budget) (omega arith)
        | IsStopped busy left mid stop after last was performs ↦ busy_held budget first busy left mid was _ last (stopped_held busy left mid stop after last performs) (suc budget) (omega arith)
        | IsLate busy left mid answer after next error last was performs more pauses ↦
            busy_held budget first busy left mid was _ last (late_held busy left mid answer after next error last performs more pauses) (suc budget) (omega arith)
      ]

      until_held : (requests : List Request) (budget : ℕ) (first : W) (result : Result (Unit {0}) ClientError) (left : ℕ) (last : W) →
          UntilStatus allows entries timings requests budget first result left last
          → Held allows (until_status entries timings requests budget) first (result, left) last
      unfolding until_status
      until_held requests budget first result left last until =
          elim until as (λ result left last until. Held allows (go_on (ask_all entries requests budget) (when_asked entries timings)) first (result, left) last) [
            | NotAsked stop left last asks ↦ then _ (asks_held requests budget first (Err stop) left last asks) (IsDone _ last)
            | NotWaited answers asked mid error left last asks waits ↦ then _ (asks_held requests budget first (Ok answers) asked mid asks)
                (then _ (waits_held asked mid (Err error) left last waits) (IsDone _ last))
            | NotTold answers asked mid waited idle stop left last asks waits performs ↦ then _ (asks_held requests budget first (Ok answers) asked mid asks)
                (then _ (waits_held asked mid (Ok tt) waited idle waits) (then _ (perform_held GetCommandStatus 0 waited idle (Err stop) left last performs) (IsDone _ last)))
            | IsTold answers asked mid waited idle status left last asks waits performs ↦ then _ (asks_held requests budget first (Ok answers) asked mid asks)
                (then _ (waits_held asked mid (Ok tt) waited idle waits) (then _ (perform_held GetCommandStatus 0 waited idle (Ok status) left last performs) (IsDone _ last)))
          ]

      pub sequence_held : (requests : List Request) (budget : ℕ) (first : W) (result : Result (Unit {0}) ClientError) (left : ℕ) (last : W) →
          Sequence allows entries timings requests budget first result left last
          → Held allows (sequence entries timings requests budget) first (result, left) last
      unfolding sequence
      sequence_held requests budget first result left last ran =
          then _ (until_held requests budget first ran.outcome left ran.told ran.until_status)
          (then _ (perform_held EndOperation 0 end_steps ran.told ran.ended ran.spare last ran.ends) (done _ _ last (ap (λ (r : Result (Unit {0}) ClientError). ended_with r left) ran.result_is)))
        where
          ended_with : Result (Unit {0}) ClientError → ℕ → Ended
          ended_with r n = (r, n)

    pub counts_held : (budget : ℕ) (first : W) (result : Result ℕ ClientError) (left : ℕ) (last : W) → Counts allows entries budget first result left last →
        Held allows (count entries budget) first (result, left) last
    unfolding count
    counts_held budget first result left last counts =
        then _ (perform_held GetRecordCount 0 budget first counts.answer left last counts.asks)
        (subst (λ (r : Result ℕ ClientError). Held {A = Result ℕ ClientError × ℕ} allows (Ends (counted counts.answer, left)) last (r, left) last)
        (sym counts.result_is) (IsDone _ last))

    pub names_held : (budget : ℕ) (first : W) (result : Result (Option ℕ) ClientError) (left : ℕ) (last : W) → Names allows entries budget first result left
        last → Held allows (name entries budget) first (result, left) last
    unfolding name
    names_held budget first result left last names =
        then _ (perform_held GetRecordIdentifier 0 budget first names.answer left last names.asks)
        (subst (λ (r : Result (Option ℕ) ClientError). Held {A = Result (Option ℕ) ClientError × ℕ} allows (Ends (named names.answer, left)) last (r, left)
        last) (sym names.result_is) (IsDone _ last))

  pub attaches_held : (erst : Erst) (budget : ℕ) (first : W) (result : Result ClientState AttachError) (left : ℕ) (last : W) →
      Attaches allows erst budget first result left last → Held allows (attach erst budget) first (result, left) last
  unfolding attach
  attaches_held erst budget first result left last attaches =
      then _ (asks_held erst.entries (attach_requests erst.entries) budget first attaches.answers left last attaches.asks)
      (subst (λ (r : Result ClientState AttachError). Held {A = Result ClientState AttachError × ℕ} allows (Ends (attached erst attaches.answers, left)) last
      (r, left) last) (sym attaches.result_is) (IsDone _ last))

  puts_held : (address : ℕ) (bytes : List ℕ) (old : W) (result : Result (Unit {0}) ClientError) (new : W) → Puts allows address bytes old result new → Held allows (put address bytes) old result new
  unfolding put
  puts_held address bytes old result new puts = elim puts as (λ result new puts. Held allows (put address bytes) old result new) [
    | NotPut fault last allowed ↦ Answered _ _ old (WriteBytes address bytes (Err fault)) last _ last refl allowed (IsDone _ last)
    | NotMarked mid fault last allowed marked ↦ Answered _ _ old (WriteBytes address bytes (Ok tt)) mid _ last refl allowed
        (Answered _ _ mid (WriteBytes (address_in address 108) (codes "ER") (Err fault)) last _ last refl marked (IsDone _ last))
    | IsPut mid last allowed marked ↦ Answered _ _ old (WriteBytes address bytes (Ok tt)) mid _ last refl allowed
        (Answered _ _ mid (WriteBytes (address_in address 108) (codes "ER") (Ok tt)) last _ last refl marked (IsDone _ last))
  ]

  pub writes_held : (client : ClientState) (bytes : List ℕ) (budget : ℕ) (first : W) (result : Result (Unit {0}) ClientError) (left : ℕ) (last : W) →
      Writes allows client bytes budget first result left last
      → Held allows (write client bytes budget) first (result, left) last
  unfolding write
  writes_held client bytes budget first result left last writes =
      elim writes as (λ result left last writes. Held allows (write_if client bytes budget (write_refusal bytes client.range)) first (result, left) last) [
        | IsNoRecord error refused ↦ subst (λ (r : Option ClientError). Held allows (write_if client bytes budget r) first (Err error, budget) first) (sym refused) (IsDone _ first)
        | IsNotPut error last taken puts ↦ subst (λ (r : Option ClientError). Held allows (write_if client bytes budget r) first (Err error, budget) last) (sym taken)
            (then _ (puts_held client.address bytes first (Err error) last puts) (IsDone _ last))
        | IsAsked mid result left last taken puts ran ↦ subst (λ (r : Option ClientError). Held allows (write_if client bytes budget r) first (result, left) last) (sym taken)
            (then _ (puts_held client.address bytes first (Ok tt) mid puts) (sequence_held client.table.entries client.timings write_requests budget mid result left last ran))
      ]

  -- a read was held, and left these bytes at the start of its buffer
  pub record ReadHeld (client : ClientState) (id : ℕ) (out : List ℕ) (budget : ℕ) (first : W) (result : Result ℕ ClientError) (after : List ℕ) (left : ℕ) (last : W) : Type 0 where
    pub whole : List ℕ
    pub held : Held allows (read client id (length out) budget) first ((result, whole), left) last
    pub filled : IfOk result (λ size. (size ≤ length out) × (after ≡ whole ++ drop size out))

  read_shown : (client : ClientState) (id : ℕ) (out : List ℕ) (budget : ℕ) (first : W) (left : ℕ) (mid : W) (outcome : Copied × ℕ) (last : W)
      → Sequence allows client.table.entries client.timings (read_requests id) budget first (Ok tt) left mid →
      Held allows (when_shown client (length out) (Ok tt, left)) mid outcome last → Held allows (read client id (length out) budget) first outcome last
  unfolding read
  read_shown client id out budget first left mid outcome last ran held = then _ (sequence_held client.table.entries client.timings (read_requests id) budget first (Ok tt) left mid ran) held

  not_shown : (client : ClientState) (id : ℕ) (out : List ℕ) (budget : ℕ) (first : W) (error : ClientError) (left : ℕ) (last : W)
      → Sequence allows client.table.entries client.timings (read_requests id) budget first (Err error) left last → Held allows (read client id (length out) budget) first ((Err error, []), left) last
  unfolding read
  not_shown client id out budget first error left last ran = then _ (sequence_held client.table.entries client.timings (read_requests id) budget first (Err error) left last ran) (IsDone _ last)

  copies_held : (client : ClientState) (id : ℕ) (out : List ℕ) (budget : ℕ) (first : W) (len left : ℕ) (whole : List ℕ) (old : W) (answer : Result (Unit {0}) ClientError) (new : W) → len ≤ length out
      → CopiesOut allows client.address (take len out) whole old answer new
      → ((outcome : Copied) → Held allows (copy_if client None len left) old (outcome, left) new → Held allows (read client id (length out) budget) first (outcome, left) new)
      → ReadHeld client id out budget first (copied answer len) (whole ++ drop len out) left new
  copies_held client id out budget first len left whole old answer new fits copies rest =
      let buffer : length (replicate len 0) ≡ length (take len out) = length-replicate {A = ℕ} len 0 ∙ sym (length-take-le len out fits) in
      let asks : (answer : Result (Unit {0}) SpaceFault) → AskAlike (ReadBytes client.address (replicate len 0) [] (Ok tt)) (ReadBytes client.address (take len out) whole answer) =
      λ answer. ap (λ (n : ℕ). ReadBytes client.address (replicate n 0) [] (Ok tt)) buffer in
      (elim copies as (λ answer new copies. ((outcome : Copied) → Held allows (copy_if client None len left) old (outcome, left) new →
      Held allows (read client id (length out) budget) first (outcome, left) new)
      → ReadHeld client id out budget first (copied answer len) (whole ++ drop len out) left new) [
        | IsFilled new allowed ↦ λ rest. record {
          whole = whole;
          held = rest _ (Answered _ _ old (ReadBytes client.address (take len out) whole (Ok tt)) new _ new (asks (Ok tt)) allowed (IsDone _ new));
          filled = (fits, refl);
        }
        | IsNotFilled fault new allowed ↦ λ rest. record {
          whole = [];
          held = rest _ (Answered _ _ old (ReadBytes client.address (take len out) whole (Err fault)) new _ new (asks (Err fault)) allowed (IsDone _ new));
          filled = tt;
        }
      ]) rest

  pub reads_held : (client : ClientState) (id : ℕ) (out : List ℕ) (budget : ℕ) (first : W) (result : Result ℕ ClientError) (after : List ℕ) (left : ℕ)
      (last : W) → Reads allows client id out budget first result after left last
      → ReadHeld client id out budget first result after left last
  reads_held client id out budget first result after left last reads =
      elim reads as (λ result after left last reads. ReadHeld client id out budget first result after left last) [
        | IsNotRead error left last ran ↦ record { whole = []; held = not_shown client id out budget first error left last ran; filled = tt }
        | HasNoLength left mid field fault last ran long ↦ record {
          whole = [];
          held = read_shown client id out budget first left mid _ last ran
              (Answered _ _ mid (ReadBytes (address_in client.address 20) (0 ∷ 0 ∷ 0 ∷ 0 ∷ []) field (Err fault)) last _ last refl long (IsDone _ last));
          filled = tt;
        }
        | IsNotCopied left mid field error last ran long refused ↦ record {
          whole = [];
          held = read_shown client id out budget first left mid _ last ran
              (Answered _ _ mid (ReadBytes (address_in client.address 20) (0 ∷ 0 ∷ 0 ∷ 0 ∷ []) field (Ok tt)) last _ last refl long
              (subst (λ (r : Option ClientError). Held allows (copy_if client r (number_at field 0 4) left) last ((Err error, []), left) last) (sym refused) (IsDone _ last)));
          filled = tt;
        }
        | IsCopied left mid field next whole answer last ran long taken copies ↦
            copies_held client id out budget first (number_at field 0 4) left whole next answer last (copy_fits (number_at field 0 4) client.range (length out) taken) copies
            (λ outcome held. read_shown client id out budget first left mid (outcome, left) last ran
            (Answered _ _ mid (ReadBytes (address_in client.address 20) (0 ∷ 0 ∷ 0 ∷ 0 ∷ []) field (Ok tt)) next _ last refl long
            (subst (λ (r : Option ClientError). Held allows (copy_if client r (number_at field 0 4) left) next (outcome, left) last) (sym taken) held)))
      ]
