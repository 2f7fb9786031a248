-- A device's fault in a client's answer has its cause. Each lemma is over a space that gives reasons for its faults.
use Rattle.std.proofs.Common.{ℕ, suc, ◌≤◌, ◌==◌, cond, Bool, true, false, List, Option, Some, Result, Ok, Err, sym, subst, inl, inr, arith}
use Rattle.std.proofs.lemmas.Bool.{cases_lt}
use Rattle.base_model.specs.Faults.{Rose}
use Rattle.apei_space.specs.declared.faults.SpaceFault.{SpaceFault}
use Rattle.apei_space.specs.declared.faults.SpaceFault.TheVariants.{Device}
use Rattle.apei_space.specs.Calls.{Call, HasReason, Leaves}
use Rattle.apei_space.specs.Accesses.{Reaches, Stays}
use Rattle.apei_space.proofs.AccessLemmas.{never_falls}
use Rattle.erst_entries.specs.declared.actions.Action.{Action}
use Rattle.erst_entries.specs.declared.actions.Action.TheVariants.{CheckBusyStatus, GetCommandStatus, EndOperation}
use Rattle.erst_entries.specs.declared.entries.Entry.{Entry}
use Rattle.erst_entries.specs.Actions.{code_of}
use Rattle.erst_entries.specs.Programs.{program_of}
use Rattle.erst_interp.specs.declared.stops.RunStop.{RunStop}
use Rattle.erst_interp.specs.declared.stops.RunStop.TheVariants.{Space}
use Rattle.erst_interp.proofs.Consequences.{run_device}
use Rattle.erst_client.specs.declared.errors.ClientError.{ClientError}
use Rattle.erst_client.specs.declared.errors.ClientError.TheVariants.{NoSpace, Hardware, Failed, Empty, NotFound, Status, Stopped, Range}
use Rattle.erst_client.specs.declared.requests.Request.{Request}
use Rattle.erst_client.specs.Requests.{Performs, Asks, NoneLeft, Answered, StopsLater, StopsHere}
use Rattle.erst_client.specs.Sequences.{Pauses, Untimed, Timed, TooOften, Waits, IsIdle, IsStopped, IsLate, judged, UntilStatus, NotAsked, NotWaited, NotTold, IsTold, Sequence}
use Rattle.erst_client.specs.Causes.{OfFault, OfStop, OfError}
use Rattle.erst_client.proofs.RequestLemmas.{performs_on, asks_on}
use Rattle.erst_client.proofs.SequenceLemmas.{busy_on, waits_on, until_status_on}
use Rattle.erst_client.proofs.Terms.{closed, end_steps, OfAnswer}

-- what comes before and after a rise
rose_within : (a b c d : ℕ) → a ≤ b → b ≤ c → Rose b c → c ≤ d → Rose a d
rose_within a b c d before middle rose after = elim rose [
  | inl more ↦ inl (omega arith)
  | inr last ↦ elim (cases_lt a d) [
    | inl more ↦ inl more
    | inr none ↦ inr (omega arith)
  ]
]

pub fault_within : (a b c d : ℕ) (fault : SpaceFault) → a ≤ b → b ≤ c → OfFault b c fault → c ≤ d → OfFault a d fault
fault_within a b c d Device before middle of after = rose_within a b c d before middle of after
fault_within a b c d fault before middle of after = tt

pub stop_within : (a b c d : ℕ) (stop : RunStop) → a ≤ b → b ≤ c → OfStop b c stop → c ≤ d → OfStop a d stop
stop_within a b c d (Space index fault) before middle of after = fault_within a b c d fault before middle of after
stop_within a b c d stop before middle of after = tt

pub error_within : (a b c d : ℕ) (error : ClientError) → a ≤ b → b ≤ c → OfError b c error → c ≤ d → OfError a d error
error_within a b c d (Stopped stop) before middle of after = stop_within a b c d stop before middle of after
error_within a b c d (Range fault) before middle of after = fault_within a b c d fault before middle of after
error_within a b c d error before middle of after = tt

pub answer_within : {T : Type 0} (a b c d : ℕ) (result : Result T ClientError) → a ≤ b → b ≤ c → OfAnswer b c result → c ≤ d → OfAnswer a d result
answer_within a b c d (Ok value) before middle of after = tt
answer_within a b c d (Err error) before middle of after = error_within a b c d error before middle of after

judged_cause : (a b status : ℕ) → OfAnswer a b (judged status)
judged_cause a b status = go (status == 0) (status == 1) (status == 2) (status == 3) (status == 4) (status == 5) where
  go : (p q r s t u : Bool) →
      OfAnswer {T = Unit {0}} a b (cond p (Ok tt) (cond q (Err NoSpace) (cond r (Err Hardware) (cond s (Err Failed) (cond t (Err Empty) (cond u (Err NotFound) (Err (Status status))))))))
  go true q r s t u = tt
  go false true r s t u = tt
  go false false true s t u = tt
  go false false false true t u = tt
  go false false false false true u = tt
  go false false false false false true = tt
  go false false false false false false = tt

abbrev pub OfAsked : {T : Type 0} → ℕ → ℕ → Result T RunStop → Type 0
OfAsked before after (Ok answers) = Unit {0}
OfAsked before after (Err stop) = OfStop before after stop

closed_cause : (a b : ℕ) (outcome : Result (Unit {0}) ClientError) (ended : Result ℕ RunStop) → OfAnswer a b outcome → OfAsked a b ended → OfAnswer a b (closed outcome ended)
closed_cause a b (Err error) ended of end = of
closed_cause a b (Ok done) (Ok answer) of end = tt
closed_cause a b (Ok done) (Err stop) of end = end

asked_within : (a b c d : ℕ) (answer : Result ℕ RunStop) → a ≤ b → b ≤ c → OfAsked b c answer → c ≤ d → OfAsked a d answer
asked_within a b c d (Ok value) before middle of after = tt
asked_within a b c d (Err stop) before middle of after = stop_within a b c d stop before middle of after

pauses_cause : {W : Type 0} (allows : W → Call → W → Type 0) (timings : Option (ℕ × ℕ)) (busy : ℕ) (old : W) (result : Result (Unit {0}) ClientError) (new : W) (a b : ℕ) →
    Pauses allows timings busy old result new → OfAnswer a b result
pauses_cause allows timings busy old result new a b pauses =
    elim pauses as (λ result new pauses. OfAnswer a b result) [
      | Untimed none ↦ tt
      | Timed known new is less waits ↦ tt
      | TooOften known is more ↦ tt
    ]

pub fault_cause : {W : Type 0} (faults : W → ℕ) (old new : W) (fault : SpaceFault) → Leaves faults old new (Some fault) → OfFault (faults old) (faults new) fault
fault_cause faults old new Device leaves = leaves
fault_cause faults old new fault leaves = tt

module _ {W : Type 0} (allows : W → Call → W → Type 0) (faults : W → ℕ) (reasons : (old new : W) (call : Call) → allows old call new → HasReason faults old call new) (entries : List Entry) where
  pub rises : (old new : W) → Reaches allows old new → faults old ≤ faults new
  rises old new so = never_falls allows faults reasons old new so

  stop_cause : (action : Action) (given budget : ℕ) (old : W) (stop : RunStop) (left : ℕ) (new : W) → Performs allows entries action given budget old (Err stop)
      left new → OfStop (faults old) (faults new) stop
  stop_cause action given budget old (Space index Device) left new run = run_device allows faults reasons (program_of (code_of action) entries) given budget old index left new run
  stop_cause action given budget old stop left new run = tt

  pub performs_cause : (action : Action) (given budget : ℕ) (old : W) (answer : Result ℕ RunStop) (left : ℕ) (new : W) → Performs allows entries action given
      budget old answer left new → OfAsked (faults old) (faults new) answer
  performs_cause action given budget old (Ok value) left new run = tt
  performs_cause action given budget old (Err stop) left new run = stop_cause action given budget old stop left new run

  ran : (action : Action) (given budget : ℕ) (old : W) (answer : Result ℕ RunStop) (left : ℕ) (new : W) → Performs allows entries action given budget old answer left new → faults old ≤ faults new
  ran action given budget old answer left new run = rises old new (performs_on allows entries old action given budget old answer left new Stays run)

  pub asks_cause : (requests : List Request) (budget : ℕ) (old : W) (answers : Result (List ℕ) RunStop) (left : ℕ) (last : W) →
      Asks allows entries requests budget old answers left last → OfAsked (faults old) (faults last) answers
  asks_cause requests budget old answers left last (NoneLeft b state) = tt
  asks_cause requests budget old answers left last (Answered request rest b state answer asked next more after end run asks) = tt
  asks_cause requests budget old answers left last (StopsHere request rest b state stop after end run) = stop_cause request.action request.given b state stop after end run
  asks_cause requests budget old answers left last (StopsLater request rest b state answer asked next stop after end run asks) =
      stop_within (faults state) (faults next) (faults end) (faults end) stop (ran request.action request.given b state (Ok answer) asked next run)
      (rises next end (asks_on allows entries next rest asked next (Err stop) after end Stays asks)) (asks_cause rest asked next (Err stop) after end asks) (omega arith)

  waits_cause : (timings : Option (ℕ × ℕ)) (budget : ℕ) (first : W) (result : Result (Unit {0}) ClientError) (left : ℕ) (last : W) →
      Waits allows entries timings budget first result left last → OfAnswer (faults first) (faults last) result
  waits_cause timings budget first result left last waits =
      elim waits as (λ result left last waits. OfAnswer (faults first) (faults last) result) [
        | IsIdle busy asked mid after last earlier run ↦ tt
        | IsStopped busy asked mid stop after last earlier run ↦
            stop_within (faults first) (faults mid) (faults last) (faults last) stop (rises first mid (busy_on allows entries first timings budget first busy asked mid Stays earlier))
            (ran CheckBusyStatus 0 asked mid (Err stop) after last run) (stop_cause CheckBusyStatus 0 asked mid stop after last run) (omega arith)
        | IsLate busy asked mid answer after next error last earlier run some pauses ↦ pauses_cause allows timings (suc busy) next (Err error) last (faults first) (faults last) pauses
      ]

  until_status_cause : (timings : Option (ℕ × ℕ)) (requests : List Request) (budget : ℕ) (first : W) (result : Result (Unit {0}) ClientError) (left : ℕ) (last : W) →
      UntilStatus allows entries timings requests budget first result left last → OfAnswer (faults first) (faults last) result
  until_status_cause timings requests budget first result left last until =
      elim until as (λ result left last until. OfAnswer (faults first) (faults last) result) [
        | NotAsked stop left last asks ↦ asks_cause requests budget first (Err stop) left last asks
        | NotWaited answers asked mid error left last asks waits ↦
            error_within (faults first) (faults mid) (faults last) (faults last) error (rises first mid (asks_on allows entries first requests budget first (Ok answers) asked mid Stays asks))
            (rises mid last (waits_on allows entries mid timings asked mid (Err error) left last Stays waits)) (waits_cause timings asked mid (Err error) left last waits) (omega arith)
        | NotTold answers asked mid waited idle stop left last asks waits run ↦
            stop_within (faults first) (faults idle) (faults last) (faults last) stop
            (rises first idle (waits_on allows entries first timings asked mid (Ok tt) waited idle (asks_on allows entries first requests budget first (Ok answers) asked mid Stays asks) waits))
            (ran GetCommandStatus 0 waited idle (Err stop) left last run) (stop_cause GetCommandStatus 0 waited idle stop left last run) (omega arith)
        | IsTold answers asked mid waited idle status left last asks waits run ↦ judged_cause (faults first) (faults last) status
      ]

  pub sequence_cause : (timings : Option (ℕ × ℕ)) (requests : List Request) (budget : ℕ) (first : W) (result : Result (Unit {0}) ClientError) (left : ℕ) (last : W) →
      Sequence allows entries timings requests budget first result left last → OfAnswer (faults first) (faults last) result
  sequence_cause timings requests budget first result left last sequence =
      let before = rises first sequence.told (until_status_on allows entries first timings requests budget first sequence.outcome left sequence.told Stays sequence.until_status) in
      let after = ran EndOperation 0 end_steps sequence.told sequence.ended sequence.spare last sequence.ends in
      let of = until_status_cause timings requests budget first sequence.outcome left sequence.told sequence.until_status in
      let end = performs_cause EndOperation 0 end_steps sequence.told sequence.ended sequence.spare last sequence.ends in
      let all : faults first ≤ faults first = omega arith in
      let last_all : faults last ≤ faults last = omega arith in
      subst (λ (r : Result (Unit {0}) ClientError). OfAnswer (faults first) (faults last) r) (sym sequence.result_is)
      (closed_cause (faults first) (faults last) sequence.outcome sequence.ended
      (answer_within (faults first) (faults first) (faults sequence.told) (faults last) sequence.outcome all before of after)
      (asked_within (faults first) (faults sequence.told) (faults last) (faults last) sequence.ended before after end last_all))
