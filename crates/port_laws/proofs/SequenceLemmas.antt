-- A client's sequence over one space is the same sequence over another, where the runs of its programs and its waits are.
use Rattle.std.proofs.Common.{ℕ, suc, List, [], ◌∷◌, Option, Result, Ok, Err}
use Rattle.apei_space.specs.Calls.{Call, Wait}
use Rattle.erst_entries.specs.declared.actions.Action.{Action}
use Rattle.erst_entries.specs.declared.actions.Action.TheVariants.{CheckBusyStatus, GetCommandStatus, EndOperation}
use Rattle.erst_entries.specs.declared.entries.Entry.{Entry}
use Rattle.erst_interp.specs.declared.stops.RunStop.{RunStop}
use Rattle.erst_client.specs.declared.errors.ClientError.{ClientError}
use Rattle.erst_client.specs.declared.requests.Request.{Request}
use Rattle.erst_client.specs.Requests.{Performs, Asks, NoneLeft, Answered, StopsLater, StopsHere}
use Rattle.erst_client.specs.Sequences.{Pauses, Untimed, Timed, TooOften, Busy, NotYet, Again, Waits, IsIdle, IsStopped, IsLate, UntilStatus, NotAsked, NotWaited, NotTold, IsTold, Sequence}

-- the run of an action's program over the one space is one over the other, with the same answer and the same steps
abbrev pub IsPerformed : {W V : Type 0} → (W → Call → W → Type 0) → (V → Call → V → Type 0) → (W → V) → List Entry → List Entry → Action → Type 0
IsPerformed {W = W} allows onto image entries others action =
    (given budget : ℕ) (first : W) (answer : Result ℕ RunStop) (left : ℕ) (last : W) → Performs allows entries action given budget first answer left last
    → Performs onto others action given budget (image first) answer left (image last)

-- so is a wait, and the run of each of some actions
pub record ArePerformed {W V : Type 0} (allows : W → Call → W → Type 0) (onto : V → Call → V → Type 0) (image : W → V) (entries others : List Entry) (Carried : Action → Type 0) : Type 0 where
  pub waits : (micros : ℕ) (old new : W) → allows old (Wait micros) new → onto (image old) (Wait micros) (image new)
  pub performs : (action : Action) → Carried action → IsPerformed allows onto image entries others action

abbrev pub AllCarried : (Action → Type 0) → List Request → Type 0
AllCarried Carried [] = Unit {0}
AllCarried Carried (request ∷ requests) = Carried request.action × AllCarried Carried requests

module _ {W V : Type 0} (allows : W → Call → W → Type 0) (onto : V → Call → V → Type 0) (image : W → V) (entries others : List Entry) (Carried : Action → Type 0)
    (all : ArePerformed allows onto image entries others Carried) where
  pub asks_carried : (requests : List Request) → AllCarried Carried requests → (budget : ℕ) (first : W) (answers : Result (List ℕ) RunStop) (left : ℕ) (last : W)
      → Asks allows entries requests budget first answers left last → Asks onto others requests budget (image first) answers left (image last)
  asks_carried requests are budget first answers left last (NoneLeft same old) = NoneLeft same (image old)
  asks_carried requests are budget first answers left last (Answered request rest start old answer after mid others_answers end new run more) =
      Answered request rest start (image old) answer after (image mid) others_answers end (image new)
      (all.performs request.action are.0 request.given start old (Ok answer) after mid run) (asks_carried rest are.1 after mid (Ok others_answers) end new more)
  asks_carried requests are budget first answers left last (StopsLater request rest start old answer after mid stop end new run more) =
      StopsLater request rest start (image old) answer after (image mid) stop end (image new)
      (all.performs request.action are.0 request.given start old (Ok answer) after mid run) (asks_carried rest are.1 after mid (Err stop) end new more)
  asks_carried requests are budget first answers left last (StopsHere request rest start old stop end new run) =
      StopsHere request rest start (image old) stop end (image new) (all.performs request.action are.0 request.given start old (Err stop) end new run)

  module _ (timings : Option (ℕ × ℕ)) where
    pauses_carried : (busy : ℕ) (old : W) (result : Result (Unit {0}) ClientError) (new : W) → Pauses allows timings busy old result new → Pauses onto timings busy (image old) result (image new)
    pauses_carried busy old result new pauses = elim pauses as (λ result new pauses. Pauses onto timings busy (image old) result (image new)) [
      | Untimed none ↦ Untimed none
      | Timed known new is soon waits ↦ Timed known (image new) is soon (all.waits 10 old new waits)
      | TooOften known is late ↦ TooOften known is late
    ]

    module _ (check : Carried CheckBusyStatus) (budget : ℕ) (first : W) where
      busy_carried : (busy left : ℕ) (last : W) → Busy allows entries timings budget first busy left last → Busy onto others timings budget (image first) busy left (image last)
      busy_carried busy left last NotYet = NotYet
      busy_carried busy left last (Again before spare mid answer after next new so run some pauses) =
          Again before spare (image mid) answer after (image next) (image new) (busy_carried before spare mid so)
          (all.performs CheckBusyStatus check 0 spare mid (Ok answer) after next run) some (pauses_carried (suc before) next (Ok tt) new pauses)

      pub waits_carried : (result : Result (Unit {0}) ClientError) (left : ℕ) (last : W) → Waits allows entries timings budget first result left last →
          Waits onto others timings budget (image first) result left (image last)
      waits_carried result left last waits = elim waits as (λ result left last waits. Waits onto others timings budget (image first) result left (image last)) [
        | IsIdle busy left mid after last so run ↦ IsIdle busy left (image mid) after (image last) (busy_carried busy left mid so) (all.performs CheckBusyStatus check 0 left mid (Ok 0) after last run)
        | IsStopped busy left mid stop after last so run ↦
            IsStopped busy left (image mid) stop after (image last) (busy_carried busy left mid so) (all.performs CheckBusyStatus check 0 left mid (Err stop) after last run)
        | IsLate busy left mid answer after next error last so run some pauses ↦
            IsLate busy left (image mid) answer after (image next) error (image last) (busy_carried busy left mid so)
            (all.performs CheckBusyStatus check 0 left mid (Ok answer) after next run) some (pauses_carried (suc busy) next (Err error) last pauses)
      ]

    module _ (check : Carried CheckBusyStatus) (status : Carried GetCommandStatus) (requests : List Request) (are : AllCarried Carried requests) (budget : ℕ) (first : W) where
      until_carried : (result : Result (Unit {0}) ClientError) (left : ℕ) (last : W) → UntilStatus allows entries timings requests budget first result left last
          → UntilStatus onto others timings requests budget (image first) result left (image last)
      until_carried result left last until = elim until as (λ result left last until. UntilStatus onto others timings requests budget (image first) result left (image last)) [
        | NotAsked stop left last asks ↦ NotAsked stop left (image last) (asks_carried requests are budget first (Err stop) left last asks)
        | NotWaited answers asked mid error left last asks waits ↦
            NotWaited answers asked (image mid) error left (image last) (asks_carried requests are budget first (Ok answers) asked mid asks) (waits_carried check asked mid (Err error) left last waits)
        | NotTold answers asked mid waited idle stop left last asks waits run ↦
            NotTold answers asked (image mid) waited (image idle) stop left (image last) (asks_carried requests are budget first (Ok answers) asked mid asks)
            (waits_carried check asked mid (Ok tt) waited idle waits) (all.performs GetCommandStatus status 0 waited idle (Err stop) left last run)
        | IsTold answers asked mid waited idle number left last asks waits run ↦
            IsTold answers asked (image mid) waited (image idle) number left (image last) (asks_carried requests are budget first (Ok answers) asked mid asks)
            (waits_carried check asked mid (Ok tt) waited idle waits) (all.performs GetCommandStatus status 0 waited idle (Ok number) left last run)
      ]

      pub sequence_carried : Carried EndOperation → (result : Result (Unit {0}) ClientError) (left : ℕ) (last : W) → Sequence allows entries timings requests budget first result left last
          → Sequence onto others timings requests budget (image first) result left (image last)
      sequence_carried end result left last sequence = record {
        outcome = sequence.outcome;
        told = image sequence.told;
        ended = sequence.ended;
        spare = sequence.spare;
        until_status = until_carried sequence.outcome left sequence.told sequence.until_status;
        ends = all.performs EndOperation end 0 64 sequence.told sequence.ended sequence.spare last sequence.ends;
        result_is = sequence.result_is;
      }
