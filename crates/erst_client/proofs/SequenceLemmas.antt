-- The accesses of a sequence.
use Rattle.std.proofs.Common.{◌≡◌, ℕ, suc, ◌+◌, ◌-◌, ◌*◌, ◌<◌, ◌≤◌, List, Option, Some, None, Result, Ok, Err, refl, sym, subst, arith}
use Rattle.apei_space.specs.Calls.{Call}
use Rattle.apei_space.specs.Accesses.{Reaches, Goes}
use Rattle.erst_entries.specs.declared.actions.Action.TheVariants.{CheckBusyStatus, GetCommandStatus, EndOperation}
use Rattle.erst_entries.specs.declared.entries.Entry.{Entry}
use Rattle.erst_client.specs.declared.errors.ClientError.{ClientError}
use Rattle.erst_client.specs.declared.errors.ClientError.TheVariants.{Late}
use Rattle.erst_client.specs.declared.requests.Request.{Request}
use Rattle.erst_client.specs.Requests.{Performs}
use Rattle.erst_client.specs.Sequences.{Pauses, Untimed, Timed, TooOften, Busy, NotYet, Again, Waits, IsIdle, IsStopped, IsLate, UntilStatus, NotAsked, NotWaited, NotTold, IsTold, Sequence}
use Rattle.erst_client.specs.Waiting.{Paused, NoPause, Pause, NoTime, HasWaited, IsWaiting}
use Rattle.erst_client.proofs.RequestLemmas.{performs_on, asks_on}
use Rattle.erst_client.proofs.Terms.{end_steps}

pauses_on : {W : Type 0} (allows : W → Call → W → Type 0) (first : W) (timings : Option (ℕ × ℕ)) (busy : ℕ) (old : W) (result : Result (Unit {0}) ClientError) (new : W) →
    Reaches allows first old → Pauses allows timings busy old result new → Reaches allows first new
pauses_on allows first timings busy old result new so pauses =
    elim pauses as (λ result new pauses. Reaches allows first new) [
      | Untimed none ↦ so
      | Timed known new is less waits ↦ Goes old _ new so waits
      | TooOften known is more ↦ so
    ]

pub busy_on : {W : Type 0} (allows : W → Call → W → Type 0) (entries : List Entry) (first : W) (timings : Option (ℕ × ℕ)) (budget : ℕ) (from : W) (busy left : ℕ) (last : W) →
    Reaches allows first from → Busy allows entries timings budget from busy left last → Reaches allows first last
busy_on allows entries first timings budget from busy left last so NotYet = so
busy_on allows entries first timings budget from busy left last so (Again before asked mid answer after next new earlier run some pauses) =
    pauses_on allows first timings (suc before) next (Ok tt) new
    (performs_on allows entries first CheckBusyStatus 0 asked mid (Ok answer) after next (busy_on allows entries first timings budget from before asked mid so earlier) run) pauses

pub waits_on : {W : Type 0} (allows : W → Call → W → Type 0) (entries : List Entry) (first : W) (timings : Option (ℕ × ℕ)) (budget : ℕ) (from : W)
    (result : Result (Unit {0}) ClientError) (left : ℕ) (last : W) →
    Reaches allows first from → Waits allows entries timings budget from result left last → Reaches allows first last
waits_on allows entries first timings budget from result left last so waits =
    elim waits as (λ result left last waits. Reaches allows first last) [
      | IsIdle busy asked mid after last earlier run ↦
          performs_on allows entries first CheckBusyStatus 0 asked mid (Ok 0) after last (busy_on allows entries first timings budget from busy asked mid so earlier) run
      | IsStopped busy asked mid stop after last earlier run ↦
          performs_on allows entries first CheckBusyStatus 0 asked mid (Err stop) after last (busy_on allows entries first timings budget from busy asked mid so earlier) run
      | IsLate busy asked mid answer after next error last earlier run some pauses ↦
          pauses_on allows first timings (suc busy) next (Err error) last
          (performs_on allows entries first CheckBusyStatus 0 asked mid (Ok answer) after next (busy_on allows entries first timings budget from busy asked mid so earlier) run) pauses
    ]

pub until_status_on : {W : Type 0} (allows : W → Call → W → Type 0) (entries : List Entry) (first : W) (timings : Option (ℕ × ℕ)) (requests : List Request) (budget : ℕ) (from : W)
    (result : Result (Unit {0}) ClientError) (left : ℕ) (last : W) → Reaches allows first from → UntilStatus allows entries timings requests budget from result left last → Reaches allows first last
until_status_on allows entries first timings requests budget from result left last so commands =
    elim commands as (λ result left last commands. Reaches allows first last) [
      | NotAsked stop left last asks ↦ asks_on allows entries first requests budget from (Err stop) left last so asks
      | NotWaited answers asked mid error left last asks waits ↦
          waits_on allows entries first timings asked mid (Err error) left last (asks_on allows entries first requests budget from (Ok answers) asked mid so asks) waits
      | NotTold answers asked mid waited idle stop left last asks waits run ↦
          performs_on allows entries first GetCommandStatus 0 waited idle (Err stop) left last
          (waits_on allows entries first timings asked mid (Ok tt) waited idle (asks_on allows entries first requests budget from (Ok answers) asked mid so asks) waits) run
      | IsTold answers asked mid waited idle status left last asks waits run ↦
          performs_on allows entries first GetCommandStatus 0 waited idle (Ok status) left last
          (waits_on allows entries first timings asked mid (Ok tt) waited idle (asks_on allows entries first requests budget from (Ok answers) asked mid so asks) waits) run
    ]

pub sequence_on : {W : Type 0} (allows : W → Call → W → Type 0) (entries : List Entry) (first : W) (timings : Option (ℕ × ℕ)) (requests : List Request) (budget : ℕ) (from : W)
    (result : Result (Unit {0}) ClientError) (left : ℕ) (last : W) → Reaches allows first from → Sequence allows entries timings requests budget from result left last → Reaches allows first last
sequence_on allows entries first timings requests budget from result left last so sequence =
    performs_on allows entries first EndOperation 0 end_steps sequence.told sequence.ended sequence.spare last
    (until_status_on allows entries first timings requests budget from sequence.outcome left sequence.told so sequence.until_status) sequence.ends

-- the client's count of microseconds says how often the firmware was busy
abbrev pub PausesBy : {W : Type 0} → (W → Call → W → Type 0) → Option (ℕ × ℕ) → ℕ → W → Result ℕ ClientError → W → Type 0
PausesBy allows timings busy old (Ok longer) new = Pauses allows timings (suc busy) old (Ok tt) new × HasWaited timings (suc busy) longer
PausesBy allows timings busy old (Err error) new = Pauses allows timings (suc busy) old (Err error) new

waited_is : (timings : Option (ℕ × ℕ)) (known : ℕ × ℕ) (busy waited : ℕ) → timings ≡ Some known → HasWaited timings busy waited → waited ≡ 10 * busy
waited_is timings known busy waited is has = subst (λ (t : Option (ℕ × ℕ)). HasWaited t busy waited) is has

untimed_on : (timings : Option (ℕ × ℕ)) (busy waited : ℕ) → timings ≡ None → HasWaited timings busy waited → HasWaited timings (suc busy) waited
untimed_on timings busy waited is has =
    let none : waited ≡ 0 = subst (λ (t : Option (ℕ × ℕ)). HasWaited t busy waited) is has in
    subst (λ (t : Option (ℕ × ℕ)). HasWaited t (suc busy) waited) (sym is) none

pub pauses_by : {W : Type 0} (allows : W → Call → W → Type 0) (timings : Option (ℕ × ℕ)) (busy waited : ℕ) (old : W) (result : Result ℕ ClientError) (new : W) →
    HasWaited timings busy waited → Paused allows timings waited old result new → PausesBy allows timings busy old result new
pauses_by allows timings busy waited old result new has paused =
    elim paused as (λ result new paused. PausesBy allows timings busy old result new) [
      | NoPause is ↦ (Untimed is, untimed_on timings busy waited is has)
      | Pause known new is less waits ↦
          let so : waited ≡ 10 * busy = waited_is timings known busy waited is has in
          let next : waited + 10 ≡ 10 * suc busy = omega (arith, so) in
          let time : 10 * suc busy ≤ known.0 = omega (arith, next, less) in
          (Timed known new is time waits, subst (λ (t : Option (ℕ × ℕ)). HasWaited t (suc busy) (waited + 10)) (sym is) next)
      | NoTime known is more ↦
          let so : waited ≡ 10 * busy = waited_is timings known busy waited is has in
          let late : known.0 < 10 * suc busy = omega (arith, so, more) in
          let all : 10 * (suc busy - 1) ≡ waited = omega (arith, so) in
          subst (λ (n : ℕ). Pauses allows timings (suc busy) old (Err (Late n)) old) all (TooOften known is late)
    ]

pub waited-start : (timings : Option (ℕ × ℕ)) → HasWaited timings 0 0
waited-start None = refl
waited-start (Some known) = omega arith

pub waiting-start : {W : Type 0} (allows : W → Call → W → Type 0) (entries : List Entry) (timings : Option (ℕ × ℕ)) (budget : ℕ) (first : W) →
    IsWaiting allows entries timings budget first 0 budget first
waiting-start allows entries timings budget first = record { busy = 0; runs = NotYet; has = waited-start timings }

pub waiting-on : {W : Type 0} (allows : W → Call → W → Type 0) (entries : List Entry) (timings : Option (ℕ × ℕ)) (budget : ℕ) (first : W) (waited left : ℕ)
    (mid : W) (answer after : ℕ) (next : W) (longer : ℕ) (new : W) →
    IsWaiting allows entries timings budget first waited left mid → Performs allows entries CheckBusyStatus 0 left mid (Ok answer) after next → (answer ≡ 0 → ⊥) →
    Paused allows timings waited next (Ok longer) new → IsWaiting allows entries timings budget first longer after new
waiting-on allows entries timings budget first waited left mid answer after next longer new on run some paused =
    let by = pauses_by allows timings on.busy waited next (Ok longer) new on.has paused in
    record { busy = suc on.busy; runs = Again on.busy left mid answer after next new on.runs run some by.0; has = by.1 }

pub waiting-late : {W : Type 0} (allows : W → Call → W → Type 0) (entries : List Entry) (timings : Option (ℕ × ℕ)) (budget : ℕ) (first : W) (waited left : ℕ) (mid : W) (answer after : ℕ) (next : W)
    (error : ClientError) (new : W) →
    IsWaiting allows entries timings budget first waited left mid → Performs allows entries CheckBusyStatus 0 left mid (Ok answer) after next → (answer ≡ 0 → ⊥) →
    Paused allows timings waited next (Err error) new → Waits allows entries timings budget first (Err error) after new
waiting-late allows entries timings budget first waited left mid answer after next error new on run some paused =
    IsLate on.busy left mid answer after next error new on.runs run some (pauses_by allows timings on.busy waited next (Err error) new on.has paused)
