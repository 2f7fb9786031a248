-- One turn of a bridge over two machines that are equivalent.
use Rattle.std.proofs.Common.{◌≡◌, ◌∙◌, ◌⊎◌, inl, inr, ℕ, ◌+◌, ◌-◌, ◌^◌, ◌<◌, List, Result, Ok, Err, refl, sym, ap, arith}
use Rattle.ghes_ack.specs.declared.events.Side.TheVariants.{Reader}
use Rattle.ghes_ack.specs.declared.events.Event.{Event}
use Rattle.erst_client.specs.declared.errors.ClientError.{ClientError}
use Rattle.erst_client.specs.Commands.{ClientState, Writes}
use Rattle.erst_machine.specs.MachineState.{MachineState}
use Rattle.erst_machine.specs.Allowed.{Allows}
use Rattle.erst_machine.specs.Events.{Turns}
use Rattle.erst_commands.specs.Equivalence.{MachineOutline, machine_outline, EquivalentMachines, FailedNothing, EndAlike, IsDoneAlike}
use Rattle.erst_bridge.specs.declared.events.BridgeEvent.{BridgeEvent}
use Rattle.erst_bridge.specs.declared.events.BridgeEvent.TheVariants.{Line, Stored, Kept, Out}
use Rattle.erst_bridge.specs.BridgedRecord.{bridged}
use Rattle.erst_bridge.specs.Bridges.{BridgeState, Off, Awaits, Holds, Releases, HoldsNone, after_reader, TurnsReader, Stores, Keeps, RunsOut}
use Rattle.erst_bridge.specs.Turns.{BridgesMachine}
use Rattle.erst_bridge.proofs.Terms.{last_of}

-- the answer of a turn: its event, and the bridge behind it
abbrev Answer : Type 0
Answer = BridgeEvent × BridgeState

-- behind a turn of the reader
abbrev read_answer : Event → ℕ → List ℕ → BridgeState → Answer
read_answer event id block bridge = (Line event, after_reader event id block bridge)

-- behind a write of the held block's record
abbrev write_answer : ℕ → List ℕ → Result (Unit {0}) ClientError → Answer
write_answer id block (Ok done) = (Stored id, Releases (id + 1))
write_answer id block (Err error) = (Kept error, Holds id block)

-- a turn of the reader, of one side of two machines that are equivalent
abbrev pub ReadsAlike : Type 0
ReadsAlike = (one other : MachineState) (event also : Event) (one_after other_after : MachineState) → EquivalentMachines one other
    → Turns Reader one event one_after → Turns Reader other also other_after → (event ≡ also) × EquivalentMachines one_after other_after

module _ (tells : Type 0) (client : ClientState) (budget : ℕ) where
  record IsRead (old : MachineState) (id : ℕ) (bridge : BridgeState) (answer : Answer) (left : ℕ) (new : MachineState) : Type 0 where
    pub event : Event
    pub turns : Turns Reader old event new
    pub answer_is : answer ≡ read_answer event id (last_of new) bridge
    pub left_is : left ≡ budget

  record IsOffered (old : MachineState) (id : ℕ) (block : List ℕ) (answer : Answer) (left : ℕ) (new : MachineState) : Type 0 where
    pub result : Result (Unit {0}) ClientError
    pub small : id < 2 ^ 64 - 1
    pub writes : Writes (Allows tells) client (bridged block id) budget old result left new
    pub answer_is : answer ≡ write_answer id block result

  record IsSpent (old : MachineState) (id : ℕ) (block : List ℕ) (answer : Answer) (left : ℕ) (new : MachineState) : Type 0 where
    pub last : id ≡ 2 ^ 64 - 1
    pub answer_is : answer ≡ (Out, Holds id block)
    pub left_is : left ≡ budget
    pub new_is : new ≡ old

  -- what a turn is, by the bridge before it
  abbrev IsOf : MachineState → BridgeState → Answer → ℕ → MachineState → Type 0
  IsOf old Off answer left new = ⊥
  IsOf old (Awaits id) answer left new = IsRead old id (Awaits id) answer left new
  IsOf old (Holds id block) answer left new = IsOffered old id block answer left new ⊎ IsSpent old id block answer left new
  IsOf old (Releases id) answer left new = IsRead old id (Releases id) answer left new

  read_is : (old : MachineState) (id : ℕ) (bridge : BridgeState) (event : Event) (new : MachineState) → HoldsNone id bridge → Turns Reader old event new
      → IsOf old bridge (read_answer event id (last_of new) bridge) budget new
  read_is old id Off event new none turns = absurd none
  read_is old id (Holds n block) event new none turns = absurd none
  read_is old id (Awaits n) event new none turns =
      record { event = event; turns = turns; answer_is = ap (λ (k : ℕ). read_answer event k (last_of new) (Awaits n)) (sym none); left_is = refl }
  read_is old id (Releases n) event new none turns =
      record { event = event; turns = turns; answer_is = ap (λ (k : ℕ). read_answer event k (last_of new) (Releases n)) (sym none); left_is = refl }

  turn_is : (old : MachineState) (bridge : BridgeState) (event : BridgeEvent) (next : BridgeState) (left : ℕ) (new : MachineState) → BridgesMachine tells client budget old bridge event next left new
      → IsOf old bridge (event, next) left new
  turn_is old bridge event next left new turn = elim turn as (λ bridge event after turn. IsOf old bridge (event, after.bridge) after.left after.station) [
    | TurnsReader id bridge event new none reads ↦ read_is old id bridge event new none reads
    | Stores id block left new small writes ↦ inl (record { result = Ok tt; small = small; writes = writes; answer_is = refl })
    | Keeps id block error left new small writes ↦ inl (record { result = Err error; small = small; writes = writes; answer_is = refl })
    | RunsOut id block last ↦ inr (record { last = last; answer_is = refl; left_is = refl; new_is = refl })
  ]

  module _ (reads : ReadsAlike) (one other : MachineState) (equivalent : EquivalentMachines one other) (answer also : Answer) (left also_left : ℕ) (one_after other_after : MachineState) where
    both_read : (id : ℕ) (bridge : BridgeState) → IsRead one id bridge answer left one_after → IsRead other id bridge also also_left other_after →
        EndAlike answer also left also_left one_after other_after
    both_read id bridge first second =
        let both = reads one other first.event second.event one_after other_after equivalent first.turns second.turns in
        record {
          same_answer = first.answer_is ∙ ap (λ (e : Event). read_answer e id (last_of one_after) bridge) both.0
              ∙ ap (λ (o : MachineOutline). read_answer second.event id o.handover.last bridge) both.1 ∙ sym second.answer_is;
          same_left = first.left_is ∙ sym second.left_is;
          equivalent = both.1;
        }

    module _ (writes : (bytes : List ℕ) → IsDoneAlike {A = Result (Unit {0}) ClientError} (λ first result left last. Writes (Allows tells) client bytes budget first result left last))
        (quiet : FailedNothing one one_after) (also_quiet : FailedNothing other other_after) where
      both_held : (id : ℕ) (block : List ℕ) → IsOf one (Holds id block) answer left one_after → IsOf other (Holds id block) also also_left other_after →
          EndAlike answer also left also_left one_after other_after
      both_held id block (inl a) (inl b) =
          let both = writes (bridged block id) one other a.result b.result left also_left one_after other_after equivalent a.writes quiet b.writes also_quiet in
          record {
            same_answer = a.answer_is ∙ ap (write_answer id block) both.same_answer ∙ sym b.answer_is;
            same_left = both.same_left;
            equivalent = both.equivalent;
          }
      both_held id block (inl a) (inr b) = let x = a.small in let y = b.last in absurd (omega arith)
      both_held id block (inr a) (inl b) = let x = b.small in let y = a.last in absurd (omega arith)
      both_held id block (inr a) (inr b) = record {
        same_answer = a.answer_is ∙ sym b.answer_is;
        same_left = a.left_is ∙ sym b.left_is;
        equivalent = ap machine_outline a.new_is ∙ equivalent ∙ sym (ap machine_outline b.new_is);
      }

      by_bridge : (bridge : BridgeState) → IsOf one bridge answer left one_after → IsOf other bridge also also_left other_after → EndAlike answer also left also_left one_after other_after
      by_bridge Off a b = absurd a
      by_bridge (Awaits id) a b = both_read id (Awaits id) a b
      by_bridge (Holds id block) a b = both_held id block a b
      by_bridge (Releases id) a b = both_read id (Releases id) a b

      pub bridge_alike : (bridge : BridgeState) → BridgesMachine tells client budget one bridge answer.0 answer.1 left one_after →
          BridgesMachine tells client budget other bridge also.0 also.1 also_left other_after
          → EndAlike answer also left also_left one_after other_after
      bridge_alike bridge first second =
          by_bridge bridge (turn_is one bridge answer.0 answer.1 left one_after first) (turn_is other bridge also.0 also.1 also_left other_after second)
