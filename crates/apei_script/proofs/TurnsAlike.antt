-- Turns one after another, from the first on, and those of two machines that are equivalent.
use Rattle.std.proofs.Common.{◌≡◌, ℕ, List, [], ◌∷◌, ◌++◌, refl, sym, ap, subst, ◌∙◌, append_assoc}
use Rattle.std.proofs.lemmas.List.{append-nil}
use Rattle.ghes_ack.specs.declared.events.Event.{Event}
use Rattle.ghes_ack.specs.declared.events.Event.TheVariants.{Took}
use Rattle.erst_machine.specs.MachineState.{MachineState}
use Rattle.erst_machine.specs.Events.{Turns}
use Rattle.erst_commands.specs.Equivalence.{MachineOutline, machine_outline, EquivalentMachines}
use Rattle.erst_commands.proofs.EventOutlines.{turns_alike}
use Rattle.apei_script.specs.Happened.{Turned, NoTurn, OneMore}
use Rattle.script_text.specs.Turns.{side_of}

-- the block of a turn, where it took one
abbrev pub taken_by : Event → MachineState → List (List ℕ)
taken_by event new = elim event as (λ event. List (List ℕ)) [ Took ↦ new.handover.last ∷ [] | other ↦ [] ]

-- the same turns, by their letters
abbrev pub TurnsBy : MachineState → List ℕ → List Event → List (List ℕ) → MachineState → Type 0
TurnsBy old [] events blocks new = (events ≡ []) × (blocks ≡ []) × (new ≡ old)
TurnsBy old (letter ∷ letters) events blocks new =
    (event : Event) × (mid : MachineState) × (more : List Event) × (taken : List (List ℕ)) × Turns (side_of letter) old event mid
    × (events ≡ event ∷ more) × (blocks ≡ taken_by event mid ++ taken) × TurnsBy mid letters more taken new

turns-push : (letters : List ℕ) (old mid new : MachineState) (events : List Event) (blocks : List (List ℕ)) (letter : ℕ) (event : Event) → TurnsBy old letters events blocks mid
    → Turns (side_of letter) mid event new → TurnsBy old (letters ++ letter ∷ []) (events ++ event ∷ []) (blocks ++ taken_by event new) new
turns-push [] old mid new events blocks letter event is turns = (
  event,
  new,
  [],
  [],
  subst (λ (m : MachineState). Turns (side_of letter) m event new) is.2 turns,
  ap (λ (es : List Event). es ++ event ∷ []) is.0,
  ap (λ (bs : List (List ℕ)). bs ++ taken_by event new) is.1 ∙ sym (append-nil (taken_by event new)),
  (refl, refl, refl),
)
turns-push (first ∷ letters) old mid new events blocks letter event is turns = (
  is.0,
  is.1,
  is.2 ++ event ∷ [],
  is.3 ++ taken_by event new,
  is.4,
  ap (λ (es : List Event). es ++ event ∷ []) is.5,
  ap (λ (bs : List (List ℕ)). bs ++ taken_by event new) is.6 ∙ append_assoc (taken_by is.0 is.1) is.3 (taken_by event new),
  turns-push letters is.1 mid new is.2 is.3 letter event is.7 turns,
)

pub turns_by : (old : MachineState) (letters : List ℕ) (events : List Event) (blocks : List (List ℕ)) (new : MachineState) →
    Turned old letters events blocks new → TurnsBy old letters events blocks new
turns_by old letters events blocks new turned = elim turned as (λ letters events blocks new turned. TurnsBy old letters events blocks new) [
  | NoTurn ↦ (refl, refl, refl)
  | OneMore letters events blocks mid letter event new (before → by) turns ↦ turns-push letters old mid new events blocks letter event by turns
]

same_taken : (event : Event) (one other : MachineState) → EquivalentMachines one other → taken_by event one ≡ taken_by event other
same_taken Took one other equivalent = ap (λ (o : MachineOutline). o.handover.last ∷ []) equivalent
same_taken event one other equivalent = refl

pub record TurnedAlike (events also_events : List Event) (blocks also_blocks : List (List ℕ)) (one other : MachineState) : Type 0 where
  pub events_are : events ≡ also_events
  pub blocks_are : blocks ≡ also_blocks
  pub equivalent : EquivalentMachines one other

pub turned_alike : (letters : List ℕ) (one other : MachineState) (events also_events : List Event) (blocks also_blocks : List (List ℕ)) (new also_new : MachineState) → EquivalentMachines one other
    → TurnsBy one letters events blocks new → TurnsBy other letters also_events also_blocks also_new → TurnedAlike events also_events blocks also_blocks new also_new
turned_alike [] one other events also_events blocks also_blocks new also_new equivalent first second = record {
  events_are = first.0 ∙ sym second.0;
  blocks_are = first.1 ∙ sym second.1;
  equivalent = ap machine_outline first.2 ∙ equivalent ∙ sym (ap machine_outline second.2);
}
turned_alike (letter ∷ letters) one other events also_events blocks also_blocks new also_new equivalent first second =
    let turn = turns_alike one other equivalent (side_of letter) first.0 second.0 first.1 second.1 first.4 second.4 in
    let more = turned_alike letters first.1 second.1 first.2 second.2 first.3 second.3 new also_new turn.1 first.7 second.7 in
    record {
      events_are = first.5 ∙ ap (λ (e : Event). e ∷ first.2) turn.0 ∙ ap (λ (es : List Event). second.0 ∷ es) more.events_are ∙ sym second.5;
      blocks_are = first.6 ∙ ap (λ (bs : List (List ℕ)). bs ++ first.3) (same_taken first.0 first.1 second.1 turn.1 ∙ ap (λ (e : Event). taken_by e second.1) turn.0)
          ∙ ap (λ (bs : List (List ℕ)). taken_by second.0 second.1 ++ bs) more.blocks_are ∙ sym second.6;
      equivalent = more.equivalent;
    }
