-- Turns of one side, by its own end alone, are the machine's turns where both sides belong together.
use Rattle.std.proofs.Common.{◌≡◌, ◌∙◌, List, [], ◌∷◌, MatchOption, Option, Some, None, get_or, sym, ap, subst}
use Rattle.apei_space.specs.RamState.{RamState}
use Rattle.ghes_ack.specs.declared.events.Side.{Side}
use Rattle.ghes_ack.specs.declared.events.Side.TheVariants.{Firmware, Reader}
use Rattle.ghes_ack.specs.declared.events.Event.{Event}
use Rattle.ghes_ack.specs.declared.events.Event.TheVariants.{Idle}
use Rattle.ghes_ack.specs.declared.ends.Ends.{Ends}
use Rattle.ghes_ack.specs.declared.ends.FirmwareEnd.{FirmwareEnd}
use Rattle.ghes_ack.specs.declared.ends.ReaderEnd.{ReaderEnd}
use Rattle.ghes_ack.specs.Machine.{Machine}
use Rattle.ghes_ack.specs.Handovers.{HandoverState, StandsFor, over}
use Rattle.ghes_ack.specs.Sides.{Turns, handover_of, view_of, IsConsistent, AreConsistent}
use Rattle.ghes_ack.proofs.Terms.{Runs}
use Rattle.ghes_ack.specs.Sides.{Stands}
use Rattle.ghes_ack.specs.OwnTurns.{SideIsAble, SideRuns}
use Rattle.ghes_ack.proofs.JoinLemmas.{SideDone, able, firmware_done, reader_done}
use Rattle.ghes_ack.specs.Maps.{window_of}
use Rattle.ghes_ack.specs.WindowQueues.{HasRoom}
use Rattle.ghes_ack.specs.declared.maps.HandoverMap.{HandoverMap}
use Rattle.ghes_ack.specs.declared.window_blocks.Blocks.{Blocks}

pub side_able : (side : Side) (ends : Ends) (b : Blocks HandoverMap) (ram : RamState) → IsConsistent ends b → Stands (handover_of ends b) ram → SideIsAble side ends b ram
side_able Firmware ends b ram all stands = able ends b ram all stands
side_able Reader ends b ram all stands = (able ends b ram all stands, all.far)

-- whichever side it was, the other one is where it was
pub side_done : (side : Side) (ends next : Ends) (b new : Blocks HandoverMap) (ram memory : RamState) (events : List Event) → IsConsistent ends b →
    HasRoom window_of 0 new → Stands (handover_of ends b) ram → SideRuns side ends (over b ram) events next (over new memory) →
    SideDone side events ends next b new ram memory
side_done Firmware ends next b new ram memory events all room stands (runs, same) =
    subst (λ (reader : ReaderEnd). SideDone Firmware events ends (record { firmware = next.firmware; reader = reader }) b new ram memory) (sym same)
    (firmware_done ends.firmware next.firmware ends.reader b new ram memory events all room stands runs)
side_done Reader ends next b new ram memory events all room stands (runs, goes, same) =
    subst (λ (firmware : FirmwareEnd). SideDone Reader events ends (record { firmware = firmware; reader = next.reader }) b new ram memory) (sym same)
    (reader_done ends.firmware ends.reader next.reader b new ram memory events all room stands runs goes)

-- a run of one turn is that turn
turn_of_one : (side : Side) (event : Event) (h after : HandoverState) (ram memory : RamState) (m : Machine) → Runs side (event ∷ []) (over h ram)
    (over after memory) m → Turns side event (over h ram) (over after memory) m
turn_of_one side event h after ram memory m run = record {
  turned = record { event_is = ap (λ (es : List Event). get_or es 0 Idle) run.turned.events_are; stands = run.turned.stands };
  map = run.map;
  memory_is = run.memory_is;
}

-- a turn of one piece, of a handover whose sides stay in their place
module _ (side : Side) (place : Option Ends) (ends : Ends) (b : Blocks HandoverMap) (h : HandoverState) (ram : RamState) (is : place ≡ Some ends)
    (all : AreConsistent place b) (seen : view_of place b ≡ h) (stands : Stands h ram) where
  at_hand : IsConsistent ends b
  at_hand = subst (λ (o : Option Ends). AreConsistent o b) is all

  seen_as : handover_of ends b ≡ h
  seen_as = sym (ap (λ (o : Option Ends). view_of o b) is) ∙ seen

  stands_so : (m : Machine) → StandsFor h ram m → StandsFor (handover_of ends b) ram m
  stands_so m st = subst (λ (at : HandoverState). StandsFor at ram m) (sym seen_as) st

  pub able_in_place : SideIsAble side ends b ram
  able_in_place = side_able side ends b ram at_hand (stands.0, stands_so stands.0 stands.1)

  module _ (new : Blocks HandoverMap) (memory : RamState) (room : HasRoom window_of 0 new) where
    done : (event : Event) → SideRuns side ends (over b ram) (event ∷ []) ends (over new memory) → SideDone side (event ∷ []) ends ends b new ram memory
    done event runs = side_done side ends ends b new ram memory (event ∷ []) at_hand room (stands.0, stands_so stands.0 stands.1) runs

    turned : (event : Event) → SideRuns side ends (over b ram) (event ∷ []) ends (over new memory) → (m : Machine) → StandsFor h ram m →
        Turns side event (over h ram) (over (view_of place new) memory) m
    turned event runs m st =
        subst (λ (o : Option Ends). Turns side event (over h ram) (over (view_of o new) memory) m) (sym is)
        (subst (λ (at : HandoverState). Turns side event (over at ram) (over (handover_of ends new) memory) m) seen_as
        (turn_of_one side event (handover_of ends b) (handover_of ends new) ram memory m ((done event runs).turns m (stands_so m st))))

    pub turned_in_place : (result : Option Event) → MatchOption result ((new ≡ b) × (memory ≡ ram)) (λ event. SideRuns side ends (over b ram) (event ∷ []) ends (over new memory)) →
        MatchOption result ((view_of place new ≡ h) × (memory ≡ ram)) (λ event. (m : Machine) → StandsFor h ram m → Turns side event (over h ram) (over (view_of place new) memory) m)
    turned_in_place None (same, still) = (ap (view_of place) same ∙ seen, still)
    turned_in_place (Some event) runs = λ m st. turned event runs m st

    pub consistent_in_place : (result : Option Event) → MatchOption result ((new ≡ b) × (memory ≡ ram)) (λ event. SideRuns side ends (over b ram) (event ∷ [])
        ends (over new memory)) → AreConsistent place new
    consistent_in_place None (same, still) = subst (AreConsistent place) (sym same) all
    consistent_in_place (Some event) runs = subst (λ (o : Option Ends). AreConsistent o new) (sym is) (done event runs).consistent
