-- What a handover keeps, and the states of the machine that it stands for.
use Rattle.std.specs.Prelude.{◌≡◌, ℕ, List, [], ◌++◌, length, drop, Option, None, option_to_list}
use Rattle.apei_space.specs.RamState.{RamState}
use Rattle.ghes_ack.specs.declared.maps.HandoverMap.{HandoverMap}
use Rattle.ghes_ack.specs.declared.events.Side.{Side}
use Rattle.ghes_ack.specs.declared.events.Event.{Event}
use Rattle.ghes_ack.specs.Machine.{Machine, Situation, Filling, Published, Reading, Cleared, Acknowledged, IsState, turned, turned_times, events_of_times, last_taken, waiting_in}
use Rattle.ghes_ack.specs.Maps.{HasWindows, window, IsSet, IsClear}
use Rattle.ghes_ack.specs.Windows.{address_at}

-- the blocks that wait, the one that is filled or published and not yet acknowledged, and the one taken last
pub record HandoverOver (M : Type 0) : Type 0 where
  pub map : M
  pub situation : Situation
  pub waiting : List (List ℕ)
  pub at_work : Option (List ℕ)
  pub filled : ℕ
  pub copied : ℕ
  pub last : List ℕ

abbrev pub HandoverState : Type 0
HandoverState = HandoverOver HandoverMap

-- a handover, or its blocks, with the memory that it lies in
pub record WithMemory (S : Type 0) : Type 0 where
  pub state : S
  pub memory : RamState

abbrev pub over : {S : Type 0} → S → RamState → WithMemory S
over state memory = record { state = state; memory = memory }

-- right after a start
abbrev pub fresh : {M : Type 0} → M → HandoverOver M
fresh at = record { map = at; situation = Filling; waiting = []; at_work = None; filled = 0; copied = 0; last = [] }

-- the blocks that are not acknowledged, oldest first
abbrev pub kept : {M : Type 0} → HandoverOver M → List (List ℕ)
kept h = option_to_list h.at_work ++ h.waiting

-- the acknowledge bits in each situation
abbrev pub AcksAre : Situation → HandoverMap → RamState → Type 0
AcksAre Filling at ram = IsSet at ram
AcksAre Published at ram = IsClear at ram
AcksAre Reading at ram = IsClear at ram
AcksAre Cleared at ram = IsClear at ram
AcksAre Acknowledged at ram = IsSet at ram

-- a state of the machine agrees with what the handover keeps (the blocks from number acknowledged on, how many of them
-- wait, the block taken last, the pieces, the situation, and by it the differences of the numbers) and with the memory
pub record StandsFor (h : HandoverState) (ram : RamState) (m : Machine) : Type 0 where
  pub state : IsState h.map.len m
  pub windows : HasWindows h.map ram
  pub address : address_at h.map.status ram ≡ h.map.block
  pub acks : AcksAre h.situation h.map ram
  pub window_is : m.window ≡ window h.map ram
  pub situation : m.situation ≡ h.situation
  pub blocks : kept h ≡ drop m.acknowledged m.blocks
  pub wait : length h.waiting ≡ waiting_in m
  pub filled : h.filled ≡ m.filled
  pub copied : h.copied ≡ m.copied
  pub last : h.last ≡ last_taken m

-- a turn, from a state of the machine: the machine's event, and afterwards it stands for the machine's next state
pub record IsTurned (side : Side) (event : Event) (after : HandoverState) (memory : RamState) (m : Machine) : Type 0 where
  pub event_is : event ≡ (turned side m).0
  pub stands : StandsFor after memory (turned side m).1

-- so many turns of a side, from a state of the machine: the machine's events, and afterwards it stands for the machine's state
-- after them
pub record AreTurned (side : Side) (n : ℕ) (events : List Event) (after : HandoverState) (memory : RamState) (m : Machine) : Type 0 where
  pub events_are : events ≡ events_of_times side n m
  pub stands : StandsFor after memory (turned_times side n m)
