-- A turn of one side of a plain handover is the machine's turn, whatever the other side does.
use Rattle.std.proofs.Common.{◌≡◌, ◌∙◌, ℕ, ◌<◌, ◌≤◌, length, All, inl, inr, Vec, Option, Some, None, IfSome, refl, sym, ap, subst, arith}
use Rattle.std.proofs.lemmas.List.Elements.{All-drop}
use Rattle.std.specs.declared.alloc.Global.{Global}
use Rattle.apei_space.specs.RamState.{RamState}
use Rattle.ghes_ack.specs.declared.events.Side.{Side}
use Rattle.ghes_ack.specs.declared.events.Side.TheVariants.{Firmware, Reader}
use Rattle.ghes_ack.specs.declared.events.Event.{Event}
use Rattle.ghes_ack.specs.declared.events.Event.TheVariants.{Free, Wait, Nothing, Found}
use Rattle.ghes_ack.specs.Machine.{Machine, Situation, Filling, Published, Reading, Cleared, Acknowledged, Fits}
use Rattle.ghes_ack.specs.Sides.{waiting_at, state_of, handover_of, view_of, in_work, AreApart, IsCopiedSoFar}
use Rattle.ghes_ack.proofs.Terms.{looking_at}
use Rattle.ghes_ack.specs.declared.ends.Ends.{Ends}
use Rattle.ghes_ack.specs.declared.ends.FirmwareEnd.{FirmwareEnd}
use Rattle.ghes_ack.specs.declared.ends.FirmwareEnd.TheVariants.{Writes, Waits}
use Rattle.ghes_ack.specs.declared.ends.ReaderEnd.{ReaderEnd}
use Rattle.ghes_ack.specs.declared.ends.ReaderEnd.TheVariants.{Looks, Reads, Acknowledges}
use Rattle.ghes_ack.specs.declared.window_blocks.Blocks.{Blocks}
use Rattle.ghes_ack.specs.WindowQueues.{count_of}
use Rattle.ghes_ack.proofs.RoomLemmas.{room_with}
use Rattle.ghes_hub.specs.declared.plain.map.PlainMap.{PlainMap}
use Rattle.ghes_hub.specs.Plain.{PlainState, PlainStands}
use Rattle.ghes_ack.specs.Handovers.{over}
use Rattle.ghes_hub.specs.PlainSides.{IsSound, IsConsistent, AreConsistent, Turns, FirmwareIsAble, FirmwareTurns, ReaderIsAble, ReaderTurns, SideIsAble, SideTurns}
use Rattle.ghes_hub.proofs.Terms.{SideDone}
use Rattle.ghes_hub.proofs.Terms.{Stands}
use Rattle.ghes_ack.proofs.SideLemmas.{none_copied}
use Rattle.ghes_ack.proofs.JoinLemmas.{situation_at}
use Rattle.ghes_hub.proofs.PlainTurns.{waits, held_status, no_status, finds_nothing, work_fits, firmware_made, reader_made}
use Rattle.ghes_hub.proofs.PlainBlocks.{frees_at, finds_at}
use Rattle.ghes_ack.specs.Windows.{block_status}

-- each side can make a turn
firmware_able : (firmware : FirmwareEnd) (reader : ReaderEnd) (b : Blocks PlainMap) (ram : RamState) →
    IsConsistent (record { firmware = firmware; reader = reader }) b → Stands (handover_of (record { firmware = firmware; reader = reader }) b) ram →
    FirmwareIsAble firmware b ram
firmware_able (Writes write) reader b ram all (m, st) =
    (all.sound, st.windows, subst (All (Fits b.map.window.len)) (sym st.blocks) (All-drop (Fits b.map.window.len) m.acknowledged m.blocks st.state.blocks))
firmware_able (Waits wait) reader b ram all (m, st) = st.windows

-- the block that the reader copies fits
fitting_work : (b : Blocks PlainMap) (ram : RamState) (m : Machine) (work : Option (Vec ℕ Global)) → b.at_work ≡ work → PlainStands (state_of Reading b) ram m →
    IfSome work (λ block. length block.items ≤ b.map.window.len)
fitting_work b ram m None is st = tt
fitting_work b ram m (Some block) is st = (work_fits (state_of Reading b) ram m block.items (ap (λ (o : Option (Vec ℕ Global)). in_work Reading o b.last) is) st).fits

reader_able : (firmware : FirmwareEnd) (reader : ReaderEnd) (b : Blocks PlainMap) (ram : RamState) →
    IsConsistent (record { firmware = firmware; reader = reader }) b → Stands (handover_of (record { firmware = firmware; reader = reader }) b) ram →
    ReaderIsAble reader b ram
reader_able (Writes write) (Looks look) b ram all (m, st) = st.windows
reader_able (Waits wait) (Looks look) b ram all (m, st) = st.windows
reader_able (Writes write) (Reads read) b ram all stands = absurd all.apart
reader_able (Waits wait) (Reads read) b ram all (m, st) = (all.sound, st.windows, fitting_work b ram m b.at_work refl st)
reader_able (Writes write) (Acknowledges end) b ram all stands = absurd all.apart
reader_able (Waits wait) (Acknowledges end) b ram all stands = absurd all.sound.under_way

side_able : (side : Side) (ends : Ends) (b : Blocks PlainMap) (ram : RamState) → IsConsistent ends b → Stands (handover_of ends b) ram → SideIsAble side ends b ram
side_able Firmware ends b ram all stands = firmware_able ends.firmware ends.reader b ram all stands
side_able Reader ends b ram all stands = reader_able ends.firmware ends.reader b ram all stands

-- it has the same blocks and memory
same_done : (side : Side) (event other : Event) (ends next : Ends) (old new after : Blocks PlainMap) (ram memory left : RamState) → event ≡ other → new ≡ after → memory ≡ left →
    SideDone side other ends next old after ram left → SideDone side event ends next old new ram memory
same_done side event other ends next old new after ram memory left is_event is_new is_memory done =
    subst (λ (e : Event). SideDone side e ends next old new ram memory) (sym is_event)
    (subst (λ (n : Blocks PlainMap). SideDone side other ends next old n ram memory) (sym is_new)
    (subst (λ (r : RamState). SideDone side other ends next old after ram r) (sym is_memory) done))

-- the firmware waits while the block status is not 0
waits_by : (h : PlainState) (ram : RamState) (m : Machine) (s : Situation) → h.situation ≡ s → 0 < block_status h.map.window ram → PlainStands h ram m → Turns Firmware Wait (over h ram) (over h ram) m
waits_by h ram m Filling is some st = absurd (let none = no_status h ram m (inl is) st in omega (arith, some, none))
waits_by h ram m Published is some st = waits h ram m (inl is) st
waits_by h ram m Reading is some st = waits h ram m (inr (inl is)) st
waits_by h ram m Cleared is some st = waits h ram m (inr (inr is)) st
waits_by h ram m Acknowledged is some st = absurd (let none = no_status h ram m (inr is) st in omega (arith, some, none))

-- where the block status is 0 while the firmware waits, the reader looks, and no block is at work
record IsReturned (write : FirmwareEnd) (reader : ReaderEnd) (b : Blocks PlainMap) (ram : RamState) (m : Machine) (s : Situation) : Type 0 where
  apart : AreApart write reader
  turns : Turns Firmware Free (over (state_of s b) ram) (over (state_of Filling b) ram) m

returned : (write : FirmwareEnd) (reader : ReaderEnd) (b : Blocks PlainMap) (ram : RamState) (work : Option (Vec ℕ Global)) → b.at_work ≡ work →
    block_status b.map.window ram ≡ 0 → (m : Machine) → PlainStands (state_of (waiting_at reader work) b) ram m →
    IsReturned write reader b ram m (waiting_at reader work)
returned (Writes write) (Looks look) b ram None is none m st = record { apart = tt; turns = frees_at b ram is m st }
returned (Waits wait) (Looks look) b ram None is none m st = record { apart = tt; turns = frees_at b ram is m st }
returned write (Looks look) b ram (Some block) is none m st = absurd (let some = held_status (state_of Published b) ram m (inl refl) st in omega (arith, some, none))
returned write (Acknowledges end) b ram work is none m st = absurd (st.occurs refl)
returned write (Reads read) b ram work is none m st = absurd (let some = held_status (state_of Reading b) ram m (inr refl) st in omega (arith, some, none))

-- a published block is at work
shown : (work : Option (Vec ℕ Global)) → count_of work ≡ 1 → Published ≡ looking_at work
shown None is = absurd (omega (arith, is))
shown (Some block) is = refl

firmware_done : (firmware end : FirmwareEnd) (reader : ReaderEnd) (b new : Blocks PlainMap) (ram memory : RamState) (event : Event) → IsConsistent (record { firmware = firmware; reader = reader }) b →
    Stands (handover_of (record { firmware = firmware; reader = reader }) b) ram → FirmwareTurns firmware (over b ram) event end (over new memory) →
    SideDone Firmware event (record { firmware = firmware; reader = reader }) (record { firmware = end; reader = reader }) b new ram memory
firmware_done (Writes write) (Writes later) (Looks look) b new ram memory event all stands makes = record {
  consistent = record { apart = tt; sound = makes.0 };
  turns = λ m st. firmware_made (state_of Filling b) (state_of Filling new) ram memory event m refl makes.1 st;
}
firmware_done (Writes write) (Waits wait) (Looks look) b new ram memory event all stands makes =
    let is : Published ≡ looking_at new.at_work = shown new.at_work makes.0.under_way in
    record {
      consistent = record { apart = tt; sound = subst (λ (s : Situation). IsSound s new) is makes.0 };
      turns = λ m st. subst (λ (s : Situation). Turns Firmware event (over (state_of Filling b) ram) (over (state_of s new) memory) m) is
          (firmware_made (state_of Filling b) (state_of Published new) ram memory event m refl makes.1 st);
    }
firmware_done (Writes write) end (Reads read) b new ram memory event all stands makes = absurd all.apart
firmware_done (Writes write) end (Acknowledges acknowledge) b new ram memory event all stands makes = absurd all.apart
firmware_done (Waits wait) (Writes write) reader b new ram memory event all stands (found, is_new, is_memory) =
    same_done Firmware event Free (record { firmware = Waits wait; reader = reader }) (record { firmware = Writes write; reader = reader }) b new b ram memory ram found.1 is_new is_memory
    (record {
      consistent = record {
        apart = (returned (Writes write) reader b ram b.at_work refl found.0 stands.0 stands.1).apart;
        sound = record { short = all.sound.short; room = all.sound.room; under_way = tt };
      };
      turns = λ m st. (returned (Writes write) reader b ram b.at_work refl found.0 m st).turns;
    })
firmware_done (Waits wait) (Waits later) reader b new ram memory event all stands (found, is_new, is_memory) =
    same_done Firmware event Wait (record { firmware = Waits wait; reader = reader }) (record { firmware = Waits later; reader = reader }) b new b ram memory ram found.1 is_new is_memory
    (record {
      consistent = record { apart = tt; sound = all.sound };
      turns = λ m st. waits_by (state_of (waiting_at reader b.at_work) b) ram m (waiting_at reader b.at_work) refl found.0 st;
    })

nothing_by : (firmware : FirmwareEnd) (b : Blocks PlainMap) (ram : RamState) (work : Option (Vec ℕ Global)) → block_status b.map.window ram ≡ 0 →
    (m : Machine) → PlainStands (state_of (situation_at firmware work) b) ram m →
    Turns Reader Nothing (over (state_of (situation_at firmware work) b) ram) (over (state_of (situation_at firmware work) b) ram) m
nothing_by (Writes write) b ram work none m st = finds_nothing (state_of Filling b) ram m (inl refl) st
nothing_by (Waits wait) b ram None none m st = finds_nothing (state_of Acknowledged b) ram m (inr refl) st
nothing_by (Waits wait) b ram (Some block) none m st = absurd (let some = held_status (state_of Published b) ram m (inl refl) st in omega (arith, some, none))

-- a block that is found
record IsFound (firmware : FirmwareEnd) (read : ReaderEnd) (b : Blocks PlainMap) (ram : RamState) (m : Machine) (s : Situation) : Type 0 where
  apart : AreApart firmware read
  far : IsCopiedSoFar 0 b.at_work b.last
  turns : Turns Reader Found (over (state_of s b) ram) (over (state_of Reading (record b { copied = 0 })) ram) m

found_by : (firmware : FirmwareEnd) (read : ReaderEnd) (b : Blocks PlainMap) (ram : RamState) (work : Option (Vec ℕ Global)) → b.at_work ≡ work →
    0 < block_status b.map.window ram → (m : Machine) → PlainStands (state_of (situation_at firmware work) b) ram m →
    IsFound firmware read b ram m (situation_at firmware work)
found_by (Writes write) read b ram work is some m st = absurd (let none = no_status (state_of Filling b) ram m (inl refl) st in omega (arith, some, none))
found_by (Waits wait) read b ram None is some m st = absurd (let none = no_status (state_of Acknowledged b) ram m (inr refl) st in omega (arith, some, none))
found_by (Waits wait) read b ram (Some block) is some m st =
    let old : in_work Published b.at_work b.last ≡ Some block.items = ap (λ (o : Option (Vec ℕ Global)). in_work Published o b.last) is in
    record {
      apart = tt;
      far = none_copied b block is (work_fits (state_of Published b) ram m block.items old st).head;
      turns = finds_at b ram (ap count_of is) m st;
    }

-- with a block that no piece is copied of
at_first : (s : Situation) (b : Blocks PlainMap) → IsSound s b → IsCopiedSoFar 0 b.at_work b.last → IsSound Reading (record b { copied = 0 })
at_first s b all far = record { short = all.short; room = room_with b b.at_work 0 refl all.room.work_room all.room; under_way = far }

-- a block that was cleared is no longer at work
returned_at : (work : Option (Vec ℕ Global)) → work ≡ None → Acknowledged ≡ looking_at work
returned_at None is = refl
returned_at (Some block) is = absurd cc

reader_done : (firmware : FirmwareEnd) (reader end : ReaderEnd) (b new : Blocks PlainMap) (ram memory : RamState) (event : Event) → IsConsistent (record { firmware = firmware; reader = reader }) b →
    Stands (handover_of (record { firmware = firmware; reader = reader }) b) ram → ReaderTurns reader (over b ram) event end (over new memory) →
    SideDone Reader event (record { firmware = firmware; reader = reader }) (record { firmware = firmware; reader = end }) b new ram memory
reader_done (Writes write) (Looks look) (Looks later) b new ram memory event all stands (found, is_memory) =
    same_done Reader event Nothing (record { firmware = Writes write; reader = Looks look }) (record { firmware = Writes write; reader = Looks later }) b new b ram memory ram found.1 found.2 is_memory
    (record {
      consistent = record { apart = tt; sound = all.sound };
      turns = λ m st. nothing_by (Writes write) b ram b.at_work found.0 m st;
    })
reader_done (Waits wait) (Looks look) (Looks later) b new ram memory event all stands (found, is_memory) =
    same_done Reader event Nothing (record { firmware = Waits wait; reader = Looks look }) (record { firmware = Waits wait; reader = Looks later }) b new b ram memory ram found.1 found.2 is_memory
    (record {
      consistent = record { apart = tt; sound = all.sound };
      turns = λ m st. nothing_by (Waits wait) b ram b.at_work found.0 m st;
    })
reader_done (Writes write) (Looks look) (Reads read) b new ram memory event all (m, st) (found, is_memory) = absurd (found_by (Writes write) (Reads read) b ram b.at_work refl found.0 m st).apart
reader_done (Waits wait) (Looks look) (Reads read) b new ram memory event all (m, st) (found, is_memory) =
    same_done Reader event Found (record { firmware = Waits wait; reader = Looks look }) (record { firmware = Waits wait; reader = Reads read }) b new
    (record b { copied = 0 }) ram memory ram found.1 found.2 is_memory
    (record {
      consistent = record { apart = tt; sound = at_first (looking_at b.at_work) b all.sound (found_by (Waits wait) (Reads read) b ram b.at_work refl found.0 m st).far };
      turns = λ n stands. (found_by (Waits wait) (Reads read) b ram b.at_work refl found.0 n stands).turns;
    })
reader_done (Writes write) (Reads read) end b new ram memory event all stands makes = absurd all.apart
reader_done (Waits wait) (Reads read) (Looks look) b new ram memory event all stands makes =
    let is : Acknowledged ≡ looking_at new.at_work = returned_at new.at_work makes.0.under_way in
    record {
      consistent = record { apart = tt; sound = subst (λ (s : Situation). IsSound s new) is makes.0 };
      turns = λ m st. subst (λ (s : Situation). Turns Reader event (over (state_of Reading b) ram) (over (state_of s new) memory) m) is
          (reader_made (state_of Reading b) (state_of Acknowledged new) ram memory event m refl makes.1 st);
    }
reader_done (Waits wait) (Reads read) (Reads later) b new ram memory event all stands makes = record {
  consistent = record { apart = tt; sound = makes.0 };
  turns = λ m st. reader_made (state_of Reading b) (state_of Reading new) ram memory event m refl makes.1 st;
}
reader_done firmware (Looks look) (Acknowledges end) b new ram memory event all stands (found, is_memory) = absurd found
reader_done (Waits wait) (Reads read) (Acknowledges end) b new ram memory event all stands makes = absurd makes.0.under_way
reader_done firmware (Acknowledges acknowledge) end b new ram memory event all stands makes = absurd makes

-- whichever side it was, the other one is where it was
side_done : (side : Side) (ends next : Ends) (b new : Blocks PlainMap) (ram memory : RamState) (event : Event) → IsConsistent ends b →
    Stands (handover_of ends b) ram → SideTurns side ends (over b ram) event next (over new memory) →
    SideDone side event ends next b new ram memory
side_done Firmware ends next b new ram memory event all stands (turns, same) =
    subst (λ (reader : ReaderEnd). SideDone Firmware event ends (record { firmware = next.firmware; reader = reader }) b new ram memory) (sym same)
    (firmware_done ends.firmware next.firmware ends.reader b new ram memory event all stands turns)
side_done Reader ends next b new ram memory event all stands (turns, same) =
    subst (λ (firmware : FirmwareEnd). SideDone Reader event ends (record { firmware = firmware; reader = next.reader }) b new ram memory) (sym same)
    (reader_done ends.firmware ends.reader next.reader b new ram memory event all stands turns)

-- the same of a handover whose sides were taken out of their place
module _ (side : Side) (place : Option Ends) (ends : Ends) (b : Blocks PlainMap) (h : PlainState) (ram : RamState) (taken : place ≡ Some ends)
    (all : AreConsistent place b) (seen : view_of place b ≡ h) where
  at_hand : AreConsistent (Some ends) b
  at_hand = subst (λ (o : Option Ends). AreConsistent o b) taken all

  seen_as : handover_of ends b ≡ h
  seen_as = sym (ap (λ (o : Option Ends). view_of o b) taken) ∙ seen

  stands_so : (m : Machine) → PlainStands h ram m → PlainStands (handover_of ends b) ram m
  stands_so m st = subst (λ (at : PlainState). PlainStands at ram m) (sym seen_as) st

  pub taken_able : Stands h ram → SideIsAble side ends b ram
  taken_able (m, st) = side_able side ends b ram at_hand (m, stands_so m st)

  module _ (next : Ends) (new : Blocks PlainMap) (memory : RamState) (event : Event) (stands : Stands h ram) (turns : SideTurns side ends (over b ram) event next (over new memory)) where
    done : SideDone side event ends next b new ram memory
    done = side_done side ends next b new ram memory event at_hand (stands.0, stands_so stands.0 stands.1) turns

    pub taken_consistent : IsConsistent next new
    taken_consistent = done.consistent

    pub taken_turns : (m : Machine) → PlainStands h ram m → Turns side event (over h ram) (over (handover_of next new) memory) m
    taken_turns m st = subst (λ (at : PlainState). Turns side event (over at ram) (over (handover_of next new) memory) m) seen_as (done.turns m (stands_so m st))
