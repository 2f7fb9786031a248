-- The turns of each side are the machine's turns.
use Rattle.std.proofs.Common.{◌≡◌, ◌∙◌, ℕ, suc, ◌+◌, ◌-◌, ◌*◌, ◌<◌, ◌≤◌, inl, inr, ◌^◌, min, List, [], ◌∷◌, ◌++◌, length, map, replicate, All, Vec, Option}
use Rattle.std.proofs.Common.{Some, None, option_to_list, refl, sym, ap, subst, arith, length-append}
use Rattle.std.specs.declared.alloc.Global.{Global}
use Rattle.std.proofs.lemmas.List.{length-replicate}
use Rattle.std.proofs.lemmas.List.Elements.{All-drop}
use Rattle.apei_space.specs.RamState.{RamState}
use Rattle.ghes_ack.specs.declared.maps.HandoverMap.{HandoverMap}
use Rattle.ghes_ack.specs.declared.events.Side.{Side}
use Rattle.ghes_ack.specs.declared.events.Side.TheVariants.{Firmware, Reader}
use Rattle.ghes_ack.specs.declared.events.Event.{Event}
use Rattle.ghes_ack.specs.declared.events.Event.TheVariants.{Idle, Fill, Publish, Free, Wait, Nothing, Found, Copied, Took, Clear, Ack}
use Rattle.ghes_ack.specs.declared.ends.Ends.{Ends}
use Rattle.ghes_ack.specs.declared.ends.FirmwareEnd.{FirmwareEnd}
use Rattle.ghes_ack.specs.declared.ends.FirmwareEnd.TheVariants.{Writes, Waits}
use Rattle.ghes_ack.specs.declared.ends.ReaderEnd.{ReaderEnd}
use Rattle.ghes_ack.specs.declared.ends.ReaderEnd.TheVariants.{Looks, Reads, Acknowledges}
use Rattle.ghes_ack.specs.Machine.{Machine, Situation, Filling, Published, Reading, Cleared, Acknowledged, Fits}
use Rattle.ghes_ack.specs.Maps.{HasAckBits, ack_read, with_ack, acknowledged, IsSet, window, window_of}
use Rattle.ghes_ack.specs.Handovers.{HandoverState, StandsFor, AreTurned, over}
use Rattle.ghes_ack.specs.Sides.{Turns, waiting_at, situation_of, state_of, handover_of, in_work, IsCopiedSoFar, IsFar, AreApart, IsConsistent}
use Rattle.ghes_ack.proofs.Terms.{looking_at}
use Rattle.ghes_ack.proofs.Terms.{Runs}
use Rattle.ghes_ack.specs.Sides.{Stands}
use Rattle.ghes_ack.specs.OwnTurns.{IsAble, FirmwareMakes, Idles, Fills, Publishes, FirmwareRuns, ReaderMakes, Copies, Takes, Clears, GoesOn, ReaderRuns}
use Rattle.ghes_ack.proofs.Terms.{read_over}
use Rattle.ghes_ack.proofs.TurnLemmas.{idles, publishes, waits, frees, finds, finds_nothing, some_status, no_status, acks_in, set_and_clear, work_fits, copies_over, clears, acknowledges}
use Rattle.ghes_ack.proofs.RunLemmas.{run_one, fills_run, copies_run, takes_run, copied_memory, copied_left, taken_memory, taken_left}
use Rattle.ghes_ack.proofs.SideLemmas.{none_copied}
use Rattle.base_model.specs.Bytes.{number_at}
use Rattle.ghes_ack.specs.WindowQueues.{HasRoom}
use Rattle.ghes_ack.specs.declared.window_blocks.Blocks.{Blocks}

-- a run, by what its events, its last state and its memory are
runs_as : (side : Side) (h : HandoverState) (ram : RamState) (m : Machine) (events others : List Event) (new after : HandoverState) (memory left : RamState) →
    events ≡ others → new ≡ after → memory ≡ left →
    Runs side others (over h ram) (over after left) m → Runs side events (over h ram) (over new memory) m
runs_as side h ram m events others new after memory left is_events is_new is_memory run =
    subst (λ (es : List Event). Runs side es (over h ram) (over new memory) m) (sym is_events)
    (subst (λ (n : HandoverState). Runs side others (over h ram) (over n memory) m) (sym is_new) (subst (λ (r : RamState). Runs side others (over h ram) (over after r) m) (sym is_memory) run))

-- the firmware writes
pub firmware_made : (h : HandoverState) (ram : RamState) (events : List Event) (new : HandoverState) (memory : RamState) → FirmwareMakes h ram events new memory
    → h.situation ≡ Filling → (m : Machine) → StandsFor h ram m →
    Runs Firmware events (over h ram) (over new memory) m
firmware_made h ram events new memory (Idles none is_events is_new is_memory) now m st =
    runs_as Firmware h ram m events (Idle ∷ []) new h memory ram is_events is_new is_memory (run_one Firmware Idle h h ram ram m (idles h ram m now none st))
firmware_made h ram events new memory (Fills count block rest held more is_events is_new is_memory) now m st =
    runs_as Firmware h ram m events (replicate (suc count) Fill) new (record h { waiting = rest; at_work = Some block; filled = h.filled + suc count }) memory memory is_events is_new refl
    (fills_run count h ram memory m block rest now held more is_memory st)
firmware_made h ram events new memory (Publishes block rest held all is_events is_new is_memory clear) now m st =
    runs_as Firmware h ram m events (Publish ∷ []) new (record h { waiting = rest; at_work = Some block; filled = 0; situation = Published }) memory memory is_events is_new refl
    (run_one Firmware Publish h (record h { waiting = rest; at_work = Some block; filled = 0; situation = Published }) ram memory m
    (publishes h ram memory m block rest now held all is_memory clear st))

-- the reader reads
copies_made : (n : ℕ) (h : HandoverState) (ram : RamState) (m : Machine) (block : List ℕ) → h.situation ≡ Reading → h.at_work ≡ Some block → 64 * (h.copied + n) < length block → StandsFor h ram m →
    Runs Reader (replicate n Copied) (over h ram) (over (record h { copied = h.copied + n }) ram) m
copies_made n h ram m block now is more st =
    let long : n ≡ length (replicate n Copied) = sym (length-replicate {A = Event} n Copied) in
    record {
      turned = subst (λ (k : ℕ). AreTurned Reader k (replicate n Copied) (record h { copied = h.copied + n }) ram m) long (copies_run n h ram m block now is more st);
      map = refl;
      memory_is = copied_memory n h ram;
      left = copied_left n h ram;
    }

takes_made : (n : ℕ) (h : HandoverState) (ram : RamState) (m : Machine) (block : List ℕ) → h.situation ≡ Reading → h.at_work ≡ Some block →
    64 * (h.copied + n) < length block → length block ≤ 64 * (h.copied + suc n) → StandsFor h ram m →
    Runs Reader (replicate n Copied ++ Took ∷ []) (over h ram) (over (record h { copied = h.copied + suc n; last = block }) ram) m
takes_made n h ram m block now is more all st =
    let a = length-append (replicate n Copied) (Took ∷ []) in
    let r = length-replicate {A = Event} n Copied in
    let long : suc n ≡ length (replicate n Copied ++ Took ∷ []) = omega (arith, a, r) in
    record {
      turned = subst (λ (k : ℕ). AreTurned Reader k (replicate n Copied ++ Took ∷ []) (record h { copied = h.copied + suc n; last = block }) ram m) long (takes_run n h ram m block now is more all st);
      map = refl;
      memory_is = taken_memory n h ram;
      left = taken_left n h ram;
    }

-- what the reader reads over the block at work are its bytes
same_block : (h : HandoverState) (ram : RamState) (m : Machine) (block : List ℕ) (n : ℕ) → h.situation ≡ Reading → h.at_work ≡ Some block →
    64 * h.copied < length block → StandsFor h ram m → read_over h.map ram block h.copied n ≡ block
same_block h ram m block n now is more st = copies_over h ram block (64 * h.copied) (min (64 * n) (length block - 64 * h.copied)) now is more (omega (arith, more)) (m, st)

pub reader_made : (h : HandoverState) (ram : RamState) (events : List Event) (new : HandoverState) (memory : RamState) → ReaderMakes h ram events new memory →
    h.situation ≡ Reading → (m : Machine) → StandsFor h ram m →
    Runs Reader events (over h ram) (over new memory) m
reader_made h ram events new memory (Copies count block is more is_events is_new is_memory) now m st =
    let same = same_block h ram m block count now is (omega (arith, more)) st in
    let work : Some (read_over h.map ram block h.copied count) ≡ h.at_work = ap (λ (x : List ℕ). Some x) same ∙ sym is in
    runs_as Reader h ram m events (replicate count Copied) new (record h { copied = h.copied + count }) memory ram is_events
    (is_new ∙ ap (λ (o : Option (List ℕ)). record h { at_work = o; copied = h.copied + count }) work) is_memory (copies_made count h ram m block now is more st)
reader_made h ram events new memory (Takes count block is more all is_events is_new is_memory) now m st =
    let same = same_block h ram m block (suc count) now is (omega (arith, more)) st in
    let work : Some (read_over h.map ram block h.copied (suc count)) ≡ h.at_work = ap (λ (x : List ℕ). Some x) same ∙ sym is in
    runs_as Reader h ram m events (replicate count Copied ++ Took ∷ []) new (record h { copied = h.copied + suc count; last = block }) memory ram is_events
    (is_new ∙ ap (λ (o : Option (List ℕ)). record h { at_work = o; copied = h.copied + suc count; last = read_over h.map ram block h.copied (suc count) }) work
    ∙ ap (λ (x : List ℕ). record h { copied = h.copied + suc count; last = x }) same) is_memory (takes_made count h ram m block now is more all st)
reader_made h ram events new memory (Clears block is all is_events is_new is_memory) now m st =
    runs_as Reader h ram m events (Clear ∷ []) new (record h { situation = Cleared }) memory memory is_events is_new refl
    (run_one Reader Clear h (record h { situation = Cleared }) ram memory m (clears h ram memory m block now is all is_memory st))

-- the firmware waits
waits_by : (h : HandoverState) (ram : RamState) (m : Machine) (s : Situation) → h.situation ≡ s → (IsSet h.map ram → ⊥) → StandsFor h ram m → Turns Firmware Wait (over h ram) (over h ram) m
waits_by h ram m Filling is unset st = absurd (unset (acks_in h ram m Filling is st))
waits_by h ram m Published is unset st = waits h ram m (inl is) st
waits_by h ram m Reading is unset st = waits h ram m (inr (inl is)) st
waits_by h ram m Cleared is unset st = waits h ram m (inr (inr is)) st
waits_by h ram m Acknowledged is unset st = absurd (unset (acks_in h ram m Acknowledged is st))

-- the block at work is free
frees_at : (b : Blocks HandoverMap) (ram : RamState) → b.at_work ≡ None → (m : Machine) → StandsFor (state_of Acknowledged b) ram m →
    Turns Firmware Free (over (state_of Acknowledged b) ram) (over (state_of Filling b) ram) m
frees_at b ram none m st =
    let h = state_of Acknowledged b in
    let same : in_work Acknowledged b.at_work b.last ≡ in_work Filling b.at_work b.last =
    ap (λ (o : Option (Vec ℕ Global)). in_work Acknowledged o b.last) none ∙ sym (ap (λ (o : Option (Vec ℕ Global)). in_work Filling o b.last) none) in
    subst (λ (o : Option (List ℕ)). Turns Firmware Free (over h ram) (over (record h { situation = Filling; at_work = o }) ram) m) same (frees h ram m refl st)

acknowledges_at : (b : Blocks HandoverMap) (ram new : RamState) → b.at_work ≡ None → new ≡ with_ack b.map ram (acknowledged b.map (ack_read b.map ram)) → IsSet b.map new →
    (m : Machine) → StandsFor (state_of Cleared b) ram m → Turns Reader Ack (over (state_of Cleared b) ram) (over (state_of Acknowledged b) new) m
acknowledges_at b ram new none memory set m st =
    let h = state_of Cleared b in
    let last : h.at_work ≡ Some b.last.items = ap (λ (o : Option (Vec ℕ Global)). in_work Cleared o b.last) none in
    let after : None ≡ in_work Acknowledged b.at_work b.last = sym (ap (λ (o : Option (Vec ℕ Global)). in_work Acknowledged o b.last) none) in
    subst (λ (o : Option (List ℕ)). Turns Reader Ack (over h ram) (over (record h { situation = Acknowledged; at_work = o }) new) m) after
    (acknowledges h ram new m b.last.items refl last memory set st)

-- where the acknowledge bits are set while the firmware waits, the reader looks, and no block is at work
returned : (wait write : FirmwareEnd) (reader : ReaderEnd) (b : Blocks HandoverMap) (ram : RamState) (work : Option (Vec ℕ Global)) → b.at_work ≡ work →
    HasAckBits b.map → IsSet b.map ram → (m : Machine) → StandsFor (state_of (waiting_at reader work) b) ram m →
    AreApart write reader × Turns Firmware Free (over (state_of (waiting_at reader work) b) ram) (over (state_of Filling b) ram) m
returned wait (Writes write) (Looks look) b ram None is bits set m st = (tt, frees_at b ram is m st)
returned wait (Waits write) (Looks look) b ram None is bits set m st = (tt, frees_at b ram is m st)
returned wait write (Looks look) b ram (Some block) is bits set m st = absurd (set_and_clear b.map ram bits set (acks_in (state_of Published b) ram m Published refl st))
returned wait write (Reads read) b ram work is bits set m st = absurd (set_and_clear b.map ram bits set (acks_in (state_of Reading b) ram m Reading refl st))
returned wait write (Acknowledges end) b ram work is bits set m st = absurd (set_and_clear b.map ram bits set (acks_in (state_of Cleared b) ram m Cleared refl st))

-- both sides after turns of one of them
pub record SideDone (side : Side) (events : List Event) (ends next : Ends) (old new : Blocks HandoverMap) (ram memory : RamState) : Type 0 where
  pub consistent : IsConsistent next new
  pub turns : (m : Machine) → StandsFor (handover_of ends old) ram m → Runs side events (over (handover_of ends old) ram) (over (handover_of next new) memory) m

-- it has the same blocks and memory
done_as : (side : Side) (events others : List Event) (ends next : Ends) (old new after : Blocks HandoverMap) (ram memory left : RamState) → events ≡ others →
    new ≡ after → memory ≡ left → SideDone side others ends next old after ram left →
    SideDone side events ends next old new ram memory
done_as side events others ends next old new after ram memory left is_events is_new is_memory done =
    subst (λ (es : List Event). SideDone side es ends next old new ram memory) (sym is_events)
    (subst (λ (n : Blocks HandoverMap). SideDone side others ends next old n ram memory) (sym is_new) (subst (λ (r : RamState). SideDone side others ends next old after ram r) (sym is_memory) done))

-- what turns of the firmware leave
firmware_map : (h : HandoverState) (ram : RamState) (events : List Event) (new : HandoverState) (memory : RamState) → FirmwareMakes h ram events new memory → new.map ≡ h.map
firmware_map h ram events new memory (Idles none is_events is_new is_memory) = ap (λ (x : HandoverState). x.map) is_new
firmware_map h ram events new memory (Fills count block rest held more is_events is_new is_memory) = ap (λ (x : HandoverState). x.map) is_new
firmware_map h ram events new memory (Publishes block rest held all is_events is_new is_memory clear) = ap (λ (x : HandoverState). x.map) is_new

published_work : (h : HandoverState) (ram : RamState) (events : List Event) (new : HandoverState) (memory : RamState) → FirmwareMakes h ram events new memory →
    h.situation ≡ Filling → new.situation ≡ Published → (block : List ℕ) × (new.at_work ≡ Some block)
published_work h ram events new memory (Idles none is_events is_new is_memory) now is = absurd (let e : Filling ≡ Published = sym now ∙ sym (ap (λ (x : HandoverState). x.situation) is_new) ∙ is in cc)
published_work h ram events new memory (Fills count block rest held more is_events is_new is_memory) now is =
    absurd (let e : Filling ≡ Published = sym now ∙ sym (ap (λ (x : HandoverState). x.situation) is_new) ∙ is in cc)
published_work h ram events new memory (Publishes block rest held all is_events is_new is_memory clear) now is = (block, ap (λ (x : HandoverState). x.at_work) is_new)

shown : (work : Option (Vec ℕ Global)) (last : Vec ℕ Global) (block : List ℕ) → in_work Published work last ≡ Some block → Published ≡ looking_at work
shown None last block is = absurd cc
shown (Some v) last block is = refl

moved : (ends next : Ends) (b new : Blocks HandoverMap) → IsConsistent ends b → new.map ≡ b.map → HasRoom window_of 0 new → AreApart next.firmware next.reader →
    IsFar next.reader new → IsConsistent next new
moved ends next b new all same room apart far = record {
  bits = subst HasAckBits (sym same) all.bits;
  short = subst (λ (at : HandoverMap). at.len < 2 ^ 32) (sym same) all.short;
  room = room;
  apart = apart;
  far = far;
}

pub firmware_done : (firmware end : FirmwareEnd) (reader : ReaderEnd) (b new : Blocks HandoverMap) (ram memory : RamState) (events : List Event) →
    IsConsistent (record { firmware = firmware; reader = reader }) b → HasRoom window_of 0 new →
    Stands (handover_of (record { firmware = firmware; reader = reader }) b) ram → FirmwareRuns firmware (over b ram) events end (over new memory) →
    SideDone Firmware events (record { firmware = firmware; reader = reader }) (record { firmware = end; reader = reader }) b new ram memory
firmware_done (Writes write) (Writes later) (Looks look) b new ram memory events all room stands makes = record {
  consistent = moved (record { firmware = Writes write; reader = Looks look }) (record { firmware = Writes later; reader = Looks look }) b new all
      (firmware_map (state_of Filling b) ram events (state_of Filling new) memory makes) room tt tt;
  turns = λ m st. firmware_made (state_of Filling b) ram events (state_of Filling new) memory makes refl m st;
}
firmware_done (Writes write) (Waits wait) (Looks look) b new ram memory events all room stands makes =
    let work = published_work (state_of Filling b) ram events (state_of Published new) memory makes refl refl in
    let is : Published ≡ looking_at new.at_work = shown new.at_work new.last work.0 work.1 in
    record {
      consistent = moved (record { firmware = Writes write; reader = Looks look }) (record { firmware = Waits wait; reader = Looks look }) b new all
          (firmware_map (state_of Filling b) ram events (state_of Published new) memory makes) room tt tt;
      turns = λ m st. subst (λ (s : Situation). Runs Firmware events (over (state_of Filling b) ram) (over (state_of s new) memory) m) is
          (firmware_made (state_of Filling b) ram events (state_of Published new) memory makes refl m st);
    }
firmware_done (Writes write) end (Reads read) b new ram memory events all room stands makes = absurd all.apart
firmware_done (Writes write) end (Acknowledges acknowledge) b new ram memory events all room stands makes = absurd all.apart
firmware_done (Waits wait) (Writes write) reader b new ram memory events all room stands (found, is_new, is_memory) =
    done_as Firmware events (Free ∷ []) (record { firmware = Waits wait; reader = reader }) (record { firmware = Writes write; reader = reader }) b new b ram memory ram found.1 is_new is_memory
    (record {
      consistent = moved (record { firmware = Waits wait; reader = reader }) (record { firmware = Writes write; reader = reader }) b b all refl all.room
          (returned (Waits wait) (Writes write) reader b ram b.at_work refl all.bits found.0 stands.0 stands.1).0 all.far;
      turns = λ m st. run_one Firmware Free (state_of (waiting_at reader b.at_work) b) (state_of Filling b) ram ram m
          (returned (Waits wait) (Writes write) reader b ram b.at_work refl all.bits found.0 m st).1;
    })
firmware_done (Waits wait) (Waits later) reader b new ram memory events all room stands (found, is_new, is_memory) =
    done_as Firmware events (Wait ∷ []) (record { firmware = Waits wait; reader = reader }) (record { firmware = Waits later; reader = reader }) b new b ram memory ram found.1 is_new is_memory
    (record {
      consistent = moved (record { firmware = Waits wait; reader = reader }) (record { firmware = Waits later; reader = reader }) b b all refl all.room tt all.far;
      turns = λ m st. run_one Firmware Wait (state_of (waiting_at reader b.at_work) b) (state_of (waiting_at reader b.at_work) b) ram ram m
          (waits_by (state_of (waiting_at reader b.at_work) b) ram m (waiting_at reader b.at_work) refl found.0 st);
    })

-- what turns of the reader leave
reader_map : (h : HandoverState) (ram : RamState) (events : List Event) (new : HandoverState) (memory : RamState) → ReaderMakes h ram events new memory → new.map ≡ h.map
reader_map h ram events new memory (Copies count block is more is_events is_new is_memory) = ap (λ (x : HandoverState). x.map) is_new
reader_map h ram events new memory (Takes count block is more all is_events is_new is_memory) = ap (λ (x : HandoverState). x.map) is_new
reader_map h ram events new memory (Clears block is all is_events is_new is_memory) = ap (λ (x : HandoverState). x.map) is_new

never_returned : (h : HandoverState) (ram : RamState) (events : List Event) (new : HandoverState) (memory : RamState) → ReaderMakes h ram events new memory →
    h.situation ≡ Reading → new.situation ≡ Acknowledged → ⊥
never_returned h ram events new memory (Copies count block work more is_events is_new is_memory) now is = let e : Reading ≡ Acknowledged =
    sym now ∙ sym (ap (λ (x : HandoverState). x.situation) is_new) ∙ is in cc
never_returned h ram events new memory (Takes count block work more all is_events is_new is_memory) now is = let e : Reading ≡ Acknowledged =
    sym now ∙ sym (ap (λ (x : HandoverState). x.situation) is_new) ∙ is in cc
never_returned h ram events new memory (Clears block work all is_events is_new is_memory) now is = let e : Cleared ≡ Acknowledged = sym (ap (λ (x : HandoverState). x.situation) is_new) ∙ is in cc

-- the situation while the reader looks
abbrev pub situation_at : FirmwareEnd → Option (Vec ℕ Global) → Situation
situation_at (Writes write) work = Filling
situation_at (Waits wait) work = looking_at work

nothing_by : (firmware : FirmwareEnd) (look : ReaderEnd) (b : Blocks HandoverMap) (ram : RamState) (work : Option (Vec ℕ Global)) →
    number_at (window b.map ram) 0 4 ≡ 0 → (m : Machine) → StandsFor (state_of (situation_at firmware work) b) ram m →
    Turns Reader Nothing (over (state_of (situation_at firmware work) b) ram) (over (state_of (situation_at firmware work) b) ram) m
nothing_by (Writes write) look b ram work none m st = finds_nothing (state_of Filling b) ram m (inl refl) st
nothing_by (Waits wait) look b ram None none m st = finds_nothing (state_of Acknowledged b) ram m (inr refl) st
nothing_by (Waits wait) look b ram (Some block) none m st = absurd (let some = some_status (state_of Published b) ram m refl st in omega (arith, some, none))

-- a block that is found
record IsFound (firmware : FirmwareEnd) (read : ReaderEnd) (b : Blocks HandoverMap) (ram : RamState) (m : Machine) (s : Situation) : Type 0 where
  apart : AreApart firmware read
  far : IsCopiedSoFar 0 b.at_work b.last
  turns : Turns Reader Found (over (state_of s b) ram) (over (state_of Reading (record b { copied = 0 })) ram) m

found_by : (firmware : FirmwareEnd) (read : ReaderEnd) (b : Blocks HandoverMap) (ram : RamState) (work : Option (Vec ℕ Global)) → b.at_work ≡ work →
    0 < number_at (window b.map ram) 0 4 → (m : Machine) → StandsFor (state_of (situation_at firmware work) b) ram m →
    IsFound firmware read b ram m (situation_at firmware work)
found_by (Writes write) read b ram work is some m st = absurd (let none = no_status (state_of Filling b) ram m (inl refl) st in omega (arith, some, none))
found_by (Waits wait) read b ram None is some m st = absurd (let none = no_status (state_of Acknowledged b) ram m (inr refl) st in omega (arith, some, none))
found_by (Waits wait) read b ram (Some block) is some m st =
    let old : in_work Published b.at_work b.last ≡ Some block.items = ap (λ (o : Option (Vec ℕ Global)). in_work Published o b.last) is in
    let new : in_work Reading b.at_work b.last ≡ Some block.items = ap (λ (o : Option (Vec ℕ Global)). in_work Reading o b.last) is in
    record {
      apart = tt;
      far = none_copied b block is (work_fits (state_of Published b) ram m block.items old st).head;
      turns = subst (λ (o : Option (List ℕ)). Turns Reader Found (over (state_of Published b) ram)
          (over (record (state_of Reading b) { copied = 0; at_work = o }) ram) m) (old ∙ sym new) (finds (state_of Published b) ram m refl st);
    }

pub reader_done : (firmware : FirmwareEnd) (reader end : ReaderEnd) (b new : Blocks HandoverMap) (ram memory : RamState) (events : List Event) →
    IsConsistent (record { firmware = firmware; reader = reader }) b → HasRoom window_of 0 new →
    Stands (handover_of (record { firmware = firmware; reader = reader }) b) ram → ReaderRuns reader (over b ram) events end (over new memory) → GoesOn reader end new →
    SideDone Reader events (record { firmware = firmware; reader = reader }) (record { firmware = firmware; reader = end }) b new ram memory
reader_done (Writes write) (Looks look) (Looks later) b new ram memory events all room stands (found, is_memory) goes =
    done_as Reader events (Nothing ∷ []) (record { firmware = Writes write; reader = Looks look }) (record { firmware = Writes write; reader = Looks later }) b
    new b ram memory ram found.1 found.2 is_memory
    (record {
      consistent = moved (record { firmware = Writes write; reader = Looks look }) (record { firmware = Writes write; reader = Looks later }) b b all refl all.room tt tt;
      turns = λ m st. run_one Reader Nothing (state_of Filling b) (state_of Filling b) ram ram m (nothing_by (Writes write) (Looks look) b ram b.at_work found.0 m st);
    })
reader_done (Waits wait) (Looks look) (Looks later) b new ram memory events all room stands (found, is_memory) goes =
    done_as Reader events (Nothing ∷ []) (record { firmware = Waits wait; reader = Looks look }) (record { firmware = Waits wait; reader = Looks later }) b new
    b ram memory ram found.1 found.2 is_memory
    (record {
      consistent = moved (record { firmware = Waits wait; reader = Looks look }) (record { firmware = Waits wait; reader = Looks later }) b b all refl all.room tt tt;
      turns = λ m st. run_one Reader Nothing (state_of (looking_at b.at_work) b) (state_of (looking_at b.at_work) b) ram ram m (nothing_by (Waits wait) (Looks look) b ram b.at_work found.0 m st);
    })
reader_done (Writes write) (Looks look) (Reads read) b new ram memory events all room (m, st) (found, is_memory) goes =
    absurd (found_by (Writes write) (Reads read) b ram b.at_work refl found.0 m st).apart
reader_done (Waits wait) (Looks look) (Reads read) b new ram memory events all room (m, st) (found, is_memory) goes =
    done_as Reader events (Found ∷ []) (record { firmware = Waits wait; reader = Looks look }) (record { firmware = Waits wait; reader = Reads read }) b new
    (record b { copied = 0 }) ram memory ram found.1 found.2 is_memory
    (record {
      consistent = moved (record { firmware = Waits wait; reader = Looks look }) (record { firmware = Waits wait; reader = Reads read }) b
          (record b { copied = 0 }) all refl (subst (HasRoom window_of 0) found.2 room) tt
          (found_by (Waits wait) (Reads read) b ram b.at_work refl found.0 m st).far;
      turns = λ n stands. run_one Reader Found (state_of (looking_at b.at_work) b) (state_of Reading (record b { copied = 0 })) ram ram n
          (found_by (Waits wait) (Reads read) b ram b.at_work refl found.0 n stands).turns;
    })
reader_done firmware (Looks look) (Acknowledges end) b new ram memory events all room stands (found, is_memory) goes = absurd found
reader_done (Writes write) (Reads read) end b new ram memory events all room stands made goes = absurd all.apart
reader_done (Writes write) (Acknowledges acknowledge) end b new ram memory events all room stands made goes = absurd all.apart
reader_done (Waits wait) (Reads read) (Looks look) b new ram memory events all room stands made far =
    absurd (never_returned (state_of Reading b) ram events (state_of Acknowledged new) memory made refl refl)
reader_done (Waits wait) (Reads read) (Reads later) b new ram memory events all room stands made far = record {
  consistent = moved (record { firmware = Waits wait; reader = Reads read }) (record { firmware = Waits wait; reader = Reads later }) b new all
      (reader_map (state_of Reading b) ram events (state_of Reading new) memory made) room tt far;
  turns = λ m st. reader_made (state_of Reading b) ram events (state_of Reading new) memory made refl m st;
}
reader_done (Waits wait) (Reads read) (Acknowledges end) b new ram memory events all room stands made far = record {
  consistent = moved (record { firmware = Waits wait; reader = Reads read }) (record { firmware = Waits wait; reader = Acknowledges end }) b new all
      (reader_map (state_of Reading b) ram events (state_of Cleared new) memory made) room tt far;
  turns = λ m st. reader_made (state_of Reading b) ram events (state_of Cleared new) memory made refl m st;
}
reader_done (Waits wait) (Acknowledges acknowledge) (Looks look) b new ram memory events all room stands (looks, is_events, is_new, is_memory, set) goes =
    done_as Reader events (Ack ∷ []) (record { firmware = Waits wait; reader = Acknowledges acknowledge })
    (record { firmware = Waits wait; reader = Looks look }) b new b ram memory memory is_events is_new refl
    (record {
      consistent = moved (record { firmware = Waits wait; reader = Acknowledges acknowledge }) (record { firmware = Waits wait; reader = Looks look }) b b all refl all.room tt tt;
      turns = λ m st. subst (λ (s : Situation). Runs Reader (Ack ∷ []) (over (state_of Cleared b) ram) (over (state_of s b) memory) m) (sym (ap looking_at all.far))
          (run_one Reader Ack (state_of Cleared b) (state_of Acknowledged b) ram memory m (acknowledges_at b ram memory all.far is_memory (set all.bits) m st));
    })
reader_done (Waits wait) (Acknowledges acknowledge) (Reads read) b new ram memory events all room stands (looks, is_events, is_new, is_memory, set) goes = absurd looks
reader_done (Waits wait) (Acknowledges acknowledge) (Acknowledges end) b new ram memory events all room stands (looks, is_events, is_new, is_memory, set) goes = absurd looks

-- what each side needs
held_fits : (len : ℕ) (s : Situation) (work : Option (Vec ℕ Global)) (last : Vec ℕ Global) (waiting : List (List ℕ)) →
    All (Fits len) (option_to_list (in_work s work last) ++ waiting) → All (Fits len) (option_to_list (in_work Filling work last) ++ waiting)
held_fits len Filling work last waiting all = all
held_fits len Published None last waiting all = all
held_fits len Reading None last waiting all = All-drop (Fits len) 1 (last.items ∷ waiting) all
held_fits len Cleared None last waiting all = All-drop (Fits len) 1 (last.items ∷ waiting) all
held_fits len Acknowledged None last waiting all = all
held_fits len Published (Some block) last waiting all = all
held_fits len Reading (Some block) last waiting all = all
held_fits len Cleared (Some block) last waiting all = all
held_fits len Acknowledged (Some block) last waiting all = all

pub able : (ends : Ends) (b : Blocks HandoverMap) (ram : RamState) → IsConsistent ends b → Stands (handover_of ends b) ram → IsAble b ram
able ends b ram all (m, st) = record {
  windows = st.windows;
  short = all.short;
  room = all.room;
  fits = held_fits b.map.len (situation_of ends.firmware ends.reader b.at_work) b.at_work b.last (map (λ v. v.items) b.waiting.items)
      (subst (All (Fits b.map.len)) (sym st.blocks) (All-drop (Fits b.map.len) m.acknowledged m.blocks st.state.blocks));
}
