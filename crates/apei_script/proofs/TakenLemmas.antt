-- A block that a turn took has the bytes of a block.
use Rattle.std.proofs.Common.{◌≡◌, ℕ, ◌+◌, nat_lt, cond, Bool, true, false, List, [], ◌∷◌, take, drop, sym, ap, subst}
use Rattle.ghes_ack.specs.declared.maps.HandoverMap.{HandoverMap}
use Rattle.ghes_ack.specs.declared.events.Side.{Side}
use Rattle.ghes_ack.specs.declared.events.Side.TheVariants.{Firmware, Reader}
use Rattle.ghes_ack.specs.declared.events.Event.{Event}
use Rattle.ghes_ack.specs.declared.events.Event.TheVariants.{Fill, Publish, Took}
use Rattle.ghes_ack.specs.Machine.{Machine, Situation, Filling, Published, Reading, Cleared, Acknowledged, turned, firmware_turn, pieces, with_piece, with_status, last_taken, Fits, IsState}
use Rattle.ghes_ack.proofs.Terms.{Turned}
use Rattle.ghes_ack.proofs.Terms.{offered}
use Rattle.erst_machine.specs.MachineState.{MachineState, IsMachine}
use Rattle.erst_machine.specs.Events.{Turns}

fills_none : (b : Bool) (m n : Machine) → ◌≡◌ {A = Event} Took (cond {A = Turned} b (Fill, m) (Publish, n)).0 → ⊥
fills_none true m n is = cc
fills_none false m n is = cc

offers_none : (m : Machine) (waiting : List (List ℕ)) → ◌≡◌ {A = Event} Took (offered m waiting).0 → ⊥
offers_none m [] is = cc
offers_none m (block ∷ waiting) is = fills_none (nat_lt m.filled (pieces block))
    (record m { filled = m.filled + 1; window = with_piece m.window block m.filled }) (record m {
      published = m.published + 1;
      filled = 0;
      window =
          with_status m.window (take 4 block);
      situation = Published;
    }) is

-- the firmware takes none
firmware_none : (m : Machine) (s : Situation) → ◌≡◌ {A = Event} Took (firmware_turn m s).0 → ⊥
firmware_none m Filling is = offers_none m (drop m.published m.blocks) is
firmware_none m Published is = cc
firmware_none m Reading is = cc
firmware_none m Cleared is = cc
firmware_none m Acknowledged is = cc

-- what the law of the handover says of a turn of the reader
abbrev pub TakenFits : Type 0
TakenFits = (len : ℕ) (m : Machine) → IsState len m → ◌≡◌ {A = Event} Took (turned Reader m).0 → Fits len (last_taken (turned Reader m).1)

last_fits : TakenFits → (side : Side) (len : ℕ) (m : Machine) → IsState len m → ◌≡◌ {A = Event} Took (turned side m).0 → Fits len (last_taken (turned side m).1)
last_fits law Firmware len m state is = absurd (firmware_none m m.situation is)
last_fits law Reader len m state is = law len m state is

pub took_fits : TakenFits → (side : Side) (old new : MachineState) → IsMachine old → Turns side old Took new → Fits 4096 new.handover.last
took_fits law side old new is turns =
    let m = turns.stood.0 in
    let t = turns.turned m turns.stood.1 in
    let fits = last_fits law side old.handover.map.len m turns.stood.1.state t.event_is in
    let len : old.handover.map.len ≡ 4096 = ap (λ (map : HandoverMap). map.len) is.map in
    subst (λ (n : ℕ). Fits n new.handover.last) len (subst (Fits old.handover.map.len) (sym t.stands.last) fits)
