-- Lists of calls, and what others write between them.
use Rattle.std.proofs.Common.{◌≡◌, ◌∙◌, ℕ, zero, suc, replicate, ◌+◌, ◌≤◌, List, [], ◌∷◌, ◌++◌, length, take, drop, All, refl, sym, ap, subst, arith, length-append, length-drop, bit_and}
use Rattle.std.proofs.lemmas.List.{get_or_at}
use Rattle.base_model.specs.Bytes.{little, spelled, put_at}
use Rattle.base_model.proofs.BytesLemmas.{length-spelled}
use Rattle.apei_space.specs.declared.windows.Window.{Window}
use Rattle.apei_space.specs.Windows.{AreApart, total}
use Rattle.apei_space.specs.RamState.{RamState}
use Rattle.apei_space.specs.Mapped.{AreMapped}
use Rattle.apei_tables.specs.declared.registers.Place.TheVariants.{Memory}
use Rattle.ghes_ack.specs.declared.maps.HandoverMap.{HandoverMap}
use Rattle.ghes_ack.specs.declared.events.Side.{Side}
use Rattle.ghes_ack.specs.declared.events.Event.{Event}
use Rattle.ghes_ack.specs.Machine.{Machine, Situation, Filling, Published, Reading, Cleared, Acknowledged, Fits, with_status, turned, turned_times, events_of_times, started, submitted, IsState}
use Rattle.ghes_ack.specs.Maps.{HasWindows, ack_bytes, ack_mask, ack_read}
use Rattle.ghes_ack.specs.Elsewhere.{SameInMap}
use Rattle.ghes_ack.specs.Handovers.{HandoverState, WithMemory, AcksAre, StandsFor, IsTurned, AreTurned}
use Rattle.ghes_ack.specs.Schedules.{Step, Submit, Turn, Watched, after, run, from_start, events_of, AreFitting, Call, Submits, Turns, ManyTurns, OthersWrite, DoAll, steps_of, answers_of, HandsOver}
use Rattle.ghes_ack.proofs.StepLemmas.{turn_keeps}
use Rattle.ghes_ack.proofs.ScheduleLemmas.{watched_machine, run_taken, run_order, run_blocks}

-- what others write elsewhere leaves the windows
pub HasWindows-others : (map : HandoverMap) (old new : RamState) → SameInMap map old new → HasWindows map old → HasWindows map new
HasWindows-others map old new s w = record {
  head = w.head;
  fills = record { apart = subst AreApart (sym s.windows) w.fills.apart; as_long = ap total s.windows ∙ w.fills.as_long ∙ sym s.size };
  status = subst (λ (xs : List Window). AreMapped xs (Memory map.status) 8) (sym s.windows) w.status;
  ack = subst (λ (xs : List Window). AreMapped xs map.ack.place (ack_bytes map)) (sym s.windows) w.ack;
  block = subst (λ (xs : List Window). AreMapped xs (Memory map.block) map.len) (sym s.windows) w.block;
  status_ack = w.status_ack;
  status_block = w.status_block;
  ack_block = w.ack_block;
}

acks_others : (s : Situation) (map : HandoverMap) (old new : RamState) → ack_read map new ≡ ack_read map old → AcksAre s map old → AcksAre s map new
acks_others Filling map old new e h = ap (λ (r : ℕ). bit_and r (ack_mask map)) e ∙ h
acks_others Published map old new e h = ap (λ (r : ℕ). bit_and r (ack_mask map)) e ∙ h
acks_others Reading map old new e h = ap (λ (r : ℕ). bit_and r (ack_mask map)) e ∙ h
acks_others Cleared map old new e h = ap (λ (r : ℕ). bit_and r (ack_mask map)) e ∙ h
acks_others Acknowledged map old new e h = ap (λ (r : ℕ). bit_and r (ack_mask map)) e ∙ h

pub StandsFor-others : (h : HandoverState) (old new : RamState) (m : Machine) → SameInMap h.map old new → StandsFor h old m → StandsFor h new m
StandsFor-others h old new m s st = record {
  state = st.state;
  windows = HasWindows-others h.map old new s st.windows;
  address = ap little s.status ∙ st.address;
  acks = acks_others h.situation h.map old new (ap little s.ack) st.acks;
  window_is = st.window_is ∙ sym s.block;
  situation = st.situation;
  blocks = st.blocks;
  wait = st.wait;
  filled = st.filled;
  copied = st.copied;
  last = st.last;
}

-- after some calls, from any state
record Goes (calls : List Call) (last : WithMemory HandoverState) (w : Watched) (len : ℕ) : Type 0 where
  stands : StandsFor last.state last.memory (run w (steps_of calls)).machine
  events : answers_of calls ≡ events_of w (steps_of calls)
  fitting : AreFitting len (steps_of calls)

-- so many turns of a side
abbrev after_times : Side → ℕ → Watched → Watched
after_times side zero w = w
after_times side (suc k) w = after_times side k (after w (Turn side))

after_machine : (side : Side) (w : Watched) → (after w (Turn side)).machine ≡ (turned side w.machine).1
after_machine side w = watched_machine w (turned side w.machine).0 (turned side w.machine).1

times_run : (side : Side) (k : ℕ) (w : Watched) (steps : List Step) → run w (replicate k (Turn side) ++ steps) ≡ run (after_times side k w) steps
times_run side zero w steps = refl
times_run side (suc k) w steps = times_run side k (after w (Turn side)) steps

times_machine : (side : Side) (k : ℕ) (w : Watched) → (after_times side k w).machine ≡ turned_times side k w.machine
times_machine side zero w = refl
times_machine side (suc k) w = times_machine side k (after w (Turn side)) ∙ ap (turned_times side k) (after_machine side w)

times_events : (side : Side) (k : ℕ) (w : Watched) (steps : List Step) → events_of w (replicate k (Turn side) ++ steps) ≡ events_of_times side k w.machine ++ events_of (after_times side k w) steps
times_events side zero w steps = refl
times_events side (suc k) w steps =
    ap (λ (es : List Event). (turned side w.machine).0 ∷ es)
    (times_events side k (after w (Turn side)) steps ∙ ap (λ (m : Machine). events_of_times side k m ++ events_of (after_times side k (after w (Turn side))) steps) (after_machine side w))

times_fitting : (side : Side) (k len : ℕ) (steps : List Step) → AreFitting len steps → AreFitting len (replicate k (Turn side) ++ steps)
times_fitting side zero len steps all = all
times_fitting side (suc k) len steps all = times_fitting side k len steps all

times_keep : (side : Side) (k len : ℕ) (m : Machine) → IsState len m → IsState len (turned_times side k m)
times_keep side zero len m h = h
times_keep side (suc k) len m h = times_keep side k len (turned side m).1 (turn_keeps len side m h)

last_fits : (len : ℕ) (blocks : List (List ℕ)) (block : List ℕ) → All (Fits len) (blocks ++ block ∷ []) → Fits len block
last_fits len blocks block all =
    let n = length-append blocks (block ∷ []) in
    subst (Fits len) (get_or_at blocks block [] [] (length blocks) refl) (all (length blocks) [] (omega (arith, n)))

goes : (calls : List Call) (first last : WithMemory HandoverState) (w : Watched) (len : ℕ) → length w.machine.window ≡ len →
    StandsFor first.state first.memory w.machine → DoAll calls first last → Goes calls last w len
goes [] first last w len n st same = record { stands = subst (λ (p : WithMemory HandoverState). StandsFor p.state p.memory w.machine) (sym same) st; events = refl; fitting = tt }
goes (Submits block ∷ calls) first last w len n st (between, does, later) =
    let next : StandsFor between.state first.memory (submitted w.machine block) = does.1 first.memory w.machine st in
    let here : StandsFor between.state between.memory (submitted w.machine block) = subst (λ (r : RamState). StandsFor between.state r (submitted w.machine block)) (sym does.0) next in
    let rest = goes calls between last (after w (Submit block)) len n here later in
    let wide : between.state.map.len ≡ len = sym next.state.window ∙ n in
    record {
      stands = rest.stands;
      events = rest.events;
      fitting = (subst (λ (k : ℕ). Fits k block) wide (last_fits between.state.map.len w.machine.blocks block next.state.blocks), rest.fitting);
    }
goes (Turns side event ∷ calls) first last w len n st (between, does, later) =
    let t : IsTurned side event between.state between.memory w.machine = does w.machine st in
    let is : (after w (Turn side)).machine ≡ (turned side w.machine).1 = watched_machine w (turned side w.machine).0 (turned side w.machine).1 in
    let kept : IsState first.state.map.len (turned side w.machine).1 = turn_keeps first.state.map.len side w.machine st.state in
    let wide : length (after w (Turn side)).machine.window ≡ len = ap (λ (m : Machine). length m.window) is ∙ kept.window ∙ sym st.state.window ∙ n in
    let here : StandsFor between.state between.memory (after w (Turn side)).machine = subst (StandsFor between.state between.memory) (sym is) t.stands in
    let rest = goes calls between last (after w (Turn side)) len wide here later in
    record {
      stands = rest.stands;
      events = ap (λ (e : Event). e ∷ answers_of calls) t.event_is ∙ ap (λ (es : List Event). (turned side w.machine).0 ∷ es) rest.events;
      fitting = rest.fitting;
    }
goes (ManyTurns side events ∷ calls) first last w len n st (between, does, later) =
    let t : AreTurned side (length events) events between.state between.memory w.machine = does w.machine st in
    let is : (after_times side (length events) w).machine ≡ turned_times side (length events) w.machine = times_machine side (length events) w in
    let kept : IsState first.state.map.len (turned_times side (length events) w.machine) = times_keep side (length events) first.state.map.len w.machine st.state in
    let wide : length (after_times side (length events) w).machine.window ≡ len = ap (λ (m : Machine). length m.window) is ∙ kept.window ∙ sym st.state.window ∙ n in
    let here : StandsFor between.state between.memory (after_times side (length events) w).machine = subst (StandsFor between.state between.memory) (sym is) t.stands in
    let rest = goes calls between last (after_times side (length events) w) len wide here later in
    record {
      stands = subst (λ (x : Watched). StandsFor last.state last.memory x.machine) (sym (times_run side (length events) w (steps_of calls))) rest.stands;
      events = ap (λ (es : List Event). es ++ answers_of calls) t.events_are ∙ ap (λ (es : List Event). events_of_times side (length events) w.machine ++ es)
          rest.events ∙ sym (times_events side (length events) w (steps_of calls));
      fitting = times_fitting side (length events) len (steps_of calls) rest.fitting;
    }
goes (OthersWrite ∷ calls) first last w len n st (between, does, later) =
    let same : StandsFor first.state between.memory w.machine = StandsFor-others first.state first.memory between.memory w.machine does.1 st in
    let here : StandsFor between.state between.memory w.machine = subst (λ (h : HandoverState). StandsFor h between.memory w.machine) (sym does.0) same in
    let rest = goes calls between last w len n here later in
    record { stands = rest.stands; events = rest.events; fitting = rest.fitting }

-- a window as long as one that was started
pub started_long : (window : List ℕ) (n : ℕ) → length (with_status window (spelled 4 0)) ≡ n → 20 ≤ n → length window ≡ n
unfolding put_at
started_long window n is room =
    let z = length-spelled 4 0 in
    let a = length-append (take 0 window ++ spelled 4 0) (drop (0 + length (spelled 4 0)) window) in
    let b = length-append (take 0 window) (spelled 4 0) in
    let d = length-drop (0 + length (spelled 4 0)) window in
    omega (arith, z, a, b, d, is, room)

pub hands_over : (window : List ℕ) (calls : List Call) (first last : WithMemory HandoverState) → StandsFor first.state first.memory (started window) →
    DoAll calls first last → HandsOver window calls last
hands_over window calls first last st all =
    let g = goes calls first last (from_start window) first.state.map.len st.state.window st all in
    let room = st.state.room in
    let long = started_long window first.state.map.len st.state.window room in
    let good : AreFitting (length window) (steps_of calls) = subst (λ (k : ℕ). AreFitting k (steps_of calls)) (sym long) g.fitting in
    let wide : 20 ≤ length window = omega (arith, long, room) in
    let blocks = run_blocks window (steps_of calls) in
    record {
      stands = g.stands;
      events = g.events;
      submitted = blocks;
      taken = run_taken window (steps_of calls) wide good ∙ ap (take (run (from_start window) (steps_of calls)).machine.taken) blocks;
      order = run_order window (steps_of calls) wide good;
    }
