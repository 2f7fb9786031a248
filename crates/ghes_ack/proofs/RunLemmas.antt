-- Runs of turns.
use Rattle.std.proofs.Common.{◌≡◌, ◌∙◌, ℕ, zero, suc, ◌+◌, ◌-◌, ◌*◌, ◌<◌, ◌≤◌, List, [], ◌∷◌, ◌++◌, length, take, get_or, replicate, Some, refl, sym, ap, subst, arith, length-append, append_assoc}
use Rattle.std.proofs.lemmas.List.{take_at, length-replicate}
use Rattle.apei_space.specs.RamState.{RamState}
use Rattle.ghes_ack.specs.declared.maps.HandoverMap.{HandoverMap}
use Rattle.ghes_ack.specs.declared.events.Side.{Side}
use Rattle.ghes_ack.specs.declared.events.Side.TheVariants.{Firmware, Reader}
use Rattle.ghes_ack.specs.declared.events.Event.{Event}
use Rattle.ghes_ack.specs.declared.events.Event.TheVariants.{Idle, Fill, Copied, Took}
use Rattle.ghes_ack.specs.Machine.{Machine, Filling, Reading, with_piece, with_pieces, turned, turned_times, events_of_times}
use Rattle.ghes_ack.specs.Maps.{HasWindows, window, window_of, with_window, memory_after, AreLeft}
use Rattle.ghes_ack.specs.Elsewhere.{SameWhere, IsOffBlock}
use Rattle.ghes_ack.specs.Handovers.{HandoverState, kept, StandsFor, AreTurned, over}
use Rattle.ghes_ack.specs.Sides.{Turns, MakesTurns}
use Rattle.ghes_ack.proofs.Terms.{Runs}
use Rattle.ghes_ack.proofs.MemoryLemmas.{has_block, length-window, window-with_window}
use Rattle.ghes_ack.proofs.PieceLemmas.{length-with_piece}
use Rattle.ghes_ack.proofs.WriteLemmas.{block_twice, length-with_pieces, pieces_next}
use Rattle.ghes_ack.proofs.TurnLemmas.{next_fits, written_only, fills, copies_more, copies_last}
use Rattle.ghes_ack.proofs.ElsewhereLemmas.{SameWhere-refl, SameWhere-then, elsewhere_left}

-- one turn is a run
pub run_one : (side : Side) (event : Event) (h after : HandoverState) (ram memory : RamState) (m : Machine) → Turns side event (over h ram) (over after memory)
    m → Runs side (event ∷ []) (over h ram) (over after memory) m
run_one side event h after ram memory m t = record {
  turned = record { events_are = ap (λ (e : Event). e ∷ []) t.turned.event_is; stands = t.turned.stands };
  map = t.map;
  memory_is = t.memory_is;
  left = (memory, t.memory_is, refl);
}

-- the events that were written first
pub noted : (n : ℕ) (event : Event) (events rest : List Event) → events ≡ replicate n event ++ rest → take n events ≡ replicate n event
noted n event events rest is = ap (take n) is ∙ take_at (replicate n event) rest n (length-replicate n event)

pub taken_noted : (n : ℕ) (events rest : List Event) → 0 < n → events ≡ replicate (n - 1) Copied ++ Took ∷ rest → take n events ≡ replicate (n - 1) Copied ++ Took ∷ []
taken_noted n events rest some is =
    let l = length-append (replicate (n - 1) Copied) (Took ∷ []) in
    let r = length-replicate (n - 1) Copied in
    ap (take n) (is ∙ sym (append_assoc (replicate (n - 1) Copied) (Took ∷ []) rest))
    ∙ take_at (replicate (n - 1) Copied ++ Took ∷ []) rest n (omega (arith, l, r, some))

-- the firmware fills one piece more than n, one after another
pub fills_run : (n : ℕ) (h : HandoverState) (ram new : RamState) (m : Machine) (block : List ℕ) (rest : List (List ℕ)) → h.situation ≡ Filling →
    kept h ≡ block ∷ rest → 64 * (h.filled + n) < length block →
    new ≡ with_window h.map ram (with_pieces (window h.map ram) block h.filled (suc n)) → StandsFor h ram m →
    Runs Firmware (replicate (suc n) Fill) (over h ram) (over (record h { waiting = rest; at_work = Some block; filled = h.filled + suc n }) new) m
fills_run zero h ram new m block rest now held more memory st =
    run_one Firmware Fill h (record h { waiting = rest; at_work = Some block; filled = h.filled + 1 }) ram new m (fills h ram new m block rest now held (omega (arith, more)) memory st)
fills_run (suc n) h ram new m block rest now held more memory st =
    let w = st.windows in
    let fits = (next_fits h ram m block rest held st).fits in
    let l = length-window h.map ram w in
    let first : List ℕ = with_piece (window h.map ram) block h.filled in
    let all : List ℕ = with_pieces (window h.map ram) block h.filled (suc (suc n)) in
    let wide : length (with_piece (window h.map ram) block h.filled) ≡ h.map.len = length-with_piece (window h.map ram) block h.filled (omega (arith, fits, l)) (omega (arith, more)) ∙ l in
    let long : length (with_pieces (window h.map ram) block h.filled (suc (suc n))) ≡ h.map.len = length-with_pieces (window h.map ram) block h.filled
    (suc (suc n)) (omega (arith, fits, l)) (omega (arith, more)) ∙ l in
    let ram1 : RamState = with_window h.map ram first in
    let t = fills h ram (with_window h.map ram (with_piece (window h.map ram) block h.filled)) m block rest now held (omega (arith, more)) refl st in
    let mid : HandoverState = record h { waiting = rest; at_work = Some block; filled = h.filled + 1 } in
    let seen : window h.map (with_window h.map ram (with_piece (window h.map ram) block h.filled)) ≡ with_piece (window h.map ram) block h.filled =
    window-with_window h.map ram (with_piece (window h.map ram) block h.filled) w wide in
    let joined : with_pieces (window h.map (with_window h.map ram (with_piece (window h.map ram) block h.filled))) block (h.filled + 1) (suc n) ≡ with_pieces
    (window h.map ram) block h.filled (suc (suc n)) =
    ap (λ (v : List ℕ). with_pieces v block (h.filled + 1) (suc n)) seen ∙ pieces_next (window h.map ram) block h.filled (suc n) (omega (arith, fits, l)) (omega (arith, more)) in
    let later : new ≡ with_window h.map ram1 (with_pieces (window h.map ram1) block (h.filled + 1) (suc n)) =
    memory ∙ sym (block_twice (window_of h.map) ram (with_piece (window h.map ram) block h.filled) (with_pieces (window h.map ram) block h.filled (suc (suc n))) (has_block h.map ram w) wide long)
    ∙ ap (with_window h.map (with_window h.map ram (with_piece (window h.map ram) block h.filled))) (sym joined) in
    let r = fills_run n mid ram1 new (turned Firmware m).1 block rest now refl (omega (arith, more)) later t.turned.stands in
    let sum : h.filled + 1 + suc n ≡ h.filled + suc (suc n) = omega arith in
    record {
      turned = record {
        events_are = ap (λ (e : Event). e ∷ replicate (suc n) Fill) t.turned.event_is ∙ ap (λ (es : List Event). (turned Firmware m).0 ∷ es) r.turned.events_are;
        stands = subst (λ (k : ℕ). StandsFor (record h { waiting = rest; at_work = Some block; filled = k }) new (turned_times Firmware (length (replicate (suc (suc n)) Fill)) m)) sum r.turned.stands;
      };
      map = refl;
      memory_is = written_only h.map ram new all w long memory;
      left = (ram1, t.memory_is, r.left);
    }

-- the reader copies n pieces, none of which is the last
pub copies_run : (n : ℕ) (h : HandoverState) (ram : RamState) (m : Machine) (block : List ℕ) → h.situation ≡ Reading → h.at_work ≡ Some block → 64 * (h.copied + n) < length block → StandsFor h ram m →
    AreTurned Reader n (replicate n Copied) (record h { copied = h.copied + n }) ram m
copies_run zero h ram m block now is more st =
    let sum : h.copied ≡ h.copied + 0 = omega arith in
    record { events_are = refl; stands = subst (λ (k : ℕ). StandsFor (record h { copied = k }) ram m) sum st }
copies_run (suc n) h ram m block now is more st =
    let t = copies_more h ram m block now is (omega (arith, more)) st in
    let r = copies_run n (record h { copied = h.copied + 1 }) ram (turned Reader m).1 block now is (omega (arith, more)) t.turned.stands in
    let sum : h.copied + 1 + n ≡ h.copied + suc n = omega arith in
    record {
      events_are = ap (λ (e : Event). e ∷ replicate n Copied) t.turned.event_is ∙ ap (λ (es : List Event). (turned Reader m).0 ∷ es) r.events_are;
      stands = subst (λ (k : ℕ). StandsFor (record h { copied = k }) ram (turned_times Reader (suc n) m)) sum r.stands;
    }

-- and then the last
pub takes_run : (n : ℕ) (h : HandoverState) (ram : RamState) (m : Machine) (block : List ℕ) → h.situation ≡ Reading → h.at_work ≡ Some block →
    64 * (h.copied + n) < length block → length block ≤ 64 * (h.copied + suc n) → StandsFor h ram m →
    AreTurned Reader (suc n) (replicate n Copied ++ Took ∷ []) (record h { copied = h.copied + suc n; last = block }) ram m
takes_run zero h ram m block now is more all st =
    let t = copies_last h ram m block now is (omega (arith, more)) all st in
    record { events_are = ap (λ (e : Event). e ∷ []) t.turned.event_is; stands = t.turned.stands }
takes_run (suc n) h ram m block now is more all st =
    let t = copies_more h ram m block now is (omega (arith, more)) st in
    let r = takes_run n (record h { copied = h.copied + 1 }) ram (turned Reader m).1 block now is (omega (arith, more)) (omega (arith, all)) t.turned.stands in
    let sum : h.copied + 1 + suc n ≡ h.copied + suc (suc n) = omega arith in
    record {
      events_are = ap (λ (e : Event). e ∷ (replicate n Copied ++ Took ∷ [])) t.turned.event_is ∙ ap (λ (es : List Event). (turned Reader m).0 ∷ es) r.events_are;
      stands = subst (λ (k : ℕ). StandsFor (record h { copied = k; last = block }) ram (turned_times Reader (suc (suc n)) m)) sum r.stands;
    }

-- copies leave the memory
pub copied_memory : (n : ℕ) (h : HandoverState) (ram : RamState) → ram ≡ memory_after h.map (get_or (replicate n Copied) 0 Idle) ram (window h.map ram)
copied_memory zero h ram = refl
copied_memory (suc n) h ram = refl

pub taken_memory : (n : ℕ) (h : HandoverState) (ram : RamState) → ram ≡ memory_after h.map (get_or (replicate n Copied ++ Took ∷ []) 0 Idle) ram (window h.map ram)
taken_memory zero h ram = refl
taken_memory (suc n) h ram = refl

pub copied_left : (n : ℕ) (h : HandoverState) (ram : RamState) → AreLeft h.map (replicate n Copied) ram ram
copied_left zero h ram = refl
copied_left (suc n) h ram = (ram, refl, copied_left n h ram)

pub taken_left : (n : ℕ) (h : HandoverState) (ram : RamState) → AreLeft h.map (replicate n Copied ++ Took ∷ []) ram ram
taken_left zero h ram = (ram, refl, refl)
taken_left (suc n) h ram = (ram, refl, taken_left n h ram)

left_then : (at : HandoverMap) (first others : List Event) (ram memory new : RamState) → AreLeft at first ram memory → AreLeft at others memory new → AreLeft at (first ++ others) ram new
left_then at [] others ram memory new a b = subst (λ (r : RamState). AreLeft at others r new) a b
left_then at (event ∷ first) others ram memory new (between, is, more) b = (between, is, left_then at first others between memory new more b)

-- turns after turns
times_more : (side : Side) (a b : ℕ) (m : Machine) → turned_times side (a + b) m ≡ turned_times side b (turned_times side a m)
times_more side zero b m = let e : 0 + b ≡ b = omega arith in ap (λ (k : ℕ). turned_times side k m) e
times_more side (suc a) b m = let e : suc a + b ≡ suc (a + b) = omega arith in ap (λ (k : ℕ). turned_times side k m) e ∙ times_more side a b (turned side m).1

events_more : (side : Side) (a b : ℕ) (m : Machine) → events_of_times side (a + b) m ≡ events_of_times side a m ++ events_of_times side b (turned_times side a m)
events_more side zero b m = let e : 0 + b ≡ b = omega arith in ap (λ (k : ℕ). events_of_times side k m) e
events_more side (suc a) b m =
    let e : suc a + b ≡ suc (a + b) = omega arith in
    ap (λ (k : ℕ). events_of_times side k m) e ∙ ap (λ (es : List Event). (turned side m).0 ∷ es) (events_more side a b (turned side m).1)

pub no_turns : (side : Side) (h : HandoverState) (ram : RamState) (m : Machine) → StandsFor h ram m → MakesTurns side [] (over h ram) (over h ram) m
no_turns side h ram m st = record { turned = record { events_are = refl; stands = st }; map = refl; left = refl; elsewhere = SameWhere-refl (IsOffBlock h.map) ram }

pub turns_then : (side : Side) (first others : List Event) (h between after : HandoverState) (ram memory new : RamState) (m : Machine) → StandsFor h ram m →
    MakesTurns side first (over h ram) (over between memory) m →
    Runs side others (over between memory) (over after new) (turned_times side (length first) m) → MakesTurns side (first ++ others) (over h ram) (over after new) m
turns_then side first others h between after ram memory new m st a b =
    let n = length-append first others in
    let windows : HasWindows between.map new = subst (λ at. HasWindows at new) b.map b.turned.stands.windows in
    let far : SameWhere (IsOffBlock between.map) memory new = elsewhere_left between.map (get_or others 0 Idle) memory new a.turned.stands.windows windows b.memory_is in
    record {
      turned = record {
        events_are = ap (λ (es : List Event). es ++ others) a.turned.events_are
            ∙ ap (λ (es : List Event). events_of_times side (length first) m ++ es) b.turned.events_are
            ∙ sym (events_more side (length first) (length others) m)
            ∙ ap (λ (k : ℕ). events_of_times side k m) (sym n);
        stands = subst (StandsFor after new) (sym (ap (λ (k : ℕ). turned_times side k m) n ∙ times_more side (length first) (length others) m)) b.turned.stands;
      };
      map = b.map ∙ a.map;
      left = left_then h.map first others ram memory new a.left (subst (λ at. AreLeft at others memory new) a.map b.left);
      elsewhere = SameWhere-then (IsOffBlock h.map) ram memory new a.elsewhere (subst (λ at. SameWhere (IsOffBlock at) memory new) a.map far);
    }
