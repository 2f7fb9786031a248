-- Each turn of a handover is the machine's turn.
use Rattle.std.proofs.Common.{◌≡◌, ◌∙◌, ℕ, ◌+◌, ◌*◌, ◌<◌, ◌≤◌, ◌⊎◌, inl, List, [], ◌∷◌, ◌++◌, length, take, Option, Some, None, option_to_list, refl, sym, ap, subst, arith, bit_and}
use Rattle.std.proofs.lemmas.List.{length-take}
use Rattle.base_model.specs.Bytes.{part, spelled, put_at, number_at}
use Rattle.base_model.proofs.BytesLemmas.{length-spelled}
use Rattle.apei_space.specs.RamState.{RamState}
use Rattle.ghes_ack.proofs.PieceLemmas.{length-with_piece}
use Rattle.ghes_ack.specs.declared.maps.HandoverMap.{HandoverMap}
use Rattle.ghes_ack.specs.declared.events.Side.{Side}
use Rattle.ghes_ack.specs.declared.events.Side.TheVariants.{Firmware, Reader}
use Rattle.ghes_ack.specs.declared.events.Event.{Event}
use Rattle.ghes_ack.specs.declared.events.Event.TheVariants.{Idle, Fill, Publish, Free, Wait, Nothing, Found, Copied, Took, Clear, Ack}
use Rattle.ghes_ack.specs.Machine.{Machine, Situation, Filling, Published, Reading, Cleared, Acknowledged, Fits, with_piece, with_status, turned}
use Rattle.ghes_ack.proofs.Terms.{Turned}
use Rattle.ghes_ack.specs.Maps.{HasAckBits, HasWindows, window, ack_read, ack_mask, with_window, with_ack, with_clear, acknowledged, memory_after, IsSet, IsClear}
use Rattle.ghes_ack.specs.Handovers.{HandoverState, kept, AcksAre, StandsFor, over}
use Rattle.ghes_ack.specs.Sides.{Turns}
use Rattle.ghes_ack.specs.Sides.{Stands}
use Rattle.ghes_ack.proofs.MachineTurns as machine
use Rattle.ghes_ack.proofs.Kept.{Kept, Agrees, kept_over}
use Rattle.ghes_ack.proofs.MachineTurns.{Next}
use Rattle.ghes_ack.proofs.MemoryLemmas.{length-window, window-with_window, window-with_ack, address-with_window, address-with_ack, ack-with_window, HasWindows-with_ack}
use Rattle.ghes_ack.proofs.EffectLemmas.{windows_window, windows_ack, length-status}
use Rattle.ghes_ack.specs.Windows.{address_at}

-- what it keeps, with other bytes in its window
abbrev pub kept_with : HandoverState → List ℕ → Kept
kept_with h bytes = kept_over h.map.len h bytes

pub agrees : (h : HandoverState) (ram : RamState) (m : Machine) → StandsFor h ram m → Agrees (kept_with h (window h.map ram)) m
agrees h ram m st = record {
  state = st.state;
  bytes_are = st.window_is;
  situation_is = st.situation;
  blocks = st.blocks;
  wait = st.wait;
  filled_is = st.filled;
  copied_is = st.copied;
  last_is = st.last;
}

pub stands_by : (h : HandoverState) (ram : RamState) (bytes : List ℕ) (m : Machine) → Agrees (kept_with h bytes) m → bytes ≡ window h.map ram →
    HasWindows h.map ram → address_at h.map.status ram ≡ h.map.block → AcksAre h.situation h.map ram → StandsFor h ram m
stands_by h ram bytes m a seen windows address acks = record {
  state = a.state;
  windows = windows;
  address = address;
  acks = acks;
  window_is = a.bytes_are ∙ seen;
  situation = a.situation_is;
  blocks = a.blocks;
  wait = a.wait;
  filled = a.filled_is;
  copied = a.copied_is;
  last = a.last_is;
}

pub acks_in : (h : HandoverState) (ram : RamState) (m : Machine) (s : Situation) → h.situation ≡ s → StandsFor h ram m → AcksAre s h.map ram
acks_in h ram m s is st = subst (λ (x : Situation). AcksAre x h.map ram) is st.acks

same_ack : (at : HandoverMap) (ram new : RamState) → ack_read at new ≡ ack_read at ram → IsSet at ram → IsSet at new
same_ack at ram new is set = subst (λ (r : ℕ). bit_and r (ack_mask at) ≡ ack_mask at) (sym is) set

same_clear : (at : HandoverMap) (ram new : RamState) → ack_read at new ≡ ack_read at ram → IsClear at ram → IsClear at new
same_clear at ram new is set = subst (λ (r : ℕ). bit_and r (ack_mask at) ≡ 0) (sym is) set

-- no memory says both
pub set_and_clear : (at : HandoverMap) (ram : RamState) → HasAckBits at → IsSet at ram → IsClear at ram → ⊥
set_and_clear at ram bits set clear = let some = bits.some in let e : ack_mask at ≡ 0 = sym set ∙ clear in omega (arith, some, e)

-- a turn that the machine makes so: what it keeps then, and what the memory is
turns : (side : Side) (event : Event) (h after : HandoverState) (ram memory : RamState) (bytes : List ℕ) (m : Machine) → Next side event (kept_with after bytes)
    m → bytes ≡ window after.map memory → after.map ≡ h.map →
    memory ≡ memory_after h.map event ram (window h.map memory) → HasWindows after.map memory → address_at after.map.status memory ≡ after.map.block →
    AcksAre after.situation after.map memory → Turns side event (over h ram) (over after memory) m
turns side event h after ram memory bytes m next seen same memory_is windows address acks =
    let e : (turned side m).1 ≡ next.machine = ap (λ (t : Turned). t.1) next.is in
    record {
      turned = record {
        event_is = sym (ap (λ (t : Turned). t.0) next.is);
        stands = subst (StandsFor after memory) (sym e) (stands_by after memory bytes next.machine next.agrees seen windows address acks);
      };
      map = same;
      memory_is = memory_is;
    }

-- a turn that leaves the memory
stays : (side : Side) (event : Event) (h after : HandoverState) (ram : RamState) (m : Machine) → Next side event (kept_with after (window after.map ram)) m →
    after.map ≡ h.map → ram ≡ memory_after h.map event ram (window h.map ram) →
    HasWindows after.map ram → address_at after.map.status ram ≡ after.map.block → AcksAre after.situation after.map ram → Turns side event (over h ram) (over after ram) m
stays side event h after ram m next same is windows address acks = turns side event h after ram ram (window after.map ram) m next refl same is windows address acks

-- a write of the window and nothing else
pub written : (map : HandoverMap) (ram new : RamState) (bytes : List ℕ) → HasWindows map ram → length bytes ≡ map.len → new ≡ with_window map ram bytes → window map new ≡ bytes
written map ram new bytes w n is = ap (window map) is ∙ window-with_window map ram bytes w n

pub written_only : (map : HandoverMap) (ram new : RamState) (bytes : List ℕ) → HasWindows map ram → length bytes ≡ map.len → new ≡ with_window map ram bytes →
    new ≡ with_window map ram (window map new)
written_only map ram new bytes w n is = is ∙ ap (with_window map ram) (sym (written map ram new bytes w n is))

same_address : (map : HandoverMap) (ram new : RamState) (bytes : List ℕ) → HasWindows map ram → length bytes ≡ map.len → new ≡ with_window map ram bytes →
    address_at map.status new ≡ address_at map.status ram
same_address map ram new bytes w n is = ap (address_at map.status) is ∙ address-with_window map ram bytes w n

-- the firmware's block fits into the window
pub next_fits : (h : HandoverState) (ram : RamState) (m : Machine) (block : List ℕ) (rest : List (List ℕ)) → kept h ≡ block ∷ rest → StandsFor h ram m → Fits h.map.len block
next_fits h ram m block rest held st = (machine.oldest (kept_with h (window h.map ram)) m block rest held (agrees h ram m st)).fits

pub idles : (h : HandoverState) (ram : RamState) (m : Machine) → h.situation ≡ Filling → kept h ≡ [] → StandsFor h ram m → Turns Firmware Idle (over h ram) (over h ram) m
idles h ram m now none st = stays Firmware Idle h h ram m (machine.idles (kept_with h (window h.map ram)) m now none (agrees h ram m st)) refl refl st.windows st.address st.acks

pub fills : (h : HandoverState) (ram new : RamState) (m : Machine) (block : List ℕ) (rest : List (List ℕ)) → h.situation ≡ Filling → kept h ≡ block ∷ rest → 64 * h.filled < length block →
    new ≡ with_window h.map ram (with_piece (window h.map ram) block h.filled) → StandsFor h ram m →
    Turns Firmware Fill (over h ram) (over (record h { waiting = rest; at_work = Some block; filled = h.filled + 1 }) new) m
fills h ram new m block rest now held more memory st =
    let w = st.windows in
    let fits = (next_fits h ram m block rest held st).fits in
    let n = length-window h.map ram w in
    let wide : length (with_piece (window h.map ram) block h.filled) ≡ h.map.len = length-with_piece (window h.map ram) block h.filled (omega (arith, fits, n)) (omega (arith, more)) ∙ n in
    turns Firmware Fill h (record h { waiting = rest; at_work = Some block; filled = h.filled + 1 }) ram new (with_piece (window h.map ram) block h.filled) m
    (machine.fills (kept_with h (window h.map ram)) m block rest now held more (agrees h ram m st)) (sym (written h.map ram new (with_piece (window h.map ram) block h.filled) w wide memory)) refl
    (written_only h.map ram new (with_piece (window h.map ram) block h.filled) w wide memory) (windows_window h.map ram new (with_piece (window h.map ram) block h.filled) memory wide w)
    (same_address h.map ram new (with_piece (window h.map ram) block h.filled) w wide memory ∙ st.address)
    (subst (λ (s : Situation). AcksAre s h.map new) (sym now)
    (same_ack h.map ram new (ap (ack_read h.map) memory ∙ ack-with_window h.map ram (with_piece (window h.map ram) block h.filled) w wide)
    (acks_in h ram m Filling now st)))

-- a block all of whose pieces are filled is published
pub publishes : (h : HandoverState) (ram new : RamState) (m : Machine) (block : List ℕ) (rest : List (List ℕ)) → h.situation ≡ Filling → kept h ≡ block ∷ rest → length block ≤ 64 * h.filled →
    new ≡ with_window h.map (with_ack h.map ram (with_clear h.map (ack_read h.map ram))) (with_status (window h.map ram) (take 4 block)) → IsClear h.map new → StandsFor h ram m →
    Turns Firmware Publish (over h ram) (over (record h { waiting = rest; at_work = Some block; filled = 0; situation = Published }) new) m
publishes h ram new m block rest now held none memory clear st =
    let head = (next_fits h ram m block rest held st).head in
    let four : length (take 4 block) ≡ 4 = length-take 4 block ∙ omega (arith, head) in
    let wide = length-status h.map ram (take 4 block) four st.windows in
    let value = with_clear h.map (ack_read h.map ram) in
    let before = HasWindows-with_ack h.map ram value st.windows in
    turns Firmware Publish h (record h { waiting = rest; at_work = Some block; filled = 0; situation = Published }) ram new (with_status (window h.map ram) (take 4 block)) m
    (machine.publishes (kept_with h (window h.map ram)) m block rest now held none (agrees h ram m st))
    (sym (written h.map (with_ack h.map ram value) new (with_status (window h.map ram) (take 4 block)) before wide memory)) refl
    (written_only h.map (with_ack h.map ram value) new (with_status (window h.map ram) (take 4 block)) before wide memory)
    (windows_window h.map (with_ack h.map ram value) new (with_status (window h.map ram) (take 4 block)) memory wide before)
    (same_address h.map (with_ack h.map ram value) new (with_status (window h.map ram) (take 4 block)) before wide memory ∙ address-with_ack h.map ram value st.windows ∙ st.address) clear

pub waits : (h : HandoverState) (ram : RamState) (m : Machine) → (h.situation ≡ Published) ⊎ ((h.situation ≡ Reading) ⊎ (h.situation ≡ Cleared)) →
    StandsFor h ram m → Turns Firmware Wait (over h ram) (over h ram) m
waits h ram m held st = stays Firmware Wait h h ram m (machine.waits (kept_with h (window h.map ram)) m held (agrees h ram m st)) refl refl st.windows st.address st.acks

pub frees : (h : HandoverState) (ram : RamState) (m : Machine) → h.situation ≡ Acknowledged → StandsFor h ram m → Turns Firmware Free (over h ram) (over (record h { situation = Filling }) ram) m
frees h ram m now st =
    stays Firmware Free h (record h { situation = Filling }) ram m (machine.frees (kept_with h (window h.map ram)) m now (agrees h ram m st)) refl refl
    st.windows st.address (acks_in h ram m Acknowledged now st)

pub no_status : (h : HandoverState) (ram : RamState) (m : Machine) → (h.situation ≡ Filling) ⊎ (h.situation ≡ Acknowledged) → StandsFor h ram m → number_at (window h.map ram) 0 4 ≡ 0
no_status h ram m now st = machine.no_status (kept_with h (window h.map ram)) m now (agrees h ram m st)

pub finds_nothing : (h : HandoverState) (ram : RamState) (m : Machine) → (h.situation ≡ Filling) ⊎ (h.situation ≡ Acknowledged) → StandsFor h ram m → Turns Reader Nothing (over h ram) (over h ram) m
finds_nothing h ram m now st = stays Reader Nothing h h ram m (machine.finds_nothing (kept_with h (window h.map ram)) m now (agrees h ram m st)) refl refl st.windows st.address st.acks

-- a published block shows its status
pub some_status : (h : HandoverState) (ram : RamState) (m : Machine) → h.situation ≡ Published → StandsFor h ram m → 0 < number_at (window h.map ram) 0 4
some_status h ram m now st = machine.some_status (kept_with h (window h.map ram)) m (inl now) (agrees h ram m st)

pub finds : (h : HandoverState) (ram : RamState) (m : Machine) → h.situation ≡ Published → StandsFor h ram m →
    Turns Reader Found (over h ram) (over (record h { situation = Reading; copied = 0 }) ram) m
finds h ram m now st =
    stays Reader Found h (record h { situation = Reading; copied = 0 }) ram m (machine.finds (kept_with h (window h.map ram)) m now (agrees h ram m st)) refl
    refl st.windows st.address (acks_in h ram m Published now st)

-- the block that is published and not acknowledged
held_work : (h : HandoverState) (block : List ℕ) → h.at_work ≡ Some block → kept h ≡ block ∷ h.waiting
held_work h block is = ap (λ (o : Option (List ℕ)). option_to_list o ++ h.waiting) is

pub work_fits : (h : HandoverState) (ram : RamState) (m : Machine) (block : List ℕ) → h.at_work ≡ Some block → StandsFor h ram m → Fits h.map.len block
work_fits h ram m block is st = next_fits h ram m block h.waiting (held_work h block is) st

-- a copy of bytes goes over the same bytes
pub copies_over : (h : HandoverState) (ram : RamState) (block : List ℕ) (at n : ℕ) → h.situation ≡ Reading → h.at_work ≡ Some block →
    64 * h.copied < length block → at + n ≤ length block → Stands h ram →
    put_at block at (part (window h.map ram) at n) ≡ block
copies_over h ram block at n now is more inside (m, st) = machine.copies_over (kept_with h (window h.map ram)) m block h.waiting at n now (held_work h block is) more inside (agrees h ram m st)

pub copies_more : (h : HandoverState) (ram : RamState) (m : Machine) (block : List ℕ) → h.situation ≡ Reading → h.at_work ≡ Some block → 64 * (h.copied + 1) < length block → StandsFor h ram m →
    Turns Reader Copied (over h ram) (over (record h { copied = h.copied + 1 }) ram) m
copies_more h ram m block now is more st =
    stays Reader Copied h (record h { copied = h.copied + 1 }) ram m (machine.copies_more (kept_with h (window h.map ram)) m block h.waiting now
    (held_work h block is) more (agrees h ram m st)) refl refl st.windows st.address st.acks

pub copies_last : (h : HandoverState) (ram : RamState) (m : Machine) (block : List ℕ) → h.situation ≡ Reading → h.at_work ≡ Some block →
    64 * h.copied < length block → length block ≤ 64 * (h.copied + 1) → StandsFor h ram m →
    Turns Reader Took (over h ram) (over (record h { copied = h.copied + 1; last = block }) ram) m
copies_last h ram m block now is more all st =
    stays Reader Took h (record h { copied = h.copied + 1; last = block }) ram m (machine.copies_last (kept_with h (window h.map ram)) m block h.waiting now
    (held_work h block is) more all (agrees h ram m st)) refl refl st.windows st.address st.acks

pub clears : (h : HandoverState) (ram new : RamState) (m : Machine) (block : List ℕ) → h.situation ≡ Reading → h.at_work ≡ Some block → length block ≤ 64 * h.copied →
    new ≡ with_window h.map ram (with_status (window h.map ram) (spelled 4 0)) → StandsFor h ram m → Turns Reader Clear (over h ram) (over (record h { situation = Cleared }) new) m
clears h ram new m block now is all memory st =
    let w = st.windows in
    let wide = length-status h.map ram (spelled 4 0) (length-spelled 4 0) w in
    turns Reader Clear h (record h { situation = Cleared }) ram new (with_status (window h.map ram) (spelled 4 0)) m
    (machine.clears (kept_with h (window h.map ram)) m block h.waiting now (held_work h block is) all (agrees h ram m st))
    (sym (written h.map ram new (with_status (window h.map ram) (spelled 4 0)) w wide memory)) refl
    (written_only h.map ram new (with_status (window h.map ram) (spelled 4 0)) w wide memory) (windows_window h.map ram new (with_status (window h.map ram) (spelled 4 0)) memory wide w)
    (same_address h.map ram new (with_status (window h.map ram) (spelled 4 0)) w wide memory ∙ st.address)
    (same_clear h.map ram new (ap (ack_read h.map) memory ∙ ack-with_window h.map ram (with_status (window h.map ram) (spelled 4 0)) w wide) (acks_in h ram m Reading now st))

pub acknowledges : (h : HandoverState) (ram new : RamState) (m : Machine) (block : List ℕ) → h.situation ≡ Cleared → h.at_work ≡ Some block →
    new ≡ with_ack h.map ram (acknowledged h.map (ack_read h.map ram)) → IsSet h.map new → StandsFor h ram m →
    Turns Reader Ack (over h ram) (over (record h { situation = Acknowledged; at_work = None }) new) m
acknowledges h ram new m block now is memory set st =
    let value = acknowledged h.map (ack_read h.map ram) in
    turns Reader Ack h (record h { situation = Acknowledged; at_work = None }) ram new (window h.map ram) m
    (machine.acknowledges (kept_with h (window h.map ram)) m block h.waiting now (held_work h block is) (agrees h ram m st))
    (sym (ap (window h.map) memory ∙ window-with_ack h.map ram value st.windows)) refl
    memory (windows_ack h.map ram new value memory st.windows) (ap (address_at h.map.status) memory ∙ address-with_ack h.map ram value st.windows ∙ st.address) set
