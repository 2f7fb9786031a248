-- Each turn of a plain handover is the machine's turn.
use Rattle.std.proofs.Common.{◌≡◌, ◌≢◌, ◌∙◌, ℕ, ◌+◌, ◌-◌, ◌*◌, ◌<◌, ◌≤◌, ◌⊎◌, min, List, [], ◌∷◌, ◌++◌, length, take, Option, Some, None, option_to_list, refl, sym, ap, subst, arith}
use Rattle.std.proofs.lemmas.List.{length-take}
use Rattle.base_model.specs.Bytes.{part, spelled, put_at}
use Rattle.base_model.proofs.BytesLemmas.{length-spelled}
use Rattle.apei_space.specs.RamState.{RamState}
use Rattle.ghes_ack.proofs.PieceLemmas.{length-with_piece}
use Rattle.ghes_ack.specs.declared.events.Side.{Side}
use Rattle.ghes_ack.specs.declared.events.Side.TheVariants.{Firmware, Reader}
use Rattle.ghes_ack.specs.declared.events.Event.{Event}
use Rattle.ghes_ack.specs.declared.events.Event.TheVariants.{Idle, Fill, Publish, Free, Wait, Nothing, Found, Copied, Took, Clear}
use Rattle.ghes_ack.specs.Machine.{Machine, Situation, Filling, Published, Reading, Cleared, Acknowledged, Fits, with_piece, with_status, reader_turn, turned}
use Rattle.ghes_ack.proofs.Terms.{Turned}
use Rattle.ghes_ack.proofs.MachineTurns as machine
use Rattle.ghes_ack.proofs.Kept.{Kept, Agrees, kept_over}
use Rattle.ghes_ack.proofs.MachineTurns.{Next}
use Rattle.ghes_hub.specs.declared.plain.map.PlainMap.{PlainMap}
use Rattle.ghes_hub.specs.Kinds.{ByStatus, turned_by}
use Rattle.ghes_hub.proofs.Terms.{settled}
use Rattle.ghes_ack.specs.Windows.{block_bytes, address_at, HasAddressed, block_status, with_block}
use Rattle.ghes_hub.specs.Plain.{PlainState, PlainStands}
use Rattle.ghes_ack.specs.Handovers.{kept, over}
use Rattle.ghes_hub.specs.PlainSides.{Turns, FirmwareMakes, Idles, Fills, Publishes, with_next_piece, ReaderMakes, Copies, Takes, Clears}
use Rattle.ghes_hub.proofs.Terms.{Stands}
use Rattle.ghes_ack.proofs.AddressLemmas.{length-window, window-with_window, address-with_window}
use Rattle.ghes_hub.proofs.PlainMemory.{windows_window, length-plain_status, unchanged}

-- what it keeps, with other bytes in its window
abbrev pub kept_with : PlainState → List ℕ → Kept
kept_with h bytes = kept_over h.map.window.len h bytes

abbrev pub kept_now : PlainState → RamState → Kept
kept_now h ram = kept_with h (block_bytes h.map.window ram)

pub agrees : (h : PlainState) (ram : RamState) (m : Machine) → PlainStands h ram m → Agrees (kept_now h ram) m
agrees h ram m st = record {
  state = st.state;
  bytes_are = st.window_is;
  situation_is = st.situation;
  blocks = st.blocks;
  wait = st.wait;
  filled_is = st.filled;
  copied_is = st.copied;
  last_is = st.last;
}

pub stands_by : (h : PlainState) (ram : RamState) (bytes : List ℕ) (m : Machine) → Agrees (kept_with h bytes) m → bytes ≡ block_bytes h.map.window ram →
    HasAddressed h.map.status h.map.window ram → address_at h.map.status ram ≡ h.map.window.block → h.situation ≢ Cleared → PlainStands h ram m
stands_by h ram bytes m a seen windows address occurs = record {
  state = a.state;
  windows = windows;
  address = address;
  window_is = a.bytes_are ∙ seen;
  situation = a.situation_is;
  occurs = occurs;
  blocks = a.blocks;
  wait = a.wait;
  filled = a.filled_is;
  copied = a.copied_is;
  last = a.last_is;
}

-- a machine in one of the four situations is settled
settled_none : (n : Machine) (s : Situation) → s ≢ Cleared → settled n s ≡ n
settled_none n Filling o = refl
settled_none n Published o = refl
settled_none n Reading o = refl
settled_none n Cleared o = absurd (o refl)
settled_none n Acknowledged o = refl

-- a machine that is not makes the reader's turn at once
settles : (n : Machine) → n.situation ≡ Cleared → settled n n.situation ≡ (turned Reader n).1
settles n is = ap (settled n) is ∙ sym (ap (λ (s : Situation). (reader_turn n s).1) is)

-- a turn that the machine makes so: what it keeps then, and what the memory is
made : (side : Side) (event : Event) (h after : PlainState) (ram memory : RamState) (bytes : List ℕ) (m n : Machine) → turned_by ByStatus side m ≡ (event, n) →
    Agrees (kept_with after bytes) n → after.situation ≢ Cleared → bytes ≡ block_bytes after.map.window memory →
    after.map ≡ h.map → memory ≡ with_block h.map.window ram (block_bytes h.map.window memory) → HasAddressed after.map.status after.map.window memory →
    address_at after.map.status memory ≡ after.map.window.block → Turns side event (over h ram) (over after memory) m
made side event h after ram memory bytes m n is a occurs seen same memory_is windows address = record {
  event_is = sym (ap (λ (t : Turned). t.0) is);
  stands = subst (PlainStands after memory) (sym (ap (λ (t : Turned). t.1) is)) (stands_by after memory bytes n a seen windows address occurs);
  map = same;
  memory_is = memory_is;
}

settled_next : (side : Side) (event : Event) (k : Kept) (m : Machine) (next : Next side event k m) → k.situation ≢ Cleared → turned_by ByStatus side m ≡ (event, next.machine)
settled_next side event k m next occurs =
    ap (λ (t : Turned). (t.0, settled t.1 t.1.situation)) next.is ∙ ap (λ (n : Machine). (event, n)) (settled_none next.machine next.machine.situation
    (subst (λ (s : Situation). s ≢ Cleared) (sym next.agrees.situation_is) occurs))

-- a turn that leaves the memory
stays : (side : Side) (event : Event) (h after : PlainState) (ram : RamState) (m : Machine) →
    Next side event (kept_with after (block_bytes after.map.window ram)) m → after.situation ≢ Cleared → after.map ≡ h.map → PlainStands h ram m →
    HasAddressed after.map.status after.map.window ram → address_at after.map.status ram ≡ after.map.window.block → Turns side event (over h ram) (over after ram) m
stays side event h after ram m next occurs same st windows address =
    made side event h after ram ram (block_bytes after.map.window ram) m next.machine
    (settled_next side event (kept_with after (block_bytes after.map.window ram)) m next occurs) next.agrees occurs refl same (unchanged h.map ram st.windows)
    windows address

-- a turn that writes the window and nothing else
pub written : (map : PlainMap) (ram new : RamState) (bytes : List ℕ) → HasAddressed map.status map.window ram → length bytes ≡ map.window.len →
    new ≡ with_block map.window ram bytes → block_bytes map.window new ≡ bytes
written map ram new bytes w n is = ap (block_bytes map.window) is ∙ window-with_window map.status map.window ram bytes w n

pub written_only : (map : PlainMap) (ram new : RamState) (bytes : List ℕ) → HasAddressed map.status map.window ram → length bytes ≡ map.window.len →
    new ≡ with_block map.window ram bytes → new ≡ with_block map.window ram (block_bytes map.window new)
written_only map ram new bytes w n is = is ∙ ap (with_block map.window ram) (sym (written map ram new bytes w n is))

writes : (side : Side) (event : Event) (h after : PlainState) (ram new : RamState) (bytes : List ℕ) (m n : Machine) → turned_by ByStatus side m ≡ (event, n) →
    Agrees (kept_with after bytes) n → after.situation ≢ Cleared → after.map ≡ h.map →
    length bytes ≡ h.map.window.len → new ≡ with_block h.map.window ram bytes → PlainStands h ram m → Turns side event (over h ram) (over after new) m
writes side event h after ram new bytes m n is a occurs same wide memory st =
    let windows = windows_window h.map ram new bytes memory wide st.windows in
    let address : address_at h.map.status new ≡ h.map.window.block = ap (address_at h.map.status) memory ∙ address-with_window h.map.status h.map.window ram bytes st.windows wide ∙ st.address in
    let seen : bytes ≡ block_bytes h.map.window new = sym (written h.map ram new bytes st.windows wide memory) in
    made side event h after ram new bytes m n is a occurs (subst (λ (at : PlainMap). bytes ≡ block_bytes at.window new) (sym same) seen) same (written_only h.map ram new bytes st.windows wide memory)
    (subst (λ (at : PlainMap). HasAddressed at.status at.window new) (sym same) windows) (subst (λ (at : PlainMap). address_at at.status new ≡ at.window.block) (sym same) address)

-- the firmware's block fits into the window
next_fits : (h : PlainState) (ram : RamState) (m : Machine) (block : List ℕ) (rest : List (List ℕ)) → kept h ≡ block ∷ rest → PlainStands h ram m → Fits h.map.window.len block
next_fits h ram m block rest held st = (machine.oldest (kept_now h ram) m block rest held (agrees h ram m st)).fits

idles : (h : PlainState) (ram : RamState) (m : Machine) → h.situation ≡ Filling → kept h ≡ [] → PlainStands h ram m → Turns Firmware Idle (over h ram) (over h ram) m
idles h ram m now none st = stays Firmware Idle h h ram m (machine.idles (kept_now h ram) m now none (agrees h ram m st)) st.occurs refl st st.windows st.address

fills : (h : PlainState) (ram new : RamState) (m : Machine) (block : List ℕ) (rest : List (List ℕ)) → h.situation ≡ Filling → kept h ≡ block ∷ rest → 64 * h.filled < length block →
    new ≡ with_block h.map.window ram (with_piece (block_bytes h.map.window ram) block h.filled) → PlainStands h ram m →
    Turns Firmware Fill (over h ram) (over (record h { waiting = rest; at_work = Some block; filled = h.filled + 1 }) new) m
fills h ram new m block rest now held more memory st =
    let fits = (next_fits h ram m block rest held st).fits in
    let n = length-window h.map.status h.map.window ram st.windows in
    let wide : length (with_piece (block_bytes h.map.window ram) block h.filled) ≡ h.map.window.len = length-with_piece (block_bytes h.map.window ram) block
    h.filled (omega (arith, fits, n)) (omega (arith, more)) ∙ n in
    let next = machine.fills (kept_now h ram) m block rest now held more (agrees h ram m st) in
    writes Firmware Fill h (record h { waiting = rest; at_work = Some block; filled = h.filled + 1 }) ram new (with_piece (block_bytes h.map.window ram) block h.filled) m next.machine
    (settled_next Firmware Fill (kept_with (record h { waiting = rest; at_work = Some block; filled = h.filled + 1 })
    (with_piece (block_bytes h.map.window ram) block h.filled)) m next st.occurs) next.agrees st.occurs refl wide memory st

-- a block all of whose pieces are filled is published
publishes : (h : PlainState) (ram new : RamState) (m : Machine) (block : List ℕ) (rest : List (List ℕ)) → h.situation ≡ Filling → kept h ≡ block ∷ rest → length block ≤ 64 * h.filled →
    new ≡ with_block h.map.window ram (with_status (block_bytes h.map.window ram) (take 4 block)) → PlainStands h ram m →
    Turns Firmware Publish (over h ram) (over (record h { waiting = rest; at_work = Some block; filled = 0; situation = Published }) new) m
publishes h ram new m block rest now held none memory st =
    let head = (next_fits h ram m block rest held st).head in
    let four : length (take 4 block) ≡ 4 = length-take 4 block ∙ omega (arith, head) in
    let wide = length-plain_status h.map ram (take 4 block) four st.windows in
    let next = machine.publishes (kept_now h ram) m block rest now held none (agrees h ram m st) in
    writes Firmware Publish h (record h { waiting = rest; at_work = Some block; filled = 0; situation = Published }) ram new (with_status (block_bytes h.map.window ram) (take 4 block)) m next.machine
    (settled_next Firmware Publish (kept_with (record h { waiting = rest; at_work = Some block; filled = 0; situation = Published })
    (with_status (block_bytes h.map.window ram) (take 4 block))) m next (λ e. cc e)) next.agrees (λ e. cc e) refl wide memory st

pub waits : (h : PlainState) (ram : RamState) (m : Machine) → (h.situation ≡ Published) ⊎ ((h.situation ≡ Reading) ⊎ (h.situation ≡ Cleared)) →
    PlainStands h ram m → Turns Firmware Wait (over h ram) (over h ram) m
waits h ram m held st = stays Firmware Wait h h ram m (machine.waits (kept_now h ram) m held (agrees h ram m st)) st.occurs refl st st.windows st.address

pub frees : (h : PlainState) (ram : RamState) (m : Machine) → h.situation ≡ Acknowledged → PlainStands h ram m → Turns Firmware Free (over h ram) (over (record h { situation = Filling }) ram) m
frees h ram m now st = stays Firmware Free h (record h { situation = Filling }) ram m (machine.frees (kept_now h ram) m now (agrees h ram m st)) (λ e. cc e) refl st st.windows st.address

pub no_status : (h : PlainState) (ram : RamState) (m : Machine) → (h.situation ≡ Filling) ⊎ (h.situation ≡ Acknowledged) → PlainStands h ram m → block_status h.map.window ram ≡ 0
no_status h ram m now st = machine.no_status (kept_now h ram) m now (agrees h ram m st)

-- a published block shows its status, while it is read, too
pub held_status : (h : PlainState) (ram : RamState) (m : Machine) → (h.situation ≡ Published) ⊎ (h.situation ≡ Reading) → PlainStands h ram m → 0 < block_status h.map.window ram
held_status h ram m now st = machine.some_status (kept_now h ram) m now (agrees h ram m st)

pub finds_nothing : (h : PlainState) (ram : RamState) (m : Machine) → (h.situation ≡ Filling) ⊎ (h.situation ≡ Acknowledged) → PlainStands h ram m → Turns Reader Nothing (over h ram) (over h ram) m
finds_nothing h ram m now st = stays Reader Nothing h h ram m (machine.finds_nothing (kept_now h ram) m now (agrees h ram m st)) st.occurs refl st st.windows st.address

pub finds : (h : PlainState) (ram : RamState) (m : Machine) → h.situation ≡ Published → PlainStands h ram m →
    Turns Reader Found (over h ram) (over (record h { situation = Reading; copied = 0 }) ram) m
finds h ram m now st = stays Reader Found h (record h { situation = Reading; copied = 0 }) ram m (machine.finds (kept_now h ram) m now (agrees h ram m st)) (λ e. cc e) refl st st.windows st.address

-- the block that is published and not acknowledged
held_work : (h : PlainState) (block : List ℕ) → h.at_work ≡ Some block → kept h ≡ block ∷ h.waiting
held_work h block is = ap (λ (o : Option (List ℕ)). option_to_list o ++ h.waiting) is

pub work_fits : (h : PlainState) (ram : RamState) (m : Machine) (block : List ℕ) → h.at_work ≡ Some block → PlainStands h ram m → Fits h.map.window.len block
work_fits h ram m block is st = next_fits h ram m block h.waiting (held_work h block is) st

-- a copy of bytes goes over the same bytes
pub copies_over : (h : PlainState) (ram : RamState) (block : List ℕ) (at n : ℕ) → h.situation ≡ Reading → h.at_work ≡ Some block → 64 * h.copied < length block → at + n ≤ length block → Stands h ram →
    put_at block at (part (block_bytes h.map.window ram) at n) ≡ block
copies_over h ram block at n now is more inside (m, st) = machine.copies_over (kept_now h ram) m block h.waiting at n now (held_work h block is) more inside (agrees h ram m st)

pub copies_more : (h : PlainState) (ram : RamState) (m : Machine) (block : List ℕ) → h.situation ≡ Reading → h.at_work ≡ Some block → 64 * (h.copied + 1) < length block → PlainStands h ram m →
    Turns Reader Copied (over h ram) (over (record h { copied = h.copied + 1 }) ram) m
copies_more h ram m block now is more st =
    stays Reader Copied h (record h { copied = h.copied + 1 }) ram m (machine.copies_more (kept_now h ram) m block h.waiting now (held_work h block is) more
    (agrees h ram m st)) st.occurs refl st st.windows st.address

pub copies_last : (h : PlainState) (ram : RamState) (m : Machine) (block : List ℕ) → h.situation ≡ Reading → h.at_work ≡ Some block →
    64 * h.copied < length block → length block ≤ 64 * (h.copied + 1) → PlainStands h ram m →
    Turns Reader Took (over h ram) (over (record h { copied = h.copied + 1; last = block }) ram) m
copies_last h ram m block now is more all st =
    stays Reader Took h (record h { copied = h.copied + 1; last = block }) ram m (machine.copies_last (kept_now h ram) m block h.waiting now
    (held_work h block is) more all (agrees h ram m st)) st.occurs refl st st.windows st.address

-- the clearing is the acknowledgement
pub clears : (h : PlainState) (ram new : RamState) (m : Machine) (block : List ℕ) → h.situation ≡ Reading → h.at_work ≡ Some block → length block ≤ 64 * h.copied →
    new ≡ with_block h.map.window ram (with_status (block_bytes h.map.window ram) (spelled 4 0)) → PlainStands h ram m →
    Turns Reader Clear (over h ram) (over (record h { situation = Acknowledged; at_work = None }) new) m
clears h ram new m block now is all memory st =
    let wide = length-plain_status h.map ram (spelled 4 0) (length-spelled 4 0) st.windows in
    let held = held_work h block is in
    let cleared = machine.clears (kept_now h ram) m block h.waiting now held all (agrees h ram m st) in
    let k : Kept = record (kept_now h ram) { situation = Cleared; bytes = with_status (block_bytes h.map.window ram) (spelled 4 0) } in
    let done = machine.acknowledges k cleared.machine block h.waiting refl held cleared.agrees in
    let both : turned_by ByStatus Reader m ≡ (Clear, done.machine) =
    ap (λ (t : Turned). (t.0, settled t.1 t.1.situation)) cleared.is ∙ ap (λ (n : Machine). (Clear, n)) (settles cleared.machine cleared.agrees.situation_is ∙ ap (λ (t : Turned). t.1) done.is) in
    writes Reader Clear h (record h { situation = Acknowledged; at_work = None }) ram new (with_status (block_bytes h.map.window ram) (spelled 4 0)) m
    done.machine both done.agrees (λ e. cc e) refl wide memory st

-- a turn is the same with the same event, state and memory
made_as : (side : Side) (event other : Event) (h after next : PlainState) (ram memory left : RamState) (m : Machine) → event ≡ other → after ≡ next →
    memory ≡ left → Turns side other (over h ram) (over next left) m → Turns side event (over h ram) (over after memory) m
made_as side event other h after next ram memory left m is_event is_after is_memory done =
    subst (λ (e : Event). Turns side e (over h ram) (over after memory) m) (sym is_event)
    (subst (λ (s : PlainState). Turns side other (over h ram) (over s memory) m) (sym is_after)
    (subst (λ (r : RamState). Turns side other (over h ram) (over next r) m) (sym is_memory) done))

-- what a firmware makes that may write is the machine's turn
pub firmware_made : (h after : PlainState) (ram memory : RamState) (event : Event) (m : Machine) → h.situation ≡ Filling →
    FirmwareMakes h ram event after memory → PlainStands h ram m → Turns Firmware event (over h ram) (over after memory) m
firmware_made h after ram memory event m now (Idles none is_event is_after is_memory) st = made_as Firmware event Idle h after h ram memory ram m is_event
    is_after is_memory (idles h ram m now none st)
firmware_made h after ram memory event m now (Fills block rest held more is_event is_after is_memory) st =
    made_as Firmware event Fill h after (record h { waiting = rest; at_work = Some block; filled = h.filled + 1 }) ram memory memory m is_event is_after refl
    (fills h ram memory m block rest now held more is_memory st)
firmware_made h after ram memory event m now (Publishes block rest held none is_event is_after is_memory) st =
    made_as Firmware event Publish h after (record h { waiting = rest; at_work = Some block; filled = 0; situation = Published }) ram memory memory m is_event
    is_after refl (publishes h ram memory m block rest now held none is_memory st)

-- what a reader makes that may read is the machine's turn: the window's piece is the block's own

next_is : (h : PlainState) (ram : RamState) (m : Machine) (block : List ℕ) → h.situation ≡ Reading → h.at_work ≡ Some block → 64 * h.copied < length block →
    PlainStands h ram m → with_next_piece h ram block ≡ block
next_is h ram m block now is begins st = copies_over h ram block (64 * h.copied) (min 64 (length block - 64 * h.copied)) now is begins (omega (arith, begins)) (m, st)

pub reader_made : (h after : PlainState) (ram memory : RamState) (event : Event) (m : Machine) → h.situation ≡ Reading → ReaderMakes h ram event after memory →
    PlainStands h ram m → Turns Reader event (over h ram) (over after memory) m
reader_made h after ram memory event m now (Copies block is more is_event is_after is_memory) st =
    let same = next_is h ram m block now is (omega (arith, more)) st in
    made_as Reader event Copied h after (record h { copied = h.copied + 1 }) ram memory ram m is_event
    (is_after ∙ ap (λ (x : List ℕ). record h { at_work = Some x; copied = h.copied + 1 }) same ∙ ap (λ (o : Option (List ℕ)). record h { at_work = o; copied = h.copied + 1 }) (sym is)) is_memory
    (copies_more h ram m block now is more st)
reader_made h after ram memory event m now (Takes block is more all is_event is_after is_memory) st =
    let same = next_is h ram m block now is more st in
    made_as Reader event Took h after (record h { copied = h.copied + 1; last = block }) ram memory ram m is_event
    (is_after ∙ ap (λ (x : List ℕ). record h { at_work = Some x; copied = h.copied + 1; last = x }) same
    ∙ ap (λ (o : Option (List ℕ)). record h { at_work = o; copied = h.copied + 1; last = block }) (sym is)) is_memory
    (copies_last h ram m block now is more all st)
reader_made h after ram memory event m now (Clears block is all is_event is_after is_memory) st =
    made_as Reader event Clear h after (record h { situation = Acknowledged; at_work = None }) ram memory memory m is_event is_after refl (clears h ram memory m block now is all is_memory st)
