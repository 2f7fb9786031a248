-- A start and a submission of a plain handover, and what it leaves elsewhere.
use Rattle.std.proofs.Common.{◌≡◌, ◌∙◌, ℕ, List, [], ◌∷◌, ◌++◌, length, length-append, map, Option, Some, None, option_to_list, refl, sym, ap, subst, arith, append_assoc}
use Rattle.std.specs.VecDeque.{deque_len}
use Rattle.std.proofs.lemmas.List.{length-map}
use Rattle.base_model.specs.Bytes.{spelled, put_at}
use Rattle.base_model.proofs.BytesLemmas.{length-spelled}
use Rattle.apei_tables.specs.declared.registers.Place.TheVariants.{Memory}
use Rattle.apei_space.specs.RamState.{RamState}
use Rattle.ghes_ack.specs.declared.window_blocks.Blocks.{Blocks}
use Rattle.ghes_ack.specs.WindowQueues.{IsEmpty}
use Rattle.ghes_ack.specs.declared.events.Side.{Side}
use Rattle.ghes_ack.specs.declared.events.Event.{Event}
use Rattle.ghes_ack.specs.Machine.{Machine, Filling, Fits, with_status, started, submitted}
use Rattle.ghes_ack.specs.Elsewhere.{SameWhere}
use Rattle.ghes_ack.specs.Sides.{state_of, view_of}
use Rattle.ghes_ack.proofs.StartLemmas.{fresh_is, fresh_agrees, submits_more}
use Rattle.ghes_ack.proofs.ElsewhereLemmas.{SameWhere-then, SameWhere-stored}
use Rattle.ghes_hub.specs.declared.plain.map.PlainMap.{PlainMap}
use Rattle.ghes_ack.specs.declared.ends.Ends.{Ends}
use Rattle.ghes_hub.specs.Places.{IsOff, layout_windows}
use Rattle.ghes_hub.specs.declared.layouts.Layout.TheVariants.{Plain as WithStatus}
use Rattle.ghes_ack.specs.Windows.{block_bytes, address_at, HasAddressed, with_block, with_address_at}
use Rattle.ghes_hub.specs.Plain.{plain_started, PlainState, PlainStands}
use Rattle.ghes_ack.specs.Handovers.{fresh, over}
use Rattle.ghes_hub.specs.PlainSides.{Turns, AreConsistent}
use Rattle.ghes_ack.proofs.AddressLemmas.{length-window, block_some, block_placed, status_placed, window-with_window, address-with_window, window-with_address, address-with_address}
use Rattle.ghes_hub.proofs.PlainMemory.{windows_window, HasPlain-with_address, length-plain_status}
use Rattle.ghes_hub.proofs.PlainTurns.{kept_now, agrees, stands_by}

pub started_is : (at : PlainMap) (ram a new : RamState) → HasAddressed at.status at.window ram → a ≡ with_address_at at.status at.window ram →
    new ≡ with_block at.window a (put_at (block_bytes at.window a) 0 (spelled 4 0)) → new ≡ plain_started at ram
started_is at ram a new w is_a is =
    is ∙ ap (λ (r : RamState). with_block at.window r (with_status (block_bytes at.window r) (spelled 4 0))) is_a
    ∙ ap (λ (bytes : List ℕ). with_block at.window (with_address_at at.status at.window ram) (with_status bytes (spelled 4 0))) (window-with_address at.status at.window ram w)

pub fresh_stands : (at : PlainMap) (ram new : RamState) → HasAddressed at.status at.window ram → new ≡ plain_started at ram → PlainStands (fresh at) new (started (block_bytes at.window ram))
fresh_stands at ram new w is =
    let a : RamState = with_address_at at.status at.window ram in
    let w_a = HasPlain-with_address at ram w in
    let bytes : List ℕ = with_status (block_bytes at.window ram) (spelled 4 0) in
    let wide = length-plain_status at ram (spelled 4 0) (length-spelled 4 0) w in
    stands_by (fresh at) new bytes (started (block_bytes at.window ram)) (fresh_agrees at at.window.len (block_bytes at.window ram)
    (length-window at.status at.window ram w) w.head) (sym (ap (block_bytes at.window) is ∙ window-with_window at.status at.window a bytes w_a wide))
    (windows_window at a new bytes is wide w_a) (ap (address_at at.status) is ∙ address-with_window at.status at.window a bytes w_a wide ∙ address-with_address at.status at.window ram w) (λ e. cc e)

pub begun_stands : (at : PlainMap) (b : Blocks PlainMap) (ram new : RamState) → b.map ≡ at → IsEmpty b → HasAddressed at.status at.window ram →
    new ≡ plain_started at ram → PlainStands (state_of Filling b) new (started (block_bytes at.window ram))
begun_stands at b ram new same e w is = subst (λ (h : PlainState). PlainStands h new (started (block_bytes at.window ram))) (sym (fresh_is b e ∙ ap fresh same)) (fresh_stands at ram new w is)

pub submits : (h : PlainState) (ram : RamState) (m : Machine) (block : List ℕ) → Fits h.map.window.len block → PlainStands h ram m →
    PlainStands (record h { waiting = h.waiting ++ block ∷ [] }) ram (submitted m block)
submits h ram m block good st =
    let more = submits_more (kept_now h ram) m block (option_to_list h.at_work ++ (h.waiting ++ block ∷ [])) (length (h.waiting ++ block ∷ []))
    (sym (append_assoc (option_to_list h.at_work) h.waiting (block ∷ []))) (length-append h.waiting (block ∷ [])) good (agrees h ram m st) in
    stands_by (record h { waiting = h.waiting ++ block ∷ [] }) ram (block_bytes h.map.window ram) (submitted m block) more refl st.windows st.address st.occurs

-- the blocks that wait
pub waiting_of : (ends : Option Ends) (b : Blocks PlainMap) → AreConsistent ends b → length (view_of ends b).waiting ≡ deque_len b.waiting
waiting_of None b all = absurd all
waiting_of (Some ends) b all = length-map b.waiting.items (λ v. v.items) ∙ all.sound.room.counted

pub plain_elsewhere : (map : PlainMap) (ram : RamState) (bytes : List ℕ) → HasAddressed map.status map.window ram → length bytes ≡ map.window.len →
    SameWhere (IsOff (layout_windows (WithStatus map))) ram (with_block map.window ram bytes)
plain_elsewhere map ram bytes w n = let b = block_placed map.status map.window ram w in SameWhere-stored (IsOff (layout_windows (WithStatus map))) ram
    (Memory map.window.block) map.window.len b.0 bytes w.fills b.1 n (block_some map.status map.window ram w) (λ at k off. off.1.0)

pub plain_elsewhere_started : (map : PlainMap) (ram new : RamState) → HasAddressed map.status map.window ram → new ≡ plain_started map ram → SameWhere (IsOff (layout_windows (WithStatus map))) ram new
plain_elsewhere_started map ram new w is =
    let a : RamState = with_address_at map.status map.window ram in
    let p = status_placed map.status map.window ram w in
    let wide = length-plain_status map ram (spelled 4 0) (length-spelled 4 0) w in
    let one = SameWhere-stored (IsOff (layout_windows (WithStatus map))) ram (Memory map.status) 8 p.0 (spelled 8 map.window.block) w.fills p.1
    (length-spelled 8 map.window.block) (omega arith) (λ at k off. off.0) in
    subst (SameWhere (IsOff (layout_windows (WithStatus map))) ram) (sym is)
    (SameWhere-then (IsOff (layout_windows (WithStatus map))) ram a (plain_started map ram) one
    (plain_elsewhere map a (with_status (block_bytes map.window ram) (spelled 4 0)) (HasPlain-with_address map ram w) wide))

pub plain_turn_elsewhere : (side : Side) (event : Event) (h after : PlainState) (ram new : RamState) (m : Machine) → PlainStands h ram m →
    Turns side event (over h ram) (over after new) m → SameWhere (IsOff (layout_windows (WithStatus h.map))) ram new
plain_turn_elsewhere side event h after ram new m st t =
    let w : HasAddressed h.map.status h.map.window new = subst (λ (at : PlainMap). HasAddressed at.status at.window new) t.map t.stands.windows in
    subst (SameWhere (IsOff (layout_windows (WithStatus h.map))) ram) (sym t.memory_is) (plain_elsewhere h.map ram (block_bytes h.map.window new) st.windows
    (length-window h.map.status h.map.window new w))
