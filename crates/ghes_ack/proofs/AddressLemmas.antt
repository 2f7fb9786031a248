-- What accesses of a window and of its address read and leave.
use Rattle.std.proofs.Common.{◌≡◌, ◌∙◌, ℕ, ◌<◌, List, length, ap, arith}
use Rattle.base_model.specs.Bytes.{little, spelled}
use Rattle.base_model.proofs.BytesLemmas.{length-spelled, little-spelled}
use Rattle.apei_tables.specs.declared.registers.Place.TheVariants.{Memory}
use Rattle.apei_space.specs.RamState.{RamState}
use Rattle.apei_space.proofs.Placed.{IsPlaced, placed}
use Rattle.ghes_ack.specs.declared.window.BlockWindow.{BlockWindow}
use Rattle.ghes_ack.specs.Windows.{HasBlock, HasAddressed, block_bytes, with_block, address_at, with_address_at}
use Rattle.ghes_ack.proofs.PlacedLemmas.{mapped_back, mapped_apart, disjoint_sym}
use Rattle.ghes_ack.proofs.WindowLemmas.{block_ends, length-block, block-with_block}

pub has_block : (place : ℕ) (at : BlockWindow) (ram : RamState) → HasAddressed place at ram → HasBlock at ram
has_block place at ram w = record { head = w.head; fills = w.fills; block = w.block }

pub block_some : (place : ℕ) (at : BlockWindow) (ram : RamState) → HasAddressed place at ram → 0 < at.len
block_some place at ram w = let h = w.head in omega (arith, h)

pub block_placed : (place : ℕ) (at : BlockWindow) (ram : RamState) → HasAddressed place at ram → (b : ℕ) × IsPlaced ram.windows (Memory at.block) at.len b
block_placed place at ram w = placed ram.windows (Memory at.block) at.len w.fills.apart (block_some place at ram w) w.block

pub status_placed : (place : ℕ) (at : BlockWindow) (ram : RamState) → HasAddressed place at ram → (a : ℕ) × IsPlaced ram.windows (Memory place) 8 a
status_placed place at ram w = placed ram.windows (Memory place) 8 w.fills.apart (omega arith) w.status

pub length-window : (place : ℕ) (at : BlockWindow) (ram : RamState) → HasAddressed place at ram → length (block_bytes at ram) ≡ at.len
length-window place at ram w = length-block at ram (has_block place at ram w)

-- what a write leaves in the window, and in its address
pub window-with_window : (place : ℕ) (at : BlockWindow) (ram : RamState) (bytes : List ℕ) → HasAddressed place at ram → length bytes ≡ at.len → block_bytes at (with_block at ram bytes) ≡ bytes
window-with_window place at ram bytes w n = block-with_block at ram bytes (has_block place at ram w) n

pub address-with_window : (place : ℕ) (at : BlockWindow) (ram : RamState) (bytes : List ℕ) → HasAddressed place at ram → length bytes ≡ at.len →
    address_at place (with_block at ram bytes) ≡ address_at place ram
address-with_window place at ram bytes w n =
    ap little (mapped_apart ram (Memory at.block) at.len bytes (Memory place) 8 w.fills w.block (block_some place at ram w) n w.status (omega arith)
    (disjoint_sym (Memory place) 8 (Memory at.block) at.len w.status_block))

pub window-with_address : (place : ℕ) (at : BlockWindow) (ram : RamState) → HasAddressed place at ram → block_bytes at (with_address_at place at ram) ≡ block_bytes at ram
window-with_address place at ram w =
    mapped_apart ram (Memory place) 8 (spelled 8 at.block) (Memory at.block) at.len w.fills w.status (omega arith) (length-spelled 8 at.block) w.block (block_some place at ram w) w.status_block

pub address-with_address : (place : ℕ) (at : BlockWindow) (ram : RamState) → HasAddressed place at ram → address_at place (with_address_at place at ram) ≡ at.block
address-with_address place at ram w =
    let ends = block_ends at ram (has_block place at ram w) in
    ap little (mapped_back ram (Memory place) 8 (spelled 8 at.block) w.fills w.status (omega arith) (length-spelled 8 at.block)) ∙ little-spelled 8 at.block (omega (arith, ends))
