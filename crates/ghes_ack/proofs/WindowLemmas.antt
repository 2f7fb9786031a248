-- What accesses of a block's window read and leave.
use Rattle.std.proofs.Common.{◌≡◌, ◌∙◌, ℕ, ◌+◌, ◌-◌, ◌^◌, ◌<◌, ◌≤◌, ◌⊎◌, inl, inr, add-zero, List, [], length, Result, Ok, refl, sym, ap, subst, arith}
use Rattle.std.proofs.lemmas.List.{nil_from_length}
use Rattle.std.proofs.lemmas.Bool.{cases_lt}
use Rattle.base_model.specs.Bytes.{part, little, number_at, put_at}
use Rattle.base_model.proofs.BytesLemmas.{length-put_at, part-part}
use Rattle.apei_tables.specs.declared.registers.Place.TheVariants.{Memory}
use Rattle.apei_space.specs.declared.faults.SpaceFault.{SpaceFault}
use Rattle.apei_space.specs.RamState.{RamState, located, stored, number_in, filled}
use Rattle.apei_space.proofs.Placed.{IsPlaced, placed, located_within}
use Rattle.ghes_ack.specs.declared.window.BlockWindow.{BlockWindow}
use Rattle.ghes_ack.specs.Pieces.{with_status}
use Rattle.ghes_ack.specs.Windows.{HasBlock, block_bytes, block_status, with_block}
use Rattle.ghes_ack.proofs.PieceLemmas.{length-with_status}
use Rattle.ghes_ack.proofs.PlacedLemmas.{put_part, held_ends, bytes_placed, stored_placed, fits_in, length-bytes_at, bytes-stored}

pub block_some : (at : BlockWindow) (ram : RamState) → HasBlock at ram → 0 < at.len
block_some at ram w = let h = w.head in omega (arith, h)

pub block_placed : (at : BlockWindow) (ram : RamState) → HasBlock at ram → (b : ℕ) × IsPlaced ram.windows (Memory at.block) at.len b
block_placed at ram w = placed ram.windows (Memory at.block) at.len w.fills.apart (block_some at ram w) w.block

pub block_ends : (at : BlockWindow) (ram : RamState) → HasBlock at ram → at.block + at.len < 2 ^ 64
block_ends at ram w =
    let some = block_some at ram w in
    let last = held_ends ram.windows (at.block + (at.len - 1)) w.fills.apart (w.block (at.len - 1) (omega arith)) in
    omega (arith, last, some)

-- an address inside the window
pub address_fits : (at : BlockWindow) (ram : RamState) (k n : ℕ) → HasBlock at ram → k + n ≤ at.len → at.block + k < 2 ^ 64
address_fits at ram k n w inside = let ends = block_ends at ram w in omega (arith, ends, inside)

pub length-block : (at : BlockWindow) (ram : RamState) → HasBlock at ram → length (block_bytes at ram) ≡ at.len
length-block at ram w = let b = block_placed at ram w in length-bytes_at ram (Memory at.block) at.len b.0 w.fills b.1

-- a write of bytes inside the window
pub write_is : (at : BlockWindow) (ram : RamState) (k : ℕ) (bytes : List ℕ) → HasBlock at ram → 0 < length bytes → k + length bytes ≤ at.len →
    stored (located ram.windows (Memory (at.block + k)) (length bytes)) ram bytes ≡ with_block at ram (put_at (block_bytes at ram) k bytes)
write_is at ram k bytes w some inside =
    let b = block_placed at ram w in
    let found = located_within ram.windows (Memory at.block) at.len b.0 k (length bytes) w.fills.apart b.1 some inside in
    ap (λ (r : Result ℕ SpaceFault). stored r ram bytes) found
    ∙ ap (λ (x : List ℕ). record ram { bytes = x }) (sym (put_part ram.bytes b.0 at.len k bytes (fits_in ram (Memory at.block) at.len b.0 w.fills b.1) inside))
    ∙ ap (λ (x : List ℕ). record ram { bytes = put_at ram.bytes b.0 (put_at x k bytes) }) (sym (bytes_placed ram (Memory at.block) at.len b.0 b.1))
    ∙ sym (stored_placed ram (Memory at.block) at.len b.0 (put_at (block_bytes at ram) k bytes) b.1)

-- a read of bytes inside the window
pub read_is : (at : BlockWindow) (ram : RamState) (k n : ℕ) → HasBlock at ram → 0 < n → k + n ≤ at.len →
    (s : ℕ) × (located ram.windows (Memory (at.block + k)) n ≡ Ok s) × (part ram.bytes s n ≡ part (block_bytes at ram) k n)
read_is at ram k n w some inside =
    let b = block_placed at ram w in
    let found = located_within ram.windows (Memory at.block) at.len b.0 k n w.fills.apart b.1 some inside in
    (b.0 + k, found, sym (ap (λ (x : List ℕ). part x k n) (bytes_placed ram (Memory at.block) at.len b.0 b.1) ∙ part-part ram.bytes b.0 at.len k n inside))

-- what a write leaves in the window
pub block-with_block : (at : BlockWindow) (ram : RamState) (bytes : List ℕ) → HasBlock at ram → length bytes ≡ at.len → block_bytes at (with_block at ram bytes) ≡ bytes
block-with_block at ram bytes w n = let b = block_placed at ram w in bytes-stored ram (Memory at.block) at.len b.0 bytes w.fills b.1 n

number_ok : ℕ → Result ℕ SpaceFault
number_ok n = Ok n

-- the status word is the window's first four bytes
pub status_is : (at : BlockWindow) (ram : RamState) → HasBlock at ram → number_in (located ram.windows (Memory at.block) 4) ram.bytes 4 ≡ Ok (block_status at ram)
unfolding number_at number_ok
status_is at ram w =
    let head = w.head in
    let r = read_is at ram 0 4 w (omega arith) (omega (arith, head)) in
    let found : located ram.windows (Memory at.block) 4 ≡ Ok r.0 = ap (λ (at : ℕ). located ram.windows (Memory at) 4) (sym (add-zero at.block)) ∙ r.1 in
    ap (λ (x : Result ℕ SpaceFault). number_in x ram.bytes 4) found ∙ ap (λ (x : List ℕ). number_ok (little x)) r.2

pub status_write_is : (at : BlockWindow) (ram : RamState) (word : List ℕ) → HasBlock at ram → length word ≡ 4 →
    stored (located ram.windows (Memory at.block) 4) ram word ≡ with_block at ram (put_at (block_bytes at ram) 0 word)
status_write_is at ram word w n =
    let head = w.head in
    ap (λ (at : ℕ). stored (located ram.windows (Memory at) 4) ram word) (sym (add-zero at.block))
    ∙ ap (λ (k : ℕ). stored (located ram.windows (Memory (at.block + 0)) k) ram word) (sym n)
    ∙ write_is at ram 0 word w (omega (arith, n)) (omega (arith, n, head))

-- a read of bytes of the window into a buffer
pub read_filled : (at : BlockWindow) (ram : RamState) (k : ℕ) (before : List ℕ) → HasBlock at ram → k + length before ≤ at.len →
    filled (located ram.windows (Memory (at.block + k)) (length before)) ram.bytes before ≡ part (block_bytes at ram) k (length before)
unfolding part
read_filled at ram k before w inside = go (cases_lt 0 (length before)) where
  go : (0 < length before) ⊎ (length before ≤ 0) → filled (located ram.windows (Memory (at.block + k)) (length before)) ram.bytes before ≡ part (block_bytes at ram) k (length before)
  go (inl some) =
      let r = read_is at ram k (length before) w some inside in
      ap (λ (x : Result ℕ SpaceFault). filled x ram.bytes before) r.1 ∙ r.2
  go (inr none) =
      let empty : before ≡ [] = nil_from_length before (omega (arith, none)) in
      rw empty refl

pub length-status : (at : BlockWindow) (ram : RamState) (word : List ℕ) → length word ≡ 4 → HasBlock at ram → length (with_status (block_bytes at ram) word) ≡ at.len
length-status at ram word four w =
    let n = length-block at ram w in
    let head = w.head in
    length-with_status (block_bytes at ram) word four (omega (arith, n, head)) ∙ n

-- a store of as many bytes keeps the window
pub HasBlock-with_block : (at : BlockWindow) (ram new : RamState) (bytes : List ℕ) → new ≡ with_block at ram bytes → length bytes ≡ at.len → HasBlock at ram → HasBlock at new
HasBlock-with_block at ram new bytes is n w =
    let b = block_placed at ram w in
    let fits = fits_in ram (Memory at.block) at.len b.0 w.fills b.1 in
    subst (HasBlock at) (sym (is ∙ stored_placed ram (Memory at.block) at.len b.0 bytes b.1)) (record {
      head = w.head;
      fills = record { apart = w.fills.apart; as_long = w.fills.as_long ∙ sym (length-put_at ram.bytes b.0 bytes (omega (arith, n, fits))) };
      block = w.block;
    })
