-- What accesses of the three windows read and leave.
use Rattle.std.proofs.Common.{◌≡◌, ◌∙◌, ℕ, ◌+◌, ◌-◌, ◌*◌, ◌/◌, ◌%◌, ◌^◌, ◌<◌, ◌≤◌, List, length, Result, Ok, Err, refl, sym, ap, subst, arith, bit_and, bit_or, IfOk}
use Rattle.std.specs.Result.{result_unwrap_or}
use Rattle.std.proofs.lemmas.Nat.{and_le_l, or_lt, and_or_self, pow-add, pow_pos}
use Rattle.std.proofs.Math.Nat.{mod-eq_of_lt, mul-mod_left, mul_assoc}
use Rattle.std.proofs.lemmas.Grind.{and-not_self}
use Rattle.base_model.specs.Bytes.{little, number_at, spelled}
use Rattle.base_model.proofs.BytesLemmas.{length-spelled, little-spelled, length-put_at}
use Rattle.apei_tables.specs.declared.registers.Place.{Place}
use Rattle.apei_tables.specs.declared.registers.Place.TheVariants.{Memory}
use Rattle.apei_tables.specs.declared.widths.Width.{Width}
use Rattle.apei_tables.specs.declared.widths.Width.TheVariants.{B8, B16, B32, B64}
use Rattle.apei_tables.specs.Access.{bits}
use Rattle.apei_space.specs.declared.faults.SpaceFault.{SpaceFault}
use Rattle.apei_space.specs.RamState.{RamState, located, stored, changed, number_in}
use Rattle.apei_space.proofs.Placed.{IsPlaced, placed}
use Rattle.ghes_ack.specs.declared.window.BlockWindow.{BlockWindow}
use Rattle.ghes_ack.specs.Windows.{HasBlock, HasAddressed, block_bytes, with_block, address_at}
use Rattle.ghes_ack.proofs.AddressLemmas as address
use Rattle.ghes_ack.proofs.PlacedLemmas.{stored_placed, fits_in, mapped_back, mapped_apart, disjoint_sym}
use Rattle.ghes_ack.proofs.WindowLemmas.{length-block}
use Rattle.ghes_ack.specs.declared.maps.HandoverMap.{HandoverMap}
use Rattle.ghes_ack.specs.Maps.{HasAckBits, HasWindows, ack_bytes, ack_mask, window, window_of, ack_read, with_window, with_ack, with_address, IsSet, IsClear, with_clear, acknowledged}
use Rattle.ghes_ack.proofs.Terms.{bytes_in}

pub ack_some : (map : HandoverMap) → 0 < ack_bytes map
ack_some map = go map.ack.access where
  go : (w : Width) → 0 < bits w / 8
  go B8 = omega arith
  go B16 = omega arith
  go B32 = omega arith
  go B64 = omega arith

pow_bits : (w : Width) → 256 ^ (bits w / 8) ≡ 2 ^ bits w
pow_bits B8 = refl
pow_bits B16 = refl
pow_bits B32 = refl
pow_bits B64 = refl

bits_le : (w : Width) → 2 ^ bits w ≤ 2 ^ 64
bits_le B8 = omega arith
bits_le B16 = omega arith
bits_le B32 = omega arith
bits_le B64 = omega arith

-- the block's window is one of them
pub has_block : (map : HandoverMap) (ram : RamState) → HasWindows map ram → HasBlock (window_of map) ram
has_block map ram w = record { head = w.head; fills = w.fills; block = w.block }

pub has_block_at : (map : HandoverMap) (at : BlockWindow) (ram : RamState) → at ≡ window_of map → HasWindows map ram → HasBlock at ram
has_block_at map at ram is w = subst (λ (x : BlockWindow). HasBlock x ram) (sym is) (has_block map ram w)

-- a write of it
pub by_window : (map : HandoverMap) (at : BlockWindow) (ram new : RamState) (f : List ℕ → List ℕ) → at ≡ window_of map →
    new ≡ with_block at ram (f (block_bytes at ram)) → new ≡ with_window map ram (f (window map ram))
by_window map at ram new f is e = subst (λ (x : BlockWindow). new ≡ with_block x ram (f (block_bytes x ram))) is e

addressed : (map : HandoverMap) (ram : RamState) → HasWindows map ram → HasAddressed map.status (window_of map) ram
addressed map ram w = record { head = w.head; fills = w.fills; status = w.status; block = w.block; status_block = w.status_block }

pub block_some : (map : HandoverMap) (ram : RamState) → HasWindows map ram → 0 < map.len
block_some map ram w = address.block_some map.status (window_of map) ram (addressed map ram w)

pub block_placed : (map : HandoverMap) (ram : RamState) → HasWindows map ram → (b : ℕ) × IsPlaced ram.windows (Memory map.block) map.len b
block_placed map ram w = address.block_placed map.status (window_of map) ram (addressed map ram w)

pub ack_placed : (map : HandoverMap) (ram : RamState) → HasWindows map ram → (a : ℕ) × IsPlaced ram.windows map.ack.place (ack_bytes map) a
ack_placed map ram w = placed ram.windows map.ack.place (ack_bytes map) w.fills.apart (ack_some map) w.ack

pub status_placed : (map : HandoverMap) (ram : RamState) → HasWindows map ram → (a : ℕ) × IsPlaced ram.windows (Memory map.status) 8 a
status_placed map ram w = address.status_placed map.status (window_of map) ram (addressed map ram w)

pub length-window : (map : HandoverMap) (ram : RamState) → HasWindows map ram → length (window map ram) ≡ map.len
length-window map ram w = length-block (window_of map) ram (has_block map ram w)

-- what a write leaves in its own window and in the others
pub window-with_window : (map : HandoverMap) (ram : RamState) (bytes : List ℕ) → HasWindows map ram → length bytes ≡ map.len → window map (with_window map ram bytes) ≡ bytes
window-with_window map ram bytes w n = address.window-with_window map.status (window_of map) ram bytes (addressed map ram w) n

pub ack-with_window : (map : HandoverMap) (ram : RamState) (bytes : List ℕ) → HasWindows map ram → length bytes ≡ map.len → ack_read map (with_window map ram bytes) ≡ ack_read map ram
ack-with_window map ram bytes w n =
    ap little (mapped_apart ram (Memory map.block) map.len bytes map.ack.place (ack_bytes map) w.fills w.block (block_some map ram w) n w.ack (ack_some map)
    (disjoint_sym map.ack.place (ack_bytes map) (Memory map.block) map.len w.ack_block))

pub address-with_window : (map : HandoverMap) (ram : RamState) (bytes : List ℕ) → HasWindows map ram → length bytes ≡ map.len →
    address_at map.status (with_window map ram bytes) ≡ address_at map.status ram
address-with_window map ram bytes w n = address.address-with_window map.status (window_of map) ram bytes (addressed map ram w) n

pub window-with_ack : (map : HandoverMap) (ram : RamState) (x : ℕ) → HasWindows map ram → window map (with_ack map ram x) ≡ window map ram
window-with_ack map ram x w =
    mapped_apart ram map.ack.place (ack_bytes map) (spelled (ack_bytes map) x) (Memory map.block) map.len w.fills w.ack (ack_some map)
    (length-spelled (ack_bytes map) x) w.block (block_some map ram w) w.ack_block

pub address-with_ack : (map : HandoverMap) (ram : RamState) (x : ℕ) → HasWindows map ram → address_at map.status (with_ack map ram x) ≡ address_at map.status ram
address-with_ack map ram x w =
    ap little (mapped_apart ram map.ack.place (ack_bytes map) (spelled (ack_bytes map) x) (Memory map.status) 8 w.fills w.ack (ack_some map)
    (length-spelled (ack_bytes map) x) w.status (omega arith) (disjoint_sym (Memory map.status) 8 map.ack.place (ack_bytes map) w.status_ack))

pub window-with_address : (map : HandoverMap) (ram : RamState) → HasWindows map ram → window map (with_address map ram) ≡ window map ram
window-with_address map ram w = address.window-with_address map.status (window_of map) ram (addressed map ram w)

pub ack-with_address : (map : HandoverMap) (ram : RamState) → HasWindows map ram → ack_read map (with_address map ram) ≡ ack_read map ram
ack-with_address map ram w =
    ap little (mapped_apart ram (Memory map.status) 8 (spelled 8 map.block) map.ack.place (ack_bytes map) w.fills w.status (omega arith) (length-spelled 8 map.block) w.ack (ack_some map) w.status_ack)

pub address-with_address : (map : HandoverMap) (ram : RamState) → HasWindows map ram → address_at map.status (with_address map ram) ≡ map.block
address-with_address map ram w = address.address-with_address map.status (window_of map) ram (addressed map ram w)

pub ack-with_ack : (map : HandoverMap) (ram : RamState) (x : ℕ) → HasWindows map ram → x < 2 ^ bits map.ack.access → ack_read map (with_ack map ram x) ≡ x
ack-with_ack map ram x w small =
    let low : x < 256 ^ ack_bytes map = rw (pow_bits map.ack.access) small in
    ap little (mapped_back ram map.ack.place (ack_bytes map) (spelled (ack_bytes map) x) w.fills w.ack (ack_some map) (length-spelled (ack_bytes map) x)) ∙ little-spelled (ack_bytes map) x low

-- a store of as many bytes keeps the windows
windows-stored : (map : HandoverMap) (ram : RamState) (at : Place) (n s : ℕ) (bytes : List ℕ) → HasWindows map ram → IsPlaced ram.windows at n s →
    length bytes ≡ n → HasWindows map (stored (located ram.windows at n) ram bytes)
windows-stored map ram at n s bytes w p is =
    let fits = fits_in ram at n s w.fills p in
    subst (HasWindows map) (sym (stored_placed ram at n s bytes p)) (record {
      head = w.head;
      fills = record { apart = w.fills.apart; as_long = w.fills.as_long ∙ sym (length-put_at ram.bytes s bytes (omega (arith, is, fits))) };
      status = w.status;
      ack = w.ack;
      block = w.block;
      status_ack = w.status_ack;
      status_block = w.status_block;
      ack_block = w.ack_block;
    })

pub HasWindows-with_window : (map : HandoverMap) (ram : RamState) (bytes : List ℕ) → HasWindows map ram → length bytes ≡ map.len → HasWindows map (with_window map ram bytes)
HasWindows-with_window map ram bytes w n = let b = block_placed map ram w in windows-stored map ram (Memory map.block) map.len b.0 bytes w b.1 n

pub HasWindows-with_ack : (map : HandoverMap) (ram : RamState) (x : ℕ) → HasWindows map ram → HasWindows map (with_ack map ram x)
HasWindows-with_ack map ram x w = let a = ack_placed map ram w in windows-stored map ram map.ack.place (ack_bytes map) a.0 (spelled (ack_bytes map) x) w a.1 (length-spelled (ack_bytes map) x)

pub HasWindows-with_address : (map : HandoverMap) (ram : RamState) → HasWindows map ram → HasWindows map (with_address map ram)
HasWindows-with_address map ram w = let a = status_placed map ram w in windows-stored map ram (Memory map.status) 8 a.0 (spelled 8 map.block) w a.1 (length-spelled 8 map.block)

-- the bits
pub mask_small : (map : HandoverMap) → HasAckBits map → ack_mask map < 2 ^ bits map.ack.access
mask_small map h =
    let le = bits_le map.ack.access in
    let i = h.inside in
    let e : map.write * 2 ^ map.ack.offset % 2 ^ 64 ≡ map.write * 2 ^ map.ack.offset = mod-eq_of_lt (omega (arith, i, le)) in
    rw e i

pub clear_bits : (map : HandoverMap) (ram : RamState) → HasWindows map ram → ack_read map ram < 2 ^ bits map.ack.access → IsClear map (with_ack map ram (with_clear map (ack_read map ram)))
clear_bits map ram w small =
    let le = and_le_l (ack_read map ram) (2 ^ 64 - 1 - ack_mask map) in
    let back = ack-with_ack map ram (with_clear map (ack_read map ram)) w (omega (arith, le, small)) in
    ap (λ (x : ℕ). bit_and x (ack_mask map)) back ∙ and-not_self (ack_read map ram) (2 ^ 64 - 1) (ack_mask map) (ack_mask map) refl (omega arith) refl

pub acknowledged_bits : (map : HandoverMap) (ram : RamState) → HasWindows map ram → ack_read map ram < 2 ^ bits map.ack.access → HasAckBits map →
    IsSet map (with_ack map ram (acknowledged map (ack_read map ram)))
acknowledged_bits map ram w small sound =
    let le = and_le_l (ack_read map ram) (map.preserve * 2 ^ map.ack.offset % 2 ^ 64) in
    let low : acknowledged map (ack_read map ram) < 2 ^ bits map.ack.access =
    or_lt (bits map.ack.access) (bit_and (ack_read map ram) (map.preserve * 2 ^ map.ack.offset % 2 ^ 64)) (ack_mask map) (omega (arith, le, small))
    (mask_small map sound) in
    let back = ack-with_ack map ram (acknowledged map (ack_read map ram)) w low in
    ap (λ (x : ℕ). bit_and x (ack_mask map)) back ∙ and_or_self (ack_mask map) (bit_and (ack_read map ram) (map.preserve * 2 ^ map.ack.offset % 2 ^ 64))

-- the acknowledge bits are set at a start
pub set_bits : (map : HandoverMap) (ram : RamState) → HasWindows map ram → ack_read map ram < 2 ^ bits map.ack.access → HasAckBits map →
    IsSet map (with_ack map ram (bit_or (ack_read map ram) (ack_mask map)))
set_bits map ram w small sound =
    let low : bit_or (ack_read map ram) (ack_mask map) < 2 ^ bits map.ack.access = or_lt (bits map.ack.access) (ack_read map ram) (ack_mask map) small (mask_small map sound) in
    let back = ack-with_ack map ram (bit_or (ack_read map ram) (ack_mask map)) w low in
    ap (λ (x : ℕ). bit_and x (ack_mask map)) back ∙ and_or_self (ack_mask map) (ack_read map ram)

-- a number that was read, 0 where none was
pub number_read : (r : Result ℕ SpaceFault) (bytes : List ℕ) (n : ℕ) → result_unwrap_or (number_in r bytes n) 0 ≡ little (bytes_in r bytes n)
unfolding number_at
number_read (Ok start) bytes n = refl
number_read (Err fault) bytes n = refl

-- the register's bytes after a change of its bits, and their number, which is 0 where there are none
pub change_stored : (r : Result ℕ SpaceFault) (old : RamState) (n keep set : ℕ) → changed r old n keep set ≡ stored r old (spelled n (bit_or (bit_and (little (bytes_in r old.bytes n)) keep) set))
unfolding number_at
change_stored (Ok start) old n keep set = refl
change_stored (Err fault) old n keep set = refl

pub number_small : (r : Result ℕ SpaceFault) (bytes : List ℕ) (n k : ℕ) → IfOk (number_in r bytes n) (λ (value : ℕ). value < 2 ^ k) → little (bytes_in r bytes n) < 2 ^ k
unfolding number_at
number_small (Ok start) bytes n k small = small
number_small (Err fault) bytes n k small = pow_pos k

-- bits moved past the last one
pub moved_past : (mask offset : ℕ) → 64 ≤ offset → 0 ≡ mask * 2 ^ offset % 2 ^ 64
moved_past mask offset far =
    let sum : (offset - 64) + 64 ≡ offset = omega (arith, far) in
    let split : 2 ^ offset ≡ 2 ^ (offset - 64) * 2 ^ 64 = ap (λ (k : ℕ). 2 ^ k) (sym sum) ∙ pow-add 2 (offset - 64) 64 in
    sym (ap (λ (k : ℕ). mask * k % 2 ^ 64) split ∙ ap (λ (k : ℕ). k % 2 ^ 64) (sym (mul_assoc mask (2 ^ (offset - 64)) (2 ^ 64))) ∙ mul-mod_left (mask * 2 ^ (offset - 64)) (2 ^ 64))
