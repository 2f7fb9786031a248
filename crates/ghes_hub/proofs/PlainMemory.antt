-- What accesses of the two windows of a plain handover read and leave.
use Rattle.std.proofs.Common.{◌≡◌, ◌∙◌, ℕ, List, length, refl, sym, ap, subst, arith}
use Rattle.base_model.specs.Bytes.{part, spelled, put_at}
use Rattle.base_model.proofs.BytesLemmas.{length-spelled, length-part, length-put_at, SameOutside-refl, is_put_at}
use Rattle.apei_tables.specs.declared.registers.Place.{Place}
use Rattle.apei_tables.specs.declared.registers.Place.TheVariants.{Memory}
use Rattle.apei_space.specs.declared.windows.Window.{Window}
use Rattle.apei_space.specs.Windows.{AreApart, total}
use Rattle.apei_space.specs.Mapped.{AreMapped}
use Rattle.apei_space.specs.RamState.{RamState, located, stored}
use Rattle.apei_space.proofs.Placed.{IsPlaced}
use Rattle.ghes_ack.proofs.AddressLemmas.{has_block, block_placed, status_placed}
use Rattle.ghes_ack.proofs.PlacedLemmas.{bytes_placed, stored_placed, fits_in}
use Rattle.ghes_ack.proofs.WindowLemmas.{length-status}
use Rattle.ghes_ack.specs.Machine.{with_status}
use Rattle.ghes_hub.specs.declared.plain.map.PlainMap.{PlainMap}
use Rattle.ghes_ack.specs.Windows.{block_bytes, HasAddressed, with_block, with_address_at}
use Rattle.ghes_hub.proofs.Terms.{plain_window_of}

-- a memory whose window is written with what it holds
pub unchanged : (map : PlainMap) (ram : RamState) → HasAddressed map.status map.window ram → ram ≡ with_block map.window ram (block_bytes map.window ram)
unchanged map ram w =
    let b = block_placed map.status map.window ram w in
    let fits = fits_in ram (Memory map.window.block) map.window.len b.0 w.fills b.1 in
    let n = length-part ram.bytes b.0 map.window.len fits in
    let back : ram.bytes ≡ put_at ram.bytes b.0 (part ram.bytes b.0 map.window.len) = is_put_at ram.bytes ram.bytes b.0 (part ram.bytes b.0 map.window.len)
    (SameOutside-refl b.0 (length (part ram.bytes b.0 map.window.len)) ram.bytes) (ap (part ram.bytes b.0) n) in
    ap (λ (x : List ℕ). record ram { bytes = x }) (back ∙ ap (put_at ram.bytes b.0) (sym (bytes_placed ram (Memory map.window.block) map.window.len b.0 b.1)))
    ∙ sym (stored_placed ram (Memory map.window.block) map.window.len b.0 (block_bytes map.window ram) b.1)

pub plain_windows_kept : (map : PlainMap) (old new : RamState) → new.windows ≡ old.windows → length new.bytes ≡ length old.bytes →
    HasAddressed map.status map.window old → HasAddressed map.status map.window new
plain_windows_kept map old new windows size w = record {
  head = w.head;
  fills = record { apart = subst AreApart (sym windows) w.fills.apart; as_long = ap total windows ∙ w.fills.as_long ∙ sym size };
  status = subst (λ (xs : List Window). AreMapped xs (Memory map.status) 8) (sym windows) w.status;
  block = subst (λ (xs : List Window). AreMapped xs (Memory map.window.block) map.window.len) (sym windows) w.block;
  status_block = w.status_block;
}

-- a store of as many bytes keeps the windows
windows-stored : (map : PlainMap) (ram : RamState) (at : Place) (n s : ℕ) (bytes : List ℕ) → HasAddressed map.status map.window ram →
    IsPlaced ram.windows at n s → length bytes ≡ n → HasAddressed map.status map.window (stored (located ram.windows at n) ram bytes)
windows-stored map ram at n s bytes w p is =
    let fits = fits_in ram at n s w.fills p in
    subst (HasAddressed map.status map.window) (sym (stored_placed ram at n s bytes p))
    (plain_windows_kept map ram (record ram { bytes = put_at ram.bytes s bytes }) refl (length-put_at ram.bytes s bytes (omega (arith, is, fits))) w)

pub windows_window : (map : PlainMap) (ram new : RamState) (bytes : List ℕ) → new ≡ with_block map.window ram bytes → length bytes ≡ map.window.len →
    HasAddressed map.status map.window ram → HasAddressed map.status map.window new
windows_window map ram new bytes is n w = let b = block_placed map.status map.window ram w in subst (HasAddressed map.status map.window) (sym is)
    (windows-stored map ram (Memory map.window.block) map.window.len b.0 bytes w b.1 n)

pub HasPlain-with_address : (map : PlainMap) (ram : RamState) → HasAddressed map.status map.window ram → HasAddressed map.status map.window (with_address_at map.status map.window ram)
HasPlain-with_address map ram w = let a = status_placed map.status map.window ram w in windows-stored map ram (Memory map.status) 8 a.0
    (spelled 8 map.window.block) w a.1 (length-spelled 8 map.window.block)

pub length-plain_status : (map : PlainMap) (ram : RamState) (word : List ℕ) → length word ≡ 4 → HasAddressed map.status map.window ram →
    length (with_status (block_bytes map.window ram) word) ≡ map.window.len
length-plain_status map ram word four w = length-status (plain_window_of map) ram word four (has_block map.status map.window ram w)
