-- Memory outside the windows of a handover.
use Rattle.std.proofs.Common.{◌≡◌, ◌∙◌, ℕ, ◌<◌, ◌≤◌, ◌⊎◌, inl, inr, List, length, Result, Ok, Err, refl, sym, ap, subst, arith}
use Rattle.std.proofs.lemmas.Bool.{cases_lt}
use Rattle.base_model.specs.Bytes.{part, spelled, put_at}
use Rattle.base_model.proofs.BytesLemmas.{length-spelled, length-put_at}
use Rattle.apei_tables.specs.declared.registers.Place.{Place}
use Rattle.apei_tables.specs.declared.registers.Place.TheVariants.{Memory}
use Rattle.apei_space.specs.declared.faults.SpaceFault.{SpaceFault}
use Rattle.apei_space.specs.RamState.{RamState, FillsWindows, located, stored}
use Rattle.apei_space.specs.Mapped.{AreDisjoint}
use Rattle.apei_space.proofs.Placed.{IsPlaced, found_placed}
use Rattle.ghes_ack.specs.declared.maps.HandoverMap.{HandoverMap}
use Rattle.ghes_ack.specs.declared.events.Event.{Event}
use Rattle.ghes_ack.specs.declared.events.Event.TheVariants.{Idle, Fill, Publish, Free, Wait, Nothing, Found, Copied, Took, Clear, Ack}
use Rattle.ghes_ack.specs.Machine.{with_status}
use Rattle.ghes_ack.specs.Maps.{HasWindows, ack_bytes, bytes_at, window, ack_read, with_window, with_ack, with_address, with_clear, acknowledged, memory_started, memory_after, ack_mask}
use Rattle.ghes_ack.proofs.Terms.{bytes_in}
use Rattle.ghes_ack.specs.Elsewhere.{IsOffBlock, IsOffMap, SameWhere}
use Rattle.ghes_ack.proofs.PlacedLemmas.{fits_in, stored_placed, bytes-stored_apart, disjoint_sym}
use Rattle.ghes_ack.proofs.MemoryLemmas.{ack_some, block_some, block_placed, ack_placed, status_placed, length-window, HasWindows-with_ack, HasWindows-with_address}
use Rattle.ghes_ack.proofs.EffectLemmas.{length-status}
use Rattle.std.specs.Prelude.{bit_or}

pub SameWhere-refl : (is_far : Place → ℕ → Type 0) (ram : RamState) → SameWhere is_far ram ram
SameWhere-refl is_far ram = record { windows = refl; size = refl; waited = refl; bytes = λ at n far. refl }

pub SameWhere-then : (is_far : Place → ℕ → Type 0) (a b c : RamState) → SameWhere is_far a b → SameWhere is_far b c → SameWhere is_far a c
SameWhere-then is_far a b c x y = record {
  windows = y.windows ∙ x.windows;
  size = y.size ∙ x.size;
  waited = y.waited ∙ x.waited;
  bytes = λ at n far. y.bytes at n far ∙ x.bytes at n far;
}

-- no bytes are the same anywhere
no_bytes : (r : Result ℕ SpaceFault) (one other : List ℕ) → bytes_in r one 0 ≡ bytes_in r other 0
unfolding part
no_bytes (Ok start) one other = refl
no_bytes (Err fault) one other = refl

far_stored : (ram : RamState) (at : Place) (n s : ℕ) (bytes : List ℕ) (other : Place) (m : ℕ) → FillsWindows ram → IsPlaced ram.windows at n s → length bytes ≡ n → 0 < n → AreDisjoint other m at n →
    bytes_at (stored (located ram.windows at n) ram bytes) other m ≡ bytes_at ram other m
far_stored ram at n s bytes other m fills p is some apart = go (cases_lt 0 m) (located ram.windows other m) refl where
  moved : bytes_at (stored (located ram.windows at n) ram bytes) other m ≡ bytes_in (located ram.windows other m) (put_at ram.bytes s bytes) m
  moved = ap (λ (r : RamState). bytes_at r other m) (stored_placed ram at n s bytes p)

  go : (0 < m) ⊎ (m ≤ 0) → (r : Result ℕ SpaceFault) → located ram.windows other m ≡ r → bytes_at (stored (located ram.windows at n) ram bytes) other m ≡ bytes_at ram other m
  go (inl more) (Ok t) e =
      let q = found_placed ram.windows other m t more e in
      bytes-stored_apart ram at n s bytes other m t fills p is q some more (disjoint_sym other m at n apart)
  go (inl more) (Err fault) e =
      moved ∙ ap (λ (r : Result ℕ SpaceFault). bytes_in r (put_at ram.bytes s bytes) m) e ∙ sym (ap (λ (r : Result ℕ SpaceFault). bytes_in r ram.bytes m) e)
  go (inr none) r e =
      let zero : m ≡ 0 = omega (arith, none) in
      moved ∙ subst (λ (k : ℕ). bytes_in (located ram.windows other m) (put_at ram.bytes s bytes) k ≡ bytes_in (located ram.windows other m) ram.bytes k)
      (sym zero) (no_bytes (located ram.windows other m) (put_at ram.bytes s bytes) ram.bytes)

pub SameWhere-stored : (is_far : Place → ℕ → Type 0) (ram : RamState) (at : Place) (n s : ℕ) (bytes : List ℕ) → FillsWindows ram → IsPlaced ram.windows at n s → length bytes ≡ n → 0 < n →
    ((other : Place) (m : ℕ) → is_far other m → AreDisjoint other m at n) → SameWhere is_far ram (stored (located ram.windows at n) ram bytes)
SameWhere-stored is_far ram at n s bytes fills p is some apart =
    let e = stored_placed ram at n s bytes p in
    let fits = fits_in ram at n s fills p in
    record {
      windows = ap (λ (r : RamState). r.windows) e;
      size = ap (λ (r : RamState). length r.bytes) e ∙ length-put_at ram.bytes s bytes (omega (arith, is, fits));
      waited = ap (λ (r : RamState). r.waited) e;
      bytes = λ other m far. far_stored ram at n s bytes other m fills p is some (apart other m far);
    }

of_window : (is_far : Place → ℕ → Type 0) (map : HandoverMap) (ram : RamState) (bytes : List ℕ) → HasWindows map ram → length bytes ≡ map.len →
    ((other : Place) (m : ℕ) → is_far other m → AreDisjoint other m (Memory map.block) map.len) → SameWhere is_far ram (with_window map ram bytes)
of_window is_far map ram bytes w n apart = let b = block_placed map ram w in SameWhere-stored is_far ram (Memory map.block) map.len b.0 bytes w.fills b.1 n (block_some map ram w) apart

of_ack : (is_far : Place → ℕ → Type 0) (map : HandoverMap) (ram : RamState) (x : ℕ) → HasWindows map ram →
    ((other : Place) (m : ℕ) → is_far other m → AreDisjoint other m map.ack.place (ack_bytes map)) → SameWhere is_far ram (with_ack map ram x)
of_ack is_far map ram x w apart = let a = ack_placed map ram w in SameWhere-stored is_far ram map.ack.place (ack_bytes map) a.0 (spelled (ack_bytes map) x)
    w.fills a.1 (length-spelled (ack_bytes map) x) (ack_some map) apart

of_address : (is_far : Place → ℕ → Type 0) (map : HandoverMap) (ram : RamState) → HasWindows map ram →
    ((other : Place) (m : ℕ) → is_far other m → AreDisjoint other m (Memory map.status) 8) → SameWhere is_far ram (with_address map ram)
of_address is_far map ram w apart = let a = status_placed map ram w in SameWhere-stored is_far ram (Memory map.status) 8 a.0 (spelled 8 map.block) w.fills a.1
    (length-spelled 8 map.block) (omega arith) apart

-- a start leaves all but the three windows
pub elsewhere_started : (map : HandoverMap) (ram : RamState) → HasWindows map ram → SameWhere (IsOffMap map) ram (memory_started map ram)
elsewhere_started map ram w =
    let a : RamState = with_address map ram in
    let x : ℕ = bit_or (ack_read map ram) (ack_mask map) in
    let b : RamState = with_ack map a x in
    let w_a = HasWindows-with_address map ram w in
    let w_b = HasWindows-with_ack map a x w_a in
    let n = length-status map ram (spelled 4 0) (length-spelled 4 0) w in
    SameWhere-then (IsOffMap map) ram a (memory_started map ram) (of_address (IsOffMap map) map ram w (λ other m far. far.0))
    (SameWhere-then (IsOffMap map) a b (memory_started map ram) (of_ack (IsOffMap map) map a x w_a (λ other m far. far.1.0))
    (of_window (IsOffMap map) map b (with_status (window map ram) (spelled 4 0)) w_b n (λ other m far. far.1.1)))

-- a turn leaves all but the register and the block's window
pub elsewhere_after : (map : HandoverMap) (event : Event) (ram : RamState) (bytes : List ℕ) → HasWindows map ram → length bytes ≡ map.len →
    SameWhere (IsOffBlock map) ram (memory_after map event ram bytes)
elsewhere_after map Idle ram bytes w n = SameWhere-refl (IsOffBlock map) ram
elsewhere_after map Fill ram bytes w n = of_window (IsOffBlock map) map ram bytes w n (λ other m far. far.1)
elsewhere_after map Publish ram bytes w n =
    let x : ℕ = with_clear map (ack_read map ram) in
    SameWhere-then (IsOffBlock map) ram (with_ack map ram x) (with_window map (with_ack map ram x) bytes) (of_ack (IsOffBlock map) map ram x w (λ other m far. far.0))
    (of_window (IsOffBlock map) map (with_ack map ram x) bytes (HasWindows-with_ack map ram x w) n (λ other m far. far.1))
elsewhere_after map Free ram bytes w n = SameWhere-refl (IsOffBlock map) ram
elsewhere_after map Wait ram bytes w n = SameWhere-refl (IsOffBlock map) ram
elsewhere_after map Nothing ram bytes w n = SameWhere-refl (IsOffBlock map) ram
elsewhere_after map Found ram bytes w n = SameWhere-refl (IsOffBlock map) ram
elsewhere_after map Copied ram bytes w n = SameWhere-refl (IsOffBlock map) ram
elsewhere_after map Took ram bytes w n = SameWhere-refl (IsOffBlock map) ram
elsewhere_after map Clear ram bytes w n = of_window (IsOffBlock map) map ram bytes w n (λ other m far. far.1)
elsewhere_after map Ack ram bytes w n = of_ack (IsOffBlock map) map ram (acknowledged map (ack_read map ram)) w (λ other m far. far.0)

-- what a turn left, said of the memory that it left
pub elsewhere_left : (map : HandoverMap) (event : Event) (ram new : RamState) → HasWindows map ram → HasWindows map new →
    new ≡ memory_after map event ram (window map new) → SameWhere (IsOffBlock map) ram new
elsewhere_left map event ram new w after is = subst (SameWhere (IsOffBlock map) ram) (sym is) (elsewhere_after map event ram (window map new) w (length-window map new after))
