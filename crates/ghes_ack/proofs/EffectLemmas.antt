-- What the calls of the two sides leave in memory.
use Rattle.std.proofs.Common.{◌≡◌, ◌∙◌, ℕ, ◌<◌, ◌≤◌, ◌^◌, List, length, take, Result, IfOk, refl, sym, ap, subst, arith, bit_and}
use Rattle.std.specs.Result.{result_unwrap_or}
use Rattle.apei_tables.specs.Access.{bits}
use Rattle.apei_space.specs.declared.faults.SpaceFault.{SpaceFault}
use Rattle.base_model.specs.Bytes.{number_at, spelled, put_at, AreBytes}
use Rattle.base_model.proofs.BytesLemmas.{length-spelled, spelled-number_at}
use Rattle.apei_space.specs.RamState.{RamState, Allows, located}
use Rattle.ghes_ack.specs.declared.maps.HandoverMap.{HandoverMap}
use Rattle.ghes_ack.specs.Machine.{with_status}
use Rattle.ghes_ack.specs.Maps.{HasWindows, IsSet, IsClear, ack_bytes, ack_read, ack_mask, with_ack, with_window, with_address, window, window_of, with_clear, memory_started}
use Rattle.ghes_ack.specs.Publications.{ClearsThenShows}
use Rattle.ghes_ack.proofs.PieceLemmas.{part-front}
use Rattle.ghes_ack.proofs.WindowLemmas.{status_write_is, length-status as length-status_in}
use Rattle.ghes_ack.proofs.MemoryLemmas.{has_block, number_read, number_small, clear_bits, window-with_ack, window-with_address, ack-with_window}
use Rattle.ghes_ack.proofs.MemoryLemmas.{ack-with_address, HasWindows-with_window, HasWindows-with_ack, HasWindows-with_address}
use Rattle.std.specs.Prelude.{bit_or}

pub windows_address : (map : HandoverMap) (ram new : RamState) → new ≡ with_address map ram → HasWindows map ram → HasWindows map new
windows_address map ram new is w = subst (HasWindows map) (sym is) (HasWindows-with_address map ram w)

pub windows_ack : (map : HandoverMap) (ram new : RamState) (x : ℕ) → new ≡ with_ack map ram x → HasWindows map ram → HasWindows map new
windows_ack map ram new x is w = subst (HasWindows map) (sym is) (HasWindows-with_ack map ram x w)

pub windows_window : (map : HandoverMap) (ram new : RamState) (bytes : List ℕ) → new ≡ with_window map ram bytes → length bytes ≡ map.len → HasWindows map ram → HasWindows map new
windows_window map ram new bytes is n w = subst (HasWindows map) (sym is) (HasWindows-with_window map ram bytes w n)

pub length-status : (map : HandoverMap) (ram : RamState) (word : List ℕ) → length word ≡ 4 → HasWindows map ram → length (with_status (window map ram) word) ≡ map.len
length-status map ram word four w = length-status_in (window_of map) ram word four (has_block map ram w)

-- a start
pub started_memory : (map : HandoverMap) (ram a b new : RamState) → HasWindows map ram → a ≡ with_address map ram → b ≡ with_ack map a (bit_or (ack_read map a) (ack_mask map)) →
    new ≡ with_window map b (with_status (window map b) (spelled 4 0)) → new ≡ memory_started map ram
started_memory map ram a b new w is_a is_b is =
    let w_a = windows_address map ram a is_a w in
    let same : window map b ≡ window map ram = ap (window map) is_b ∙ window-with_ack map a (bit_or (ack_read map a) (ack_mask map)) w_a ∙ ap (window map) is_a ∙ window-with_address map ram w in
    let read : ack_read map a ≡ ack_read map ram = ap (ack_read map) is_a ∙ ack-with_address map ram w in
    is
    ∙ ap (λ (bytes : List ℕ). with_window map b (with_status bytes (spelled 4 0))) same
    ∙ ap (λ (r : RamState). with_window map r (with_status (window map ram) (spelled 4 0)))
    (is_b ∙ ap (λ (x : ℕ). with_ack map a (bit_or x (ack_mask map))) read ∙ ap (λ (r : RamState). with_ack map r (bit_or (ack_read map ram) (ack_mask map))) is_a)

pub started_set : (map : HandoverMap) (ram a b new : RamState) → HasWindows map ram → a ≡ with_address map ram → b ≡ with_ack map a (bit_or (ack_read map a) (ack_mask map)) →
    new ≡ with_window map b (with_status (window map b) (spelled 4 0)) → IsSet map b → IsSet map new
started_set map ram a b new w is_a is_b is set =
    let w_b = windows_ack map a b (bit_or (ack_read map a) (ack_mask map)) is_b (windows_address map ram a is_a w) in
    let n = length-status map b (spelled 4 0) (length-spelled 4 0) w_b in
    let e : ack_read map new ≡ ack_read map b = ap (ack_read map) is ∙ ack-with_window map b (with_status (window map b) (spelled 4 0)) w_b n in
    subst (λ (r : ℕ). bit_and r (ack_mask map) ≡ ack_mask map) (sym e) set

-- a publication
pub record IsPublished (map : HandoverMap) (ram new : RamState) (block : List ℕ) : Type 0 where
  pub memory : new ≡ with_window map (with_ack map ram (with_clear map (ack_read map ram))) (with_status (window map ram) (take 4 block))
  pub clear : IsClear map new

pub published_memory : (map : HandoverMap) (ram a new : RamState) (block : List ℕ) (word : ℕ) → HasWindows map ram → 20 ≤ length block → AreBytes block → word ≡ number_at block 0 4 →
    a ≡ with_ack map ram (with_clear map (ack_read map ram)) → IsClear map a → new ≡ with_window map a (put_at (window map a) 0 (spelled 4 word)) → IsPublished map ram new block
published_memory map ram a new block word w head bytes is_word is_a clear is =
    let w_a = windows_ack map ram a (with_clear map (ack_read map ram)) is_a w in
    let front : spelled 4 word ≡ take 4 block = ap (spelled 4) is_word ∙ spelled-number_at block 0 4 bytes (omega (arith, head)) ∙ part-front block 4 in
    let same : window map a ≡ window map ram = ap (window map) is_a ∙ window-with_ack map ram (with_clear map (ack_read map ram)) w in
    let n = length-status map a (spelled 4 word) (length-spelled 4 word) w_a in
    record {
      memory = is
          ∙ ap (λ (bytes : List ℕ). with_window map a (put_at bytes 0 (spelled 4 word))) same
          ∙ ap (λ (f : List ℕ). with_window map a (put_at (window map ram) 0 f)) front
          ∙ ap (λ (r : RamState). with_window map r (with_status (window map ram) (take 4 block))) is_a;
      clear = let e : ack_read map new ≡ ack_read map a = ap (ack_read map) is ∙ ack-with_window map a (put_at (window map a) 0 (spelled 4 word)) w_a n in
          subst (λ (r : ℕ). bit_and r (ack_mask map) ≡ 0) (sym e) clear;
    }

-- a publication of plain memory, by its order
pub published_in_order : (map : HandoverMap) (ram new : RamState) (block : List ℕ) → HasWindows map ram → 20 ≤ length block → AreBytes block →
    ClearsThenShows Allows map (number_at block 0 4) ram new → IsPublished map ram new block
published_in_order map ram new block w head bytes p =
    let place = located ram.windows map.ack.place (ack_bytes map) in
    let first = p.order.0 in
    let second = p.order.1.0 in
    let third = p.order.1.1.0 in
    let value : result_unwrap_or p.read 0 ≡ ack_read map ram = ap (λ (r : Result ℕ SpaceFault). result_unwrap_or r 0) first.0 ∙ number_read place ram.bytes (ack_bytes map) in
    let clear : p.clear ≡ with_ack map ram (with_clear map (ack_read map ram)) =
    second.1 ∙ ap (λ (v : ℕ). with_ack map p.looked (with_clear map v)) value ∙ ap (λ (r : RamState). with_ack map r (with_clear map (ack_read map ram))) first.1 in
    let small = number_small place ram.bytes (ack_bytes map) (bits map.ack.access) (subst (λ (r : Result ℕ SpaceFault). IfOk r (λ (v : ℕ). v < 2 ^ bits map.ack.access)) first.0 p.small) in
    let windows : HasWindows map p.clear = windows_ack map ram p.clear (with_clear map (ack_read map ram)) clear w in
    published_memory map ram p.clear new block (number_at block 0 4) w head bytes refl clear (subst (IsClear map) (sym clear) (clear_bits map ram w small))
    (third.1 ∙ status_write_is (window_of map) p.clear (spelled 4 (number_at block 0 4)) (has_block map p.clear windows) (length-spelled 4 (number_at block 0 4)))
