-- Where an access stands in the handover's one window, and memory that is all zeros.
use Rattle.std.proofs.Common.{◌≡◌, ℕ, ◌+◌, ◌<◌, ◌≤◌, List, [], ◌∷◌, length, Result, Ok, refl, sym, ap, ◌∙◌, arith}
use Rattle.std.proofs.lemmas.Bool.Decides.{nat_tests}
use Rattle.std.proofs.lemmas.List.{length-replicate}
use Rattle.base_model.specs.Bytes.{part}
use Rattle.apei_tables.specs.declared.registers.Place.TheVariants.{Memory}
use Rattle.apei_space.specs.RamState.{RamState, located, filled}
use Rattle.erst_machine.specs.Memories.{MemoryState, zeros, cleared}
use Rattle.erst_machine.proofs.Words.{shared_windows}

pub shared_found : (start n : ℕ) → 0 < n → start + n ≤ 8192 → located shared_windows (Memory (0x300000 + start)) n ≡ Ok start
shared_found start n some within = grind (arith, nat_tests)

filled_none : (bytes : List ℕ) (start : ℕ) (before : List ℕ) → length before ≡ 0 →
    filled (located shared_windows (Memory (0x300000 + start)) (length before)) bytes before ≡ part bytes start (length before)
unfolding part
filled_none bytes start [] none = refl
filled_none bytes start (byte ∷ before) none = absurd (omega arith)

pub shared_filled : (bytes : List ℕ) (start : ℕ) (before : List ℕ) → start + length before ≤ 8192 →
    filled (located shared_windows (Memory (0x300000 + start)) (length before)) bytes before ≡ part bytes start (length before)
shared_filled bytes start [] within = filled_none bytes start [] refl
shared_filled bytes start (byte ∷ before) within = ap (λ (r : Result ℕ _). filled r bytes (byte ∷ before)) (shared_found start (length (byte ∷ before)) (omega arith) within)

pub all_zeros : (reach : ℕ) (range scratch ports region : List ℕ) (shared : RamState) → range ≡ zeros reach → scratch ≡ zeros 4096 → ports ≡ zeros 16 → region ≡ zeros 16384 →
    (let all : MemoryState = record { range = range; scratch = scratch; ports = ports; region = region; shared = shared } in all) ≡ cleared reach shared
all_zeros reach range scratch ports region shared e f g h = cc

-- zeros are as many as there are
pub blank_of : (xs : List ℕ) (n : ℕ) → xs ≡ zeros n → xs ≡ zeros (length xs)
blank_of xs n is = is ∙ ap zeros (sym (ap length is ∙ length-replicate n 0))
