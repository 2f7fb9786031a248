-- A Generic Address Structure is its 12 bytes.
use Rattle.std.proofs.Common.{◌≡◌, ℕ, ◌+◌, ◌<◌, ◌^◌, List, [], ◌∷◌, ◌++◌, length, take, drop, get_or, sym, ap, ◌∙◌, arith}
use Rattle.std.proofs.lemmas.List.{take_all, drop_all, append-nil}
use Rattle.base_model.specs.Bytes.{part, number_at, little, spelled, put_at, AreBytes}
use Rattle.base_model.proofs.BytesLemmas.{spelled-number_at, little-spelled, length-spelled}
use Rattle.apei_tables.specs.declared.structure.Gas.{Gas}
use Rattle.apei_tables.specs.GasLayout.{spelling, IsGas}

-- the structure that stands in 12 bytes
abbrev pub found : List ℕ → Gas
found bytes = record { space = get_or bytes 0 0; width = get_or bytes 1 0; offset = get_or bytes 2 0; access = get_or bytes 3 0; address = number_at bytes 4 8 }

pub spelling-found : (bytes : List ℕ) → length bytes ≡ 12 → AreBytes bytes → bytes ≡ spelling (found bytes)
unfolding part
spelling-found [] size each = absurd (omega arith)
spelling-found (a ∷ []) size each = absurd (omega arith)
spelling-found (a ∷ b ∷ []) size each = absurd (omega arith)
spelling-found (a ∷ b ∷ c ∷ []) size each = absurd (omega arith)
spelling-found (a ∷ b ∷ c ∷ d ∷ rest) size each =
    let bytes : List ℕ = a ∷ b ∷ c ∷ d ∷ rest in
    let tail : take 8 rest ≡ rest = take_all 8 rest (omega arith) in
    ap (λ (xs : List ℕ). a ∷ b ∷ c ∷ d ∷ xs) (sym (spelled-number_at bytes 4 8 each (omega arith) ∙ tail))

pub found-spelling : (gas : Gas) → IsGas gas → gas ≡ found (spelling gas)
unfolding part number_at
found-spelling gas fits =
    let tail : take 8 (spelled 8 gas.address) ≡ spelled 8 gas.address = take_all 8 (spelled 8 gas.address) (omega (arith, length-spelled 8 gas.address)) in
    let small : gas.address < 256 ^ 8 = fits.address in
    let number : number_at (spelling gas) 4 8 ≡ gas.address = ap little tail ∙ little-spelled 8 gas.address small in
    ap (λ (address : ℕ). record { space = gas.space; width = gas.width; offset = gas.offset; access = gas.access; address = address }) (sym number)

pub only_found : (bytes : List ℕ) (gas : Gas) → IsGas gas → bytes ≡ spelling gas → gas ≡ found bytes
only_found bytes gas fits same = found-spelling gas fits ∙ ap found (sym same)

-- one spelling, one structure
pub same_gas : (a b : Gas) → IsGas a → IsGas b → spelling a ≡ spelling b → a ≡ b
same_gas a b fits_a fits_b same = found-spelling a fits_a ∙ ap found same ∙ sym (found-spelling b fits_b)

-- the four bytes, and the address put behind them
pub put_behind : (a b c d x : ℕ) (rest : List ℕ) → length rest ≡ 8 → put_at (a ∷ b ∷ c ∷ d ∷ rest) 4 (spelled 8 x) ≡ a ∷ b ∷ c ∷ d ∷ spelled 8 x
unfolding put_at
put_behind a b c d x rest size =
    let behind : drop (4 + length (spelled 8 x)) (a ∷ b ∷ c ∷ d ∷ rest) ≡ [] = drop_all (4 + length (spelled 8 x)) (a ∷ b ∷ c ∷ d ∷ rest) (omega (arith, length-spelled 8 x)) in
    ap (λ (xs : List ℕ). a ∷ b ∷ c ∷ d ∷ (spelled 8 x ++ xs)) behind ∙ ap (λ (xs : List ℕ). a ∷ b ∷ c ∷ d ∷ xs) (append-nil (spelled 8 x))
