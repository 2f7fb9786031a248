-- What holds of a source, a memory and a guest, whatever happens, and that an access keeps it.
use Rattle.std.proofs.Common.{◌≡◌, ◌∙◌, ℕ, zero, suc, ◌+◌, ◌-◌, ◌*◌, ◌%◌, ◌^◌, ◌<◌, ◌≤◌, ◌⊎◌, inl, inr, Bool, true, false, if◌then◌else◌, ◌==◌, nat_lt, Option}
use Rattle.std.proofs.Common.{Some, None, List, [], ◌∷◌, ◌++◌, length, take, drop, All, bit_and, bit_or, refl, sym, ap, subst, arith}
use Rattle.std.proofs.lemmas.Bool.{ne_eqb, cases_lt}
use Rattle.std.proofs.lemmas.Grind.{common_steps}
use Rattle.std.proofs.lemmas.List.{length-take, length-drop}
use Rattle.std.proofs.lemmas.List.Elements.{All-drop}
use Rattle.base_model.specs.Bytes.{little, part, spelled, number_at}
use Rattle.base_model.proofs.BytesLemmas.{part-append, part-whole, length-part, little-lt, AreBytes-part}
use Rattle.ghes_port.specs.declared.maps.SourceMap.{SourceMap}
use Rattle.ghes_port.specs.declared.maps.AckRegister.{AckRegister}
use Rattle.ghes_port.specs.declared.stages.Stage.{Stage}
use Rattle.ghes_port.specs.declared.stages.Stage.TheVariants.{Hide, TellAddress, ReadFirst, SetAck, Fill, ReadAck, ClearAck, Show, Notify, Await}
use Rattle.ghes_port.specs.Places.{index_of, octets}
use Rattle.ghes_port.specs.Memories.{bytes_from, with_bytes}
use Rattle.ghes_port.specs.Machine.{told_at, frees, addressed, filled, piece_at, piece_of, cleared, ack_read, ack_set, ack_cleared, ack_asked, address_number, stage_after, queue_after, IsGood}
use Rattle.ghes_port.specs.Sound.{IsPlaced, HasBits}
use Rattle.ghes_port.specs.Readers.{Reader, Looks, Copies, Owes, Answers, memory_after, IsRead, status_at, number_in, IsAckApart, IsApart, AreOff}
use Rattle.ghes_port.proofs.MemoryLemmas.{far, exact, two}
use Rattle.ghes_port.proofs.WidthLemmas.{octets_fit, no_bits, cleared_small, spelled_off, spelled_from, read_back}

-- what the guest's acknowledgement is looked for in, and whether it is there
abbrev pub asked_in : SourceMap → Option AckRegister → (ℕ → ℕ) → ℕ
asked_in map None memory = status_at map.block memory
asked_in map (Some ack) memory = number_in ack memory

abbrev pub acked : SourceMap → Option AckRegister → (ℕ → ℕ) → Bool
acked map ack memory = frees ack (asked_in map ack memory)

-- before the block status is written: with a register there is no acknowledgement
abbrev pub IsClear : Option AckRegister → (ℕ → ℕ) → Type 0
IsClear None memory = Unit {0}
IsClear (Some ack) memory = frees (Some ack) (number_in ack memory) ≡ false

-- the first n bytes after the block status are a block's
abbrev pub AreFilled : SourceMap → (ℕ → ℕ) → List ℕ → ℕ → Type 0
AreFilled map memory block n = bytes_from memory (map.block + 4) n ≡ part block 4 n

abbrev pub AreSoFar : SourceMap → (ℕ → ℕ) → List (List ℕ) → ℕ → Type 0
AreSoFar map memory [] piece = piece ≡ 0
AreSoFar map memory (block ∷ rest) piece = (piece_at piece < length block) × AreFilled map memory block (64 * piece)

abbrev pub AreAll : SourceMap → (ℕ → ℕ) → List (List ℕ) → Type 0
AreAll map memory [] = ⊥
AreAll map memory (block ∷ rest) = AreFilled map memory block (length block - 4)

-- the oldest block is shown whole and not acknowledged; or the guest has taken it and cleared the block status
abbrev pub IsShown : SourceMap → List (List ℕ) → (ℕ → ℕ) → List (List ℕ) → Type 0
IsShown map [] memory left = ⊥
IsShown map (block ∷ rest) memory left = (block ∷ rest ≡ left) × (bytes_from memory map.block (length block) ≡ block) × (acked map map.ack memory ≡ false)

abbrev pub IsTaken : SourceMap → List (List ℕ) → (ℕ → ℕ) → List (List ℕ) → Type 0
IsTaken map [] memory left = ⊥
IsTaken map (block ∷ rest) memory left = (rest ≡ left) × (status_at map.block memory ≡ 0)

-- and its acknowledgement is there
abbrev pub IsAnswered : SourceMap → List (List ℕ) → (ℕ → ℕ) → List (List ℕ) → Type 0
IsAnswered map queue memory left = IsTaken map queue memory left × (acked map map.ack memory ≡ true)

abbrev pub IsOut : SourceMap → List (List ℕ) → (ℕ → ℕ) → List (List ℕ) → Reader → Type 0
IsOut map queue memory left Looks = IsShown map queue memory left ⊎ IsAnswered map queue memory left
IsOut map queue memory left (Copies copied) = IsShown map queue memory left × (length copied ≤ map.len) × (copied ≡ bytes_from memory map.block (length copied))
IsOut map queue memory left Owes = IsTaken map queue memory left × (acked map map.ack memory ≡ false)
IsOut map queue memory left (Answers read) = IsTaken map queue memory left × (acked map map.ack memory ≡ false)

-- no block is shown, and the guest looks for one
abbrev pub IsIn : SourceMap → List (List ℕ) → (ℕ → ℕ) → List (List ℕ) → Reader → Type 0
IsIn map queue memory left Looks = (queue ≡ left) × (status_at map.block memory ≡ 0)
IsIn map queue memory left (Copies copied) = ⊥
IsIn map queue memory left Owes = ⊥
IsIn map queue memory left (Answers read) = ⊥

-- what holds at each stage, where `left` are the submitted blocks that the guest has not taken
abbrev pub AreTogether : SourceMap → List (List ℕ) → (ℕ → ℕ) → List (List ℕ) → Stage → Reader → Type 0
AreTogether map queue memory left Hide reader = (queue ≡ left) × (reader ≡ Looks)
AreTogether map queue memory left TellAddress reader = IsIn map queue memory left reader
AreTogether map queue memory left ReadFirst reader = IsIn map queue memory left reader
AreTogether map queue memory left (SetAck read) reader = IsIn map queue memory left reader
AreTogether map queue memory left (Fill piece) reader = IsIn map queue memory left reader × AreSoFar map memory queue piece
AreTogether map queue memory left ReadAck reader = IsIn map queue memory left reader × AreAll map memory queue
AreTogether map queue memory left (ClearAck read) reader = IsIn map queue memory left reader × AreAll map memory queue
AreTogether map queue memory left Show reader = IsIn map queue memory left reader × AreAll map memory queue × IsClear map.ack memory
AreTogether map queue memory left Notify reader = IsOut map queue memory left reader
AreTogether map queue memory left Await reader = IsOut map queue memory left reader

-- the block status, and all that rests on it, after a write elsewhere
pub in_far : (map : SourceMap) (queue left : List (List ℕ)) (memory : ℕ → ℕ) (at : ℕ) (bytes : List ℕ) (reader : Reader) → AreOff map.block 4 at (length bytes)
    → IsIn map queue memory left reader → IsIn map queue (with_bytes memory at bytes) left reader
in_far map queue left memory at bytes Looks off inside = (inside.0, ap little (far memory at bytes map.block 4 off) ∙ inside.1)
in_far map queue left memory at bytes (Copies copied) off inside = inside
in_far map queue left memory at bytes Owes off inside = inside
in_far map queue left memory at bytes (Answers read) off inside = inside

pub front_off : (at n other len m : ℕ) → m ≤ len → AreOff at n other len → AreOff other m at n
front_off at n other len m small (inl before) = inr before
front_off at n other len m small (inr after) = inl (omega (arith, small, after))

inner_off : (at n other len k m : ℕ) → k + m ≤ len → AreOff at n other len → AreOff (other + k) m at n
inner_off at n other len k m small (inl before) = inr (omega (arith, before))
inner_off at n other len k m small (inr after) = inl (omega (arith, small, after))

-- a number written to a register that is off the window
number_in_far : (map : SourceMap) (queue left : List (List ℕ)) (memory : ℕ → ℕ) (at n value : ℕ) (reader : Reader) → 20 ≤ map.len → AreOff at n map.block map.len
    → IsIn map queue memory left reader → IsIn map queue (with_bytes memory at (spelled n value)) left reader
number_in_far map queue left memory at n value reader head off inside =
    in_far map queue left memory at (spelled n value) reader (spelled_off map.block 4 at n value (front_off at n map.block map.len 4 (omega (arith, head)) off)) inside

all_far : (map : SourceMap) (memory : ℕ → ℕ) (queue : List (List ℕ)) (at : ℕ) (bytes : List ℕ) → All (IsGood map.len) queue → AreOff at (length bytes) map.block map.len
    → AreAll map memory queue → AreAll map (with_bytes memory at bytes) queue
all_far map memory [] at bytes good off all = all
all_far map memory (block ∷ rest) at bytes good off all =
    let fits = (good 0 block (omega (arith))).fits in
    let low = fits.head in
    let high = fits.fits in
    far memory at bytes (map.block + 4) (length block - 4) (inner_off at (length bytes) map.block map.len 4 (length block - 4) (omega (arith, low, high)) off) ∙ all

-- after the address
told_then : (map : SourceMap) (queue left : List (List ℕ)) (memory : ℕ → ℕ) (ack : Option AckRegister) (reader : Reader) → IsIn map queue memory left reader → AreSoFar map memory queue 0
    → AreTogether map queue memory left (addressed ack) reader
told_then map queue left memory None reader inside far = (inside, far)
told_then map queue left memory (Some at) reader inside far = inside

none_yet : (map : SourceMap) (memory : ℕ → ℕ) (queue : List (List ℕ)) → All (IsGood map.len) queue → AreSoFar map memory queue 0
unfolding part
none_yet map memory [] good = refl
none_yet map memory (block ∷ rest) good = let low = (good 0 block (omega (arith))).fits.head in (omega (arith, low), refl)

-- a read changes nothing
read_keeps : (ack : Option AckRegister) (memory : ℕ → ℕ) → memory_after (ack_read ack) memory ≡ memory
read_keeps None memory = refl
read_keeps (Some ack) memory = refl

pub asked_keeps : (map : SourceMap) (ack : Option AckRegister) (memory : ℕ → ℕ) → memory_after (ack_asked map ack) memory ≡ memory
asked_keeps map None memory = refl
asked_keeps map (Some ack) memory = refl

pub hidden : (memory : ℕ → ℕ) (at : ℕ) → status_at at (with_bytes memory at (spelled 4 0)) ≡ 0
hidden memory at = read_back memory at 4 0 (omega (arith))

-- the acknowledge bits are set for the first time
set_first : (map : SourceMap) (queue left : List (List ℕ)) (memory : ℕ → ℕ) (ack : Option AckRegister) (read : ℕ) (reader : Reader) → 20 ≤ map.len → IsAckApart map ack
    → IsIn map queue memory left reader → IsIn map queue (memory_after (ack_set ack read) memory) left reader
set_first map queue left memory None read reader head apart inside = inside
set_first map queue left memory (Some ack) read reader head apart inside =
    number_in_far map queue left memory (index_of ack.place) (octets ack.access) (bit_or read ack.set) reader head apart.1 inside

-- they are cleared
clear_in : (map : SourceMap) (queue left : List (List ℕ)) (memory : ℕ → ℕ) (ack : Option AckRegister) (read : ℕ) (reader : Reader) → 20 ≤ map.len → IsAckApart map ack
    → IsIn map queue memory left reader → IsIn map queue (memory_after (ack_cleared ack read) memory) left reader
clear_in map queue left memory None read reader head apart inside = inside
clear_in map queue left memory (Some ack) read reader head apart inside =
    number_in_far map queue left memory (index_of ack.place) (octets ack.access) (cleared ack read) reader head apart.1 inside

clear_all : (map : SourceMap) (queue : List (List ℕ)) (memory : ℕ → ℕ) (ack : Option AckRegister) (read : ℕ) → All (IsGood map.len) queue → IsAckApart map ack
    → AreAll map memory queue → AreAll map (memory_after (ack_cleared ack read) memory) queue
clear_all map queue memory None read good apart all = all
clear_all map queue memory (Some ack) read good apart all =
    let at : ℕ = index_of ack.place in
    let n : ℕ = octets ack.access in
    let value : ℕ = cleared ack read in
    all_far map memory queue at (spelled n value) good (spelled_from at n map.block map.len value apart.1) all

zero_is_not : (n m : ℕ) → n ≡ 0 → 0 < m → (n == m) ≡ false
zero_is_not n m is some = ne_eqb n m (λ e. omega (arith, is, some, e))

is_clear : (memory : ℕ → ℕ) (ack : Option AckRegister) (read : ℕ) → HasBits ack → IsClear ack (memory_after (ack_cleared ack read) memory)
is_clear memory None read has = tt
is_clear memory (Some ack) read has =
    let at : ℕ = index_of ack.place in
    let n : ℕ = octets ack.access in
    let value : ℕ = cleared ack read in
    let small : value < 256 ^ n = subst (λ (k : ℕ). value < k) (sym (octets_fit ack.access)) (cleared_small ack.access read ack.set has.1) in
    let back : little (bytes_from (with_bytes memory at (spelled n value)) at n) ≡ value = read_back memory at n value small in
    zero_is_not (bit_and (little (bytes_from (with_bytes memory at (spelled n value)) at n)) ack.set) ack.set
    (ap (λ (x : ℕ). bit_and x ack.set) back ∙ no_bits ack.access read ack.set has.1) has.0

-- a piece
part_is : (block : List ℕ) (at n : ℕ) → part block at (length (part block at n)) ≡ part block at n
unfolding part
part_is block at n = take_length n (drop at block)
  where
    take_length : (n : ℕ) (xs : List ℕ) → take (length (take n xs)) xs ≡ take n xs
    take_length zero xs = refl
    take_length (suc n) [] = refl
    take_length (suc n) (x ∷ xs) = ap (λ (ys : List ℕ). x ∷ ys) (take_length n xs)

pub rest_length : (block : List ℕ) (at : ℕ) → length block ≤ at + 64 → length (part block at 64) ≡ length block - at
unfolding part
rest_length block at short = rw (length-take, length-drop) (omega arith)

-- the piece that is written joins those before it
pub one_more : (base : ℕ) (memory : ℕ → ℕ) (block : List ℕ) (piece : ℕ) → bytes_from memory (base + 4) (64 * piece) ≡ part block 4 (64 * piece)
    → bytes_from (with_bytes memory (base + piece_at piece) (piece_of block piece)) (base + 4) (64 * piece + length (piece_of block piece)) ≡ part block 4 (64 * piece + length (piece_of block piece))
one_more base memory block piece so_far =
    let bytes : List ℕ = piece_of block piece in
    let at : ℕ = base + piece_at piece in
    let m : ℕ = length bytes in
    let new : ℕ → ℕ = with_bytes memory at bytes in
    let place : base + 4 + 64 * piece ≡ at = omega (arith) in
    two new (base + 4) (64 * piece) m
    ∙ ap (λ (xs : List ℕ). xs ++ bytes_from new (base + 4 + 64 * piece) m) (far memory at bytes (base + 4) (64 * piece) (inl (omega (arith))) ∙ so_far)
    ∙ ap (λ (a : ℕ). part block 4 (64 * piece) ++ bytes_from new a m) place
    ∙ ap (λ (xs : List ℕ). part block 4 (64 * piece) ++ xs) (exact memory at bytes ∙ sym (part_is block (piece_at piece) 64))
    ∙ part-append block 4 (64 * piece) m

after_last : (map : SourceMap) (queue left : List (List ℕ)) (memory : ℕ → ℕ) (ack : Option AckRegister) (reader : Reader) → map.ack ≡ ack → IsIn map queue memory left reader → AreAll map memory queue
    → AreTogether map queue memory left (filled ack) reader
after_last map queue left memory None reader is inside all = (inside, all, subst (λ (o : Option AckRegister). IsClear o memory) (sym is) tt)
after_last map queue left memory (Some at) reader is inside all = (inside, all)

by_last : (map : SourceMap) (left : List (List ℕ)) (memory : ℕ → ℕ) (block : List ℕ) (rest : List (List ℕ)) (piece : ℕ) (reader : Reader) (more : Bool)
    → (more ≡ true → piece_at (piece + 1) < length block) → (more ≡ false → length block ≤ piece_at (piece + 1)) → piece_at piece < length block
    → IsIn map (block ∷ rest) memory left reader → AreFilled map memory block (64 * piece + length (piece_of block piece))
    → AreTogether map (block ∷ rest) memory left (if more then Fill (piece + 1) else filled map.ack) reader
by_last map left memory block rest piece reader true goes ends begins inside joined =
    let there : piece_at (piece + 1) < length block = goes refl in
    let n : length (piece_of block piece) ≡ 64 = length-part block (piece_at piece) 64 (omega (arith, there)) in
    let sum : 64 * piece + length (piece_of block piece) ≡ 64 * (piece + 1) = omega (arith, n) in
    (inside, (there, subst (λ (k : ℕ). AreFilled map memory block k) sum joined))
by_last map left memory block rest piece reader false goes ends begins inside joined =
    let past : length block ≤ piece_at (piece + 1) = ends refl in
    let n : length (piece_of block piece) ≡ length block - piece_at piece = rest_length block (piece_at piece) (omega (arith, past)) in
    let sum : 64 * piece + length (piece_of block piece) ≡ length block - 4 = omega (arith, n, begins) in
    after_last map (block ∷ rest) left memory map.ack reader refl inside (subst (λ (k : ℕ). AreFilled map memory block k) sum joined)

pub is_more : (n m : ℕ) → nat_lt n m ≡ true → n < m
is_more n m is = elim (cases_lt n m) [ inl below ↦ below | inr above ↦ grind (arith, common_steps, is, above) ]

pub is_less : (n m : ℕ) → nat_lt n m ≡ false → m ≤ n
is_less n m is = elim (cases_lt n m) [ inl below ↦ grind (arith, common_steps, is, below) | inr above ↦ above ]

-- the block status is written
pub front : (m : ℕ → ℕ) (at n l : ℕ) → n ≤ l → take n (bytes_from m at l) ≡ bytes_from m at n
front m at zero l small = refl
front m at (suc n) zero small = absurd (omega (arith, small))
front m at (suc n) (suc l) small = ap (λ (xs : List ℕ). m at ∷ xs) (front m (suc at) n l (omega (arith, small)))

head_is : (m : ℕ → ℕ) (at : ℕ) (block : List ℕ) → 4 ≤ length block → bytes_from m at (length block) ≡ block → bytes_from m at 4 ≡ take 4 block
head_is m at block long there = sym (front m at 4 (length block) long) ∙ ap (take 4) there

pub status_is : (len : ℕ) (m : ℕ → ℕ) (at : ℕ) (block : List ℕ) → IsGood len block → bytes_from m at (length block) ≡ block → (0 < status_at at m) × (status_at at m < 2 ^ 32)
unfolding part number_at
status_is len m at block good there =
    let low = good.fits.head in
    let is : bytes_from m at 4 ≡ part block 0 4 = head_is m at block (omega (arith, low)) there in
    let some : 0 < little (part block 0 4) = good.fits.published in
    let small : little (part block 0 4) < 256 ^ length (part block 0 4) = little-lt (part block 0 4) (AreBytes-part block 0 4 good.bytes) in
    let n : length (part block 0 4) ≡ 4 = length-part block 0 4 (omega (arith, low)) in
    let short : little (part block 0 4) < 256 ^ 4 = subst (λ (k : ℕ). little (part block 0 4) < 256 ^ k) n small in
    (subst (λ (bs : List ℕ). 0 < little bs) (sym is) some, subst (λ (bs : List ℕ). little bs < 2 ^ 32) (sym is) (omega (arith, short)))

pub shown_block : (base : ℕ) (memory : ℕ → ℕ) (block : List ℕ) → 20 ≤ length block → bytes_from memory (base + 4) (length block - 4) ≡ part block 4 (length block - 4)
    → bytes_from (with_bytes memory base (take 4 block)) base (length block) ≡ block
unfolding part
shown_block base memory block low all =
    let word : List ℕ = take 4 block in
    let new : ℕ → ℕ = with_bytes memory base word in
    let n : length word ≡ 4 = rw length-take (omega (arith, low)) in
    let sum : length block ≡ 4 + (length block - 4) = omega (arith, low) in
    let first : bytes_from new base 4 ≡ part block 0 4 = subst (λ (k : ℕ). bytes_from new base k ≡ word) n (exact memory base word) in
    ap (bytes_from new base) sum
    ∙ two new base 4 (length block - 4)
    ∙ ap (λ (xs : List ℕ). xs ++ bytes_from new (base + 4) (length block - 4)) first
    ∙ ap (λ (xs : List ℕ). part block 0 4 ++ xs) (far memory base word (base + 4) (length block - 4) (inr (omega (arith, n))) ∙ all)
    ∙ part-append block 0 4 (length block - 4)
    ∙ part-whole block (4 + (length block - 4)) (omega (arith, low))

small_mod : (x : ℕ) → x < 2 ^ 32 → x % 2 ^ 32 ≡ x
small_mod x small = omega (arith, small)

pub short_off : (at n other len m : ℕ) → m ≤ len → AreOff at n other len → AreOff at n other m
short_off at n other len m small (inl before) = inl before
short_off at n other len m small (inr after) = inr (omega (arith, small, after))

not_acked : (map : SourceMap) (memory : ℕ → ℕ) (block : List ℕ) (ack : Option AckRegister) → IsGood map.len block → IsAckApart map ack → IsClear ack memory
    → bytes_from (with_bytes memory map.block (take 4 block)) map.block (length block) ≡ block → acked map ack (with_bytes memory map.block (take 4 block)) ≡ false
not_acked map memory block None good apart clear there =
    let new : ℕ → ℕ = with_bytes memory map.block (take 4 block) in
    let s = status_is map.len new map.block block good there in
    let some : 0 < status_at map.block new = s.0 in
    ap (λ (x : ℕ). x == 0) (small_mod (status_at map.block new) s.1) ∙ ne_eqb (status_at map.block new) 0 (λ e. omega (arith, e, some))
not_acked map memory block (Some ack) good apart clear there =
    let low = good.fits.head in
    let high = good.fits.fits in
    let n : length (take 4 block) ≡ 4 = rw length-take (omega (arith, low)) in
    let off : AreOff (index_of ack.place) (octets ack.access) map.block (length (take 4 block)) =
    short_off (index_of ack.place) (octets ack.access) map.block map.len (length (take 4 block)) (omega (arith, n, low, high)) apart.1 in
    ap (λ (bs : List ℕ). bit_and (little bs) ack.set == ack.set) (far memory map.block (take 4 block) (index_of ack.place) (octets ack.access) off) ∙ clear

-- what was read says whether the guest has acknowledged
pub freed_is : (map : SourceMap) (ack : Option AckRegister) (memory : ℕ → ℕ) (value : ℕ) → IsRead (ack_asked map ack) memory value → frees ack value ≡ acked map ack memory
freed_is map None memory value read = ap (λ (x : ℕ). x % 2 ^ 32 == 0) read
freed_is map (Some at) memory value read = ap (λ (x : ℕ). bit_and x at.set == at.set) read

pub not_both : (t : Bool) → t ≡ true → t ≡ false → ⊥
not_both t one other = let e : true ≡ false = sym one ∙ other in absurd (let f : true ≡ false = e in cc)

waited : (map : SourceMap) (queue left : List (List ℕ)) (memory : ℕ → ℕ) (reader : Reader) (free : Bool) → acked map map.ack memory ≡ free → All (IsGood map.len) queue
    → IsOut map queue memory left reader
    → AreTogether map (if free then drop 1 queue else queue) memory left (if free then Fill 0 else Await) reader
waited map queue left memory reader false is good out = out
waited map [] left memory Looks true is good (inl shown) = absurd shown
waited map [] left memory Looks true is good (inr answered) = absurd answered.0
waited map (block ∷ rest) left memory Looks true is good (inl shown) = absurd (not_both (acked map map.ack memory) is shown.2)
waited map (block ∷ rest) left memory Looks true is good (inr answered) = (answered.0, none_yet map memory rest (All-drop (IsGood map.len) 1 (block ∷ rest) good))
waited map [] left memory (Copies copied) true is good out = absurd out.0
waited map (block ∷ rest) left memory (Copies copied) true is good out = absurd (not_both (acked map map.ack memory) is out.0.2)
waited map queue left memory Owes true is good out = absurd (not_both (acked map map.ack memory) is out.1)
waited map queue left memory (Answers read) true is good out = absurd (not_both (acked map map.ack memory) is out.1)

-- the next access
pub accessed : (map : SourceMap) (queue left : List (List ℕ)) (memory : ℕ → ℕ) (stage : Stage) (reader : Reader) (value : ℕ) → IsPlaced map → IsApart map → All (IsGood map.len) queue
    → IsRead (told_at map queue stage) memory value → AreTogether map queue memory left stage reader
    → AreTogether map (queue_after map queue stage value) (memory_after (told_at map queue stage) memory) left (stage_after map queue stage value) reader
accessed map queue left memory Hide Looks value placed apart good read at = (at.0, hidden memory map.block)
accessed map queue left memory Hide (Copies copied) value placed apart good read at = absurd (let e : Copies copied ≡ Looks = at.1 in cc)
accessed map queue left memory Hide Owes value placed apart good read at = absurd (let e : Owes ≡ Looks = at.1 in cc)
accessed map queue left memory Hide (Answers v) value placed apart good read at = absurd (let e : Answers v ≡ Looks = at.1 in cc)
accessed map queue left memory TellAddress reader value placed apart good read at =
    let where_to : ℕ = index_of map.address.place in
    let n : ℕ = octets map.address.access in
    let new : ℕ → ℕ = with_bytes memory where_to (spelled n (address_number map)) in
    told_then map queue left new map.ack reader (number_in_far map queue left memory where_to n (address_number map) reader placed.head apart.address at) (none_yet map new queue good)
accessed map queue left memory ReadFirst reader value placed apart good read at = subst (λ (m : ℕ → ℕ). IsIn map queue m left reader) (sym (read_keeps map.ack memory)) at
accessed map queue left memory (SetAck v) reader value placed apart good read at =
    (set_first map queue left memory map.ack v reader placed.head apart.ack at, none_yet map (memory_after (ack_set map.ack v) memory) queue good)
accessed map [] left memory (Fill piece) reader value placed apart good read at = at
accessed map (block ∷ rest) left memory (Fill piece) reader value placed apart good read at =
    let bytes : List ℕ = piece_of block piece in
    let new : ℕ → ℕ = with_bytes memory (map.block + piece_at piece) bytes in
    let inside = in_far map (block ∷ rest) left memory (map.block + piece_at piece) bytes reader (inl (omega (arith))) at.0 in
    by_last map left new block rest piece reader (nat_lt (piece_at (piece + 1)) (length block)) (is_more (piece_at (piece + 1)) (length block)) (is_less (piece_at (piece + 1)) (length block)) at.1.0
    inside (one_more map.block memory block piece at.1.1)
accessed map queue left memory ReadAck reader value placed apart good read at =
    subst (λ (m : ℕ → ℕ). IsIn map queue m left reader × AreAll map m queue) (sym (read_keeps map.ack memory)) at
accessed map queue left memory (ClearAck v) reader value placed apart good read at =
    (clear_in map queue left memory map.ack v reader placed.head apart.ack at.0, clear_all map queue memory map.ack v good apart.ack at.1, is_clear memory map.ack v placed.ack)
accessed map [] left memory Show reader value placed apart good read at = absurd at.1
accessed map (block ∷ rest) left memory Show Looks value placed apart good read at =
    let one = good 0 block (omega (arith)) in
    let there = shown_block map.block memory block one.fits.head at.1 in
    inl (at.0.0, there, not_acked map memory block map.ack one apart.ack at.2 there)
accessed map (block ∷ rest) left memory Show (Copies copied) value placed apart good read at = absurd at.0
accessed map (block ∷ rest) left memory Show Owes value placed apart good read at = absurd at.0
accessed map (block ∷ rest) left memory Show (Answers v) value placed apart good read at = absurd at.0
accessed map queue left memory Notify reader value placed apart good read at = at
accessed map queue left memory Await reader value placed apart good read at =
    let is = freed_is map map.ack memory value read in
    let out = subst (λ (m : ℕ → ℕ). IsOut map queue m left reader) (sym (asked_keeps map map.ack memory)) at in
    let new : ℕ → ℕ = memory_after (ack_asked map map.ack) memory in
    waited map queue left new reader (frees map.ack value) (sym (is ∙ ap (acked map map.ack) (sym (asked_keeps map map.ack memory)))) good out
