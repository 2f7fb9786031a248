-- What a store at a place of the memory leaves there and elsewhere.
use Rattle.std.proofs.Common.{◌≡◌, ◌∙◌, ℕ, ◌+◌, ◌-◌, ◌^◌, ◌<◌, ◌≤◌, ◌⊎◌, inl, inr, List, [], ◌∷◌, ◌++◌, length, take, drop, Result, sym, ap, subst, arith, append_assoc}
use Rattle.std.proofs.lemmas.List.{take-append-drop, drop-drop, drop-take, take-take}
use Rattle.base_model.specs.Bytes.{part, put_at}
use Rattle.base_model.proofs.BytesLemmas.{length-part, length-put_at, part-put_at, part-before, part-after, SameOutside-put_at}
use Rattle.apei_tables.specs.declared.registers.Place.{Place}
use Rattle.apei_tables.specs.declared.registers.Place.TheVariants.{Memory, Io}
use Rattle.apei_space.specs.declared.faults.SpaceFault.{SpaceFault}
use Rattle.apei_space.specs.declared.windows.Window.{Window}
use Rattle.apei_space.specs.Windows.{EndsBelow, AreApart}
use Rattle.apei_space.specs.RamState.{RamState, FillsWindows, located, stored}
use Rattle.apei_space.specs.Mapped.{Holds, IsMapped, AreMapped, AreDisjoint}
use Rattle.apei_space.proofs.Placed.{IsPlaced, placed, placed_fits, placed_apart}
use Rattle.ghes_ack.specs.Places.{bytes_at}
use Rattle.ghes_ack.proofs.Terms.{bytes_in}
use Rattle.ghes_ack.proofs.PieceLemmas.{take_part}

regroup : (t a p b d : List ℕ) → t ++ (a ++ p ++ b) ++ d ≡ (t ++ a) ++ p ++ (b ++ d)
regroup t a p b d =
    append_assoc t (a ++ p ++ b) d
    ∙ ap (λ (x : List ℕ). t ++ x) (append_assoc (a ++ p) b d ∙ append_assoc a p (b ++ d))
    ∙ sym (append_assoc t a (p ++ (b ++ d)))
    ∙ sym (append_assoc (t ++ a) p (b ++ d))

-- a write into a part is a write into the whole
pub put_part : (bytes : List ℕ) (s len k : ℕ) (p : List ℕ) → s + len ≤ length bytes → k + length p ≤ len →
    put_at bytes s (put_at (part bytes s len) k p) ≡ put_at bytes (s + k) p
unfolding put_at part
put_part bytes s len k p fits inside =
    let whole : length (put_at (part bytes s len) k p) ≡ len = length-put_at (part bytes s len) k p (rw (length-part bytes s len fits) inside) ∙ length-part bytes s len fits in
    let j : ℕ = k + length p in
    let m : ℕ = len - j in
    let sum : j + m ≡ len = omega (arith, inside) in
    let front : take k (part bytes s len) ≡ part bytes s k = take-take k len (drop s bytes) (omega (arith, inside)) in
    let back : drop j (part bytes s len) ≡ take m (drop (s + j) bytes) =
    ap (λ (n : ℕ). drop j (take n (drop s bytes))) (sym sum) ∙ drop-take j m (drop s bytes) ∙ ap (take m) (drop-drop j s bytes) in
    let far : drop (s + length (put_at (part bytes s len) k p)) bytes ≡ drop m (drop (s + j) bytes) =
    ap (λ (n : ℕ). drop n bytes) (omega (arith, whole, sum)) ∙ sym (drop-drop m (s + j) bytes) in
    let place : s + j ≡ s + k + length p = omega arith in
    regroup (take s bytes) (take k (part bytes s len)) p (drop j (part bytes s len)) (drop (s + length (put_at (part bytes s len) k p)) bytes)
    ∙ ap (λ (x : List ℕ). (take s bytes ++ x) ++ p ++ (drop j (part bytes s len) ++ drop (s + length (put_at (part bytes s len) k p)) bytes)) front
    ∙ ap (λ (x : List ℕ). x ++ p ++ (drop j (part bytes s len) ++ drop (s + length (put_at (part bytes s len) k p)) bytes)) (take_part bytes s k)
    ∙ ap (λ (x : List ℕ). take (s + k) bytes ++ p ++ (x ++ drop (s + length (put_at (part bytes s len) k p)) bytes)) back
    ∙ ap (λ (x : List ℕ). take (s + k) bytes ++ p ++ (take m (drop (s + j) bytes) ++ x)) far
    ∙ ap (λ (x : List ℕ). take (s + k) bytes ++ p ++ x) (take-append-drop m (drop (s + j) bytes))
    ∙ ap (λ (n : ℕ). take (s + k) bytes ++ p ++ drop n bytes) place

-- the last byte of a window stands below the last address
pub held_ends : (windows : List Window) (at : ℕ) → AreApart windows → IsMapped windows (Memory at) → at + 1 < 2 ^ 64
held_ends [] at apart mapped = absurd mapped
held_ends (first ∷ windows) at apart (inl here) = of_place first.place first.len apart.0 here where
  of_place : (place : Place) (n : ℕ) → EndsBelow place n → Holds place n (Memory at) → at + 1 < 2 ^ 64
  of_place (Memory base) n ends held = let h = held.1 in omega (arith, ends, h)
  of_place (Io base) n ends held = absurd held
held_ends (first ∷ windows) at apart (inr later) = held_ends windows at apart.2 later

-- bytes that are placed: what they are, and what a store of as many leaves
pub bytes_placed : (ram : RamState) (at : Place) (n s : ℕ) → IsPlaced ram.windows at n s → bytes_at ram at n ≡ part ram.bytes s n
bytes_placed ram at n s p = ap (λ (r : Result ℕ SpaceFault). bytes_in r ram.bytes n) p.found_at

pub stored_placed : (ram : RamState) (at : Place) (n s : ℕ) (bytes : List ℕ) → IsPlaced ram.windows at n s → stored (located ram.windows at n) ram bytes
    ≡ record ram { bytes = put_at ram.bytes s bytes }
stored_placed ram at n s bytes p = ap (λ (r : Result ℕ SpaceFault). stored r ram bytes) p.found_at

pub fits_in : (ram : RamState) (at : Place) (n s : ℕ) → FillsWindows ram → IsPlaced ram.windows at n s → s + n ≤ length ram.bytes
fits_in ram at n s fills p = let f = placed_fits ram.windows at n s fills.apart p in let e = fills.as_long in omega (arith, f, e)

pub length-bytes_at : (ram : RamState) (at : Place) (n s : ℕ) → FillsWindows ram → IsPlaced ram.windows at n s → length (bytes_at ram at n) ≡ n
length-bytes_at ram at n s fills p = ap length (bytes_placed ram at n s p) ∙ length-part ram.bytes s n (fits_in ram at n s fills p)

-- the stored bytes are read back
pub bytes-stored : (ram : RamState) (at : Place) (n s : ℕ) (bytes : List ℕ) → FillsWindows ram → IsPlaced ram.windows at n s → length bytes ≡ n →
    bytes_at (stored (located ram.windows at n) ram bytes) at n ≡ bytes
bytes-stored ram at n s bytes fills p is =
    let fits = fits_in ram at n s fills p in
    ap (λ (r : RamState). bytes_at r at n) (stored_placed ram at n s bytes p)
    ∙ bytes_placed (record ram { bytes = put_at ram.bytes s bytes }) at n s p
    ∙ ap (part (put_at ram.bytes s bytes) s) (sym is)
    ∙ part-put_at ram.bytes s bytes (omega (arith, is, fits))

part-other : (bytes : List ℕ) (s : ℕ) (others : List ℕ) (t m : ℕ) → s + length others ≤ length bytes → (s + length others ≤ t) ⊎ (t + m ≤ s) → part (put_at bytes s others) t m ≡ part bytes t m
part-other bytes s others t m fits (inl h) = part-after s (length others) t m bytes (put_at bytes s others) (SameOutside-put_at bytes s others fits) h
part-other bytes s others t m fits (inr h) = part-before s (length others) t m bytes (put_at bytes s others) (SameOutside-put_at bytes s others fits) h

-- other bytes stay
pub bytes-stored_apart : (ram : RamState) (at : Place) (n s : ℕ) (bytes : List ℕ) (other : Place) (m t : ℕ) → FillsWindows ram → IsPlaced ram.windows at n s → length bytes ≡ n →
    IsPlaced ram.windows other m t → 0 < n → 0 < m → AreDisjoint at n other m → bytes_at (stored (located ram.windows at n) ram bytes) other m ≡ bytes_at ram other m
bytes-stored_apart ram at n s bytes other m t fills p is q some more apart =
    let fits = fits_in ram at n s fills p in
    ap (λ (r : RamState). bytes_at r other m) (stored_placed ram at n s bytes p)
    ∙ bytes_placed (record ram { bytes = put_at ram.bytes s bytes }) other m t q
    ∙ part-other ram.bytes s bytes t m (omega (arith, is, fits))
    (subst (λ (k : ℕ). (s + k ≤ t) ⊎ (t + m ≤ s)) (sym is) (placed_apart ram.windows at n s other m t some more p q apart))
    ∙ sym (bytes_placed ram other m t q)

swapped : {A B : Type 0} → A ⊎ B → B ⊎ A
swapped (inl a) = inr a
swapped (inr b) = inl b

pub disjoint_sym : (p : Place) (n : ℕ) (q : Place) (m : ℕ) → AreDisjoint p n q m → AreDisjoint q m p n
disjoint_sym (Memory a) n (Memory b) m d = swapped d
disjoint_sym (Io a) n (Io b) m d = swapped d
disjoint_sym (Memory a) n (Io b) m d = tt
disjoint_sym (Io a) n (Memory b) m d = tt

-- the same of bytes that are mapped
pub mapped_back : (ram : RamState) (at : Place) (n : ℕ) (bytes : List ℕ) → FillsWindows ram → AreMapped ram.windows at n → 0 < n → length bytes ≡ n →
    bytes_at (stored (located ram.windows at n) ram bytes) at n ≡ bytes
mapped_back ram at n bytes fills here some is = let p = placed ram.windows at n fills.apart some here in bytes-stored ram at n p.0 bytes fills p.1 is

pub mapped_apart : (ram : RamState) (at : Place) (n : ℕ) (bytes : List ℕ) (other : Place) (m : ℕ) → FillsWindows ram → AreMapped ram.windows at n → 0 < n → length bytes ≡ n →
    AreMapped ram.windows other m → 0 < m → AreDisjoint at n other m → bytes_at (stored (located ram.windows at n) ram bytes) other m ≡ bytes_at ram other m
mapped_apart ram at n bytes other m fills here some is there more apart =
    let p = placed ram.windows at n fills.apart some here in
    let q = placed ram.windows other m fills.apart more there in
    bytes-stored_apart ram at n p.0 bytes other m q.0 fills p.1 is q.1 some more apart
