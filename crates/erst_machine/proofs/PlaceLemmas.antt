-- An area's bytes are found in it, each at its index, and of the areas of memory one alone may have the byte of an address.
use Rattle.std.proofs.Common.{◌≡◌, ℕ, ◌+◌, ◌-◌, ◌<◌, ◌≤◌, ◌⊎◌, Bool, true, false, List, [], ◌∷◌, ◌++◌, Some, None, inl, inr, refl, ap, ◌∙◌, arith}
use Rattle.std.specs.Prelude.{unwrap_or, nat_le, if◌then◌else◌, Option}
use Rattle.std.proofs.lemmas.Bool.Decides.{nat_tests}
use Rattle.apei_space.specs.Mapped.{further}
use Rattle.erst_machine.specs.declared.areas.Area.{Area}
use Rattle.erst_machine.specs.declared.areas.Area.TheVariants.{Device, Scratch, LogRange, Handover, BootErrors, Ports}
use Rattle.erst_machine.specs.declared.areas.Location.{Location}
use Rattle.erst_machine.specs.declared.areas.Location.TheVariants.{Inside, Beyond, Nowhere}
use Rattle.erst_machine.specs.Areas.{base_of, size_of, holds, area_location, first_location, place_location, place_of}
use Rattle.apei_tables.specs.declared.registers.Place.TheVariants.{Memory}
use Rattle.erst_machine.proofs.Words.{within}

ends_in : (area : Area) (base size k n : ℕ) (ends : Bool) → nat_le (base + k + n) (base + size) ≡ ends → k + n ≤ size →
    (if ends then Inside area (base + k - base) else Beyond area (base + size)) ≡ Inside area k
ends_in area base size k n true is fits = ap (λ (x : ℕ). Inside area x) (omega arith)
ends_in area base size k n false is fits = grind (arith, nat_tests)

held_in : (area : Area) (base size k n : ℕ) (held : Bool) → holds base size (base + k) ≡ held → 0 < n → k + n ≤ size →
    (if held then Some (within area base size (base + k) n) else None) ≡ Some (Inside area k)
held_in area base size k n true is some fits = ap (λ (x : Location). Some x) (ends_in area base size k n _ refl fits)
held_in area base size k n false is some fits = grind (arith, nat_tests)

area_in : (reach : ℕ) (area : Area) (k n : ℕ) → 0 < n → k + n ≤ size_of reach area → area_location reach area (base_of area + k) n ≡ Some (Inside area k)
area_in reach area k n some fits = held_in area (base_of area) (size_of reach area) k n _ refl some fits

held_out : (area : Area) (base size at n : ℕ) (held : Bool) → holds base size at ≡ held → (at < base) ⊎ (base + size ≤ at) →
    (if held then Some (within area base size at n) else None) ≡ None
held_out area base size at n true is (inl before) = grind (arith, nat_tests)
held_out area base size at n true is (inr behind) = grind (arith, nat_tests)
held_out area base size at n false is out = refl

area_out : (reach : ℕ) (area : Area) (at n : ℕ) → (at < base_of area) ⊎ (base_of area + size_of reach area ≤ at) → area_location reach area at n ≡ None
area_out reach area at n out = held_out area (base_of area) (size_of reach area) at n _ refl out

take : (o : Option Location) (location rest : Location) → o ≡ Some location → unwrap_or o rest ≡ location
take o location rest is = ap (λ (o : Option Location). unwrap_or o rest) is

skip : (o : Option Location) (location rest : Location) → o ≡ None → rest ≡ location → unwrap_or o rest ≡ location
skip o location rest is next = ap (λ (o : Option Location). unwrap_or o rest) is ∙ next

not_none : (none : Bool) (location rest : Location) → (none ≡ true → ⊥) → rest ≡ location → (if none then Inside Scratch 0 else rest) ≡ location
not_none true location rest not is = absurd (not refl)
not_none false location rest not is = is

-- areas that do not have the byte of an address
abbrev AreOut : ℕ → ℕ → List Area → Type 0
AreOut reach at [] = Unit {0}
AreOut reach at (area ∷ areas) = ((at < base_of area) ⊎ (base_of area + size_of reach area ≤ at)) × AreOut reach at areas

none_of : (reach at n : ℕ) (areas : List Area) → AreOut reach at areas → first_location reach areas at n ≡ Nowhere at
none_of reach at n [] out = refl
none_of reach at n (area ∷ areas) out = skip _ _ _ (area_out reach area at n out.0) (none_of reach at n areas out.1)

one_of : (reach at n : ℕ) (before : List Area) (area : Area) (behind : List Area) → AreOut reach at before → AreOut reach at behind →
    first_location reach (before ++ area ∷ behind) at n ≡ unwrap_or (area_location reach area at n) (Nowhere at)
one_of reach at n [] area behind out rest = ap (λ (location : Location). unwrap_or (area_location reach area at n) location) (none_of reach at n behind rest)
one_of reach at n (other ∷ before) area behind out rest = skip _ _ _ (area_out reach other at n out.0) (one_of reach at n before area behind out.1 rest)

pub around_scratch : (at reach n : ℕ) → at < 0x100000 → reach ≤ 65536 → 0 < n → place_location reach (Memory at) n ≡ unwrap_or (area_location reach Scratch at n) (Nowhere at)
around_scratch at reach n below small some = not_none _ _ _ (λ is. grind (arith, nat_tests))
    (one_of reach at n (Device ∷ []) Scratch (Handover ∷ BootErrors ∷ LogRange ∷ []) (inl (omega arith), tt) (inl (omega arith), (inl (omega arith), (inl (omega arith), tt))))

pub around_range : (at reach n : ℕ) → 0x100000 ≤ at → at < 0x200000 → reach ≤ 65536 → 0 < n → place_location reach (Memory at) n ≡ unwrap_or (area_location reach LogRange at n) (Nowhere at)
around_range at reach n from below small some = not_none _ _ _ (λ is. grind (arith, nat_tests))
    (one_of reach at n (Device ∷ Scratch ∷ Handover ∷ BootErrors ∷ []) LogRange [] (inl (omega arith), (inr (omega arith), (inl (omega arith), (inl (omega arith), tt)))) tt)

pub around_device : (at reach n : ℕ) → 0x200000 ≤ at → at < 0x300000 → reach ≤ 65536 → 0 < n → place_location reach (Memory at) n ≡ unwrap_or (area_location reach Device at n) (Nowhere at)
around_device at reach n from below small some = not_none _ _ _ (λ is. grind (arith, nat_tests))
    (one_of reach at n [] Device (Scratch ∷ Handover ∷ BootErrors ∷ LogRange ∷ []) tt (inr (omega arith), (inl (omega arith), (inl (omega arith), (inr (omega arith), tt)))))

pub around_handover : (at reach n : ℕ) → 0x300000 ≤ at → at < 0x400000 → reach ≤ 65536 → 0 < n → place_location reach (Memory at) n ≡ unwrap_or (area_location reach Handover at n) (Nowhere at)
around_handover at reach n from below small some = not_none _ _ _ (λ is. grind (arith, nat_tests))
    (one_of reach at n (Device ∷ Scratch ∷ []) Handover (BootErrors ∷ LogRange ∷ []) (inr (omega arith), (inr (omega arith), tt)) (inl (omega arith), (inr (omega arith), tt)))

pub around_errors : (at reach n : ℕ) → 0x400000 ≤ at → reach ≤ 65536 → 0 < n → place_location reach (Memory at) n ≡ unwrap_or (area_location reach BootErrors at n) (Nowhere at)
around_errors at reach n from small some = not_none _ _ _ (λ is. grind (arith, nat_tests))
    (one_of reach at n (Device ∷ Scratch ∷ Handover ∷ []) BootErrors (LogRange ∷ []) (inr (omega arith), (inr (omega arith), (inr (omega arith), tt))) (inr (omega arith), tt))

pub area_found : (reach : ℕ) (area : Area) (k n : ℕ) → reach ≤ 65536 → 0 < n → k + n ≤ size_of reach area → place_location reach (further (place_of area) k) n ≡ Inside area k
area_found reach Device k n small some fits = around_device (0x200000 + k) reach n (omega arith) (omega arith) small some ∙ take _ _ _ (area_in reach Device k n some fits)
area_found reach Scratch k n small some fits = around_scratch (0x1000 + k) reach n (omega arith) small some ∙ take _ _ _ (area_in reach Scratch k n some fits)
area_found reach Handover k n small some fits = around_handover (0x300000 + k) reach n (omega arith) (omega arith) small some ∙ take _ _ _ (area_in reach Handover k n some fits)
area_found reach BootErrors k n small some fits = around_errors (0x400000 + k) reach n (omega arith) small some ∙ take _ _ _ (area_in reach BootErrors k n some fits)
area_found reach LogRange k n small some fits = around_range (0x100000 + k) reach n (omega arith) (omega arith) small some ∙ take _ _ _ (area_in reach LogRange k n some fits)
area_found reach Ports k n small some fits = take _ _ _ (area_in reach Ports k n some fits)
