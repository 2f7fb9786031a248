-- What an access finds, byte by byte.
use Rattle.std.proofs.Common.{◌≡◌, ℕ, ◌+◌, ◌-◌, ◌<◌, ◌≤◌, Bool, true, false, Some, None, refl, sym, subst, arith, inl, inr}
use Rattle.std.specs.Prelude.{unwrap_or, nat_le, if◌then◌else◌}
use Rattle.std.proofs.lemmas.Bool.Decides.{nat_tests}
use Rattle.apei_tables.specs.declared.registers.Place.{Place}
use Rattle.apei_tables.specs.declared.registers.Place.TheVariants.{Memory, Io}
use Rattle.apei_space.specs.Mapped.{IsMapped, FindsBytes}
use Rattle.erst_machine.specs.declared.areas.Area.{Area}
use Rattle.erst_machine.specs.declared.areas.Area.TheVariants.{Device, Scratch, LogRange, Handover, BootErrors, Ports}
use Rattle.erst_machine.specs.declared.areas.Location.{Location}
use Rattle.erst_machine.specs.declared.areas.Location.TheVariants.{Inside, Beyond, Nowhere}
use Rattle.erst_machine.specs.Areas.{base_of, size_of, holds, first_location, place_location, all_windows, finds}
use Rattle.erst_machine.proofs.Words.{memory_areas, within}

-- an area has the byte of an address
abbrev Has : ℕ → Area → ℕ → Type 0
Has reach area at = (base_of area ≤ at) × (at < base_of area + size_of reach area)

abbrev IsMemory : Area → Type 0
IsMemory Ports = ⊥
IsMemory area = Unit {0}

mapped : (reach : ℕ) (area : Area) (at : ℕ) → IsMemory area → Has reach area at → IsMapped (all_windows reach) (Memory at)
mapped reach Device at memory has = inl has
mapped reach Scratch at memory has = inr (inl has)
mapped reach LogRange at memory has = inr (inr (inl has))
mapped reach Handover at memory has = inr (inr (inr (inl has)))
mapped reach BootErrors at memory has = inr (inr (inr (inr (inl has))))
mapped reach Ports at memory has = absurd memory

not_mapped : (reach at : ℕ) → (Has reach Device at → ⊥) → (Has reach Scratch at → ⊥) → (Has reach LogRange at → ⊥) → (Has reach Handover at → ⊥) → (Has reach BootErrors at → ⊥) →
    IsMapped (all_windows reach) (Memory at) → ⊥
not_mapped reach at a b c d e (inl has) = a has
not_mapped reach at a b c d e (inr (inl has)) = b has
not_mapped reach at a b c d e (inr (inr (inl has))) = c has
not_mapped reach at a b c d e (inr (inr (inr (inl has)))) = d has
not_mapped reach at a b c d e (inr (inr (inr (inr (inl has))))) = e has
not_mapped reach at a b c d e (inr (inr (inr (inr (inr (inl none)))))) = none
not_mapped reach at a b c d e (inr (inr (inr (inr (inr (inr none)))))) = none

-- no area begins where another ends
end_not_mapped : (reach : ℕ) (area : Area) → IsMemory area → reach ≤ 65536 → IsMapped (all_windows reach) (Memory (base_of area + size_of reach area)) → ⊥
end_not_mapped reach Device memory small = not_mapped reach _ (λ has. absurd (omega arith)) (λ has. absurd (omega arith)) (λ has. absurd (omega arith))
    (λ has. absurd (omega arith)) (λ has. absurd (omega arith))
end_not_mapped reach Scratch memory small = not_mapped reach _ (λ has. absurd (omega arith)) (λ has. absurd (omega arith)) (λ has. absurd (omega arith))
    (λ has. absurd (omega arith)) (λ has. absurd (omega arith))
end_not_mapped reach LogRange memory small = not_mapped reach _ (λ has. absurd (omega arith)) (λ has. absurd (omega arith)) (λ has. absurd (omega arith))
    (λ has. absurd (omega arith)) (λ has. absurd (omega arith))
end_not_mapped reach Handover memory small = not_mapped reach _ (λ has. absurd (omega arith)) (λ has. absurd (omega arith)) (λ has. absurd (omega arith))
    (λ has. absurd (omega arith)) (λ has. absurd (omega arith))
end_not_mapped reach BootErrors memory small = not_mapped reach _ (λ has. absurd (omega arith)) (λ has. absurd (omega arith)) (λ has. absurd (omega arith))
    (λ has. absurd (omega arith)) (λ has. absurd (omega arith))
end_not_mapped reach Ports memory small = absurd memory

abbrev Found : ℕ → ℕ → ℕ → Location → Type 0
Found reach at n location = FindsBytes (all_windows reach) (Memory at) n (finds location)

within_finds : (reach : ℕ) (area : Area) (at n : ℕ) (ends : Bool) → nat_le (at + n) (base_of area + size_of reach area) ≡ ends → IsMemory area → reach ≤ 65536 → Has reach area at →
    Found reach at n (if ends then Inside area (at - base_of area) else Beyond area (base_of area + size_of reach area))
within_finds reach area at n true is memory small has = λ k below.
    let fits : at + n ≤ base_of area + size_of reach area = grind (arith, nat_tests) in mapped reach area (at + k) memory (omega arith, omega arith)
within_finds reach area at n false is memory small has =
    let over : base_of area + size_of reach area < at + n = grind (arith, nat_tests) in
    let k : ℕ = base_of area + size_of reach area - at in
    let place : at + k ≡ base_of area + size_of reach area = omega arith in (
      k,
      record {
        within = omega arith;
        address_is = sym place;
        unmapped = subst (λ (x : ℕ). IsMapped (all_windows reach) (Memory x) → ⊥) (sym place) (end_not_mapped reach area memory small);
        mapped_before = λ j before. mapped reach area (at + j) memory (omega arith, omega arith);
      },
    )

area_finds : (reach : ℕ) (area : Area) (at n : ℕ) (rest : Location) (held : Bool) → holds (base_of area) (size_of reach area) at ≡ held → IsMemory area → reach ≤ 65536 →
    ((Has reach area at → ⊥) → Found reach at n rest) →
    Found reach at n (unwrap_or (if held then Some (within area (base_of area) (size_of reach area) at n) else None) rest)
area_finds reach area at n rest true is memory small other =
    let from : base_of area ≤ at = grind (arith, nat_tests) in
    let below : at < base_of area + size_of reach area = grind (arith, nat_tests) in
    within_finds reach area at n _ refl memory small (from, below)
area_finds reach area at n rest false is memory small other = other (λ has. let from : base_of area ≤ at = has.0 in let below : at < base_of area + size_of
    reach area = has.1 in grind (arith, nat_tests))

nowhere_finds : (reach at n : ℕ) → 0 < n → (IsMapped (all_windows reach) (Memory at) → ⊥) → Found reach at n (Nowhere at)
nowhere_finds reach at n some none = (
  0,
  record {
    within = some;
    address_is = omega arith;
    unmapped = subst (λ (x : ℕ). IsMapped (all_windows reach) (Memory x) → ⊥) (omega arith) none;
    mapped_before = λ j before. absurd (omega arith);
  },
)

first_finds : (reach at n : ℕ) → reach ≤ 65536 → 0 < n → Found reach at n (first_location reach memory_areas at n)
first_finds reach at n small some =
    area_finds reach Device at n _ _ refl tt small (λ device.
    area_finds reach Scratch at n _ _ refl tt small (λ scratch.
    area_finds reach Handover at n _ _ refl tt small (λ handover.
    area_finds reach BootErrors at n _ _ refl tt small (λ errors.
    area_finds reach LogRange at n _ _ refl tt small (λ range.
    nowhere_finds reach at n some (not_mapped reach at device scratch range handover errors))))))

some_finds : (reach at n : ℕ) (none : Bool) → (none ≡ true → ⊥) → reach ≤ 65536 → 0 < n → Found reach at n (if none then Inside Scratch 0 else first_location reach memory_areas at n)
some_finds reach at n true not small some = absurd (not refl)
some_finds reach at n false not small some = first_finds reach at n small some

abbrev PortFound : ℕ → ℕ → ℕ → Location → Type 0
PortFound reach at n location = FindsBytes (all_windows reach) (Io at) n (finds location)

port_mapped : (reach at : ℕ) → Has reach Ports at → IsMapped (all_windows reach) (Io at)
port_mapped reach at has = inr (inr (inr (inr (inr (inl has)))))

port_not : (reach at : ℕ) → (Has reach Ports at → ⊥) → IsMapped (all_windows reach) (Io at) → ⊥
port_not reach at a (inl none) = none
port_not reach at a (inr (inl none)) = none
port_not reach at a (inr (inr (inl none))) = none
port_not reach at a (inr (inr (inr (inl none)))) = none
port_not reach at a (inr (inr (inr (inr (inl none))))) = none
port_not reach at a (inr (inr (inr (inr (inr (inl has)))))) = a has
port_not reach at a (inr (inr (inr (inr (inr (inr none)))))) = none

port_within : (reach at n : ℕ) (ends : Bool) → nat_le (at + n) (0x500 + 16) ≡ ends → Has reach Ports at → PortFound reach at n (if ends then Inside Ports (at - 0x500) else Beyond Ports (0x500 + 16))
port_within reach at n true is has = λ k below. let fits : at + n ≤ 0x500 + 16 = grind (arith, nat_tests) in port_mapped reach (at + k) (omega arith, omega arith)
port_within reach at n false is has =
    let over : 0x500 + 16 < at + n = grind (arith, nat_tests) in
    let k : ℕ = 0x500 + 16 - at in
    let place : at + k ≡ 0x500 + 16 = omega arith in (
      k,
      record {
        within = omega arith;
        address_is = sym place;
        unmapped = subst (λ (x : ℕ). IsMapped (all_windows reach) (Io x) → ⊥) (sym place) (port_not reach (0x500 + 16) (λ has. absurd (omega arith)));
        mapped_before = λ j before. port_mapped reach (at + j) (omega arith, omega arith);
      },
    )

port_finds : (reach at n : ℕ) (held : Bool) → holds 0x500 16 at ≡ held → 0 < n → PortFound reach at n (unwrap_or (if held then Some (within Ports 0x500 16 at n) else None) (Nowhere at))
port_finds reach at n true is some =
    let from : 0x500 ≤ at = grind (arith, nat_tests) in
    let below : at < 0x500 + 16 = grind (arith, nat_tests) in
    port_within reach at n _ refl (from, below)
port_finds reach at n false is some = (
  0,
  record {
    within = some;
    address_is = omega arith;
    unmapped = subst (λ (x : ℕ). IsMapped (all_windows reach) (Io x) → ⊥) (omega arith)
        (port_not reach at (λ has. let from : 0x500 ≤ at = has.0 in let below : at < 0x500 + 16 = has.1 in grind (arith, nat_tests)));
    mapped_before = λ j before. absurd (omega arith);
  },
)

pub place_finds : (reach : ℕ) (at : Place) (n : ℕ) → reach ≤ 65536 → 0 < n → FindsBytes (all_windows reach) at n (finds (place_location reach at n))
place_finds reach (Memory at) n small some = some_finds reach at n _ (λ is. grind (arith, nat_tests)) small some
place_finds reach (Io at) n small some = port_finds reach at n _ refl some
