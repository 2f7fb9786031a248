-- An access is refused at its first byte that no window holds.
use Rattle.std.proofs.Common.{◌≡◌, ℕ, ◌+◌, ◌-◌, ◌<◌, ◌≤◌, ◌⊎◌, Bool, cond, List, [], ◌∷◌, Option, Some, None, Result, Ok, Err, refl, sym, ap, subst, arith, inl, inr}
use Rattle.std.proofs.lemmas.Bool.{cases_lt, cases_eq, le-leb, lt-leb, eq-eqb, ne_eqb}
use Rattle.apei_tables.specs.declared.registers.Place.{Place}
use Rattle.apei_tables.specs.declared.registers.Place.TheVariants.{Memory, Io}
use Rattle.apei_space.specs.declared.windows.Window.{Window}
use Rattle.apei_space.specs.Windows.{address_of, room_in, room_from, room, location, IsApart, IsApartFrom, AreApart}
use Rattle.apei_space.specs.RamState.{found}
use Rattle.apei_space.specs.Mapped.{Holds, IsMapped, further, FindsBytes}
use Rattle.apei_space.proofs.Terms.{within}

-- n bytes from a base on end at a place
abbrev EndsAt : Place → ℕ → Place → Type 0
EndsAt (Memory base) n (Memory at) = at ≡ base + n
EndsAt (Io base) n (Io at) = at ≡ base + n
EndsAt (Memory base) n (Io at) = ⊥
EndsAt (Io base) n (Memory at) = ⊥

-- one of some windows ends there
abbrev OneEndsAt : List Window → Place → Type 0
OneEndsAt [] at = ⊥
OneEndsAt (window ∷ windows) at = EndsAt window.place window.len at ⊎ OneEndsAt windows at

pub room_in-none : (base n at : ℕ) → room_in base n at ≡ 0 → base ≤ at → at < base + n → ⊥
room_in-none base n at none low high =
    let all : room_in base n at ≡ n - (at - base) = ap (λ (b : Bool). cond b (n - (at - base)) 0) (le-leb base at low) in
    omega arith

pub room_in-some : (base n at r : ℕ) → room_in base n at ≡ r → 0 < r → (base ≤ at) × (at + r ≡ base + n)
room_in-some base n at r is some = elim (cases_lt at base) [
  | inl low ↦
      let none : room_in base n at ≡ 0 = ap (λ (b : Bool). cond b (n - (at - base)) 0) (lt-leb base at low) in
      absurd (omega arith)
  | inr high ↦
      let all : room_in base n at ≡ n - (at - base) = ap (λ (b : Bool). cond b (n - (at - base)) 0) (le-leb base at high) in
      (high, omega arith)
]

-- a window with no room from a place on does not hold it
pub unheld : (place : Place) (n : ℕ) (at : Place) → room_from place n at ≡ 0 → Holds place n at → ⊥
unheld (Memory base) n (Memory at) none held = room_in-none base n at none held.0 held.1
unheld (Io base) n (Io at) none held = room_in-none base n at none held.0 held.1
unheld (Memory base) n (Io at) none held = held
unheld (Io base) n (Memory at) none held = held

-- a window with room from a place on holds so many bytes and ends there
pub held : (place : Place) (n : ℕ) (at : Place) (r k : ℕ) → room_from place n at ≡ r → 0 < r → k < r → Holds place n (further at k)
held (Memory base) n (Memory at) r k is some h = let has = room_in-some base n at r is some in let low : base ≤ at = has.0 in let all : at + r ≡ base + n = has.1 in (omega arith, omega arith)
held (Io base) n (Io at) r k is some h = let has = room_in-some base n at r is some in let low : base ≤ at = has.0 in let all : at + r ≡ base + n = has.1 in (omega arith, omega arith)
held (Memory base) n (Io at) r k is some h = absurd (let e : 0 ≡ r = is in omega arith)
held (Io base) n (Memory at) r k is some h = absurd (let e : 0 ≡ r = is in omega arith)

ended : (place : Place) (n : ℕ) (at : Place) (r : ℕ) → room_from place n at ≡ r → 0 < r → EndsAt place n (further at r)
ended (Memory base) n (Memory at) r is some = (room_in-some base n at r is some).1
ended (Io base) n (Io at) r is some = (room_in-some base n at r is some).1
ended (Memory base) n (Io at) r is some = absurd (let e : 0 ≡ r = is in omega arith)
ended (Io base) n (Memory at) r is some = absurd (let e : 0 ≡ r = is in omega arith)

-- no window holds its own end, nor that of one that it does not touch
own_end : (place : Place) (n : ℕ) (at : Place) → EndsAt place n at → Holds place n at → ⊥
own_end (Memory base) n (Memory at) ends held = let low : base ≤ at = held.0 in let high : at < base + n = held.1 in let e : at ≡ base + n = ends in omega arith
own_end (Io base) n (Io at) ends held = let low : base ≤ at = held.0 in let high : at < base + n = held.1 in let e : at ≡ base + n = ends in omega arith
own_end (Memory base) n (Io at) ends held = ends
own_end (Io base) n (Memory at) ends held = ends

apart_end : (base n other m at : ℕ) → ((base + n < other) ⊎ (other + m < base)) → at ≡ other + m → base ≤ at → at < base + n → ⊥
apart_end base n other m at apart e low high = elim apart [
  | inl before ↦ omega arith
  | inr behind ↦ omega arith
]

other_end : (place : Place) (n : ℕ) (other : Place) (m : ℕ) (at : Place) → IsApart place n other m → EndsAt other m at → Holds place n at → ⊥
other_end (Memory base) n (Memory other) m (Memory at) apart ends held = apart_end base n other m at apart ends held.0 held.1
other_end (Io base) n (Io other) m (Io at) apart ends held = apart_end base n other m at apart ends held.0 held.1
other_end (Memory base) n (Io other) m (Memory at) apart ends held = ends
other_end (Io base) n (Memory other) m (Io at) apart ends held = ends
other_end (Memory base) n other m (Io at) apart ends held = held
other_end (Io base) n other m (Memory at) apart ends held = held

flipped : (place : Place) (n : ℕ) (other : Place) (m : ℕ) → IsApart place n other m → IsApart other m place n
flipped (Memory base) n (Memory other) m apart = elim apart [ inl before ↦ inr before | inr behind ↦ inl behind ]
flipped (Io base) n (Io other) m apart = elim apart [ inl before ↦ inr before | inr behind ↦ inl behind ]
flipped (Memory base) n (Io other) m apart = tt
flipped (Io base) n (Memory other) m apart = tt

-- the end of one of some windows is held by no window that touches none of them
end_unheld : (window : Window) (windows : List Window) (at : Place) → IsApartFrom window windows → OneEndsAt windows at → Holds window.place window.len at → ⊥
end_unheld window [] at apart ends held = ends
end_unheld window (other ∷ others) at apart ends held = elim ends [
  | inl here ↦ other_end window.place window.len other.place other.len at apart.0 here held
  | inr later ↦ end_unheld window others at apart.1 later held
]

own_end_unheld : (window : Window) (windows : List Window) (at : Place) → IsApartFrom window windows → EndsAt window.place window.len at → IsMapped windows at → ⊥
own_end_unheld window [] at apart ends mapped = mapped
own_end_unheld window (other ∷ others) at apart ends mapped = elim mapped [
  | inl here ↦ other_end other.place other.len window.place window.len at (flipped window.place window.len other.place other.len apart.0) ends here
  | inr later ↦ own_end_unheld window others at apart.1 ends later
]

end_unmapped : (windows : List Window) (at : Place) → AreApart windows → OneEndsAt windows at → IsMapped windows at → ⊥
end_unmapped [] at apart ends mapped = mapped
end_unmapped (window ∷ windows) at apart ends mapped = elim ends [
  | inl here ↦ elim mapped [
    | inl held ↦ own_end window.place window.len at here held
    | inr later ↦ own_end_unheld window windows at apart.1 here later
  ]
  | inr there ↦ elim mapped [
    | inl held ↦ end_unheld window windows at apart.1 there held
    | inr later ↦ end_unmapped windows at apart.2 there later
  ]
]

-- what the search among the windows says of the bytes
abbrev FindsRoom : List Window → Place → Option (ℕ × ℕ) → Type 0
FindsRoom windows at None = ¬ IsMapped windows at
FindsRoom windows at (Some location) = (0 < location.1) × ((k : ℕ) → k < location.1 → IsMapped windows (further at k)) × OneEndsAt windows (further at location.1)

FindsRoom-later : (window : Window) (windows : List Window) (at : Place) (o : Option (ℕ × ℕ)) → room window at ≡ 0 → FindsRoom windows at o → FindsRoom (window ∷ windows) at o
FindsRoom-later window windows at None none finds = λ mapped. elim mapped [
  | inl here ↦ unheld window.place window.len at none here
  | inr later ↦ finds later
]
FindsRoom-later window windows at (Some location) none finds = (finds.0, λ k h. inr (finds.1 k h), inr finds.2)

finds_room : (windows : List Window) (start : ℕ) (at : Place) → FindsRoom windows at (location windows start at)
finds_room [] start at = λ mapped. mapped
finds_room (window ∷ windows) start at = elim (cases_eq (room window at) 0) [
  | inl none ↦
      let skips : location (window ∷ windows) start at ≡ location windows (start + window.len) at =
      ap (λ (b : Bool). cond b (location windows (start + window.len) at) (Some (start + (window.len - room window at), room window at))) (eq-eqb (room window at) 0 none) in
      subst (λ (o : Option (ℕ × ℕ)). FindsRoom (window ∷ windows) at o) (sym skips)
      (FindsRoom-later window windows at (location windows (start + window.len) at) none (finds_room windows (start + window.len) at))
  | inr some ↦
      let stops : location (window ∷ windows) start at ≡ Some (start + (window.len - room window at), room window at) =
      ap (λ (b : Bool). cond b (location windows (start + window.len) at) (Some (start + (window.len - room window at), room window at))) (ne_eqb (room window at) 0 some) in
      let enough : 0 < room window at = omega arith in
      subst (λ (o : Option (ℕ × ℕ)). FindsRoom (window ∷ windows) at o) (sym stops)
      (enough, λ k h. inl (held window.place window.len at (room window at) k refl enough h), inl (ended window.place window.len at (room window at) refl enough))
]

further-0 : (at : Place) → further at 0 ≡ at
further-0 (Memory at) = ap Memory (omega arith)
further-0 (Io at) = ap Io (omega arith)

finds_within : (windows : List Window) (at : Place) (n : ℕ) (o : Option (ℕ × ℕ)) → 0 < n → AreApart windows → FindsRoom windows at o → FindsBytes windows at n (within o (address_of at) n)
finds_within windows at n None some apart finds = (
  0,
  record {
    within = some;
    address_is = omega arith;
    unmapped = λ mapped. finds (subst (λ (p : Place). IsMapped windows p) (further-0 at) mapped);
    mapped_before = λ j h. absurd (omega arith);
  },
)
finds_within windows at n (Some location) some apart finds = elim (cases_lt location.1 n) [
  | inr fits ↦
      let all : within (Some location) (address_of at) n ≡ Ok location.0 = ap (λ (b : Bool). cond {A = Result ℕ ℕ} b (Ok location.0) (Err (address_of at + location.1))) (le-leb n location.1 fits) in
      subst (λ (r : Result ℕ ℕ). FindsBytes windows at n r) (sym all) (λ k h. finds.1 k (omega arith))
  | inl short ↦
      let part : within (Some location) (address_of at) n ≡ Err (address_of at + location.1) =
      ap (λ (b : Bool). cond {A = Result ℕ ℕ} b (Ok location.0) (Err (address_of at + location.1))) (lt-leb n location.1 short) in
      subst (λ (r : Result ℕ ℕ). FindsBytes windows at n r) (sym part) (
        location.1,
        record {
          within = short;
          address_is = refl;
          unmapped = λ mapped. end_unmapped windows (further at location.1) apart finds.2 mapped;
          mapped_before = λ j h. finds.1 j h;
        },
      )
]

pub finds_bytes : (windows : List Window) (at : Place) (n : ℕ) → AreApart windows → FindsBytes windows at n (found windows at n)
finds_bytes windows at n apart = elim (cases_eq n 0) [
  | inl none ↦
      let nothing : found windows at n ≡ Ok 0 = ap (λ (b : Bool). cond {A = Result ℕ ℕ} b (Ok 0) (within (location windows 0 at) (address_of at) n)) (eq-eqb n 0 none) in
      subst (λ (r : Result ℕ ℕ). FindsBytes windows at n r) (sym nothing) (λ k h. absurd (omega arith))
  | inr some ↦
      let bytes : found windows at n ≡ within (location windows 0 at) (address_of at) n =
      ap (λ (b : Bool). cond {A = Result ℕ ℕ} b (Ok 0) (within (location windows 0 at) (address_of at) n)) (ne_eqb n 0 some) in
      subst (λ (r : Result ℕ ℕ). FindsBytes windows at n r) (sym bytes) (finds_within windows at n (location windows 0 at) (omega arith) apart (finds_room windows 0 at))
]
