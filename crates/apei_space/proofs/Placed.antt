-- Where accesses of mapped bytes stand among all bytes.
use Rattle.std.proofs.Common.{◌≡◌, ◌∙◌, ℕ, zero, suc, ◌+◌, ◌-◌, ◌<◌, ◌≤◌, ◌⊎◌, ◌==◌, inl, inr, nat_le, cond, Bool, true, false, List, [], ◌∷◌, length, take}
use Rattle.std.proofs.Common.{get_or, Option, Some, None, Result, Ok, Err, refl, sym, ap, subst, arith, le-leb}
use Rattle.std.proofs.lemmas.Bool.{cases_lt, cases_eq, ne_eqb}
use Rattle.std.proofs.lemmas.Bool.Decides.{nat_tests}
use Rattle.apei_tables.specs.declared.registers.Place.{Place}
use Rattle.apei_tables.specs.declared.registers.Place.TheVariants.{Memory, Io}
use Rattle.apei_space.specs.declared.windows.Window.{Window}
use Rattle.apei_space.specs.Windows.{address_of, room_in, room_from, room, location, total, IsApart, IsApartFrom, AreApart}
use Rattle.apei_space.specs.RamState.{found, refused, located}
use Rattle.apei_space.specs.Mapped.{Holds, IsMapped, AreMapped, AreDisjoint, further, FindsBytes}
use Rattle.apei_space.proofs.MappedLemmas.{finds_bytes, room_in-some, held}
use Rattle.apei_space.proofs.Locations.{location_fits}
use Rattle.apei_space.proofs.Terms.{within}

-- two windows that are apart hold no byte together
not_both : (p : Place) (n : ℕ) (q : Place) (m : ℕ) (at : Place) → IsApart p n q m → Holds p n at → Holds q m at → ⊥
not_both (Memory p) n (Memory q) m (Memory at) (inl b) h k = let a = h.1 in let c = k.0 in omega (arith, a, b, c)
not_both (Memory p) n (Memory q) m (Memory at) (inr b) h k = let a = h.0 in let c = k.1 in omega (arith, a, b, c)
not_both (Io p) n (Io q) m (Io at) (inl b) h k = let a = h.1 in let c = k.0 in omega (arith, a, b, c)
not_both (Io p) n (Io q) m (Io at) (inr b) h k = let a = h.0 in let c = k.1 in omega (arith, a, b, c)
not_both (Memory p) n (Io q) m (Memory at) a h k = k
not_both (Io p) n (Memory q) m (Io at) a h k = k
not_both (Memory p) n q m (Io at) a h k = h
not_both (Io p) n q m (Memory at) a h k = h

unheld_by : (window : Window) (windows : List Window) (at : Place) → IsApartFrom window windows → Holds window.place window.len at → IsMapped windows at → ⊥
unheld_by window [] at apart h mapped = mapped
unheld_by window (other ∷ others) at apart h (inl here) = not_both window.place window.len other.place other.len at apart.0 h here
unheld_by window (other ∷ others) at apart h (inr later) = unheld_by window others at apart.1 h later

holds : (place : Place) (n : ℕ) (at : Place) → 0 < room_from place n at → Holds place n at
holds (Memory base) n (Memory at) h = let a = room_in-some base n at (room_in base n at) refl h in let low = a.0 in let ends = a.1 in (low, omega (arith, ends, h))
holds (Io base) n (Io at) h = let a = room_in-some base n at (room_in base n at) refl h in let low = a.0 in let ends = a.1 in (low, omega (arith, ends, h))
holds (Memory base) n (Io at) h = absurd (omega (arith, h))
holds (Io base) n (Memory at) h = absurd (omega (arith, h))

-- the same location, so many bytes further
room_in-further : (base n at k : ℕ) → k < room_in base n at → room_in base n (at + k) + k ≡ room_in base n at
room_in-further base n at k h =
    let a = room_in-some base n at (room_in base n at) refl (omega (arith, h)) in
    let low = a.0 in
    let ends = a.1 in
    let more : base ≤ at + k = omega (arith, low) in
    let all : room_in base n (at + k) ≡ n - (at + k - base) = ap (λ (b : Bool). cond b (n - (at + k - base)) 0) (le-leb base (at + k) more) in
    omega (arith, low, ends, h, all)

room_further : (place : Place) (n : ℕ) (at : Place) (k : ℕ) → k < room_from place n at → room_from place n (further at k) + k ≡ room_from place n at
room_further (Memory base) n (Memory at) k h = room_in-further base n at k h
room_further (Io base) n (Io at) k h = room_in-further base n at k h
room_further (Memory base) n (Io at) k h = absurd (omega (arith, h))
room_further (Io base) n (Memory at) k h = absurd (omega (arith, h))

room_in-le : (base n at : ℕ) → room_in base n at ≤ n
room_in-le base n at = go (nat_le base at) refl where
  go : (b : Bool) → nat_le base at ≡ b → room_in base n at ≤ n
  go true e = rw e (omega arith)
  go false e = rw e (omega arith)

room_le : (place : Place) (n : ℕ) (at : Place) → room_from place n at ≤ n
room_le (Memory base) n (Memory at) = room_in-le base n at
room_le (Io base) n (Io at) = room_in-le base n at
room_le (Memory base) n (Io at) = omega arith
room_le (Io base) n (Memory at) = omega arith

location_head : (window : Window) (windows : List Window) (start : ℕ) (at : Place) → 0 < room window at → location (window ∷ windows) start at
    ≡ Some (start + (window.len - room window at), room window at)
location_head window windows start at h = let e : (room window at == 0) ≡ false = grind (arith, nat_tests) in rw e refl

location_tail : (window : Window) (windows : List Window) (start : ℕ) (at : Place) → room window at ≡ 0 → location (window ∷ windows) start at ≡ location windows (start + window.len) at
location_tail window windows start at h = let e : (room window at == 0) ≡ true = grind (arith, nat_tests) in rw e refl

pair_is : (a b s r : ℕ) → ◌≡◌ {A = Option (ℕ × ℕ)} (Some (a, b)) (Some (s, r)) → (a ≡ s) × (b ≡ r)
pair_is a b s r e =
    let same : ◌≡◌ {A = ℕ × ℕ} (a, b) (s, r) = cc in
    (ap (λ (x : ℕ × ℕ). x.0) same, ap (λ (x : ℕ × ℕ). x.1) same)

head_is : (window : Window) (windows : List Window) (start : ℕ) (at : Place) (s r : ℕ) → (room window at ≡ 0 → ⊥) → location (window ∷ windows) start at ≡ Some (s, r)
    → (start + (window.len - room window at) ≡ s) × (room window at ≡ r)
head_is window windows start at s r some is =
    let more : 0 < room window at = grind arith in
    pair_is (start + (window.len - room window at)) (room window at) s r (sym (location_head window windows start at more) ∙ is)

-- what a location holds is mapped
location_mapped : (windows : List Window) (start : ℕ) (at : Place) (s r k : ℕ) → location windows start at ≡ Some (s, r) → k < r → IsMapped windows (further at k)
location_mapped [] start at s r k is h = absurd cc
location_mapped (window ∷ windows) start at s r k is h = go (cases_eq (room window at) 0) (λ later. location_mapped windows (start + window.len) at s r k later h) where
  go : (room window at ≡ 0) ⊎ (room window at ≡ 0 → ⊥) → (location windows (start + window.len) at ≡ Some (s, r) → IsMapped windows (further at k)) → IsMapped (window ∷ windows) (further at k)
  go (inl none) rest = inr (rest (sym (location_tail window windows start at none) ∙ is))
  go (inr some) rest = inl (held window.place window.len at r k (head_is window windows start at s r some is).1 (omega (arith, h)) h)

-- a window among some that holds a place
mapped_at : (windows : List Window) (at : Place) (i : ℕ) (w : Window) → i < length windows → get_or windows i w ≡ w → Holds w.place w.len at → IsMapped windows at
mapped_at [] at i w inside is h = absurd (omega (arith, inside))
mapped_at (window ∷ windows) at zero w inside is h = inl (subst (λ (x : Window). Holds x.place x.len at) (sym is) h)
mapped_at (window ∷ windows) at (suc i) w inside is h = inr (mapped_at windows at i w (omega (arith, inside)) is h)

-- a window with room is where the place is found, whatever windows stand before it
pub location_at : (windows : List Window) (start : ℕ) (at : Place) (i : ℕ) (w : Window) → AreApart windows → i < length windows → get_or windows i w ≡ w → 0 < room w at
    → location windows start at ≡ Some (start + total (take i windows) + (w.len - room w at), room w at)
location_at [] start at i w apart inside is more = absurd (omega (arith, inside))
location_at (window ∷ windows) start at zero w apart inside is more =
    subst (λ (x : Window). location (window ∷ windows) start at ≡ Some (start + 0 + (x.len - room x at), room x at)) is
    (location_head window windows start at (subst (λ (x : Window). 0 < room x at) (sym is) more)
    ∙ ap (λ (n : ℕ). Some (n + (window.len - room window at), room window at)) (omega arith))
location_at (window ∷ windows) start at (suc i) w apart inside is more =
    go (cases_eq (room window at) 0) (location_at windows (start + window.len) at i w apart.2 (omega (arith, inside)) is more) where
      mapped : IsMapped windows at
      mapped = mapped_at windows at i w (omega (arith, inside)) is (holds w.place w.len at more)

      go : (room window at ≡ 0) ⊎ (room window at ≡ 0 → ⊥) → location windows (start + window.len) at ≡ Some (start + window.len + total (take i windows) + (w.len - room w at), room w at)
          → location (window ∷ windows) start at ≡ Some (start + (window.len + total (take i windows)) + (w.len - room w at), room w at)
      go (inl none) later = location_tail window windows start at none ∙ later ∙ ap (λ (n : ℕ). Some (n + (w.len - room w at), room w at)) (omega arith)
      go (inr some) later = absurd (unheld_by window windows at apart.1 (holds window.place window.len at (grind arith)) mapped)

pub location_further : (windows : List Window) (start : ℕ) (at : Place) (s r k : ℕ) → AreApart windows → location windows start at ≡ Some (s, r) → k < r →
    location windows start (further at k) ≡ Some (s + k, r - k)
location_further [] start at s r k apart is h = absurd cc
location_further (window ∷ windows) start at s r k apart is h = go (cases_eq (room window at) 0) (λ later. location_further windows (start + window.len) at s r k apart.2 later h) where
  go : (room window at ≡ 0) ⊎ (room window at ≡ 0 → ⊥) → (location windows (start + window.len) at ≡ Some (s, r) → location windows (start + window.len)
      (further at k) ≡ Some (s + k, r - k)) → location (window ∷ windows) start (further at k) ≡ Some (s + k, r - k)
  go (inl none) rest =
      let later : location windows (start + window.len) at ≡ Some (s, r) = sym (location_tail window windows start at none) ∙ is in
      let no_room : room window (further at k) ≡ 0 = elsewhere (cases_eq (room window (further at k)) 0) later in
      location_tail window windows start (further at k) no_room ∙ rest later where
        elsewhere : (room window (further at k) ≡ 0) ⊎ (room window (further at k) ≡ 0 → ⊥) → location windows (start + window.len) at ≡ Some (s, r) → room window (further at k) ≡ 0
        elsewhere (inl z) later = z
        elsewhere (inr some) later = absurd (unheld_by window windows (further at k) apart.1 (holds window.place window.len (further at k) (grind arith))
            (location_mapped windows (start + window.len) at s r k later h))
  go (inr some) rest =
      let e = head_is window windows start at s r some is in
      let same = e.1 in
      let at_s = e.0 in
      let f = room_further window.place window.len at k (omega (arith, same, h)) in
      let le = room_le window.place window.len at in
      let sum : start + (window.len - room window (further at k)) ≡ s + k = omega (arith, f, same, at_s, le, h) in
      let left : room window (further at k) ≡ r - k = omega (arith, f, same) in
      location_head window windows start (further at k) (omega (arith, f, same, h)) ∙ ap (λ (x : ℕ). Some (x, room window (further at k))) sum ∙ ap (λ (x : ℕ). Some (s + k, x)) left

-- both in one window
apart_in : (base len p n q m start : ℕ) → 0 < n → 0 < m → n ≤ room_in base len p → m ≤ room_in base len q → (p + n ≤ q) ⊎ (q + m ≤ p) →
    (start + (len - room_in base len p) + n ≤ start + (len - room_in base len q)) ⊎ (start + (len - room_in base len q) + m ≤ start + (len - room_in base len p))
apart_in base len p n q m start a b np mq d =
    let x = room_in-some base len p (room_in base len p) refl (omega (arith, a, np)) in
    let y = room_in-some base len q (room_in base len q) refl (omega (arith, b, mq)) in
    let x0 = x.0 in let x1 = x.1 in let y0 = y.0 in let y1 = y.1 in
    elim d [ inl h ↦ inl (omega (arith, x0, x1, y0, y1, h, np, mq)) | inr h ↦ inr (omega (arith, x0, x1, y0, y1, h, np, mq)) ]

same_window : (place : Place) (len : ℕ) (p : Place) (n : ℕ) (q : Place) (m : ℕ) (start : ℕ) → 0 < n → 0 < m → n ≤ room_from place len p → m ≤ room_from place len q → AreDisjoint p n q m →
    (start + (len - room_from place len p) + n ≤ start + (len - room_from place len q)) ⊎ (start + (len - room_from place len q) + m ≤ start + (len - room_from place len p))
same_window (Memory base) len (Memory p) n (Memory q) m start a b np mq d = apart_in base len p n q m start a b np mq d
same_window (Io base) len (Io p) n (Io q) m start a b np mq d = apart_in base len p n q m start a b np mq d
same_window (Memory base) len (Io p) n q m start a b np mq d = absurd (omega (arith, a, np))
same_window (Io base) len (Memory p) n q m start a b np mq d = absurd (omega (arith, a, np))
same_window (Memory base) len (Memory p) n (Io q) m start a b np mq d = absurd (omega (arith, b, mq))
same_window (Io base) len (Io p) n (Memory q) m start a b np mq d = absurd (omega (arith, b, mq))

location_from : (windows : List Window) (start : ℕ) (at : Place) (s r : ℕ) → location windows start at ≡ Some (s, r) → start ≤ s
location_from [] start at s r is = absurd cc
location_from (window ∷ windows) start at s r is = go (cases_eq (room window at) 0) (λ later. location_from windows (start + window.len) at s r later) where
  go : (room window at ≡ 0) ⊎ (room window at ≡ 0 → ⊥) → (location windows (start + window.len) at ≡ Some (s, r) → start + window.len ≤ s) → start ≤ s
  go (inl none) rest = let h = rest (sym (location_tail window windows start at none) ∙ is) in omega (arith, h)
  go (inr some) rest = let same = (head_is window windows start at s r some is).0 in omega (arith, same)

-- what the first window holds stands before what a later one holds
head_before : (window : Window) (windows : List Window) (start : ℕ) (p q : Place) (s r t u : ℕ) → (room window p ≡ 0 → ⊥) → room window q ≡ 0 →
    location (window ∷ windows) start p ≡ Some (s, r) → location (window ∷ windows) start q ≡ Some (t, u) → s + r ≤ t
head_before window windows start p q s r t u in_p no_q is it =
    let e = head_is window windows start p s r in_p is in
    let at_s = e.0 in
    let same = e.1 in
    let later = location_from windows (start + window.len) q t u (sym (location_tail window windows start q no_q) ∙ it) in
    let le = room_le window.place window.len p in
    omega (arith, at_s, same, later, le)

pub locations_apart : (windows : List Window) (start : ℕ) (p : Place) (n : ℕ) (q : Place) (m : ℕ) (s r t u : ℕ) → 0 < n → 0 < m → AreDisjoint p n q m →
    location windows start p ≡ Some (s, r) → n ≤ r → location windows start q ≡ Some (t, u) → m ≤ u → (s + n ≤ t) ⊎ (t + m ≤ s)
locations_apart [] start p n q m s r t u a b d is nr it mu = absurd cc
locations_apart (window ∷ windows) start p n q m s r t u a b d is nr it mu =
    go (cases_eq (room window p) 0) (cases_eq (room window q) 0) (λ x y. locations_apart windows (start + window.len) p n q m s r t u a b d x nr y mu) where
      go : (room window p ≡ 0) ⊎ (room window p ≡ 0 → ⊥) → (room window q ≡ 0) ⊎ (room window q ≡ 0 → ⊥) →
          (location windows (start + window.len) p ≡ Some (s, r) → location windows (start + window.len) q ≡ Some (t, u) → (s + n ≤ t) ⊎ (t + m ≤ s)) → (s + n ≤ t) ⊎ (t + m ≤ s)
      go (inl no_p) (inl no_q) rest = rest (sym (location_tail window windows start p no_p) ∙ is) (sym (location_tail window windows start q no_q) ∙ it)
      go (inr in_p) (inl no_q) rest = let before = head_before window windows start p q s r t u in_p no_q is it in inl (omega (arith, before, nr))
      go (inl no_p) (inr in_q) rest = let before = head_before window windows start q p t u s r in_q no_p it is in inr (omega (arith, before, mu))
      go (inr in_p) (inr in_q) rest =
          let e = head_is window windows start p s r in_p is in
          let f = head_is window windows start q t u in_q it in
          let same_s = e.0 in let same_r = e.1 in let same_t = f.0 in let same_u = f.1 in
          let both = same_window window.place window.len p n q m start a b (omega (arith, same_r, nr)) (omega (arith, same_u, mu)) d in
          elim both [ inl h ↦ inl (omega (arith, same_s, same_t, h)) | inr h ↦ inr (omega (arith, same_s, same_t, h)) ]

-- where an access stands, and how many bytes its window still has there
pub record IsPlaced (windows : List Window) (at : Place) (n s : ℕ) : Type 0 where
  pub found_at : located windows at n ≡ Ok s
  pub room : ℕ
  pub location_is : location windows 0 at ≡ Some (s, room)
  pub fits : n ≤ room

-- an access that is found is placed
pub found_placed : (windows : List Window) (at : Place) (n s : ℕ) → 0 < n → located windows at n ≡ Ok s → IsPlaced windows at n s
found_placed windows at n s some is = go (location windows 0 at) refl where
  plain : found windows at n ≡ within (location windows 0 at) (address_of at) n
  plain = ap (λ (b : Bool). cond {A = Result ℕ ℕ} b (Ok 0) (within (location windows 0 at) (address_of at) n)) (ne_eqb n 0 (λ z. omega (arith, z, some)))

  none : (a : ℕ) → found windows at n ≡ Err a → ⊥
  none a e = let both : refused (Err a) ≡ Ok s = sym (ap refused e) ∙ is in cc

  go : (o : Option (ℕ × ℕ)) → location windows 0 at ≡ o → IsPlaced windows at n s
  go None e = absurd (none (address_of at) (plain ∙ ap (λ (o : Option (ℕ × ℕ)). within o (address_of at) n) e))
  go (Some x) e = test (nat_le n x.1) refl where
    test : (b : Bool) → nat_le n x.1 ≡ b → IsPlaced windows at n s
    test true h =
        let all : found windows at n ≡ Ok x.0 = plain ∙ ap (λ (o : Option (ℕ × ℕ)). within o (address_of at) n) e ∙ ap (λ (b : Bool). cond {A = Result ℕ ℕ} b (Ok x.0) (Err (address_of at + x.1))) h in
        let same : x.0 ≡ s = start_is x.0 all in
        record { found_at = is; room = x.1; location_is = subst (λ (k : ℕ). location windows 0 at ≡ Some (k, x.1)) same e; fits = grind (arith, nat_tests) } where
          start_is : (k : ℕ) → found windows at n ≡ Ok k → k ≡ s
          start_is k f = let both : refused (Ok k) ≡ Ok s = sym (ap refused f) ∙ is in cc
    test false h =
        let all : found windows at n ≡ Err (address_of at + x.1) = plain ∙ ap (λ (o : Option (ℕ × ℕ)). within o (address_of at) n) e
        ∙ ap (λ (b : Bool). cond {A = Result ℕ ℕ} b (Ok x.0) (Err (address_of at + x.1))) h in
        absurd (none (address_of at + x.1) all)

-- an access all of whose bytes are mapped is found
pub placed : (windows : List Window) (at : Place) (n : ℕ) → AreApart windows → 0 < n → AreMapped windows at n → (s : ℕ) × IsPlaced windows at n s
placed windows at n apart some mapped = go (found windows at n) refl (finds_bytes windows at n apart) where
  go : (answer : Result ℕ ℕ) → found windows at n ≡ answer → FindsBytes windows at n answer → (s : ℕ) × IsPlaced windows at n s
  go (Ok s) e finds = (s, found_placed windows at n s some (ap refused e))
  go (Err address) e finds = absurd (finds.1.unmapped (mapped finds.0 finds.1.within))

-- a part of the bytes is found so many bytes further
pub located_within : (windows : List Window) (at : Place) (n s k m : ℕ) → AreApart windows → IsPlaced windows at n s → 0 < m → k + m ≤ n → located windows (further at k) m ≡ Ok (s + k)
located_within windows at n s k m apart p some inside =
    let fits = p.fits in
    let e = location_further windows 0 at s p.room k apart p.location_is (omega (arith, fits, some, inside)) in
    let plain : found windows (further at k) m ≡ within (location windows 0 (further at k)) (address_of (further at k)) m =
    ap (λ (b : Bool). cond {A = Result ℕ ℕ} b (Ok 0) (within (location windows 0 (further at k)) (address_of (further at k)) m)) (ne_eqb m 0 (λ z. omega (arith, z, some))) in
    ap refused (plain ∙ ap (λ (o : Option (ℕ × ℕ)). within o (address_of (further at k)) m) e
    ∙ ap (λ (b : Bool). cond {A = Result ℕ ℕ} b (Ok (s + k)) (Err (address_of (further at k) + (p.room - k)))) (le-leb m (p.room - k) (omega (arith, fits, inside))))

-- what is placed lies among the bytes
pub placed_fits : (windows : List Window) (at : Place) (n s : ℕ) → AreApart windows → IsPlaced windows at n s → s + n ≤ total windows
placed_fits windows at n s apart p =
    let f = location_fits windows 0 at (s, p.room) apart p.location_is in
    let w = f.within in
    let fits = p.fits in
    omega (arith, w, fits)

pub placed_apart : (windows : List Window) (p : Place) (n s : ℕ) (q : Place) (m t : ℕ) → 0 < n → 0 < m → IsPlaced windows p n s → IsPlaced windows q m t →
    AreDisjoint p n q m → (s + n ≤ t) ⊎ (t + m ≤ s)
placed_apart windows p n s q m t a b x y d = locations_apart windows 0 p n q m s x.room t y.room a b d x.location_is x.fits y.location_is y.fits

-- two places are one, or their bytes are two
one_or_two : (a b : ℕ) → (a ≡ b) ⊎ ((a + 1 ≤ b) ⊎ (b + 1 ≤ a))
one_or_two a b = elim (cases_eq a b) [
  | inl same ↦ inl same
  | inr other ↦ elim (cases_lt a b) [ inl less ↦ inr (inl (omega (arith, less))) | inr more ↦ inr (inr (omega (arith, more, other))) ]
]

same_or_apart : (one other : Place) → (one ≡ other) ⊎ AreDisjoint one 1 other 1
same_or_apart (Memory a) (Memory b) = elim (one_or_two a b) [ inl same ↦ inl (ap Memory same) | inr apart ↦ inr apart ]
same_or_apart (Io a) (Io b) = elim (one_or_two a b) [ inl same ↦ inl (ap Io same) | inr apart ↦ inr apart ]
same_or_apart (Memory a) (Io b) = inr tt
same_or_apart (Io a) (Memory b) = inr tt

never_before : (n : ℕ) → (n + 1 ≤ n) ⊎ (n + 1 ≤ n) → ⊥
never_before n (inl before) = omega (arith, before)
never_before n (inr before) = omega (arith, before)

-- no two places have one byte
pub index_tells : (windows : List Window) (one other : Place) (index : ℕ) → located windows one 1 ≡ Ok index → located windows other 1 ≡ Ok index → one ≡ other
index_tells windows one other index is it = elim (same_or_apart one other) [
  | inl same ↦ same
  | inr apart ↦
      let p = found_placed windows one 1 index (omega arith) is in
      let q = found_placed windows other 1 index (omega arith) it in
      absurd (never_before index (placed_apart windows one 1 index other 1 index (omega arith) (omega arith) p q apart))
]
