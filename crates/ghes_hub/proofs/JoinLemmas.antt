-- Joined windows hold the same bytes, and are apart.
use Rattle.std.proofs.Common.{◌≡◌, ◌∙◌, ℕ, ◌+◌, ◌<◌, ◌≤◌, ◌⊎◌, inl, inr, Bool, true, false, cond, List, [], ◌∷◌, ◌++◌, length, take, drop, get_or, refl, sym, ap, subst, arith}
use Rattle.std.proofs.lemmas.List.{take_more, drop_more}
use Rattle.std.proofs.lemmas.Bool.Decides.{nat_tests}
use Rattle.apei_tables.specs.declared.registers.Place.{Place}
use Rattle.apei_tables.specs.declared.registers.Place.TheVariants.{Memory, Io}
use Rattle.apei_space.specs.declared.windows.Window.{Window}
use Rattle.apei_space.specs.Windows.{EndsBelow, IsApart, IsApartFrom, AreApart, total}
use Rattle.apei_space.specs.Mapped.{Holds, IsMapped, AreDisjoint}
use Rattle.ghes_ack.proofs.PlacedLemmas.{disjoint_sym}
use Rattle.ghes_hub.specs.Places.{IsOff}
use Rattle.ghes_hub.specs.Joins.{follows_at, follows, joins, AreFree, MayJoin}
use Rattle.ghes_hub.proofs.Terms.{AreJoined}

-- what a test of one window behind another says
abbrev Adjoins : Place → ℕ → Place → Type 0
Adjoins (Memory base) n (Memory next) = base + n ≡ next
Adjoins (Io base) n (Io next) = base + n ≡ next
Adjoins (Memory base) n (Io next) = ⊥
Adjoins (Io base) n (Memory next) = ⊥

follows_is : (p : Place) (n : ℕ) (q : Place) → follows_at p n q ≡ true → Adjoins p n q
follows_is (Memory base) n (Memory next) e = grind (arith, nat_tests)
follows_is (Io base) n (Io next) e = grind (arith, nat_tests)
follows_is (Memory base) n (Io next) e = absurd (let f : false ≡ true = e in cc)
follows_is (Io base) n (Memory next) e = absurd (let f : false ≡ true = e in cc)

-- disjoint windows neither of which follows the other have an address between them
apart_is : (p : Place) (n : ℕ) (q : Place) (m : ℕ) → AreDisjoint p n q m → follows_at p n q ≡ false → follows_at q m p ≡ false → IsApart p n q m
apart_is (Memory a) n (Memory b) m (inl h) e f = inl (grind (arith, nat_tests))
apart_is (Memory a) n (Memory b) m (inr h) e f = inr (grind (arith, nat_tests))
apart_is (Io a) n (Io b) m (inl h) e f = inl (grind (arith, nat_tests))
apart_is (Io a) n (Io b) m (inr h) e f = inr (grind (arith, nat_tests))
apart_is (Memory a) n (Io b) m h e f = tt
apart_is (Io a) n (Memory b) m h e f = tt

ends_both : (p : Place) (n : ℕ) (q : Place) (m : ℕ) → Adjoins p n q → EndsBelow q m → EndsBelow p (n + m)
ends_both (Memory a) n (Memory b) m e h = omega (arith, e, h)
ends_both (Io a) n (Io b) m e h = omega (arith, e, h)
ends_both (Memory a) n (Io b) m e h = absurd e
ends_both (Io a) n (Memory b) m e h = absurd e

number_apart : (w k a n b m : ℕ) → a + n ≡ b → ((w + k < a) ⊎ (a + n < w)) → ((w + k < b) ⊎ (b + m < w)) → (w + k < a) ⊎ (a + (n + m) < w)
number_apart w k a n b m e (inl h) g = inl h
number_apart w k a n b m e (inr h) (inl g) = absurd (omega (arith, e, h, g))
number_apart w k a n b m e (inr h) (inr g) = inr (omega (arith, e, g))

apart_both : (w : Place) (k : ℕ) (p : Place) (n : ℕ) (q : Place) (m : ℕ) → Adjoins p n q → IsApart w k p n → IsApart w k q m → IsApart w k p (n + m)
apart_both (Memory w) k (Memory a) n (Memory b) m e h g = number_apart w k a n b m e h g
apart_both (Io w) k (Io a) n (Io b) m e h g = number_apart w k a n b m e h g
apart_both (Io w) k (Memory a) n (Memory b) m e h g = tt
apart_both (Memory w) k (Io a) n (Io b) m e h g = tt
apart_both w k (Memory a) n (Io b) m e h g = absurd e
apart_both w k (Io a) n (Memory b) m e h g = absurd e

-- a range with bytes that is off both is off the two joined
number_off : (w k a n b m : ℕ) → 0 < k → a + n ≡ b → ((w + k ≤ a) ⊎ (a + n ≤ w)) → ((w + k ≤ b) ⊎ (b + m ≤ w)) → (w + k ≤ a) ⊎ (a + (n + m) ≤ w)
number_off w k a n b m some e (inl h) g = inl h
number_off w k a n b m some e (inr h) (inl g) = absurd (omega (arith, some, e, h, g))
number_off w k a n b m some e (inr h) (inr g) = inr (omega (arith, e, g))

off_both : (w : Place) (k : ℕ) (p : Place) (n : ℕ) (q : Place) (m : ℕ) → 0 < k → Adjoins p n q → AreDisjoint w k p n → AreDisjoint w k q m → AreDisjoint w k p (n + m)
off_both (Memory w) k (Memory a) n (Memory b) m some e h g = number_off w k a n b m some e h g
off_both (Io w) k (Io a) n (Io b) m some e h g = number_off w k a n b m some e h g
off_both (Io w) k (Memory a) n (Memory b) m some e h g = tt
off_both (Memory w) k (Io a) n (Io b) m some e h g = tt
off_both w k (Memory a) n (Io b) m some e h g = absurd e
off_both w k (Io a) n (Memory b) m some e h g = absurd e

-- two windows that adjoin, of which a third is apart from one and off the other
abbrev IsMixed : Place → ℕ → Place → ℕ → Place → ℕ → Type 0
IsMixed p n q m r k = (IsApart p n r k × AreDisjoint q m r k) ⊎ (AreDisjoint p n r k × IsApart q m r k)

number_mixed : (a n b m w k : ℕ) → a + n ≡ b → IsMixed (Memory a) n (Memory b) m (Memory w) k → (a + (n + m) ≤ w) ⊎ (w + k ≤ a)
number_mixed a n b m w k e (inl (inr h, g)) = inr (omega (arith, h))
number_mixed a n b m w k e (inl (inl h, inl g)) = inl (omega (arith, e, g))
number_mixed a n b m w k e (inl (inl h, inr g)) = absurd (omega (arith, e, h, g))
number_mixed a n b m w k e (inr (inr h, g)) = inr h
number_mixed a n b m w k e (inr (inl h, inl g)) = inl (omega (arith, e, g))
number_mixed a n b m w k e (inr (inl h, inr g)) = absurd (omega (arith, e, h, g))

-- it is off the two joined
mixed : (p : Place) (n : ℕ) (q : Place) (m : ℕ) (r : Place) (k : ℕ) → Adjoins p n q → IsMixed p n q m r k → AreDisjoint p (n + m) r k
mixed (Memory a) n (Memory b) m (Memory w) k e h = number_mixed a n b m w k e h
mixed (Io a) n (Io b) m (Io w) k e h = number_mixed a n b m w k e h
mixed (Memory a) n (Memory b) m (Io w) k e h = tt
mixed (Io a) n (Io b) m (Memory w) k e h = tt
mixed (Memory a) n (Io b) m r k e h = absurd e
mixed (Io a) n (Memory b) m r k e h = absurd e

-- two windows as one
abbrev both : Window → Window → Window
both first second = record { place = first.place; len = first.len + second.len }

off_before : (window new : Window) (windows : List Window) → Adjoins window.place window.len new.place → IsApartFrom window windows →
    IsOff windows new.place new.len → IsOff windows (both window new).place (both window new).len
off_before window new [] e h g = tt
off_before window new (other ∷ others) e h g =
    (mixed window.place window.len new.place new.len other.place other.len e (inl (h.0, g.0)), off_before window new others e h.1 g.1)

off_behind : (window new : Window) (windows : List Window) → Adjoins new.place new.len window.place → IsApartFrom window windows →
    IsOff windows new.place new.len → IsOff windows (both new window).place (both new window).len
off_behind window new [] e h g = tt
off_behind window new (other ∷ others) e h g =
    (mixed new.place new.len window.place window.len other.place other.len e (inr (g.0, h.0)), off_behind window new others e h.1 g.1)

pub join_before : (window : Window) (windows : List Window) (new : Window) → follows window new ≡ true → MayJoin (window ∷ windows) new → MayJoin windows (both window new)
join_before window windows new e h =
    let a = follows_is window.place window.len new.place e in
    record { apart = h.apart.2; ends = ends_both window.place window.len new.place new.len a h.ends; off = off_before window new windows a h.apart.1 h.off.1 }

pub join_behind : (window : Window) (windows : List Window) (new : Window) → follows new window ≡ true → MayJoin (window ∷ windows) new → MayJoin windows (both new window)
join_behind window windows new e h =
    let a = follows_is new.place new.len window.place e in
    record { apart = h.apart.2; ends = ends_both new.place new.len window.place window.len a h.apart.0; off = off_behind window new windows a h.apart.1 h.off.1 }

pub join_later : (window : Window) (windows : List Window) (new : Window) → MayJoin (window ∷ windows) new → MayJoin windows new
join_later window windows new h = record { apart = h.apart.2; ends = h.ends; off = h.off.1 }

-- by the two tests
step_before : (window : Window) (windows : List Window) (new : Window) → follows window new ≡ true → joins (window ∷ windows) new ≡ joins windows (both window new)
step_before window windows new e =
    ap (λ (b : Bool). cond {A = List Window} b (joins windows (both window new)) (cond {A = List Window} (follows new window) (joins windows (both new window))
    (window ∷ joins windows new))) e

step_behind : (window : Window) (windows : List Window) (new : Window) → follows window new ≡ false → follows new window ≡ true → joins (window ∷ windows) new ≡ joins windows (both new window)
step_behind window windows new e f =
    ap (λ (b : Bool). cond {A = List Window} b (joins windows (both window new)) (cond {A = List Window} (follows new window) (joins windows (both new window)) (window ∷ joins windows new))) e
    ∙ ap (λ (b : Bool). cond {A = List Window} b (joins windows (both new window)) (window ∷ joins windows new)) f

step_later : (window : Window) (windows : List Window) (new : Window) → follows window new ≡ false → follows new window ≡ false → joins (window ∷ windows) new ≡ window ∷ joins windows new
step_later window windows new e f =
    ap (λ (b : Bool). cond {A = List Window} b (joins windows (both window new)) (cond {A = List Window} (follows new window) (joins windows (both new window)) (window ∷ joins windows new))) e
    ∙ ap (λ (b : Bool). cond {A = List Window} b (joins windows (both new window)) (window ∷ joins windows new)) f

-- what holds of each of the three steps holds of the whole
pub by_steps : (P : List Window → Window → List Window → Type 0) → ((new : Window) → P [] new (new ∷ [])) →
    ((window : Window) (windows : List Window) (new : Window) (out : List Window) → follows window new ≡ true → MayJoin (window ∷ windows) new →
    P windows (both window new) out → P (window ∷ windows) new out) →
    ((window : Window) (windows : List Window) (new : Window) (out : List Window) → follows new window ≡ true → MayJoin (window ∷ windows) new →
    P windows (both new window) out → P (window ∷ windows) new out) →
    ((window : Window) (windows : List Window) (new : Window) (out : List Window) → IsApart window.place window.len new.place new.len →
    MayJoin (window ∷ windows) new → P windows new out → P (window ∷ windows) new (window ∷ out)) →
    (windows : List Window) (new : Window) → MayJoin windows new → P windows new (joins windows new)
by_steps P none before behind later [] new h = none new
by_steps P none before behind later (window ∷ windows) new h = go (follows window new) (follows new window) refl refl
    (λ e. by_steps P none before behind later windows (both window new) (join_before window windows new e h))
    (λ f. by_steps P none before behind later windows (both new window) (join_behind window windows new f h))
    (by_steps P none before behind later windows new (join_later window windows new h)) where
      go : (a b : Bool) → follows window new ≡ a → follows new window ≡ b →
          (follows window new ≡ true → P windows (both window new) (joins windows (both window new))) →
          (follows new window ≡ true → P windows (both new window) (joins windows (both new window))) →
          P windows new (joins windows new) → P (window ∷ windows) new (joins (window ∷ windows) new)
      go true b e f one two three = subst (P (window ∷ windows) new) (sym (step_before window windows new e)) (before window windows new (joins windows (both window new)) e h (one e))
      go false true e f one two three = subst (P (window ∷ windows) new) (sym (step_behind window windows new e f)) (behind window windows new (joins windows (both new window)) f h (two f))
      go false false e f one two three =
          subst (P (window ∷ windows) new) (sym (step_later window windows new e f))
          (later window windows new (joins windows new) (apart_is window.place window.len new.place new.len (disjoint_sym new.place new.len window.place window.len h.off.0) e f) h three)

-- a window apart from all of them stays so
abbrev KeepsApart : List Window → Window → List Window → Type 0
KeepsApart windows new out = (w : Window) → IsApartFrom w windows → IsApart w.place w.len new.place new.len → IsApartFrom w out

abbrev Apart : List Window → Window → List Window → Type 0
Apart windows new out = EndsBelow new.place new.len → AreApart out × KeepsApart windows new out

pub joins_apart : (windows : List Window) (new : Window) → MayJoin windows new → AreApart (joins windows new)
joins_apart windows new may = (by_steps Apart
    (λ new ends. ((ends, tt, tt), λ w h g. (g, tt)))
    (λ window windows new out e may rest ends.
    let a = follows_is window.place window.len new.place e in
    let r = rest (ends_both window.place window.len new.place new.len a ends) in
    (r.0, λ w h g. r.1 w h.1 (apart_both w.place w.len window.place window.len new.place new.len a h.0 g)))
    (λ window windows new out e may rest ends.
    let a = follows_is new.place new.len window.place e in
    let r = rest (ends_both new.place new.len window.place window.len a may.apart.0) in
    (r.0, λ w h g. r.1 w h.1 (apart_both w.place w.len new.place new.len window.place window.len a g h.0)))
    (λ window windows new out apart may rest ends.
    let r = rest ends in
    ((may.apart.0, r.1 window may.apart.1 apart, r.0), λ w h g. (h.0, r.1 w h.1 g)))
    windows new may may.ends).0

-- the same bytes are held
abbrev KeepsOff : List Window → Window → List Window → Type 0
KeepsOff windows new out = (at : Place) (n : ℕ) → 0 < n → IsOff windows at n → AreDisjoint at n new.place new.len → IsOff out at n

pub joins_off : (windows : List Window) (new : Window) → MayJoin windows new → KeepsOff windows new (joins windows new)
joins_off = by_steps KeepsOff
    (λ new at n some h g. (g, tt))
    (λ window windows new out e may rest at n some h g. rest at n some h.1 (off_both at n window.place window.len new.place new.len some (follows_is window.place window.len new.place e) h.0 g))
    (λ window windows new out e may rest at n some h g. rest at n some h.1 (off_both at n new.place new.len window.place window.len some (follows_is new.place new.len window.place e) g h.0))
    (λ window windows new out apart may rest at n some h g. (h.0, rest at n some h.1 g))

held_front : (p : Place) (n m : ℕ) (at : Place) → Holds p n at → Holds p (n + m) at
held_front (Memory a) n m (Memory x) h = (h.0, let k = h.1 in omega (arith, k))
held_front (Io a) n m (Io x) h = (h.0, let k = h.1 in omega (arith, k))
held_front (Memory a) n m (Io x) h = h
held_front (Io a) n m (Memory x) h = h

held_back : (p : Place) (n : ℕ) (q : Place) (m : ℕ) (at : Place) → Adjoins p n q → Holds q m at → Holds p (n + m) at
held_back (Memory a) n (Memory b) m (Memory x) e h = let l = h.0 in let k = h.1 in (omega (arith, e, l), omega (arith, e, k))
held_back (Io a) n (Io b) m (Io x) e h = let l = h.0 in let k = h.1 in (omega (arith, e, l), omega (arith, e, k))
held_back (Memory a) n (Memory b) m (Io x) e h = h
held_back (Io a) n (Io b) m (Memory x) e h = h
held_back (Memory a) n (Io b) m x e h = absurd e
held_back (Io a) n (Memory b) m x e h = absurd e

abbrev KeepsMapped : List Window → Window → List Window → Type 0
KeepsMapped windows new out = (at : Place) → IsMapped windows at ⊎ Holds new.place new.len at → IsMapped out at

pub joins_mapped : (windows : List Window) (new : Window) → MayJoin windows new → KeepsMapped windows new (joins windows new)
joins_mapped = by_steps KeepsMapped
    (λ new at h. elim h [ inl none ↦ absurd none | inr here ↦ inl here ])
    (λ window windows new out e may rest at h. elim h [
      | inl (inl here) ↦ rest at (inr (held_front window.place window.len new.len at here))
      | inl (inr later) ↦ rest at (inl later)
      | inr here ↦ rest at (inr (held_back window.place window.len new.place new.len at (follows_is window.place window.len new.place e) here))
    ])
    (λ window windows new out e may rest at h. elim h [
      | inl (inl here) ↦ rest at (inr (held_back new.place new.len window.place window.len at (follows_is new.place new.len window.place e) here))
      | inl (inr later) ↦ rest at (inl later)
      | inr here ↦ rest at (inr (held_front new.place new.len window.len at here))
    ])
    (λ window windows new out apart may rest at h. elim h [
      | inl (inl here) ↦ inl here
      | inl (inr later) ↦ inr (rest at (inl later))
      | inr here ↦ inr (rest at (inr here))
    ])

abbrev Sums : List Window → Window → List Window → Type 0
Sums windows new out = (total out ≡ total windows + new.len) × (length out ≤ length windows + 1)

pub joins_sums : (windows : List Window) (new : Window) → MayJoin windows new → Sums windows new (joins windows new)
joins_sums = by_steps Sums
    (λ new. (omega arith, omega arith))
    (λ window windows new out e may rest. let a = rest.0 in let b = rest.1 in (omega (arith, a), omega (arith, b)))
    (λ window windows new out e may rest. let a = rest.0 in let b = rest.1 in (omega (arith, a), omega (arith, b)))
    (λ window windows new out apart may rest. let a = rest.0 in let b = rest.1 in (omega (arith, a), omega (arith, b)))

pub may_join : (earlier windows : List Window) (range : Window) (ranges : List Window) → AreFree earlier (range ∷ ranges) → AreJoined earlier windows → MayJoin windows range
may_join earlier windows range ranges free h = record { apart = h.apart; ends = free.1; off = h.off range.place range.len free.0 free.2 }

pub one_joined : (earlier windows : List Window) (range : Window) (ranges : List Window) → AreFree earlier (range ∷ ranges) → AreJoined earlier windows →
    AreJoined (range ∷ earlier) (joins windows range)
one_joined earlier windows range ranges free h =
    let may = may_join earlier windows range ranges free h in
    record {
      apart = joins_apart windows range may;
      off = λ at n some off. joins_off windows range may at n some (h.off at n some off.1) off.0;
      mapped = λ at mapped. joins_mapped windows range may at (elim mapped [ inl here ↦ inr here | inr later ↦ inl (h.mapped at later) ]);
    }

pub next_at : (xs : List Window) (at : ℕ) (x : Window) → at < length xs → x ≡ get_or xs at x → drop at xs ≡ x ∷ drop (at + 1) xs
next_at xs at x within is = drop_more xs at x within ∙ ap (λ (y : Window). y ∷ drop (at + 1) xs) (sym is)

mapped_append : (xs ys : List Window) (p : Place) → IsMapped (xs ++ ys) p → IsMapped xs p ⊎ IsMapped ys p
mapped_append [] ys p h = inr h
mapped_append (x ∷ xs) ys p (inl here) = inl (inl here)
mapped_append (x ∷ xs) ys p (inr later) = elim (mapped_append xs ys p later) [ inl a ↦ inl (inr a) | inr b ↦ inr b ]

pub mapped_more : (ranges : List Window) (at : ℕ) (range : Window) (earlier : List Window) → at < length ranges → range ≡ get_or ranges at range →
    ((p : Place) → IsMapped (take at ranges) p → IsMapped earlier p) →
    (p : Place) → IsMapped (take (at + 1) ranges) p → IsMapped (range ∷ earlier) p
mapped_more ranges at range earlier within is h p mapped =
    let split : take (at + 1) ranges ≡ take at ranges ++ range ∷ [] = take_more ranges at range within ∙ ap (λ (x : Window). take at ranges ++ x ∷ []) (sym is) in
    elim (mapped_append (take at ranges) (range ∷ []) p (subst (λ (xs : List Window). IsMapped xs p) split mapped)) [
      | inl before ↦ inr (h p before)
      | inr (inl here) ↦ inl here
      | inr (inr none) ↦ absurd none
    ]
