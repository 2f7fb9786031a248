-- Layouts of checked sources lie in a memory of their windows.
use Rattle.std.proofs.Common.{◌≡◌, ◌≢◌, ℕ, zero, suc, ◌<◌, ◌≤◌, inl, inr, List, [], ◌∷◌, ◌++◌, Some, slice_get, subst, arith}
use Rattle.std.proofs.lemmas.Bool.{cases_lt}
use Rattle.apei_tables.specs.declared.registers.Place.{Place}
use Rattle.apei_tables.specs.declared.registers.Place.TheVariants.{Memory, Io}
use Rattle.apei_space.specs.declared.windows.Window.{Window}
use Rattle.apei_space.specs.RamState.{RamState, FillsWindows}
use Rattle.apei_space.specs.Mapped.{Holds, IsMapped, further}
use Rattle.ghes_ack.specs.declared.maps.HandoverMap.{HandoverMap}
use Rattle.ghes_ack.specs.Maps.{HasWindows, ack_bytes}
use Rattle.ghes_ack.proofs.PlacedLemmas.{disjoint_sym}
use Rattle.ghes_hub.specs.declared.layouts.Layout.{Layout}
use Rattle.ghes_hub.specs.declared.layouts.Layout.TheVariants.{Acknowledged, Plain}
use Rattle.ghes_hub.specs.declared.plain.map.PlainMap.{PlainMap}
use Rattle.ghes_hub.specs.Joins.{AreFree}
use Rattle.ghes_hub.specs.Layouts.{layout_windows}
use Rattle.ghes_hub.specs.Places.{IsOff, AreClear}
use Rattle.ghes_ack.specs.Windows.{HasAddressed}
use Rattle.ghes_hub.specs.Refusals.{all_windows}

-- free windows behind others
pub record Split (earlier xs ys : List Window) : Type 0 where
  pub first : AreFree earlier xs
  pub behind : List Window
  pub rest : AreFree behind ys
  pub more : (at : Place) (n : ℕ) → IsOff behind at n → IsOff xs at n × IsOff earlier at n

pub free_split : (earlier xs ys : List Window) → AreFree earlier (xs ++ ys) → Split earlier xs ys
free_split earlier [] ys free = record { first = tt; behind = earlier; rest = free; more = λ at n off. (tt, off) }
free_split earlier (x ∷ xs) ys free =
    let s = free_split (x ∷ earlier) xs ys free.3 in
    record {
      first = (free.0, free.1, free.2, s.first);
      behind = s.behind;
      rest = s.rest;
      more = λ at n off. let r = s.more at n off in ((r.1.0, r.0), r.1.1);
    }

-- the windows of one layout among all
pub record FreeAt (earlier : List Window) (layout : Layout) : Type 0 where
  pub before : List Window
  pub free : AreFree before (layout_windows layout)
  pub more : (at : Place) (n : ℕ) → IsOff before at n → IsOff earlier at n

pub free_at : (earlier : List Window) (layouts : List Layout) (i : ℕ) (layout : Layout) → AreFree earlier (all_windows layouts) → slice_get layouts i ≡ Some layout → FreeAt earlier layout
free_at earlier [] i layout free is = absurd cc
free_at earlier (one ∷ layouts) zero layout free is =
    let e : one ≡ layout = (let s : Some one ≡ Some layout = is in cc) in
    record { before = earlier; free = subst (λ (l : Layout). AreFree earlier (layout_windows l)) e (free_split earlier (layout_windows one) (all_windows layouts) free).first; more = λ at n off. off }
free_at earlier (one ∷ layouts) (suc i) layout free is =
    let s = free_split earlier (layout_windows one) (all_windows layouts) free in
    let r = free_at s.behind layouts i layout s.rest is in
    record { before = r.before; free = r.free; more = λ at n off. (s.more at n (r.more at n off)).1 }

clear_of : (windows earlier ws : List Window) → AreFree earlier ws → ((at : Place) (n : ℕ) → IsOff earlier at n → IsOff windows at n) → AreClear windows ws
clear_of windows earlier [] free more = tt
clear_of windows earlier (w ∷ ws) free more = (more w.place w.len free.2, clear_of windows (w ∷ earlier) ws free.3 (λ at n off. more at n off.1))

free_before : (earlier : List Window) (layouts : List Layout) (i j : ℕ) (one other : Layout) → i < j → AreFree earlier (all_windows layouts) →
    slice_get layouts i ≡ Some one → slice_get layouts j ≡ Some other → AreClear (layout_windows one) (layout_windows other)
free_before earlier [] i j one other less free is_i is_j = absurd cc
free_before earlier (first ∷ layouts) i zero one other less free is_i is_j = absurd (omega (arith, less))
free_before earlier (first ∷ layouts) zero (suc j) one other less free is_i is_j =
    let e : first ≡ one = (let s : Some first ≡ Some one = is_i in cc) in
    let s = free_split earlier (layout_windows first) (all_windows layouts) free in
    let r = free_at s.behind layouts j other s.rest is_j in
    subst (λ (l : Layout). AreClear (layout_windows l) (layout_windows other)) e (clear_of (layout_windows first) r.before (layout_windows other) r.free
    (λ at n off. (s.more at n (r.more at n off)).0))
free_before earlier (first ∷ layouts) (suc i) (suc j) one other less free is_i is_j =
    let s = free_split earlier (layout_windows first) (all_windows layouts) free in
    free_before s.behind layouts i j one other (omega (arith, less)) s.rest is_i is_j

clear_one : (w : Window) (ws : List Window) → IsOff ws w.place w.len → AreClear (w ∷ []) ws
clear_one w [] off = tt
clear_one w (x ∷ xs) off = ((disjoint_sym w.place w.len x.place x.len off.0, tt), clear_one w xs off.1)

clear_more : (w : Window) (ws others : List Window) → AreClear (w ∷ []) others → AreClear ws others → AreClear (w ∷ ws) others
clear_more w ws [] h k = tt
clear_more w ws (x ∷ xs) h k = ((h.0.0, k.0), clear_more w ws xs h.1 k.1)

clear_sym : (ws others : List Window) → AreClear ws others → AreClear others ws
clear_sym ws [] h = none ws where
  none : (xs : List Window) → AreClear [] xs
  none [] = tt
  none (x ∷ xs) = (tt, none xs)
clear_sym ws (x ∷ xs) h = clear_more x xs ws (clear_one x ws h.0) (clear_sym ws xs h.1)

pub free_apart : (layouts : List Layout) (i j : ℕ) (one other : Layout) → i ≢ j → AreFree [] (all_windows layouts) → slice_get layouts i ≡ Some one →
    slice_get layouts j ≡ Some other → AreClear (layout_windows one) (layout_windows other)
free_apart layouts i j one other differ free is_i is_j = elim (cases_lt i j) [
  | inl less ↦ free_before [] layouts i j one other less free is_i is_j
  | inr not_less ↦
      let less : j < i = omega (arith, not_less, differ) in
      clear_sym (layout_windows other) (layout_windows one) (free_before [] layouts j i other one less free is_j is_i)
]

-- the windows of one layout are mapped
mapped_front : (xs ys : List Window) (at : Place) → IsMapped xs at → IsMapped (xs ++ ys) at
mapped_front [] ys at h = absurd h
mapped_front (x ∷ xs) ys at (inl here) = inl here
mapped_front (x ∷ xs) ys at (inr later) = inr (mapped_front xs ys at later)

mapped_back : (xs ys : List Window) (at : Place) → IsMapped ys at → IsMapped (xs ++ ys) at
mapped_back [] ys at h = h
mapped_back (x ∷ xs) ys at h = inr (mapped_back xs ys at h)

mapped_in : (layouts : List Layout) (i : ℕ) (layout : Layout) → slice_get layouts i ≡ Some layout → (at : Place) → IsMapped (layout_windows layout) at → IsMapped (all_windows layouts) at
mapped_in [] i layout is at h = absurd cc
mapped_in (one ∷ layouts) zero layout is at h =
    let e : layout ≡ one = (let s : Some one ≡ Some layout = is in cc) in
    mapped_front (layout_windows one) (all_windows layouts) at (subst (λ (l : Layout). IsMapped (layout_windows l) at) e h)
mapped_in (one ∷ layouts) (suc i) layout is at h = mapped_back (layout_windows one) (all_windows layouts) at (mapped_in layouts i layout is at h)

held_further : (p : Place) (n k : ℕ) → k < n → Holds p n (further p k)
held_further (Memory a) n k h = (omega arith, omega (arith, h))
held_further (Io a) n k h = (omega arith, omega (arith, h))

-- a memory whose windows hold all of them
pub record Covers (layouts : List Layout) (ram : RamState) : Type 0 where
  pub fills : FillsWindows ram
  pub mapped : (at : Place) → IsMapped (all_windows layouts) at → IsMapped ram.windows at

pub plain_has : (layouts : List Layout) (ram : RamState) (i : ℕ) (map : PlainMap) → Covers layouts ram → AreFree [] (all_windows layouts) →
    slice_get layouts i ≡ Some (Plain map) → 20 ≤ map.window.len → HasAddressed map.status map.window ram
plain_has layouts ram i map covers free is room =
    let f = (free_at [] layouts i (Plain map) free is).free in
    record {
      head = room;
      fills = covers.fills;
      status = λ k h. covers.mapped (further (Memory map.status) k) (mapped_in layouts i (Plain map) is (further (Memory map.status) k) (inl (held_further (Memory map.status) 8 k h)));
      block = λ k h. covers.mapped (further (Memory map.window.block) k) (mapped_in layouts i (Plain map) is (further (Memory map.window.block) k)
          (inr (inl (held_further (Memory map.window.block) map.window.len k h))));
      status_block = disjoint_sym (Memory map.window.block) map.window.len (Memory map.status) 8 f.3.2.0;
    }

pub acknowledged_has : (layouts : List Layout) (ram : RamState) (i : ℕ) (map : HandoverMap) → Covers layouts ram → AreFree [] (all_windows layouts) →
    slice_get layouts i ≡ Some (Acknowledged map) → 20 ≤ map.len → HasWindows map ram
acknowledged_has layouts ram i map covers free is room =
    let f = (free_at [] layouts i (Acknowledged map) free is).free in
    let m : (at : Place) → IsMapped (layout_windows (Acknowledged map)) at → IsMapped ram.windows at = λ at h. covers.mapped at (mapped_in layouts i (Acknowledged map) is at h) in
    record {
      head = room;
      fills = covers.fills;
      status = λ k h. m (further (Memory map.status) k) (inl (held_further (Memory map.status) 8 k h));
      ack = λ k h. m (further map.ack.place k) (inr (inl (held_further map.ack.place (ack_bytes map) k h)));
      block = λ k h. m (further (Memory map.block) k) (inr (inr (inl (held_further (Memory map.block) map.len k h))));
      status_ack = disjoint_sym map.ack.place (ack_bytes map) (Memory map.status) 8 f.3.2.0;
      status_block = disjoint_sym (Memory map.block) map.len (Memory map.status) 8 f.3.3.2.1.0;
      ack_block = disjoint_sym (Memory map.block) map.len map.ack.place (ack_bytes map) f.3.3.2.0;
    }
