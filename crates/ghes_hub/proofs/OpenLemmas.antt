-- A hub that is opened.
use Rattle.std.proofs.Common.{◌≡◌, ◌∙◌, ℕ, zero, suc, ◌+◌, ◌^◌, ◌<◌, inl, inr, Bool, true, false, not, nat_lt, ◌||◌, ◌&&◌, List, [], ◌∷◌, ◌++◌, length, Some}
use Rattle.std.proofs.Common.{slice_get, Vec, refl, sym, ap, subst, arith, append_assoc}
use Rattle.std.specs.Option.{option_map}
use Rattle.std.proofs.lemmas.Bool.{cases_lt}
use Rattle.std.proofs.lemmas.Bool.Decides.{nat_tests}
use Rattle.std.proofs.lemmas.List.{append-nil, length-map}
use Rattle.std.proofs.lemmas.Option.{slice_get-map, slice_get_within}
use Rattle.std.specs.declared.alloc.Global.{Global}
use Rattle.apei_tables.specs.declared.registers.Place.{Place}
use Rattle.apei_tables.specs.declared.registers.Place.TheVariants.{Memory, Io}
use Rattle.apei_space.specs.declared.windows.Window.{Window}
use Rattle.apei_space.specs.Windows.{EndsBelow, address_of}
use Rattle.apei_space.specs.Mapped.{AreDisjoint}
use Rattle.hest_sources.specs.declared.sources.HestSource.{HestSource}
use Rattle.ghes_hub.specs.Deals.{dealt_to, AreDealt}
use Rattle.ghes_hub.specs.Joins.{AreFree}
use Rattle.ghes_hub.specs.Opens.{IsReady, IsOpened, opened_source}
use Rattle.ghes_hub.specs.Places.{IsOff}
use Rattle.apei_notify.specs.Telling.{Hearing}
use Rattle.hest_sources.specs.declared.sources.Ghes.{Ghes}
use Rattle.ghes_hub.specs.Hubs.{HubState, Call, DoAll, Serves}
use Rattle.ghes_hub.proofs.HubLemmas.{serves}
use Rattle.ghes_hub.specs.Refusals.{generics, overlap_at, overlaps, clashes}
use Rattle.ghes_hub.specs.SourcesState.{SourcesState}
use Rattle.std.specs.Prelude.{map}

some_at : {X : Type 0} (xs : List X) (i : ℕ) → i < length xs → (x : X) × (slice_get xs i ≡ Some x)
some_at [] i within = absurd (omega (arith, within))
some_at (x ∷ xs) zero within = (x, refl)
some_at (x ∷ xs) (suc i) within = some_at xs i (omega (arith, within))

pub opened : {L : Type 0} (sources : List HestSource) (s new : SourcesState) (all : List L) (n k : ℕ) (lists : List (Vec L Global)) (chains : List (List L)) →
    IsReady sources s → new ≡ s → n ≡ length s.list → AreDealt n k all [] lists → chains ≡ map (λ list. list.items) lists →
    IsOpened sources all (record { sources = new; chains = chains })
opened {L} sources s new all n k lists chains ready same count dealt chains_are = subst (λ (x : SourcesState). IsOpened sources all (record { sources = x; chains = chains })) (sym same) (record {
  ready = ready;
  chains = ap length chains_are ∙ length-map lists (λ list. list.items) ∙ dealt.count ∙ count;
  dealt = λ i within.
      let c = dealt.count in
      let at = some_at lists i (omega (arith, within, count, c)) in
      let got : at.0.items ≡ dealt_to n i 0 all = sym (append-nil at.0.items) ∙ dealt.each i at.0 at.1 in
      ap (λ (xs : List (List L)). slice_get xs i) chains_are ∙ slice_get-map (λ list. list.items) lists i ∙ ap (option_map (λ list. list.items)) at.1
      ∙ ap Some (got ∙ ap (λ (j : ℕ). dealt_to j i 0 all) count);
})

-- each source is served from the opening on
pub from_opening : {L : Type 0} (hearing : L → Hearing) (table : List HestSource) (listeners : List L) (i : ℕ) (source : Ghes) (calls : List Call)
    (first last : HubState L) → IsOpened table listeners first → slice_get (generics table) i ≡ Some source → DoAll hearing calls first last →
    Serves hearing (opened_source listeners first i source) calls last
from_opening hearing table listeners i source calls first last opened is all =
    let w = slice_get_within (generics table) i source is in
    let n = opened.ready.count in
    serves hearing (opened_source listeners first i source) calls first last (opened.ready.stands i source is) (opened.dealt i (omega (arith, w, n))) all

-- what it says that nothing clashes
neither : (a b : Bool) → (a || b) ≡ false → (a ≡ false) × (b ≡ false)
neither false b e = (refl, e)
neither true b e = absurd cc

disjoint_is : (p : Place) (n : ℕ) (q : Place) (m : ℕ) → overlap_at p n q m ≡ false → AreDisjoint q m p n
disjoint_is (Memory a) n (Memory b) m e = elim (cases_lt b (a + n)) [
  | inr behind ↦ inr behind
  | inl before ↦ elim (cases_lt a (b + m)) [
    | inr h ↦ inl h
    | inl h ↦ absurd (let one : nat_lt b (a + n) ≡ true = grind (arith, nat_tests) in
        let two : nat_lt a (b + m) ≡ true = grind (arith, nat_tests) in let f = sym (ap (λ (t : Bool). t && nat_lt a (b + m)) one ∙ two) ∙ e in cc)
  ]
]
disjoint_is (Io a) n (Io b) m e = elim (cases_lt b (a + n)) [
  | inr behind ↦ inr behind
  | inl before ↦ elim (cases_lt a (b + m)) [
    | inr h ↦ inl h
    | inl h ↦ absurd (let one : nat_lt b (a + n) ≡ true = grind (arith, nat_tests) in
        let two : nat_lt a (b + m) ≡ true = grind (arith, nat_tests) in let f = sym (ap (λ (t : Bool). t && nat_lt a (b + m)) one ∙ two) ∙ e in cc)
  ]
]
disjoint_is (Memory a) n (Io b) m e = tt
disjoint_is (Io a) n (Memory b) m e = tt

off_is : (others : List Window) (w : Window) → overlaps others w ≡ false → IsOff others w.place w.len
off_is [] w e = tt
off_is (o ∷ others) w e =
    let h = neither (overlap_at o.place o.len w.place w.len) (overlaps others w) e in
    (disjoint_is o.place o.len w.place w.len h.0, off_is others w h.1)

ends_is : (p : Place) (n : ℕ) → not (nat_lt (address_of p + n) (2 ^ 64)) ≡ false → EndsBelow p n
ends_is (Memory a) n e = elim (cases_lt (a + n) (2 ^ 64)) [ inl h ↦ h | inr h ↦ absurd (let f : nat_lt (a + n) (2 ^ 64) ≡ false = grind (arith, nat_tests) in let t = sym (ap not f) ∙ e in cc) ]
ends_is (Io a) n e = elim (cases_lt (a + n) (2 ^ 64)) [ inl h ↦ h | inr h ↦ absurd (let f : nat_lt (a + n) (2 ^ 64) ≡ false = grind (arith, nat_tests) in let t = sym (ap not f) ∙ e in cc) ]

off_split : (xs : List Window) (w : Window) (at : Place) (n : ℕ) → IsOff (xs ++ w ∷ []) at n → IsOff xs at n × AreDisjoint at n w.place w.len
off_split [] w at n h = (tt, h.0)
off_split (x ∷ xs) w at n h = let r = off_split xs w at n h.1 in ((h.0, r.0), r.1)

abbrev pub HaveBytes : List Window → Type 0
HaveBytes [] = Unit {0}
HaveBytes (w ∷ ws) = (0 < w.len) × HaveBytes ws

-- windows behind others, of which none clashes
pub free_is : (front behind ws : List Window) → HaveBytes ws → clashes front ws ≡ false → ((at : Place) (n : ℕ) → IsOff front at n → IsOff behind at n) → AreFree behind ws
free_is front behind [] some e more = tt
free_is front behind (w ∷ ws) some e more =
    let late = not (nat_lt (address_of w.place + w.len) (2 ^ 64)) in
    let h = neither (late || overlaps front w) (clashes (front ++ w ∷ []) ws) e in
    let k = neither late (overlaps front w) h.0 in (
      some.0,
      ends_is w.place w.len k.0,
      more w.place w.len (off_is front w k.1),
      free_is (front ++ w ∷ []) (w ∷ behind) ws some.1 h.1 (λ at n off. let s = off_split front w at n off in (s.1, more at n s.0)),
    )

-- one list of windows behind another
pub clashes-append : (front xs ys : List Window) → clashes front xs ≡ false → clashes (front ++ xs) ys ≡ false → clashes front (xs ++ ys) ≡ false
clashes-append front [] ys e f = subst (λ (ws : List Window). clashes ws ys ≡ false) (append-nil front) f
clashes-append front (x ∷ xs) ys e f =
    let h = neither (not (nat_lt (address_of x.place + x.len) (2 ^ 64)) || overlaps front x) (clashes (front ++ x ∷ []) xs) e in
    let rest : clashes (front ++ x ∷ []) (xs ++ ys) ≡ false = clashes-append (front ++ x ∷ []) xs ys h.1 (subst (λ (ws : List Window). clashes ws ys ≡ false)
    (sym (append_assoc front (x ∷ []) xs)) f) in
    ap (λ (b : Bool). b || clashes (front ++ x ∷ []) (xs ++ ys)) h.0 ∙ rest
