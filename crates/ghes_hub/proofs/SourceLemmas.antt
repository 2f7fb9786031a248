-- What a call on one source leaves of the others.
use Rattle.std.proofs.Common.{◌≡◌, ◌≢◌, ◌∙◌, ℕ, zero, suc, ◌<◌, inl, inr, List, [], ◌∷◌, map, length, set, get_or, Option, Some, Result, Ok, Err, OnOk, OnErr}
use Rattle.std.proofs.Common.{IfSome, slice_get, refl, sym, ap, subst, arith}
use Rattle.std.proofs.lemmas.Bool.{cases_lt, cases_eq}
use Rattle.std.proofs.lemmas.List.{get_or-set_same, get_or-set_other, length-set}
use Rattle.std.proofs.lemmas.Option.{slice_get_past, slice_get_read, slice_get-get_or, slice_get_within}
use Rattle.base_model.specs.Bytes.{little}
use Rattle.apei_tables.specs.declared.registers.Place.TheVariants.{Memory}
use Rattle.apei_space.specs.declared.windows.Window.{Window}
use Rattle.apei_space.specs.RamState.{RamState}
use Rattle.ghes_ack.specs.declared.maps.HandoverMap.{HandoverMap}
use Rattle.ghes_ack.specs.declared.events.Side.{Side}
use Rattle.ghes_ack.specs.declared.events.Event.{Event}
use Rattle.ghes_ack.specs.Machine.{Machine, submitted}
use Rattle.ghes_ack.specs.Maps.{ack_bytes}
use Rattle.ghes_ack.specs.Elsewhere.{SameWhere, SameInMap}
use Rattle.ghes_ack.proofs.CallLemmas.{StandsFor-others}
use Rattle.ghes_hub.specs.declared.source.Source.{Source}
use Rattle.ghes_hub.specs.declared.source.Source.TheVariants.{Acknowledged, Plain}
use Rattle.ghes_hub.specs.Kinds.{Kind, turned_by}
use Rattle.ghes_ack.specs.Windows.{block_bytes}
use Rattle.ghes_hub.proofs.PlainTurns.{agrees, stands_by}
use Rattle.ghes_hub.proofs.PlainMemory.{plain_windows_kept}
use Rattle.ghes_hub.specs.Plain.{PlainState, PlainStands}
use Rattle.ghes_hub.specs.declared.layouts.Layout.TheVariants.{Acknowledged as WithRegister, Plain as WithStatus}
use Rattle.ghes_hub.specs.Layouts.{layout_kind}
use Rattle.ghes_hub.specs.Places.{layout_windows, IsOff, AreClear}
use Rattle.ghes_hub.specs.OneSource.{layout_in, SourceStands, SourceTurned}
use Rattle.ghes_hub.specs.SourcesState.{SourcesState, layouts_in, AreServed, StandsAt}

pub slice_get-same : {X : Type 0} (xs : List X) (i : ℕ) (y : X) → i < length xs → slice_get (set xs i y) i ≡ Some y
slice_get-same xs i y h =
    let n = length-set xs i y in
    slice_get-get_or (set xs i y) i y (omega (arith, n, h)) ∙ ap Some (get_or-set_same xs i y y h)

pub slice_get-other : {X : Type 0} (xs : List X) (i j : ℕ) (y : X) → j ≢ i → slice_get (set xs i y) j ≡ slice_get xs j
slice_get-other {X} xs i j y other = elim (cases_lt j (length xs)) [
  | inl within ↦
      let n = length-set xs i y in
      slice_get-get_or (set xs i y) j y (omega (arith, n, within)) ∙ ap Some (get_or-set_other xs i j y y other) ∙ sym (slice_get-get_or xs j y within)
  | inr past ↦
      let n = length-set xs i y in
      slice_get_past (set xs i y) j (omega (arith, n, past)) ∙ sym (slice_get_past xs j past)
]

pub same_in_map : (map : HandoverMap) (windows : List Window) (old new : RamState) → AreClear windows (layout_windows (WithRegister map)) → SameWhere (IsOff windows) old new → SameInMap map old new
same_in_map map windows old new clear s = record {
  windows = s.windows;
  size = s.size;
  status = s.bytes (Memory map.status) 8 clear.0;
  ack = s.bytes map.ack.place (ack_bytes map) clear.1.0;
  block = s.bytes (Memory map.block) map.len clear.1.1.0;
}

kept_by : (h : PlainState) (windows : List Window) (old new : RamState) (m : Machine) → AreClear windows (layout_windows (WithStatus h.map)) →
    SameWhere (IsOff windows) old new → PlainStands h old m → PlainStands h new m
kept_by h windows old new m clear s st =
    stands_by h new (block_bytes h.map.window old) m (agrees h old m st) (sym (s.bytes (Memory h.map.window.block) h.map.window.len clear.1.0))
    (plain_windows_kept h.map old new s.windows s.size st.windows) (ap little (s.bytes (Memory h.map.status) 8 clear.0) ∙ st.address) st.occurs

-- what is written off the windows of a source leaves it
pub source_kept : (q : Source) (windows : List Window) (old new : RamState) (m : Machine) → AreClear windows (layout_windows (layout_in q)) →
    SameWhere (IsOff windows) old new → SourceStands q old m → SourceStands q new m
source_kept (Acknowledged h) windows old new m clear s st = StandsFor-others h old new m (same_in_map h.map windows old new clear s) st
source_kept (Plain h) windows old new m clear s st = kept_by h windows old new m clear s st

-- a source in another state, and the memory that its turn left
pub record Moves (ram new : RamState) (list : List Source) (i : ℕ) (before after : Source) : Type 0 where
  pub within : i < length list
  pub is : slice_get list i ≡ Some before
  pub places : layout_in after ≡ layout_in before
  pub elsewhere : SameWhere (IsOff (layout_windows (layout_in before))) ram new

windows_at : (ram new : RamState) (list : List Source) (i : ℕ) (before after : Source) → Moves ram new list i before after → (j : ℕ) (q : Source) → slice_get (set list i after) j ≡ Some q →
    (p : Source) × (slice_get list j ≡ Some p) × (layout_windows (layout_in q) ≡ layout_windows (layout_in p))
windows_at ram new list i before after h j q is = elim (cases_eq j i) [
  | inl same ↦
      let here : slice_get (set list i after) j ≡ Some after = ap (slice_get (set list i after)) same ∙ slice_get-same list i after h.within in
      let e : q ≡ after = (let both = sym is ∙ here in cc) in
      (before, ap (slice_get list) same ∙ h.is, ap (λ (p : Source). layout_windows (layout_in p)) e ∙ ap layout_windows h.places)
  | inr other ↦ (q, sym (slice_get-other list i j after other) ∙ is, refl)
]

pub served : (ram new : RamState) (list : List Source) (i : ℕ) (before after : Source) → Moves ram new list i before after →
    ((m : Machine) × SourceStands after new m) → AreServed ram list → AreServed new (set list i after)
served ram new list i before after h stands all = record {
  stands = λ j q is. elim (cases_eq j i) [
    | inl same ↦
        let here : slice_get (set list i after) j ≡ Some after = ap (slice_get (set list i after)) same ∙ slice_get-same list i after h.within in
        let e : after ≡ q = (let both = sym here ∙ is in cc) in
        subst (λ (p : Source). ((m : Machine) × SourceStands p new m)) e stands
    | inr other ↦
        let there : slice_get list j ≡ Some q = sym (slice_get-other list i j after other) ∙ is in
        let (m, st) = all.stands j q there in
        (m, source_kept q (layout_windows (layout_in before)) ram new m (all.apart i j before q (λ e. other (sym e)) h.is there) h.elsewhere st)
  ];
  apart = λ j k p q other is_p is_q.
      let a = windows_at ram new list i before after h j p is_p in
      let b = windows_at ram new list i before after h k q is_q in
      let clear = all.apart j k a.0 b.0 other a.1 b.1 in
      subst (λ (ws : List Window). AreClear ws (layout_windows (layout_in q))) (sym a.2) (subst (AreClear (layout_windows (layout_in a.0))) (sym b.2) clear);
}

-- the other sources stand for the same states
pub others_stand : (ram new : RamState) (list : List Source) (i : ℕ) (before after : Source) → Moves ram new list i before after → AreServed ram list →
    (kind : Kind) (j : ℕ) (m : Machine) → j ≢ i → StandsAt kind (record { ram = ram; list = list }) j m → StandsAt kind (record { ram = new; list = set list i after }) j m
others_stand ram new list i before after h all kind j m other at = record {
  handover = at.handover;
  is = slice_get-other list i j after other ∙ at.is;
  kind_is = at.kind_is;
  stands = source_kept at.handover (layout_windows (layout_in before)) ram new m (all.apart i j before at.handover (λ e. other (sym e)) h.is at.is) h.elsewhere at.stands;
}

same_post : (list : List Source) (i : ℕ) (p q : Source) → slice_get list i ≡ Some p → slice_get list i ≡ Some q → p ≡ q
same_post list i p q a b = let both = sym a ∙ b in cc

-- the source itself
pub turns_at : (ram new : RamState) (list : List Source) (i : ℕ) (before after : Source) (side : Side) (event : Event) → Moves ram new list i before after →
    ((m : Machine) → SourceStands before ram m → SourceTurned (layout_kind (layout_in before)) side event after new m) →
    (kind : Kind) (m : Machine) → StandsAt kind (record { ram = ram; list = list }) i m →
    (event ≡ (turned_by kind side m).0) × StandsAt kind (record { ram = new; list = set list i after }) i (turned_by kind side m).1
turns_at ram new list i before after side event h turned kind m at =
    let e : at.handover ≡ before = same_post list i at.handover before at.is h.is in
    let k : layout_kind (layout_in before) ≡ kind = ap (λ (p : Source). layout_kind (layout_in p)) (sym e) ∙ at.kind_is in
    let t : SourceTurned kind side event after new m = subst (λ (x : Kind). SourceTurned x side event after new m) k (turned m (subst (λ (p : Source). SourceStands p ram m) e at.stands)) in
    (t.event_is, record { handover = after; is = slice_get-same list i after h.within; kind_is = ap layout_kind h.places ∙ k; stands = t.stands })

pub submits_at : (ram : RamState) (list : List Source) (i : ℕ) (before after : Source) (block : List ℕ) → Moves ram ram list i before after →
    ((any : RamState) (m : Machine) → SourceStands before any m → SourceStands after any (submitted m block)) →
    (kind : Kind) (m : Machine) → StandsAt kind (record { ram = ram; list = list }) i m → StandsAt kind (record { ram = ram; list = set list i after }) i (submitted m block)
submits_at ram list i before after block h stands kind m at =
    let e : at.handover ≡ before = same_post list i at.handover before at.is h.is in
    let k : layout_kind (layout_in before) ≡ kind = ap (λ (p : Source). layout_kind (layout_in p)) (sym e) ∙ at.kind_is in
    record {
      handover = after;
      is = slice_get-same list i after h.within;
      kind_is = ap layout_kind h.places ∙ k;
      stands = stands ram m (subst (λ (p : Source). SourceStands p ram m) e at.stands);
    }

pub moves : (s : SourcesState) (ram new : RamState) (list : List Source) (i : ℕ) (before after : Source) → record { ram = ram; list = list } ≡ s →
    i < length s.list → before ≡ get_or list i before → layout_in after ≡ layout_in before → SameWhere (IsOff (layout_windows (layout_in before))) ram new →
    Moves ram new list i before after
moves s ram new list i before after view within is places elsewhere =
    let here : i < length list = subst (λ (x : SourcesState). i < length x.list) (sym view) within in
    record { within = here; is = slice_get_read list (length list) i before refl here is; places = places; elsewhere = elsewhere }

pub of_view : (kind : Kind) (s t : SourcesState) (i : ℕ) (m : Machine) → t ≡ s → StandsAt kind s i m → StandsAt kind t i m
of_view kind s t i m view at = subst (λ (x : SourcesState). StandsAt kind x i m) (sym view) at

-- a source after a submission that may have been refused
pub stands_after : {A E : Type 0} (r : Result A E) (ram : RamState) (before after : Source) (block : List ℕ) →
    OnOk r ((any : RamState) (m : Machine) → SourceStands before any m → SourceStands after any (submitted m block)) → OnErr r (after ≡ before) →
    ((m : Machine) × SourceStands before ram m) → ((m : Machine) × SourceStands after ram m)
stands_after (Ok a) ram before after block added kept (m, st) = (submitted m block, added ram m st)
stands_after (Err e) ram before after block added kept st = subst (λ (p : Source). ((m : Machine) × SourceStands p ram m)) (sym kept) st

pub stands_here : (ram : RamState) (list : List Source) (i : ℕ) (p : Source) (m : Machine) → slice_get list i ≡ Some p → SourceStands p ram m →
    StandsAt (layout_kind (layout_in p)) (record { ram = ram; list = list }) i m
stands_here ram list i p m is st = record { handover = p; is = is; kind_is = refl; stands = st }

pub if_some : {X : Type 0} (o : Option X) (x : X) (P : X → Type 0) → o ≡ Some x → P x → IfSome o P
if_some {X} o x P is p = subst (λ (y : Option X). IfSome y P) (sym is) p

set_same : {X Y : Type 0} (f : X → Y) (xs : List X) (i : ℕ) (x y : X) → slice_get xs i ≡ Some x → f y ≡ f x → map f (set xs i y) ≡ map f xs
set_same f [] i x y is e = absurd (let w = slice_get_within [] i x is in omega (arith, w))
set_same {X} {Y} f (z ∷ zs) zero x y is e = let same : x ≡ z = cc in ap (λ (w : Y). w ∷ map f zs) (e ∙ ap f same)
set_same {X} {Y} f (z ∷ zs) (suc i) x y is e = ap (λ (ws : List Y). f z ∷ ws) (set_same f zs i x y is e)

-- all sources lie where they lay
pub same_layouts : (ram new : RamState) (list : List Source) (i : ℕ) (before after : Source) (s : SourcesState) → Moves ram new list i before after →
    record { ram = ram; list = list } ≡ s → map layout_in (set list i after) ≡ layouts_in s
same_layouts ram new list i before after s h view = set_same layout_in list i before after h.is h.places ∙ ap layouts_in view
