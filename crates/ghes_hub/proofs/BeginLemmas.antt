-- Sources begun one after another.
use Rattle.std.proofs.Common.{◌≡◌, ◌∙◌, ℕ, zero, suc, ◌<◌, ◌⊎◌, inl, inr, List, [], ◌∷◌, ◌++◌, length, map, take, length-append, Some, slice_get, sym, ap, subst, arith}
use Rattle.std.proofs.lemmas.Bool.{cases_lt}
use Rattle.std.proofs.lemmas.List.{get_or_append_left, get_or_at, map-append}
use Rattle.std.proofs.lemmas.Option.{slice_get_within, slice_get-get_or}
use Rattle.apei_tables.specs.declared.registers.Place.TheVariants.{Memory}
use Rattle.apei_space.specs.declared.windows.Window.{Window}
use Rattle.apei_space.specs.RamState.{RamState}
use Rattle.ghes_ack.specs.Machine.{started}
use Rattle.ghes_ack.specs.Elsewhere.{SameWhere}
use Rattle.ghes_ack.proofs.CallLemmas.{HasWindows-others}
use Rattle.ghes_hub.specs.declared.layouts.Layout.{Layout}
use Rattle.ghes_hub.specs.declared.layouts.Layout.TheVariants.{Acknowledged, Plain}
use Rattle.ghes_hub.specs.declared.source.Source.{Source}
use Rattle.ghes_hub.specs.Layouts.{layout_kind, layout_windows, HasLayout, layout_window, AreLaidOut, IsBegun, AreBegun}
use Rattle.ghes_hub.specs.Places.{IsOff, AreClear}
use Rattle.ghes_hub.specs.OneSource.{layout_in, SourceStands}
use Rattle.ghes_hub.specs.SourcesState.{AreServed}
use Rattle.ghes_hub.proofs.PlainMemory.{plain_windows_kept}
use Rattle.ghes_hub.proofs.SourceLemmas.{source_kept, same_in_map}

slice_get-push : {X : Type 0} (xs : List X) (y : X) (i : ℕ) (x : X) → slice_get (xs ++ y ∷ []) i ≡ Some x → ((i < length xs) × (slice_get xs i ≡ Some x)) ⊎ ((i ≡ length xs) × (x ≡ y))
slice_get-push {X} xs y i x is =
    let n = length-append xs (y ∷ []) in
    let w = slice_get_within (xs ++ y ∷ []) i x is in
    elim (cases_lt i (length xs)) [
      | inl before ↦
          inl (before, slice_get-get_or xs i y before ∙ ap Some (sym (get_or_append_left xs (y ∷ []) y i before)) ∙ sym (slice_get-get_or (xs ++ y ∷ []) i y w) ∙ is)
      | inr behind ↦
          let e : i ≡ length xs = omega (arith, n, w, behind) in
          let here : slice_get (xs ++ y ∷ []) i ≡ Some y = slice_get-get_or (xs ++ y ∷ []) i y w ∙ ap Some (get_or_at xs y [] y i (sym e)) in
          inr (e, let both = sym is ∙ here in cc)
    ]

-- what is written off a layout leaves it
layout_kept : (layout : Layout) (windows : List Window) (old new : RamState) → AreClear windows (layout_windows layout) → SameWhere (IsOff windows) old new →
    HasLayout layout old → HasLayout layout new
layout_kept (Acknowledged map) windows old new clear s h = (HasWindows-others map old new (same_in_map map windows old new clear s) h.0, h.1)
layout_kept (Plain map) windows old new clear s h = plain_windows_kept map old new s.windows s.size h

window_kept : (layout : Layout) (windows : List Window) (old new : RamState) → AreClear windows (layout_windows layout) → SameWhere (IsOff windows) old new →
    layout_window layout new ≡ layout_window layout old
window_kept (Acknowledged map) windows old new clear s = s.bytes (Memory map.block) map.len clear.1.1.0
window_kept (Plain map) windows old new clear s = s.bytes (Memory map.window.block) map.window.len clear.1.0

-- one more of the first
take_next : {X : Type 0} (xs : List X) (n : ℕ) (x : X) → slice_get xs n ≡ Some x → take (suc n) xs ≡ take n xs ++ x ∷ []
take_next [] n x is = absurd (let w = slice_get_within [] n x is in omega (arith, w))
take_next {X} (y ∷ ys) zero x is = let e : y ≡ x = cc in ap (λ (z : X). z ∷ []) e
take_next {X} (y ∷ ys) (suc n) x is = ap (λ (zs : List X). y ∷ zs) (take_next ys n x is)

pub one_begun : (layouts : List Layout) (first ram new : RamState) (list : List Source) (layout : Layout) (handover : Source) → AreLaidOut layouts first →
    slice_get layouts (length list) ≡ Some layout →
    SourceStands handover new (started (layout_window layout ram)) → layout_in handover ≡ layout → layout_kind (layout_in handover) ≡ layout_kind layout →
    layout_windows (layout_in handover) ≡ layout_windows layout → SameWhere (IsOff (layout_windows layout)) ram new →
    AreBegun layouts first ram list → AreBegun layouts first new (list ++ handover ∷ [])
one_begun layouts first ram new list layout handover laid here stands lies kind windows s all = record {
  so_far =
      let n : suc (length list) ≡ length (list ++ handover ∷ []) = sym (length-append list (handover ∷ []) ∙ omega arith) in
      map-append layout_in list (handover ∷ [])
      ∙ ap (λ (ls : List Layout). ls ++ layout_in handover ∷ []) all.so_far
      ∙ ap (λ (l : Layout). take (length list) layouts ++ l ∷ []) lies
      ∙ sym (take_next layouts (length list) layout here)
      ∙ ap (λ (k : ℕ). take k layouts) n;
  begun = λ i p is. elim (slice_get-push list handover i p is) [
    | inl before ↦
        let b = all.begun i p before.1 in
        let clear : AreClear (layout_windows layout) (layout_windows b.layout) = laid.apart (length list) i layout b.layout (λ e. let w = before.0 in omega (arith, w, e)) here b.is in
        record {
          layout = b.layout;
          is = b.is;
          kind = b.kind;
          windows = b.windows;
          stands = source_kept p (layout_windows layout) ram new (started (layout_window b.layout first)) (subst (AreClear (layout_windows layout)) (sym b.windows) clear) s b.stands;
        }
    | inr last ↦
        let same : handover ≡ p = sym last.1 in
        let w : layout_window layout ram ≡ layout_window layout first = (all.later (length list) layout (omega arith) here).1 in
        subst (IsBegun layouts first new i) same (record {
          layout = layout;
          is = ap (slice_get layouts) last.0 ∙ here;
          kind = kind;
          windows = windows;
          stands = subst (λ (bytes : List ℕ). SourceStands handover new (started bytes)) w stands;
        })
  ];
  later = λ i other past is.
      let n = length-append list (handover ∷ []) in
      let behind : length list < i = omega (arith, n, past) in
      let clear : AreClear (layout_windows layout) (layout_windows other) = laid.apart (length list) i layout other (λ e. omega (arith, behind, e)) here is in
      let was = all.later i other (omega (arith, behind)) is in
      (layout_kept other (layout_windows layout) ram new clear s was.0, window_kept other (layout_windows layout) ram new clear s ∙ was.1);
}

-- sources that are begun are served
pub begun_served : (layouts : List Layout) (first ram : RamState) (list : List Source) → AreLaidOut layouts first → AreBegun layouts first ram list → AreServed ram list
begun_served layouts first ram list laid all = record {
  stands = λ i p is. let b = all.begun i p is in (started (layout_window b.layout first), b.stands);
  apart = λ i j p q other is_p is_q.
      let a = all.begun i p is_p in
      let b = all.begun j q is_q in
      let clear = laid.apart i j a.layout b.layout other a.is b.is in
      subst (λ (ws : List Window). AreClear ws (layout_windows (layout_in q))) (sym a.windows) (subst (AreClear (layout_windows a.layout)) (sym b.windows) clear);
}
