-- The owner takes over the two fields of the parts, and what they own.
use mathlib.Core.Path.{refl, sym, subst}
use Rattle.std.proofs.Common.{Some}
use mathlib.Core.List.{List, [], ◌∷◌, ◌++◌}
use seplogic.Ra.Ura.{Ura}
use mir.Val.{Val}
use base.Logic.{SProp, ent, emp, id⊢}
use base.Fml.{ftrue, fsep}
use prog.Memory.{Memory}
use prog.Routine.{Routine}
use prog.Wp.{WpFn, Tables}
use types.Logic.{Logic}
use contract.Monad.{Fun}
use contract.Running.{tables, tables_of}
use sound.WpLaws.{WpFn-mono}
use types.Kit.{Item, ⋆, ‵, raw, ◌⊛◌, ◌$◌, ◌∵◌, !, qed, by, move, drop, use1, join, split, fsplit, fjoin, suffices, done}
use types.Part.{whole, sub, agg}
use types.Run.{stop, fld, no_more, and_then, of_opd, returns, enter}
use types.ByLocal.{alloc_all, pass_all, free_all, look_at, get, get_in, sets}
use denote.Exit.{yes}
use denote.Signature.{type_at}
use denote.Steps.{nothing}
use denote.Triple.Spec.{triple_of}
use denote.Triple.Table.{entered}
use denote.Triple.Walked.{says, Stays, stay_dropped, walk_of, ends_at, Goes-dropped, walk_Meets}
use Rattle.std_alloc.proofs.BoxSteps.Form.{D, B, word, box_typed}
use Rattle.std_alloc.proofs.BoxSteps.Steps.{box_out, box_in}
use Rattle.apei_c.proofs.BoxedSources.{Boxed, AsParts}
use Rattle.apei_c.specs.contracts.sources_owner.SourcesOwner.of as Of
use Rattle.apei_c.specs.contracts.sources_owner.SourcesOwner.of.Key.{name as #self}
use Rattle.apei_c.proofs.sources_owner.SourcesOwner.of.Statement as stated
use Rattle.apei_c.proofs.sources_owner.SourcesOwner.of.Code as code

abbrev stays : Stays (Of.ended).signature.params (Of.ended).kept
stays = (stay_dropped AsParts yes, tt)

module _ {M : Type 1} {𝓤 : Ura M} (𝓛 : Logic 𝓤) (in_memory : Memory → SProp 𝓤) (run : Routine → Fun 𝓤) (𝓣 : Tables 𝓤 𝓛.H) where
  open 𝓛 use {H}

  walk : (z : (walk_of 𝓛 Of.ended stays (Of.clauses 𝓛 in_memory run)).Ghost)
      → ent 𝓤 ((walk_of 𝓛 Of.ended stays (Of.clauses 𝓛 in_memory run)).pre z) (WpFn 𝓤 H 𝓣.C 𝓣.Λ code.function (z.0.4.0 ++ []) ((walk_of 𝓛 Of.ended stays (Of.clauses 𝓛 in_memory run)).post z))
  walk z =
      let Post = (walk_of 𝓛 Of.ended stays (Of.clauses 𝓛 in_memory run)).post z in
      let boxed : D Boxed = record { ptr = z.0.3.0.ptr; alloc = z.0.3.0.alloc; value = z.0.3.0.value } in
      let Owner = type_at (Of.signature).result tt in
      let made : Owner.Denot = record { at = boxed.ptr; alloc = boxed.alloc; sources = Some boxed.value } in
      qed 𝓛 ((‵ ftrue ⊛ ‵ (fsep ((B Boxed).own_val boxed z.0.4.0) ftrue)) ∷ raw (emp 𝓤) ∷ []) ∵ split ! $ drop ! $ fsplit ! $
      box_out Boxed ! boxed z.0.4.0 (λ block offset handle at words handle_typed. box_in Boxed ! boxed block offset boxed.value at refl $ use1 𝓛
      (‵ (Owner.own_val made (word Boxed handle block offset ∷ []))) (id⊢ 𝓤 _) $ move ! (1 ∷ 2 ∷ []) $ drop ! $ drop ! $
      let held = word Boxed handle block offset in
      let have : List (Item 𝓤) = ‵ (Owner.own_val made (held ∷ [])) ∷ [] in
      by ! (subst (λ (given : List Val). ent 𝓤 (⋆ 𝓛 have) (WpFn 𝓤 H 𝓣.C 𝓣.Λ code.function (given ++ []) Post)) (sym words)
      (qed 𝓛 have ∵ enter ! 𝓣.C 𝓣.Λ code.function (held ∷ []) _ $ alloc_all ! (λ locals. pass_all ! refl (box_typed Boxed handle block offset handle_typed, tt) $
      sets ! (of_opd ! (get_in ! (fld ! refl (stop !)) (sub ! 0 refl (whole !)))) refl (tt, tt) $ sets ! (of_opd ! (get_in ! (fld ! refl (stop !)) (sub ! 1 refl (whole !)))) refl handle_typed $
      -- the pointer is cast
      sets ! (of_opd ! (get ! refl)) refl (tt, tt) $
      sets ! (agg ! (and_then ! (get ! refl) (and_then ! (get ! refl) (no_more !)))) refl (box_typed Boxed handle block offset handle_typed) $ returns ! (look_at ! 0 refl) $ free_all ! refl $
      suffices ! _ (ends_at 𝓛 Of.ended stays (Of.clauses 𝓛 in_memory run) z held made (tt, tt) (tt, tt)) $ says ! refl $
      nothing ! $ nothing ! $ fjoin ! $ join ! $ nothing ! $ join ! $ done !))))

pub of_spec : {M : Type 1} → stated.statement M
unfolding tables_of
of_spec 𝓤 𝓛 𝓜 𝓡 wired =
    let 𝓣 : Tables 𝓤 𝓛.H = tables_of 𝓤 𝓛.H 𝓜 (tables 𝓤 𝓛.H 𝓜 𝓡 𝓡.env) in
    entered 𝓤 𝓛.H (triple_of 𝓛 Of.signature (Of.spec 𝓛 𝓜.mem 𝓡.returns)) 𝓣.C 𝓣.Λ #self code.function (code.unfolded 𝓤 𝓛.H 𝓜 𝓡 wired)
    (walk_Meets 𝓛 Of.ended stays (Goes-dropped 𝓛 0 AsParts yes (λ κs x f. refl), tt) (Of.clauses 𝓛 𝓜.mem 𝓡.returns) (WpFn 𝓤 𝓛.H 𝓣.C 𝓣.Λ code.function) (WpFn-mono 𝓤 𝓛.H 𝓛.laws 𝓣 code.function)
    (walk 𝓛 𝓜.mem 𝓡.returns 𝓣))
