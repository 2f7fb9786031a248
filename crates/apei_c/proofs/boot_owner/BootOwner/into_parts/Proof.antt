-- The parts take over the two fields of an owner that has a region.
use mathlib.Core.Path.{◌≡◌, refl, sym, subst}
use Rattle.std.proofs.Common.{Option, Some}
use Rattle.std.specs.Prelude.{IsSome}
use mathlib.Core.List.{List, [], ◌∷◌, ◌++◌}
use seplogic.Ra.Ura.{Ura}
use mir.Val.{Val}
use base.Logic.{SProp, ent, id⊢}
use base.Fml.{ftrue, fsep}
use prog.Memory.{Memory}
use prog.Routine.{Routine}
use prog.Wp.{WpFn, Tables}
use types.Logic.{Logic}
use contract.Monad.{Fun, fact}
use contract.Running.{tables, tables_of}
use sound.WpLaws.{WpFn-mono}
use types.Kit.{Item, ⋆, ‵, raw, ◌⊛◌, ◌$◌, ◌∵◌, !, qed, by, move, drop, use1, join, split, rewrite, fsplit, fjoin, suffices, done}
use types.Part.{whole, sub, agg}
use types.Run.{stop, fld, no_more, and_then, of_opd, returns, enter}
use types.ByLocal.{alloc_all, pass_all, free_all, look_at, get, get_in, sets}
use denote.Exit.{yes}
use denote.Signature.{type_at}
use denote.Steps.{nothing, heard}
use denote.Triple.Spec.{triple_of}
use denote.Triple.Table.{entered}
use denote.Triple.Walked.{says, Stays, stay_dropped, walk_of, ends_at, Goes-dropped, walk_Meets}
use Rattle.std_alloc.proofs.BoxSteps.Form.{D, B, word, box_typed}
use Rattle.std_alloc.proofs.BoxSteps.Steps.{box_out, box_in}
use Rattle.ghes_port.specs.contracts.boot.BootRegion as BootRegion
use Rattle.apei_c.proofs.Held.{held}
use Rattle.apei_c.proofs.BoxedBoot.{Boxed, AsOwner}
use Rattle.apei_c.specs.contracts.boot_owner.BootOwner as BootOwner
use Rattle.apei_c.specs.contracts.boot_owner.BootOwner.into_parts as IntoParts
use Rattle.apei_c.specs.contracts.boot_owner.BootOwner.into_parts.Key.{name as #self}
use Rattle.apei_c.proofs.boot_owner.BootOwner.into_parts.Statement as stated
use Rattle.apei_c.proofs.boot_owner.BootOwner.into_parts.Code as code

abbrev stays : Stays (IntoParts.ended).signature.params (IntoParts.ended).kept
stays = (stay_dropped AsOwner yes, tt)

module _ {M : Type 1} {𝓤 : Ura M} (𝓛 : Logic 𝓤) (in_memory : Memory → SProp 𝓤) (run : Routine → Fun 𝓤) (𝓣 : Tables 𝓤 𝓛.H) where
  open 𝓛 use {H}

  walk : (z : (walk_of 𝓛 IntoParts.ended stays (IntoParts.clauses 𝓛 in_memory run)).Ghost)
      → ent 𝓤 ((walk_of 𝓛 IntoParts.ended stays (IntoParts.clauses 𝓛 in_memory run)).pre z) (WpFn 𝓤 H 𝓣.C 𝓣.Λ code.function (z.0.4.0 ++ [])
      ((walk_of 𝓛 IntoParts.ended stays (IntoParts.clauses 𝓛 in_memory run)).post z))
  walk z =
      let Post = (walk_of 𝓛 IntoParts.ended stays (IntoParts.clauses 𝓛 in_memory run)).post z in
      let owner = z.0.3.0 in
      let Parts = type_at (IntoParts.signature).result tt in
      qed 𝓛 ((‵ ftrue ⊛ ‵ (fsep ((BootOwner.the_row).own_val owner z.0.4.0) ftrue)) ∷ raw (fact 𝓤 (IsSome owner.region)) ∷ []) ∵ move ! (1 ∷ []) $ heard ! (IsSome owner.region) (λ has_one.
      let region : BootRegion.the_row.Denot = (held owner.region has_one).0 in
      let region_is : owner.region ≡ Some region = (held owner.region has_one).1 in
      let boxed : D Boxed = record { ptr = owner.at; alloc = owner.alloc; value = region } in
      let made : Parts.Denot = record { ptr = boxed.ptr; alloc = boxed.alloc; value = boxed.value } in
      split ! $ drop ! $ fsplit ! $
      rewrite ! 0 (λ (it : Option BootRegion.the_row.Denot). ‵ ((BootOwner.the_row).own_val (record { at = owner.at; alloc = owner.alloc; region = it }) z.0.4.0)) region_is refl $
      use1 𝓛 (‵ ((B Boxed).own_val boxed z.0.4.0)) (id⊢ 𝓤 _) $
      box_out Boxed ! boxed z.0.4.0 (λ block offset handle at words handle_typed. box_in Boxed ! boxed block offset boxed.value at refl $ use1 𝓛
      (‵ (Parts.own_val made (word Boxed handle block offset ∷ []))) (id⊢ 𝓤 _) $ move ! (1 ∷ []) $ drop ! $
      let word_is = word Boxed handle block offset in
      let have : List (Item 𝓤) = ‵ (Parts.own_val made (word_is ∷ [])) ∷ [] in
      by ! (subst (λ (given : List Val). ent 𝓤 (⋆ 𝓛 have) (WpFn 𝓤 H 𝓣.C 𝓣.Λ code.function (given ++ []) Post)) (sym words)
      (qed 𝓛 have ∵ enter ! 𝓣.C 𝓣.Λ code.function (word_is ∷ []) _ $ alloc_all ! (λ locals. pass_all ! refl (box_typed Boxed handle block offset handle_typed, tt) $
      sets ! (of_opd ! (get_in ! (fld ! refl (stop !)) (sub ! 0 refl (whole !)))) refl (tt, tt) $ sets ! (of_opd ! (get_in ! (fld ! refl (stop !)) (sub ! 1 refl (whole !)))) refl handle_typed $
      sets ! (of_opd ! (get ! refl)) refl (tt, tt) $
      sets ! (agg ! (and_then ! (get ! refl) (and_then ! (get ! refl) (no_more !)))) refl (box_typed Boxed handle block offset handle_typed) $ returns ! (look_at ! 0 refl) $ free_all ! refl $
      suffices ! _ (ends_at 𝓛 IntoParts.ended stays (IntoParts.clauses 𝓛 in_memory run) z word_is made (tt, tt) (tt, tt)) $ says ! region_is $
      nothing ! $ nothing ! $ fjoin ! $ join ! $ nothing ! $ join ! $ done !)))))

pub into_parts_spec : {M : Type 1} → stated.statement M
unfolding tables_of
into_parts_spec 𝓤 𝓛 𝓜 𝓡 wired =
    let 𝓣 : Tables 𝓤 𝓛.H = tables_of 𝓤 𝓛.H 𝓜 (tables 𝓤 𝓛.H 𝓜 𝓡 𝓡.env) in
    entered 𝓤 𝓛.H (triple_of 𝓛 IntoParts.signature (IntoParts.spec 𝓛 𝓜.mem 𝓡.returns)) 𝓣.C 𝓣.Λ #self code.function (code.unfolded 𝓤 𝓛.H 𝓜 𝓡 wired)
    (walk_Meets 𝓛 IntoParts.ended stays (Goes-dropped 𝓛 0 AsOwner yes (λ κs x f. refl), tt) (IntoParts.clauses 𝓛 𝓜.mem 𝓡.returns)
    (WpFn 𝓤 𝓛.H 𝓣.C 𝓣.Λ code.function) (WpFn-mono 𝓤 𝓛.H 𝓛.laws 𝓣 code.function)
    (walk 𝓛 𝓜.mem 𝓡.returns 𝓣))
