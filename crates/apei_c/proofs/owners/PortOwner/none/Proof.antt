-- A pointer and an allocator, of which nothing is owned but the allocator.
use mathlib.Core.Path.{refl, sym, subst}
use Rattle.std.proofs.Common.{None}
use mathlib.Core.List.{List, [], ◌∷◌, ◌++◌}
use mathlib.Core.Bool.{Bool, true, false, ◌&&◌}
use lib.Dec.{T}
use mir.Syntax.{ty_ptr}
use seplogic.Ra.Ura.{Ura}
use mir.Val.{Val, vstruct, vcons, vnil, has_ty}
use base.Logic.{SProp, ent, emp, id⊢}
use base.Fml.{ftrue, fsep}
use prog.Memory.{Memory}
use prog.Routine.{Routine}
use prog.Wp.{WpFn, Tables}
use types.Logic.{Logic}
use contract.Monad.{Fun}
use contract.Running.{tables, tables_of}
use sound.WpLaws.{WpFn-mono}
use types.Kit.{Item, ⋆, ‵, raw, ◌⊛◌, ◌$◌, ◌∵◌, !, qed, by, move, drop, use1, join, split, fsplit, fjoin, fpack, feq_l, feq_i, suffices, done}
use types.Part.{agg}
use types.Run.{no_more, and_then, returns, enter}
use types.ByLocal.{alloc_all, pass_all, free_all, look_at, get, sets}
use denote.Exit.{yes}
use denote.RattleType.{Valss}
use denote.RawPtr.{RawPtr, ptr_val, rawptr_Lawful}
use denote.Signature.{type_at, plain}
use denote.Steps.{nothing}
use denote.Struct.Struct.{within}
use denote.Triple.Spec.{triple_of}
use denote.Triple.Table.{entered}
use denote.Triple.Walked.{says, Stays, stay_dropped, walk_of, ends_at, Goes-dropped, walk_Meets}
use Rattle.core.proofs.alloc.Calls.{handle_tells, α}
use Rattle.std_alloc.proofs.BoxSteps.Form.{P}
use Rattle.std_heap.specs.contracts.Global as Heap
use Rattle.apei_c.proofs.Boxed.{Boxed}
use Rattle.apei_c.specs.contracts.owners.PortOwner.none as Made
use Rattle.apei_c.specs.contracts.owners.PortOwner.none.Key.{name as #self}
use Rattle.apei_c.proofs.owners.PortOwner.none.Statement as stated
use Rattle.apei_c.proofs.owners.PortOwner.none.Code as code

both : (a b : Bool) → T a → T b → T (a && (b && true))
both true true x y = tt
both true false x y = absurd y
both false b x y = absurd x

abbrev fields : Val → Val → Val
fields pointer handle = vstruct (vcons pointer (vcons handle vnil))

abbrev stays : Stays (Made.ended).signature.params (Made.ended).kept
stays = (stay_dropped (plain (λ _. RawPtr)) yes, (stay_dropped (plain (λ _. Heap.the_row)) yes, tt))

module _ {M : Type 1} {𝓤 : Ura M} (𝓛 : Logic 𝓤) (in_memory : Memory → SProp 𝓤) (run : Routine → Fun 𝓤) (𝓣 : Tables 𝓤 𝓛.H) where
  open 𝓛 use {H}

  walk : (z : (walk_of 𝓛 Made.ended stays (Made.clauses 𝓛 in_memory run)).Ghost)
      → ent 𝓤 ((walk_of 𝓛 Made.ended stays (Made.clauses 𝓛 in_memory run)).pre z) (WpFn 𝓤 H 𝓣.C 𝓣.Λ code.function (z.0.4.0 ++ (z.0.4.1.0 ++ []))
      ((walk_of 𝓛 Made.ended stays (Made.clauses 𝓛 in_memory run)).post z))
  walk z =
      let Post = (walk_of 𝓛 Made.ended stays (Made.clauses 𝓛 in_memory run)).post z in
      let at = z.0.3.0 in
      let alloc = z.0.3.1.0 in
      let Owner = type_at (Made.signature).result tt in
      let made : Owner.Denot = record { at = at; alloc = alloc; port = None } in
      qed 𝓛 ((‵ ftrue ⊛ ‵ (fsep (RawPtr.own_val at z.0.4.0) (fsep ((P Boxed).own_val alloc z.0.4.1.0) ftrue))) ∷ raw (emp 𝓤) ∷ []) ∵ split ! $ drop ! $ fsplit ! $
      feq_l ! (λ pointer_is. fsplit ! $ handle_tells Boxed.al ! alloc z.0.4.1.0 (λ handle handle_is handle_typed. move ! (1 ∷ 2 ∷ []) $ drop ! $ drop ! $
      let pointer : Val = ptr_val at in
      let word_is : Val = fields pointer handle in
      let have : List (Item 𝓤) = ‵ ((P Boxed).own_val alloc (handle ∷ [])) ∷ [] in
      let pointer_typed = (rawptr_Lawful 𝓛).typed at (pointer ∷ []) refl in
      by ! (subst (λ (given : List Val). ent 𝓤 (⋆ 𝓛 have) (WpFn 𝓤 H 𝓣.C 𝓣.Λ code.function (given ++ (z.0.4.1.0 ++ [])) Post)) (sym pointer_is)
      (subst (λ (given : List Val). ent 𝓤 (⋆ 𝓛 have) (WpFn 𝓤 H 𝓣.C 𝓣.Λ code.function (pointer ∷ (given ++ [])) Post)) (sym handle_is)
      (qed 𝓛 have ∵ enter ! 𝓣.C 𝓣.Λ code.function (pointer ∷ handle ∷ []) _ $ alloc_all ! (λ locals. pass_all ! refl (pointer_typed.0, (handle_typed, tt)) $
      sets ! (agg ! (and_then ! (get ! refl) (and_then ! (get ! refl) (no_more !)))) refl (
        both (has_ty ty_ptr pointer) (has_ty (α Boxed.al) handle)
            pointer_typed.0.0 handle_typed.0,
        (pointer_typed.0.1, (handle_typed.1, tt)),
      ) $ returns ! (look_at ! 0 refl) $ free_all ! refl $
      suffices ! _ (ends_at 𝓛 Made.ended stays (Made.clauses 𝓛 in_memory run) z word_is made (tt, (tt, tt)) (tt, (tt, tt))) $ says ! refl $
      -- the two fields are the owner's
      nothing ! $ move ! (1 ∷ 0 ∷ []) $ fjoin ! $ feq_i ! (List Val) (pointer ∷ []) (pointer ∷ []) refl $ fjoin ! $ feq_i ! (List Val) (word_is ∷ []) (word_is ∷ []) refl $ fjoin ! $
      fpack ! (Valss (RawPtr ∷ P Boxed ∷ [])) (within (record { name = []; args = []; types = []; fields = RawPtr ∷ P Boxed ∷ [] }) (at, (alloc, tt))
      (word_is ∷ [])) (pointer ∷ [], (handle ∷ [], tt)) $
      nothing ! $ move ! (1 ∷ 0 ∷ []) $ fjoin ! $ use1 𝓛 (‵ (Owner.own_val made (word_is ∷ []))) (id⊢ 𝓤 _) $
      nothing ! $ nothing ! $ fjoin ! $ nothing ! $ fjoin ! $ join ! $ nothing ! $ join ! $ done !))))))

pub none_spec : {M : Type 1} → stated.statement M
unfolding tables_of
none_spec 𝓤 𝓛 𝓜 𝓡 wired =
    let 𝓣 : Tables 𝓤 𝓛.H = tables_of 𝓤 𝓛.H 𝓜 (tables 𝓤 𝓛.H 𝓜 𝓡 𝓡.env) in
    entered 𝓤 𝓛.H (triple_of 𝓛 Made.signature (Made.spec 𝓛 𝓜.mem 𝓡.returns)) 𝓣.C 𝓣.Λ #self code.function (code.unfolded 𝓤 𝓛.H 𝓜 𝓡 wired)
    (walk_Meets 𝓛 Made.ended stays (
      Goes-dropped 𝓛 0 (plain (λ _. RawPtr)) yes (λ κs x f. refl),
      (Goes-dropped 𝓛 0 (plain (λ _. Heap.the_row)) yes (λ κs x f. refl), tt),
    ) (Made.clauses 𝓛 𝓜.mem 𝓡.returns) (WpFn 𝓤 𝓛.H 𝓣.C 𝓣.Λ code.function)
    (WpFn-mono 𝓤 𝓛.H 𝓛.laws 𝓣 code.function)
    (walk 𝓛 𝓜.mem 𝓡.returns 𝓣))
