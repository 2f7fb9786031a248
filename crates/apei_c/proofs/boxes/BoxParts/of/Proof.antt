-- A box is taken apart: its pointer and its allocator go into the parts, and with them what it owned.
use mathlib.Core.Path.{◌≡◌, refl, sym, subst, ap, ◌∙◌}
use mathlib.Core.List.{List, [], ◌∷◌, ◌++◌}
use seplogic.Ra.Ura.{Ura}
use mir.Syntax.{Fn, Args, Dict, a_type, dcons, dnil}
use mir.MapTy.{inst_fn}
use mir.Raw.{raw as bare}
use mir.Val.{Val, vstruct, of_list}
use base.Logic.{SProp, ent, id⊢, never, fst∗}
use base.Fml.{ftrue, fsep, flft}
use contract.BorrowLft.{◌⊑◌}
use prog.Memory.{Memory}
use prog.Routine.{Routine}
use prog.Wp.{WpFn, Tables}
use types.Logic.{Logic, sem}
use contract.Monad.{Fun, fact}
use contract.Running.{tables, tables_of}
use sound.WpLaws.{fm_of, WpFn-mono}
use types.Kit.{Item, ⋆, ‵, raw, ◌⊛◌, some, later, ◌$◌, ◌∵◌, !, qed, by, move, drop, use1, join, split, split3, pick, rewrite, fsplit, fjoin, fpick, feq_l, suffices, await, done}
use types.Part.{whole, sub, agg}
use types.Run.{stop, fld, no_more, and_then, of_opd, returns, enter}
use types.ByLocal.{alloc_all, pass_all, free_all, look_at, get, get_in, sets, lands_as}
use denote.RattleType.{RattleType}
use denote.Exit.{no}
use denote.Param.{bounded}
use denote.RawPtr.{Ptr, RawPtr, block_ptr, null_ptr, ptr_val, in_a_block}
use denote.Signature.{plain}
use denote.Steps.{heard, nothing, only}
use denote.Struct.Tuple.{Tuple}
use denote.Triple.Call.{calls_at}
use denote.Triple.Clauses.{Ended, Clauses}
use denote.Triple.Spec.{triple_of}
use denote.Triple.Statement.{Triple, Contract}
use denote.Triple.Table.{entered}
use denote.Triple.Walked.{says, Stays, stay_dropped, walk_of, ends_at, walk_Meets}
use Rattle.core.proofs.alloc.Calls.{token, handle_tells, Goes-blank}
use Rattle.std_alloc.specs.Box.Ownership.{box_owns}
use Rattle.std_alloc.proofs.BoxSteps.Form.{Bx, D, τ, R, P, B, word, box_typed}
use Rattle.std_alloc.proofs.BoxSteps.Steps.{box_out, box_in}
use Rattle.std_alloc.specs.contracts.boxed.Box.into_raw_with_allocator as Callee
use Rattle.std_alloc.proofs.boxed.Box.into_raw_with_allocator.Symbol as callee_symbol
use Rattle.std_alloc.proofs.boxed.Box.into_raw_with_allocator.Met as callee_met
use Rattle.apei_c.specs.contracts.boxes.BoxParts as BoxParts
use Rattle.apei_c.specs.contracts.boxes.BoxParts.of as Of
use Rattle.apei_c.specs.contracts.boxes.BoxParts.of.Key.{name as #self}
use Rattle.apei_c.proofs.boxes.BoxParts.of.Statement as stated
use Rattle.apei_c.proofs.boxes.BoxParts.of.Code as code

module _ (E : Bx) (droppable : Dict) where
  abbrev at_types : Args
  at_types = bounded (a_type ∷ a_type ∷ []) (E.row, (E.al.row, tt)) (dcons E.al.d (dcons E.al.drops (dcons droppable dnil)))

  abbrev body : Fn
  body = inst_fn at_types code.function

  abbrev ended : Ended
  ended = Of.ended E.row E.al.row E.al.g E.al.d E.al.drops droppable

  abbrev stays : Stays ended.signature.params ended.kept
  stays = (stay_dropped (plain (λ _. B E)) no, tt)

  abbrev Parts : RattleType
  Parts = BoxParts.the_row (R E) (P E) E.al.g

  module _ {M : Type 1} {𝓤 : Ura M} (𝓛 : Logic 𝓤) (in_memory : Memory → SProp 𝓤) (run : Routine → Fun 𝓤) (𝓣 : Tables 𝓤 𝓛.H) where
    open 𝓛 use {H}

    abbrev clauses : Clauses 𝓤 ended
    clauses = Of.clauses E.row E.al.row E.al.g E.al.d E.al.drops droppable 𝓛 in_memory run

    abbrev Opens : Contract 𝓤
    Opens = triple_of 𝓛 (Callee.signature E.row E.al.row E.al.g E.al.d E.al.drops droppable) (Callee.spec E.row E.al.row E.al.g E.al.d E.al.drops droppable 𝓛 in_memory run)

    walk : Triple 𝓤 (𝓣.C (callee_symbol.name at_types)) Opens → (z : (walk_of 𝓛 ended stays clauses).Ghost) → ent 𝓤 ((walk_of 𝓛 ended stays clauses).pre z)
        (WpFn 𝓤 H 𝓣.C 𝓣.Λ body (z.0.4.0 ++ []) ((walk_of 𝓛 ended stays clauses).post z))
    walk known z =
        let κs = z.0.0 in
        let qs = z.0.1 in
        let boxed = z.0.3.0 in
        let Post = (walk_of 𝓛 ended stays clauses).post z in
        let lent : Item 𝓤 = ‵ (flft κs.0 qs.0) ⊛ ‵ (flft κs.1.0 qs.1.0) ⊛ ‵ ftrue in
        let alive : Item 𝓤 = raw (fact 𝓤 (κs.0 ⊑ E.row.lives)) ⊛ raw (fact 𝓤 (κs.1.0 ⊑ E.al.row.lives)) ⊛ ‵ ftrue in
        qed 𝓛 ((lent ⊛ ‵ (fsep ((B E).own_val boxed z.0.4.0) ftrue)) ∷ alive ∷ []) ∵ split ! $ move ! (1 ∷ []) $ fsplit ! $
        box_out E ! boxed z.0.4.0 (λ block offset handle at words handle_typed. box_in E ! boxed block offset boxed.value at refl $
        let held = word E handle block offset in
        let asked : Opens.Ghost = ((κs, qs, tt, (boxed, tt), (held ∷ [], tt)), tt) in
        let have : List (Item 𝓤) = ‵ ((B E).own_val boxed (held ∷ [])) ∷ ‵ ftrue ∷ lent ∷ alive ∷ [] in
        by ! (subst (λ (given : List Val). ent 𝓤 (⋆ 𝓛 have) (WpFn 𝓤 H 𝓣.C 𝓣.Λ body (given ++ []) Post)) (sym words)
        (qed 𝓛 have ∵ enter ! 𝓣.C 𝓣.Λ body (held ∷ []) _ $ alloc_all ! (λ locals. pass_all ! refl (box_typed E handle block offset handle_typed, tt) $
        sets ! (of_opd ! (get ! refl)) refl (box_typed E handle block offset handle_typed) $
        -- the call
        fjoin ! $ move ! (1 ∷ 0 ∷ []) $ join ! $ join ! $ use1 𝓛 (raw (Opens.pre asked)) (id⊢ 𝓤 _) $
        calls_at ! (fm_of 𝓤 H 𝓛.laws 𝓣) Opens known asked (and_then ! (get ! refl) (no_more !)) (λ answer.
        use1 𝓛 (later (some (λ (pair : Ptr × E.al.row.Denot). (lent ⊛ ‵ ((Tuple (RawPtr ∷ P E ∷ [])).own_val pair (answer ∷ []))) ⊛ some
        (λ (_ : (Unit {0} × (Unit {0} × Unit {0})) × Unit {0}). ‵ (fsep (fsep ftrue (fsep ftrue ftrue)) ftrue) ⊛
        (raw (fact 𝓤 (pair.1 ≡ boxed.alloc)) ⊛ ‵ (box_owns (token E.al boxed.alloc) (R E) pair.0 boxed.value)))))) (id⊢ 𝓤 _) $
        await ! tt $ pick ! (λ pair. split ! $ move ! (1 ∷ []) $ pick ! (λ _. split3 ! $ drop ! $ heard ! (pair.1 ≡ boxed.alloc) (λ same_alloc.
        -- what it owns tells that the pointer is one of a block
        in_a_block ! pair.0 (λ at. box_owns (token E.al boxed.alloc) (R E) at boxed.value) (fst∗ 𝓤 (never 𝓤) (sem 𝓛 (token E.al boxed.alloc (bare (τ E)) null_ptr))) (λ block' offset' there.
        move ! (1 ∷ []) $ split ! $ move ! (1 ∷ []) $ fpick !
        (λ fields. fsplit ! $ feq_l ! (λ answer_is. fsplit ! $ feq_l !
        (λ pointer_is. fsplit ! $ rewrite ! 0 (λ (alloc : E.al.row.Denot). ‵ (E.al.row.own_val alloc fields.1.0)) same_alloc refl $
        handle_tells E.al ! boxed.alloc fields.1.0 (λ handle' handle_is typed'.
        let whole' : D E = record { ptr = block_ptr block' offset'; alloc = boxed.alloc; value = boxed.value } in
        let made : Parts.Denot = record { ptr = block_ptr block' offset'; alloc = boxed.alloc; value = boxed.value } in
        lands_as ! (ap only (answer_is ∙ (λ j. vstruct (of_list ((pointer_is ∙ ap (λ (at : Ptr). ptr_val at ∷ []) there) j ++ (handle_is j ++ []))) ∷ []))) refl
        (box_typed E handle' block' offset' typed') $
        -- its two fields, and the parts of them
        sets ! (of_opd ! (get_in ! (fld ! refl (stop !)) (sub ! 0 refl (whole !)))) refl (tt, tt) $ sets ! (of_opd ! (get_in ! (fld ! refl (stop !)) (sub ! 1 refl (whole !)))) refl typed' $
        sets ! (of_opd ! (get ! refl)) refl typed' $
        sets ! (agg ! (and_then ! (get ! refl) (and_then ! (get ! refl) (no_more !)))) refl (box_typed E handle' block' offset' typed') $ returns ! (look_at ! 0 refl) $ free_all ! refl $
        move ! (3 ∷ []) $ fsplit ! $ box_in E ! whole' block' offset' boxed.value refl refl $ use1 𝓛
        (‵ (Parts.own_val made (word E handle' block' offset' ∷ []))) (id⊢ 𝓤 _) $ move ! (1 ∷ []) $ drop ! $
        suffices ! _ (ends_at 𝓛 ended stays clauses z (word E handle' block' offset') made ((tt, (tt, tt)), tt) (tt, tt)) $ says ! refl $
        nothing ! $ nothing ! $ fjoin ! $ join ! $ move ! (1 ∷ 0 ∷ []) $ join ! $ done !)))))))))))))

pub of_spec : {M : Type 1} → stated.statement M
unfolding tables_of
of_spec 𝓤 𝓛 𝓜 𝓡 wired X Z LX LZ g d drops droppable allocator md glue =
    let E : Bx = record { row = X; laws = LX; al = record { row = Z; laws = LZ; g = g; d = d; drops = drops } } in
    let 𝓣 : Tables 𝓤 𝓛.H = tables_of 𝓤 𝓛.H 𝓜 (tables 𝓤 𝓛.H 𝓜 𝓡 𝓡.env) in
    let fn = body E droppable in
    entered 𝓤 𝓛.H (triple_of 𝓛 (ended E droppable).signature (Of.spec X Z g d drops droppable 𝓛 𝓜.mem 𝓡.returns)) 𝓣.C 𝓣.Λ (#self (at_types E droppable)) fn
    (code.unfolded 𝓤 𝓛.H 𝓜 𝓡 wired (X, (Z, tt)) d drops droppable)
    (walk_Meets 𝓛 (ended E droppable) (stays E droppable) (Goes-blank 𝓛 2 (plain (λ _. B E)) no (λ κs x f. tt), tt) (clauses E droppable 𝓛 𝓜.mem 𝓡.returns 𝓣)
    (WpFn 𝓤 𝓛.H 𝓣.C 𝓣.Λ fn) (WpFn-mono 𝓤 𝓛.H 𝓛.laws 𝓣 fn)
    (walk E droppable 𝓛 𝓜.mem 𝓡.returns 𝓣 (callee_met.met 𝓤 𝓛 𝓜 𝓡 (code.calls-std_alloc::boxed::Box::into_raw_with_allocator 𝓡.env wired) X Z LX LZ g d drops droppable allocator md glue)))
