-- The parts are put together again: the box has what they owned.
use mathlib.Core.Path.{◌≡◌, refl, sym, subst, ap}
use mathlib.Core.List.{List, [], ◌∷◌, ◌++◌}
use lib.Dec.{T}
use seplogic.Ra.Ura.{Ura}
use mir.Syntax.{Fn, Body, place, copy, assign, rv_opd, seq, return}
use mir.MapTy.{inst_fn}
use mir.Val.{Val, vptr, has_ty, WT}
use base.Logic.{SProp, ent, id⊢}
use base.Fml.{ftrue, fsep, flft}
use contract.BorrowLft.{◌⊑◌}
use prog.Memory.{Memory}
use prog.Routine.{Routine}
use prog.Wp.{WpFn, Tables}
use types.Logic.{Logic}
use contract.Monad.{Fun, fact}
use contract.Running.{tables, tables_of}
use sound.WpLaws.{fm_of, WpFn-mono}
use types.Kit.{Item, ⋆, at_ret, ‵, raw, ◌⊛◌, some, later, ◌$◌, ◌∵◌, !, qed, by, move, drop, use1, join, split, split3, pick, rewrite, fsplit, fjoin, feq_i, suffices, await, done}
use types.Part.{whole, sub}
use types.Run.{stop, fld, no_more, and_then, of_opd, returns, enter, first, blocks, exec}
use types.ByLocal.{alloc_all, pass_all, free_all, look_at, get, get_in, sets, lands_last, env}
use denote.RattleType.{RattleType}
use denote.Exit.{no}
use denote.RawPtr.{block_ptr}
use denote.Signature.{plain}
use denote.Steps.{heard, nothing, only}
use denote.Triple.Call.{calls_at_last}
use denote.Triple.Clauses.{Ended, Clauses}
use denote.Triple.Spec.{triple_of}
use denote.Triple.Statement.{Triple, Contract}
use denote.Triple.Table.{entered}
use denote.Triple.Walked.{says, Stays, stay_dropped, walk_of, ends_at, walk_Meets}
use Rattle.core.proofs.alloc.Calls.{token, Goes-blank}
use Rattle.std_alloc.specs.Box.Ownership.{box_owns}
use Rattle.std_alloc.proofs.BoxSteps.Form.{Bx, D, R, P, B, args, box_ty, word, box_typed}
use Rattle.std_alloc.proofs.BoxSteps.Steps.{box_out, box_in}
use Rattle.std_alloc.specs.contracts.boxed.Box.from_raw as Callee
use Rattle.std_alloc.proofs.boxed.Box.from_raw.Symbol as callee_symbol
use Rattle.std_alloc.proofs.boxed.Box.from_raw.Met as callee_met
use Rattle.apei_c.specs.contracts.boxes.BoxParts as BoxParts
use Rattle.apei_c.specs.contracts.boxes.BoxParts.into_box as IntoBox
use Rattle.apei_c.specs.contracts.boxes.BoxParts.into_box.Key.{name as #self}
use Rattle.apei_c.proofs.boxes.BoxParts.into_box.Statement as stated
use Rattle.apei_c.proofs.boxes.BoxParts.into_box.Code as code

-- what runs behind the call
abbrev behind : Body
behind = seq (assign (place 0 []) (rv_opd (copy (place 4 [])))) return

module _ (E : Bx) where
  abbrev body : Fn
  body = inst_fn (args E) code.function

  abbrev ended : Ended
  ended = IntoBox.ended E.row E.al.row E.al.g E.al.d E.al.drops

  abbrev Parts : RattleType
  Parts = BoxParts.the_row (R E) (P E) E.al.g

  abbrev stays : Stays ended.signature.params ended.kept
  stays = (stay_dropped (plain (λ _. Parts)) no, tt)

  module _ {M : Type 1} {𝓤 : Ura M} (𝓛 : Logic 𝓤) (in_memory : Memory → SProp 𝓤) (run : Routine → Fun 𝓤) (𝓣 : Tables 𝓤 𝓛.H) where
    open 𝓛 use {H}

    abbrev clauses : Clauses 𝓤 ended
    clauses = IntoBox.clauses E.row E.al.row E.al.g E.al.d E.al.drops 𝓛 in_memory run

    abbrev Closes : Contract 𝓤
    Closes = triple_of 𝓛 (Callee.signature E.row E.al.row E.al.g E.al.d E.al.drops) (Callee.spec E.row E.al.row E.al.g E.al.d E.al.drops 𝓛 in_memory run)

    walk : Triple 𝓤 (𝓣.C (callee_symbol.name (args E))) Closes → (z : (walk_of 𝓛 ended stays clauses).Ghost) → ent 𝓤 ((walk_of 𝓛 ended stays clauses).pre z)
        (WpFn 𝓤 H 𝓣.C 𝓣.Λ body (z.0.4.0 ++ []) ((walk_of 𝓛 ended stays clauses).post z))
    walk known z =
        let κs = z.0.0 in
        let qs = z.0.1 in
        let alloc = z.0.3.0.alloc in
        let value = z.0.3.0.value in
        let Post = (walk_of 𝓛 ended stays clauses).post z in
        let boxed : D E = record { ptr = z.0.3.0.ptr; alloc = alloc; value = value } in
        let lent : Item 𝓤 = ‵ (flft κs.0 qs.0) ⊛ ‵ (flft κs.1.0 qs.1.0) ⊛ ‵ ftrue in
        let value_lives : Item 𝓤 = raw (fact 𝓤 (κs.0 ⊑ E.row.lives)) in
        let alloc_lives : Item 𝓤 = raw (fact 𝓤 (κs.1.0 ⊑ E.al.row.lives)) in
        qed 𝓛 ((lent ⊛ ‵ (fsep ((B E).own_val boxed z.0.4.0) ftrue)) ∷ (value_lives ⊛ alloc_lives ⊛ ‵ ftrue) ∷ []) ∵ split ! $ move ! (1 ∷ []) $ fsplit ! $
        box_out E ! boxed z.0.4.0 (λ block offset handle at words handle_typed. fjoin ! $
        let held = word E handle block offset in
        let asked : Closes.Ghost = ((κs, qs, tt, (alloc, (block_ptr block offset, tt)), (handle ∷ [], (vptr block offset ∷ [], tt))), value) in
        let have : List (Item 𝓤) = ‵ (box_owns (token E.al alloc) (R E) (block_ptr block offset) value) ∷ ‵ ((P E).own_val alloc (handle ∷ [])) ∷ ‵ ftrue ∷ lent
        ∷ (value_lives ⊛ alloc_lives ⊛ ‵ ftrue) ∷ [] in
        by ! (subst (λ (given : List Val). ent 𝓤 (⋆ 𝓛 have) (WpFn 𝓤 H 𝓣.C 𝓣.Λ body (given ++ []) Post)) (sym words)
        (qed 𝓛 have ∵ enter ! 𝓣.C 𝓣.Λ body (held ∷ []) _ $ alloc_all ! (λ locals. pass_all ! refl (box_typed E handle block offset handle_typed, tt) $
        sets ! (of_opd ! (get_in ! (fld ! refl (stop !)) (sub ! 0 refl (whole !)))) refl (tt, tt) $ sets ! (of_opd ! (get_in ! (fld ! refl (stop !)) (sub ! 1 refl (whole !)))) refl handle_typed $
        first ! $ blocks ! $ sets ! (of_opd ! (get ! refl)) refl handle_typed $
        -- what the call asks for: the lifetimes, the allocator and the pointer, and the memory
        move ! (4 ∷ []) $ split3 ! $ move ! (2 ∷ []) $ drop ! $ move ! (1 ∷ 2 ∷ []) $ join ! $ move ! (1 ∷ 0 ∷ []) $ join ! $
        move ! (2 ∷ []) $ feq_i ! (List Val) (vptr block offset ∷ []) (vptr block offset ∷ []) refl $ fjoin ! $ move ! (2 ∷ 0 ∷ []) $ fjoin ! $ move !
        (2 ∷ 0 ∷ []) $ join ! $ join ! $ use1 𝓛 (raw (Closes.pre asked)) (id⊢ 𝓤 _) $
        calls_at_last ! (fm_of 𝓤 H 𝓛.laws 𝓣) Closes known asked (and_then ! (get ! refl) (and_then ! (get ! refl) (no_more !))) (λ answer.
        use1 𝓛 (later (some (λ (closed : D E). (lent ⊛ ‵ ((B E).own_val closed (answer ∷ []))) ⊛ some
        (λ (_ : Unit {0} × (Unit {0} × Unit {0})). ‵ (fsep ftrue (fsep ftrue ftrue)) ⊛
        (raw (fact 𝓤 (closed.value ≡ value)) ⊛ raw (fact 𝓤 (closed.alloc ≡ alloc))))))) (id⊢ 𝓤 _) $
        await ! tt $ pick ! (λ closed. split ! $ move ! (1 ∷ []) $ pick ! (λ _. split3 ! $ drop ! $ heard ! (closed.value ≡ value) (λ same_value. drop ! $ split ! $ move ! (1 ∷ []) $
        box_out E ! closed (answer ∷ []) (λ block' offset' handle' at' answer_is handle_typed'. box_in E ! closed block' offset' closed.value at' refl $ rewrite
        ! 0 (λ (given : List Val). ‵ ((B E).own_val closed given)) (sym answer_is) refl $
        let typed : T (has_ty (box_ty E) answer) × WT answer = subst (λ (it : Val). T (has_ty (box_ty E) it) × WT it) (sym (ap only answer_is)) (box_typed E handle' block' offset' handle_typed') in
        lands_last ! refl typed $ exec ! 𝓣.C 𝓣.Λ (env body.locals locals) behind (at_ret (env body.locals locals) Post) $
        sets ! (of_opd ! (get ! refl)) refl typed $ returns ! (look_at ! 0 refl) $ free_all ! refl $
        suffices ! _ (ends_at 𝓛 ended stays clauses z answer closed ((tt, (tt, tt)), tt) (tt, tt)) $ says ! same_value $
        nothing ! $ nothing ! $ fjoin ! $ join ! $ move ! (1 ∷ 0 ∷ []) $ join ! $ done !)))))))))

pub into_box_spec : {M : Type 1} → stated.statement M
unfolding tables_of
into_box_spec 𝓤 𝓛 𝓜 𝓡 wired X Z LX LZ g d drops allocator md =
    let E : Bx = record { row = X; laws = LX; al = record { row = Z; laws = LZ; g = g; d = d; drops = drops } } in
    let 𝓣 : Tables 𝓤 𝓛.H = tables_of 𝓤 𝓛.H 𝓜 (tables 𝓤 𝓛.H 𝓜 𝓡 𝓡.env) in
    let fn = body E in
    entered 𝓤 𝓛.H (triple_of 𝓛 (ended E).signature (IntoBox.spec X Z g d drops 𝓛 𝓜.mem 𝓡.returns)) 𝓣.C 𝓣.Λ (#self (args E)) fn (code.unfolded 𝓤 𝓛.H 𝓜 𝓡 wired (X, (Z, tt)) d drops)
    (walk_Meets 𝓛 (ended E) (stays E) (Goes-blank 𝓛 2 (plain (λ _. Parts E)) no (λ κs x f. tt), tt) (clauses E 𝓛 𝓜.mem 𝓡.returns 𝓣) (WpFn 𝓤 𝓛.H 𝓣.C 𝓣.Λ fn) (WpFn-mono 𝓤 𝓛.H 𝓛.laws 𝓣 fn)
    (walk E 𝓛 𝓜.mem 𝓡.returns 𝓣 (callee_met.met 𝓤 𝓛 𝓜 𝓡 (code.calls-std_alloc::boxed::Box::from_raw 𝓡.env wired) X Z LX LZ g d drops allocator md)))
