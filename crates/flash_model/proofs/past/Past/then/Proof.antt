-- `then` names the changes before it, and the one that it is given. Assumes `Logic`.
use Rattle.std.proofs.Common.{List, [], ◌∷◌, ◌++◌, refl}
use seplogic.Ra.Ura.{Ura}
use mir.Syntax.{Fn}
use mir.Val.{Val, vptr}
use base.Logic.{SProp, ent}
use prog.Memory.{Memory}
use prog.Routine.{Routine}
use prog.Wp.{Calls, Loops, WpFn, Tables}
use contract.Monad.{Fun}
use contract.Running.{tables, tables_of}
use sound.WpLaws.{WpFn-mono}
use types.Logic.{Logic}
use types.Kit.{‵, raw, ◌⊛◌, prop, ◌$◌, ◌∵◌, !, qed, move, keep, drop, split, fsplit, fjoin, feq_l, regoal, suffices, done}
use types.Part.{agg}
use types.Run.{enter, returns, no_more}
use types.ByLocal.{alloc_all, pass_all, free_all, look_at, sets}
use denote.Exit.{yes}
use denote.RattleType.{owns}
use denote.Builtin.{RefOf}
use denote.Signature.{plain, types_at, named_lft}
use denote.Steps.{nothing}
use denote.Triple.Clauses.{Clauses, Ended, closing}
use denote.Triple.Entry.{alive}
use denote.Triple.Spec.{Meets, triple_of}
use denote.Triple.Table.{entered}
use denote.Triple.Walked.{says, Stays, stay_dropped, walk_of, ends_at, walk_Meets, Goes-dropped}
use Rattle.base_model.specs.Flash.{Change}
use Rattle.flash_model.proofs.Walks.{bare, owns_bare}
use Rattle.flash_model.specs.contracts.past.Past as Past
use Rattle.flash_model.specs.contracts.past.Before as Before
use Rattle.flash_model.specs.contracts.past.Past.then as said
use Rattle.flash_model.specs.contracts.past.Past.then.Key.{name as #self}
use Rattle.flash_model.proofs.past.Past.then.Statement as stated
use Rattle.flash_model.proofs.past.Past.then.Code as code

abbrev body : Fn
body = code.function

abbrev exit : Ended
exit = said.ended

abbrev stay : Stays exit.signature.params exit.kept
stay = (stay_dropped _ yes, (stay_dropped _ yes, tt))

module _ {M : Type 1} {𝓤 : Ura M} (𝓛 : Logic 𝓤) (memory : Memory → SProp 𝓤) (run : Routine → Fun 𝓤) where
  open 𝓛 use {H}

  abbrev terms : Clauses 𝓤 exit
  terms = said.clauses 𝓛 memory run

  module _ (C : Calls 𝓤 H) (Λ : Loops 𝓤 H) (z : (walk_of 𝓛 exit stay terms).Ghost) where
    abbrev Post : Val → SProp 𝓤
    Post = (walk_of 𝓛 exit stay terms).post z

    abbrev lifetimes : SProp 𝓤
    lifetimes = alive 𝓛 exit.signature z.0.0 z.0.1

    walk : ent 𝓤 ((walk_of 𝓛 exit stay terms).pre z) (WpFn 𝓤 H C Λ body ((walk_of 𝓛 exit stay terms).args z) Post)
    walk =
        let given = z.0.3 in
        let places = z.0.4 in
        let self_at : Val = vptr given.0.ref_ptr.0 given.0.ref_ptr.1 in
        let change_at : Val = vptr given.1.0.ref_ptr.0 given.1.0.ref_ptr.1 in
        let change : Change = record { before = given.1.0.now.image.now; at = given.1.0.now.at; len = given.1.0.now.len } in
        let past : (Past.the_row).Denot = record { changes = given.0.now.changes ++ change ∷ [] } in
        qed 𝓛 ((raw lifetimes ⊛ ‵ (owns (types_at exit.signature.params z.0.0) given places)) ∷ raw ((terms z.0.0 given).requires z.1) ∷ []) ∵
        keep ! (0 ∷ []) $ split ! $ move ! (1 ∷ [])
        $ fsplit ! $ fsplit ! $ feq_l ! (λ self_is. drop !
        $ fsplit ! $ fsplit ! $ feq_l ! (λ change_is. drop ! $ drop !
        $ regoal ! (λ (vals : List Val). prop (WpFn 𝓤 H C Λ body (vals ++ (places.1.0 ++ [])) Post)) self_is refl
        $ regoal ! (λ (vals : List Val). prop (WpFn 𝓤 H C Λ body ((self_at ∷ []) ++ (vals ++ [])) Post)) change_is refl
        $ enter ! C Λ body (self_at ∷ change_at ∷ []) Post $ alloc_all ! (λ locals. pass_all ! refl ((tt, tt), ((tt, tt), tt))
        $ sets ! (agg ! (no_more !)) refl (tt, tt)
        $ nothing ! $ owns_bare ! $ fjoin !
        $ returns ! (look_at ! 0 refl) $ free_all ! refl
        $ suffices ! _ (ends_at 𝓛 exit stay terms z bare past (tt, (tt, tt)) (tt, (tt, tt))) $ says ! refl
        $ nothing ! $ nothing ! $ fjoin ! $ nothing ! $ fjoin ! $ move ! (2 ∷ 0 ∷ 1 ∷ []) $ done !)))

  meets : (𝓣 : Tables 𝓤 H) → Meets 𝓛 exit.signature (WpFn 𝓤 H 𝓣.C 𝓣.Λ body) (closing 𝓛 exit terms)
  meets 𝓣 =
      let self_goes = Goes-dropped 𝓛 3 (RefOf (0 ∷ []) tt (plain (λ _. Past.the_row)) (λ _. tt)) yes (λ κs x f. refl) in
      let change_goes = Goes-dropped 𝓛 3 (RefOf (1 ∷ []) tt (plain (λ κs. Before.the_row (named_lft 3 2 tt κs))) (λ _. tt)) yes (λ κs x f. refl) in
      walk_Meets 𝓛 exit stay (self_goes, (change_goes, tt)) terms (WpFn 𝓤 H 𝓣.C 𝓣.Λ body) (WpFn-mono 𝓤 H 𝓛.laws 𝓣 body) (walk 𝓣.C 𝓣.Λ)

pub then_spec : {M : Type 1} → stated.statement M
unfolding tables_of
then_spec 𝓤 𝓛 𝓜 𝓡 wired =
    let 𝓣 : Tables 𝓤 𝓛.H = tables_of 𝓤 𝓛.H 𝓜 (tables 𝓤 𝓛.H 𝓜 𝓡 𝓡.env) in
    entered 𝓤 𝓛.H (triple_of 𝓛 exit.signature (closing 𝓛 exit (terms 𝓛 𝓜.mem 𝓡.returns))) 𝓣.C 𝓣.Λ #self body
    (code.unfolded 𝓤 𝓛.H 𝓜 𝓡 wired) (meets 𝓛 𝓜.mem 𝓡.returns 𝓣)
