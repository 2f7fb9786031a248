-- `new` names no changes. Assumes `Logic`.
use Rattle.std.proofs.Common.{[], ◌∷◌, refl}
use seplogic.Ra.Ura.{Ura}
use mir.Syntax.{Fn}
use mir.Val.{Val}
use base.Logic.{SProp, ent}
use prog.Memory.{Memory}
use prog.Routine.{Routine}
use prog.Wp.{Calls, Loops, WpFn, Tables}
use contract.Monad.{Fun}
use contract.Running.{tables, tables_of}
use sound.WpLaws.{WpFn-mono}
use types.Logic.{Logic}
use types.Kit.{‵, raw, ◌⊛◌, ◌$◌, ◌∵◌, !, qed, move, keep, drop, split, fjoin, suffices, done}
use types.Part.{agg}
use types.Run.{enter, returns, no_more}
use types.ByLocal.{alloc_all, pass_all, free_all, look_at, sets}
use denote.RattleType.{owns}
use denote.Signature.{types_at}
use denote.Steps.{nothing}
use denote.Triple.Clauses.{Clauses, Ended, closing}
use denote.Triple.Entry.{alive}
use denote.Triple.Spec.{Meets, triple_of}
use denote.Triple.Table.{entered}
use denote.Triple.Walked.{says, Stays, walk_of, ends_at, walk_Meets}
use Rattle.flash_model.proofs.Walks.{bare, owns_bare}
use Rattle.flash_model.specs.contracts.past.Past as Past
use Rattle.flash_model.specs.contracts.past.Past.new as said
use Rattle.flash_model.specs.contracts.past.Past.new.Key.{name as #self}
use Rattle.flash_model.proofs.past.Past.new.Statement as stated
use Rattle.flash_model.proofs.past.Past.new.Code as code

abbrev body : Fn
body = code.function

abbrev exit : Ended
exit = said.ended

abbrev stay : Stays exit.signature.params exit.kept
stay = tt

module _ {M : Type 1} {𝓤 : Ura M} (𝓛 : Logic 𝓤) (memory : Memory → SProp 𝓤) (run : Routine → Fun 𝓤) where
  open 𝓛 use {H}

  abbrev terms : Clauses 𝓤 exit
  terms = said.clauses 𝓛 memory run

  module _ (C : Calls 𝓤 H) (Λ : Loops 𝓤 H) (z : (walk_of 𝓛 exit stay terms).Ghost) where
    abbrev Post : Val → SProp 𝓤
    Post = (walk_of 𝓛 exit stay terms).post z

    abbrev lifetimes : SProp 𝓤
    lifetimes = alive 𝓛 exit.signature z.0.0 z.0.1

    walk : ent 𝓤 ((walk_of 𝓛 exit stay terms).pre z) (WpFn 𝓤 H C Λ body ((walk_of 𝓛 exit stay terms).args z) Post)
    walk =
        let past : (Past.the_row).Denot = record { changes = [] } in
        qed 𝓛 ((raw lifetimes ⊛ ‵ (owns (types_at exit.signature.params z.0.0) z.0.3 z.0.4)) ∷ raw ((terms z.0.0 z.0.3).requires z.1) ∷ []) ∵
        keep ! (0 ∷ []) $ split ! $ move ! (1 ∷ []) $ drop !
        $ enter ! C Λ body [] Post $ alloc_all ! (λ locals. pass_all ! refl tt
        $ sets ! (agg ! (no_more !)) refl (tt, tt)
        $ nothing ! $ owns_bare ! $ fjoin !
        $ returns ! (look_at ! 0 refl) $ free_all ! refl
        $ suffices ! _ (ends_at 𝓛 exit stay terms z bare past tt tt) $ says ! refl
        $ nothing ! $ move ! (2 ∷ 0 ∷ 1 ∷ []) $ done !)

  meets : (𝓣 : Tables 𝓤 H) → Meets 𝓛 exit.signature (WpFn 𝓤 H 𝓣.C 𝓣.Λ body) (closing 𝓛 exit terms)
  meets 𝓣 = walk_Meets 𝓛 exit stay tt terms (WpFn 𝓤 H 𝓣.C 𝓣.Λ body) (WpFn-mono 𝓤 H 𝓛.laws 𝓣 body) (walk 𝓣.C 𝓣.Λ)

pub new_spec : {M : Type 1} → stated.statement M
unfolding tables_of
new_spec 𝓤 𝓛 𝓜 𝓡 wired =
    let 𝓣 : Tables 𝓤 𝓛.H = tables_of 𝓤 𝓛.H 𝓜 (tables 𝓤 𝓛.H 𝓜 𝓡 𝓡.env) in
    entered 𝓤 𝓛.H (triple_of 𝓛 exit.signature (closing 𝓛 exit (terms 𝓛 𝓜.mem 𝓡.returns))) 𝓣.C 𝓣.Λ #self body
    (code.unfolded 𝓤 𝓛.H 𝓜 𝓡 wired) (meets 𝓛 𝓜.mem 𝓡.returns 𝓣)
