use Rattle.std.proofs.Common.{◌≡◌, Result, Ok, Err, sym, subst}
use Rattle.std.specs.Result.{IsErrAnd}
use Rattle.flash_model.specs.declared.flash.FlashFailed.{FlashFailed}
use Rattle.base_model.specs.Flash.{FlashState}
use Rattle.record_store.specs.Kept.{Kept, kept_of}
use Rattle.record_store.specs.Stepping.{MakesChange, leaving}
use Rattle.record_store.specs.declared.work.Begun.{Begun}
use Rattle.record_store.proofs.stepping.make_change.Goals as goal

-- an answer that tells the same change of the same work
with_answer : (tells : Type 0) (kept : Kept) (old new : FlashState) (before now next : Begun) (error : FlashFailed) (result : Result (Unit {0}) FlashFailed)
    → now ≡ before → (P : FlashFailed → Type 0) → IsErrAnd result P → MakesChange tells kept old new before (Err error) → MakesChange tells kept old new now (leaving result next)
with_answer tells kept old new before now next error (Ok done) is P failed makes = absurd failed
with_answer tells kept old new before now next error (Err other) is P failed makes =
    subst (λ (w : Begun). MakesChange tells kept old new w (Err error)) (sym is) makes

pub returns-in_err-next-in-OldCopy-clause-makes : goal.returns-in_err-next-in-OldCopy-clause-makes
returns-in_err-next-in-OldCopy-clause-makes g c =
    with_answer g.F.Flash.tells (kept_of c.args.geometry.now c.end_old_copy.new.found c.args.buffer.now) (g.F.Flash.state c.args.flash.now)
    (g.F.Flash.state c.end_old_copy.new.flash) _ c.args.work.now _ _ _
    c.in-OldCopy.is _ (c.from_residual-in_err-next-in-OldCopy.ensures).1 ((c.in_err-next-in-OldCopy.ensures).makes c.args.buffer.now)

pub returns-in_err-next-in-Clear-clause-makes : goal.returns-in_err-next-in-Clear-clause-makes
returns-in_err-next-in-Clear-clause-makes g c =
    with_answer g.F.Flash.tells (kept_of c.args.geometry.now c.end_record.new.found c.args.buffer.now) (g.F.Flash.state c.args.flash.now)
    (g.F.Flash.state c.end_record.new.flash) _ c.args.work.now _ _ _
    c.in-Clear.is _ (c.from_residual-in_err-next-in-Clear.ensures).1 ((c.in_err-next-in-Clear.ensures).makes c.args.buffer.now)

pub returns-in_ok-next-in-OldCopy-clause-makes : goal.returns-in_ok-next-in-OldCopy-clause-makes
returns-in_ok-next-in-OldCopy-clause-makes g c =
    subst (λ (w : Begun). MakesChange g.F.Flash.tells (kept_of c.args.geometry.now c.end_old_copy.new.found c.args.buffer.now)
    (g.F.Flash.state c.args.flash.now) (g.F.Flash.state c.end_old_copy.new.flash) w (Ok c.in_ok-next-in-OldCopy.next))
    (sym c.in-OldCopy.is) ((c.in_ok-next-in-OldCopy.ensures).makes c.args.buffer.now)

pub returns-in_ok-next-in-Clear-clause-makes : goal.returns-in_ok-next-in-Clear-clause-makes
returns-in_ok-next-in-Clear-clause-makes g c =
    subst (λ (w : Begun). MakesChange g.F.Flash.tells (kept_of c.args.geometry.now c.end_record.new.found c.args.buffer.now) (g.F.Flash.state c.args.flash.now)
    (g.F.Flash.state c.end_record.new.flash) w (Ok c.in_ok-next-in-Clear.next))
    (sym c.in-Clear.is) ((c.in_ok-next-in-Clear.ensures).makes c.args.buffer.now)
