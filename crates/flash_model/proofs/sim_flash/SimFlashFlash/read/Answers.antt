use Rattle.std.proofs.Common.{ℕ, List, length, refl, sym, subst, ◌∙◌, inl, inr}
use Rattle.std.specs.Prelude.{Contains}
use Rattle.flash_model.proofs.Telling.{part-range}
use Rattle.flash_model.proofs.sim_flash.SimFlashFlash.read.Goals as goal
use Rattle.flash_model.proofs.sim_flash.SimFlashFlash.read.Goals.{then-is_lost, else-is_lost}

pub returns-clause-bytes : goal.returns-clause-bytes
returns-clause-bytes c =
    rw (← c.self.view_is)
    (c.copy_from_slice.ensures.after
    ∙ part-range c.self.inside.image.items c.deref-2.result.now c.args.at (length c.args.buf.now) (length c.args.buf.now) c.deref-2.ensures.value refl)

pub returns-then-fails-clause-fails : goal.returns-then-fails-clause-fails
returns-then-fails-clause-fails c =
    rw (← c.self.view_is) (
      λ _. elim c.if-is_lost.branch [
        | then-is_lost w ↦ inr (c.is_lost.ensures.0 w.if-is_lost.true)
        | else-is_lost w ↦ inl (subst (λ (xs : List ℕ). Contains xs c.self.inside.reads) w.deref.ensures.value (w.is_listed-fails.ensures.0 (sym w.fails-is ∙ c.if-fails.true)))
      ],
      λ _. refl,
    )
