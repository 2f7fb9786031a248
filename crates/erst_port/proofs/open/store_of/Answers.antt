use Rattle.std.proofs.Common.{◌∙◌, ap, subst}
use Rattle.base_model.specs.Flash.{FlashState}
use Rattle.record_slots.specs.declared.scanning.ScanError.{ScanError}
use Rattle.record_slots.specs.declared.scanning.ScanError.TheVariants.{Flash}
use Rattle.record_store.specs.Answers.{RefusesFlash}
use Rattle.erst_port.specs.States.{state_of}
use Rattle.erst_port.proofs.LogLemmas.{opening_is_logged, opening_fails_nothing}
use Rattle.erst_port.proofs.open.store_of.Goals as goal

pub unreachable-requires : goal.unreachable-requires
unreachable-requires c =
    let first = state_of c.args.flash in
    let back = state_of c.in-Err.refused.flash in
    let refused : RefusesFlash c.args.geometry first back Flash =
    subst (λ (why : ScanError). RefusesFlash c.args.geometry first back why) c.in-Flash.is c.in-Err.ensures.refused in
    opening_fails_nothing c.args.geometry first back (ap (λ (flash : FlashState). flash.faults) c.requires.first)
    (ap (λ (flash : FlashState). flash.steps) c.requires.first) (c.in-Err.ensures.at_most tt) c.fails_last.ensures refused.2

pub returns-in-Ok-clause-known : goal.returns-in-Ok-clause-known
returns-in-Ok-clause-known c =
    opening_is_logged c.args.geometry (state_of c.args.flash).told c.in-Ok.store.flash (ap (λ (flash : FlashState). flash.told.past) c.requires.first)
    (c.in-Ok.ensures.flash.size ∙ c.requires.fits.size) (c.in-Ok.ensures.order tt)
