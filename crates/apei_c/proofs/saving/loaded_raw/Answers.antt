use Rattle.std.proofs.Common.{refl, sym, subst, inl, inr}
use Rattle.erst_port.specs.PortState.{PortState}
use Rattle.apei_c.specs.Saving.{LoadedRaw}
use Rattle.apei_c.proofs.saving.loaded_raw.Goals as goal

pub returns-in-Ok-new-clause-loaded : goal.returns-in-Ok-new-clause-loaded
returns-in-Ok-new-clause-loaded c =
    subst (λ (port : PortState). LoadedRaw c.args.numbers.now c.args.flash.now c.args.saved.now port) (sym c.in-Ok-new.ensures.ok)
    (c.in-Some.geometry, c.in-Some.ensures.some, c.in-Ok.ensures.loaded, c.in-Ok.ensures.equivalent)

pub returns-clause-refused : goal.returns-clause-refused
returns-clause-refused c = inr (inr (c.in-Some.geometry, c.in-Err.error, c.in-Some.ensures.some, c.in-Err.ensures.refused, c.of_loading.ensures))

pub returns-in-Ok-clause-refused : goal.returns-in-Ok-clause-refused
returns-in-Ok-clause-refused c =
    inr (inl (refl, (c.in-Ok.port, (c.in-Some.geometry, c.in-Some.ensures.some, c.in-Ok.ensures.loaded, c.in-Ok.ensures.equivalent))))
