use Rattle.std.proofs.Common.{◌≡◌, ◌≢◌, ◌∙◌, true, false, sym, ap, subst, refl}
use Rattle.erst_port.specs.declared.errors.OpenError.{OpenError}
use Rattle.erst_port.specs.declared.errors.ReopenError.TheVariants.{Medium}
use Rattle.flash_model.specs.Layouts.{layout_of}
use Rattle.erst_port.specs.PortState.{PortState}
use Rattle.erst_port.specs.Failures.{RefusesAnew, NoMedium, Divided}
use Rattle.erst_port.proofs.FailLemmas.{divides_as, divides_alike}
use Rattle.erst_port.proofs.port.Port.geometry_on.Goals as goal

pub returns-in-Err-clause-refused : goal.returns-in-Err-clause-refused
returns-in-Err-clause-refused c =
    let some : c.args.self.now.origin ≢ 0 = λ none. c.if-self-eq0.false (ap (λ (p : PortState). p.origin) c.self.view_is ∙ none) in
    subst (λ (e : OpenError). RefusesAnew c.args.self.now c.args.medium.now (Medium e)) (sym c.into.ensures) (NoMedium c.in-Err.why some c.in-Err.ensures)

pub returns-then-not-are_alike-clause-refused : goal.returns-then-not-are_alike-clause-refused
returns-then-not-are_alike-clause-refused c =
    let some : c.args.self.now.origin ≢ 0 = λ none. c.if-self-eq0.false (ap (λ (p : PortState). p.origin) c.self.view_is ∙ none) in
    Divided c.in-Ok.geometry some c.in-Ok.ensures
    (λ same. absurd (let no : false ≡ true = c.if-not-are_alike.ensures.1 (divides_alike c.in-Ok.geometry (layout_of c.geometry-2.result)
    c.args.self.now.device.store.layout c.geometry-2.ensures same) in cc))

pub returns-clause-its : goal.returns-clause-its
returns-clause-its c = record {
  divided = divides_as c.in-Ok.geometry (layout_of c.geometry-2.result) c.args.self.now.device.store.layout c.geometry-2.ensures (c.if-not-are_alike.ensures.0 refl);
  headed = λ _. c.in-Ok.ensures;
}
