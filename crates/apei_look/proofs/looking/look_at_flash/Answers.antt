use Rattle.std.proofs.Common.{rules, ◌≡◌, ◌≤◌, ◌*◌, false, subst, IfSome, Ok, Err}
use Rattle.apei_look.specs.Endings.{ending, EndsBy}
use Rattle.apei_look.specs.Looks.{IsFlashLook, IsLookBy, IsTaken}
use Rattle.apei_look.specs.Refusals.{length_checked, most_of}
use Rattle.apei_look.proofs.LookLemmas.{flash_longer, flash_shown}
use Rattle.apei_look.proofs.looking.look_at_flash.Goals as goal

pub returns-in_err-check_length-clause-ends : goal.returns-in_err-check_length-clause-ends
returns-in_err-check_length-clause-ends g c =
    let options = c.args.options.now in
    let geometry = c.taken-geometry.result in
    let size = c.args.file.now.size in
    let taken : IsTaken options.guess c.in_ok-image.image.items c.args.given geometry = search rules in
    let within : size ≤ most_of options.guess c.args.given = search rules in
    let longer : Err c.in_err-check_length.field-0.0 ≡ length_checked size (geometry.slot_size * geometry.slots) = search rules in
    let content = g.H.Host.content c.args.file.now.file in
    let same : c.in_err-check_length.field-0.0 ≡ ending c.from_residual-in_err-check_length.result = search rules in
    subst (λ status. IfSome content (λ known. EndsBy (IsFlashLook options.show options.guess c.args.given known.bytes)
    (g.H.Host.written c.args.host.now) (g.H.Host.written c.bytes.new.host) status)) same
    (flash_longer content options.show options.guess c.args.given geometry size c.in_ok-image.image.items _ _ _
    c.requires.sized c.in_ok-image.ensures.all within taken longer c.in_ok-image.ensures.silent)

pub returns-clause-ends : goal.returns-clause-ends
returns-clause-ends g c =
    let options = c.args.options.now in
    let geometry = c.taken-geometry.result in
    let size = c.args.file.now.size in
    let taken : IsTaken options.guess c.in_ok-image.image.items c.args.given geometry = search rules in
    let within : size ≤ most_of options.guess c.args.given = search rules in
    let fits : Ok tt ≡ length_checked size (geometry.slot_size * geometry.slots) = search rules in
    let image = c.in_ok-image.image.items in
    let P = IsLookBy options.show false geometry in
    let sized : EndsBy (P size image) (g.H.Host.written c.bytes.new.host) (g.H.Host.written c.look_by.new.host) c.look_by.result =
    subst (λ held. EndsBy (P held image) (g.H.Host.written c.bytes.new.host) (g.H.Host.written c.look_by.new.host) c.look_by.result) c.size-3.ensures c.look_by.ensures.ends in
    let shown : EndsBy (P size image) (g.H.Host.written c.args.host.now) (g.H.Host.written c.look_by.new.host) c.look_by.result =
    subst (λ before. EndsBy (P size image) before (g.H.Host.written c.look_by.new.host) c.look_by.result) c.in_ok-image.ensures.silent sized in
    flash_shown (g.H.Host.content c.args.file.now.file) options.show options.guess c.args.given geometry size c.in_ok-image.image.items _ _ _
    c.requires.sized c.in_ok-image.ensures.all within taken fits shown
