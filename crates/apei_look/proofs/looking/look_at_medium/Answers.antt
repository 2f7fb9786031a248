use Rattle.std.proofs.Common.{true, subst}
use Rattle.apei_look.specs.Endings.{EndsBy}
use Rattle.apei_look.specs.Looks.{IsLookBy}
use Rattle.apei_look.proofs.LookLemmas.{medium_shown}
use Rattle.apei_look.proofs.looking.look_at_medium.Goals as goal

pub returns-clause-ends : goal.returns-clause-ends
returns-clause-ends g c =
    let size = c.args.file.now.size in
    let bytes = c.in_ok-bytes.bytes.items in
    let P = IsLookBy c.args.show true c.args.geometry.now in
    let after = g.H.Host.written c.look_by.new.host in
    let sized : EndsBy (P size bytes) (g.H.Host.written c.beginning.new.host) after c.look_by.result =
    subst (λ held. EndsBy (P held bytes) (g.H.Host.written c.beginning.new.host) after c.look_by.result) c.size.ensures c.look_by.ensures.ends in
    medium_shown (g.H.Host.content c.args.file.now.file) c.args.show c.args.geometry.now size c.file_size.result bytes _ _ _
    c.requires.sized c.file_size.ensures c.in_ok-bytes.ensures.first
    (subst (λ before. EndsBy (P size bytes) before after c.look_by.result) c.in_ok-bytes.ensures.silent sized)
