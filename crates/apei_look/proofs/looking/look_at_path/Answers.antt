use Rattle.std.proofs.Common.{◌∙◌, ap, subst, IfSome, string_bytes}
use Rattle.apei_look.specs.Endings.{ending, EndsBy}
use Rattle.apei_look.specs.Entries.{IsFileOf}
use Rattle.apei_look.specs.Looks.{IsFileLook}
use Rattle.apei_look.proofs.LookLemmas.{shown_at}
use Rattle.apei_look.proofs.looking.look_at_path.Goals as goal

pub returns-clause-ends : goal.returns-clause-ends
returns-clause-ends g c =
    let options = c.args.options.now in
    let file = c.in_ok-file.file in
    let content = g.H.Host.content file.file in
    shown_at (g.H.Host.entry c.args.host.now (string_bytes options.image)) content options c.args.given file.size _ _ _
    (c.in_ok-file.ensures.opened ∙ ap (λ path. g.H.Host.entry c.args.host.now path) c.as_str.ensures.value)
    (subst (λ path. IfSome (g.H.Host.entry c.args.host.now path) (IsFileOf file.size)) c.as_str.ensures.value c.in_ok-file.ensures.sized)
    (subst (λ before. IfSome content (λ known. EndsBy (IsFileLook options c.args.given known.bytes) before
    (g.H.Host.written c.look_at_file.new.host) (ending c.look_at_file.result)))
    c.in_ok-file.ensures.silent c.look_at_file.ensures.ends)
