use Rattle.std.proofs.Common.{true, length, subst, IfSome}
use Rattle.image_survey.specs.Headers.{IsFirstSector}
use Rattle.image_survey.specs.declared.header.FirstSector.TheVariants as first
use Rattle.apei_look.specs.Endings.{ending, EndsBy}
use Rattle.apei_look.specs.Looks.{IsFlashLook, IsLookBy, IsUnread}
use Rattle.apei_look.specs.declared.unread.Unread.TheVariants.{Version, Damaged}
use Rattle.apei_look.proofs.LookLemmas.{look_of, of_size}
use Rattle.apei_look.proofs.looking.look_at_file.Goals as goal

pub returns-in-Unsigned-clause-ends : goal.returns-in-Unsigned-clause-ends
returns-in-Unsigned-clause-ends g c =
    let content = g.H.Host.content c.args.file.now.file in
    let options = c.args.options.now in
    look_of content options c.args.given c.args.file.now.size c.in_ok-beginning.beginning.items first.Unsigned _ _ _
    c.requires.sized c.in_ok-beginning.ensures.first
    (subst (λ bytes. IsFirstSector bytes first.Unsigned) c.deref.ensures.value c.in-Unsigned.ensures)
    (subst (λ before. IfSome content (λ known. EndsBy (IsFlashLook options.show options.guess c.args.given known.bytes) before
    (g.H.Host.written c.look_at_flash.new.host) (ending c.look_at_flash.result)))
    c.in_ok-beginning.ensures.silent c.look_at_flash.ensures.ends)

pub returns-in-Medium-clause-ends : goal.returns-in-Medium-clause-ends
returns-in-Medium-clause-ends g c =
    let content = g.H.Host.content c.args.file.now.file in
    let options = c.args.options.now in
    let geometry = c.in-Medium.geometry in
    look_of content options c.args.given c.args.file.now.size c.in_ok-beginning.beginning.items (first.Medium geometry) _ _ _
    c.requires.sized c.in_ok-beginning.ensures.first
    (subst (λ bytes. IsFirstSector bytes (first.Medium geometry)) c.deref.ensures.value c.in-Medium.ensures)
    (subst (λ before. IfSome content (λ known. EndsBy (IsLookBy options.show true geometry (length known.bytes) known.bytes) before
    (g.H.Host.written c.look_at_medium.new.host) (ending c.look_at_medium.result)))
    c.in_ok-beginning.ensures.silent c.look_at_medium.ensures.ends)

pub returns-in-Version-clause-ends : goal.returns-in-Version-clause-ends
returns-in-Version-clause-ends g c =
    let content = g.H.Host.content c.args.file.now.file in
    let options = c.args.options.now in
    let version = c.in-Version.found in
    let P = IsUnread options.show (Version version) in
    let after = g.H.Host.written c.name_unread.new.host in
    look_of content options c.args.given c.args.file.now.size c.in_ok-beginning.beginning.items (first.Version version) _ _ _
    c.requires.sized c.in_ok-beginning.ensures.first
    (subst (λ bytes. IsFirstSector bytes (first.Version version)) c.deref.ensures.value c.in-Version.ensures)
    (of_size content P c.args.file.now.size (g.H.Host.written c.args.host.now) after c.name_unread.result c.requires.sized
    (subst (λ held. EndsBy (P held) (g.H.Host.written c.args.host.now) after c.name_unread.result) c.size.ensures
    (subst (λ before. EndsBy (P c.size.result) before after c.name_unread.result) c.in_ok-beginning.ensures.silent c.name_unread.ensures.ends)))

pub returns-clause-ends : goal.returns-clause-ends
returns-clause-ends g c =
    let content = g.H.Host.content c.args.file.now.file in
    let options = c.args.options.now in
    let P = IsUnread options.show Damaged in
    let named = c.name_unread-in-Damaged in
    let after = g.H.Host.written named.new.host in
    look_of content options c.args.given c.args.file.now.size c.in_ok-beginning.beginning.items first.Damaged _ _ _
    c.requires.sized c.in_ok-beginning.ensures.first
    (subst (λ bytes. IsFirstSector bytes first.Damaged) c.deref.ensures.value c.in-Damaged.ensures)
    (of_size content P c.args.file.now.size (g.H.Host.written c.args.host.now) after named.result c.requires.sized
    (subst (λ held. EndsBy (P held) (g.H.Host.written c.args.host.now) after named.result) c.size-in-Damaged.ensures
    (subst (λ before. EndsBy (P c.size-in-Damaged.result) before after named.result) c.in_ok-beginning.ensures.silent named.ensures.ends)))
