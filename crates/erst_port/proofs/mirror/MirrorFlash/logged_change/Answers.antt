use Rattle.std.proofs.Common.{◌∙◌, sym}
use Rattle.erst_port.proofs.mirror.MirrorFlash.logged_change.Goals as goal

pub bytes_at-bytes-requires : goal.bytes_at-bytes-requires
bytes_at-bytes-requires c =
    let told = c.args.self.now.log_told c.args.step c.in-Some.entry (sym c.entry.ensures ∙ c.in-Some.is) in
    rw c.bytes.ensures told.0

pub returns-clause-told : goal.returns-clause-told
returns-clause-told c =
    let told = c.args.self.now.log_told c.args.step c.in-Some.entry (sym c.entry.ensures ∙ c.in-Some.is) in
    rw (c.bytes_at-bytes.ensures, c.bytes.ensures) told.1
