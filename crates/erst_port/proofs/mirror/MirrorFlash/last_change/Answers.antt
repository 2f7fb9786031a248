use Rattle.std.proofs.Common.{◌-◌, arith}
use Rattle.erst_port.proofs.mirror.MirrorFlash.last_change.Goals as goal

pub bytes_at-requires : goal.bytes_at-requires
bytes_at-requires c =
    let last = c.args.self.now.last_told (c.args.self.now.steps - 1) (omega (arith, c.requires, c.args.self.now.counted)) in
    rw c.deref.ensures.value last.0

pub returns : goal.returns
returns c =
    let last = c.args.self.now.last_told (c.args.self.now.steps - 1) (omega (arith, c.requires, c.args.self.now.counted)) in
    rw (c.bytes_at.ensures, c.deref.ensures.value) last.1
