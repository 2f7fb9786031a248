use Rattle.std.proofs.Common.{◌+◌, length, ap, ◌∙◌}
use Rattle.apei_tables.specs.declared.registers.Place.TheVariants.{Memory}
use Rattle.apei_space.specs.RamState.{located, filled}
use Rattle.erst_machine.proofs.AreaLemmas.{shared_filled}
use Rattle.erst_machine.proofs.contents.Contents.shared_part.Goals as goal

pub returns : goal.returns
returns c =
    let out = c.args.out.now in
    c.look_bytes.ensures.bytes ∙ ap (λ windows. filled (located windows (Memory (0x300000 + c.args.start)) (length out)) c.args.shared.now.bytes out) c.requires.windows
    ∙ shared_filled c.args.shared.now.bytes c.args.start out c.requires.within
