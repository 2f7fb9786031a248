use Rattle.smbios.proofs.TextLemmas.{passed_more}
use Rattle.smbios.proofs.texts.numbered.Goals as goal

pub loop-before-preserved : goal.loop-before-preserved
loop-before-preserved c =
    passed_more c.args.strings.now c.loop-before.rest.now c.in-Some.first.rest.now c.in-Some.first.text.now c.loop-before.before c.loop-before.invariant
    c.in-Some.ensures.0 c.in-Some.ensures.1
