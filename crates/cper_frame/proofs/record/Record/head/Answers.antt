use Rattle.std.proofs.Common.{sym, ap, ◌∙◌}
use Rattle.cper_frame.specs.Grammar.{RecordValue}
use Rattle.cper_frame.proofs.Whole.{whole}
use Rattle.cper_frame.proofs.record.Record.head.Goals as goal

pub read-requires : goal.read-requires
read-requires c = (whole c.self.inside.bytes.now c.self.invariant).header

pub returns : goal.returns
returns c =
    c.read.ensures
    ∙ sym (whole c.self.inside.bytes.now c.self.invariant).head_is
    ∙ ap (λ (r : RecordValue). r.head) c.self.view_is
