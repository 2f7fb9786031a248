use Rattle.std.proofs.Common.{length, sym, ap, ◌∙◌, arith}
use Rattle.cper_frame.specs.Grammar.{RecordValue}
use Rattle.cper_frame.proofs.Whole.{whole}
use Rattle.cper_frame.proofs.record.Record.sections.Goals as goal

pub get_u16-requires : goal.get_u16-requires
get_u16-requires c = let header = (whole c.self.inside.bytes.now c.self.invariant).header in omega arith

pub returns : goal.returns
returns c =
    c.get_u16.ensures
    ∙ sym (whole c.self.inside.bytes.now c.self.invariant).count
    ∙ ap (λ (r : RecordValue). length r.sections) c.self.view_is
