use Rattle.std.proofs.Common.{ℕ, ◌<◌, List, length, Some, sym, ap, subst, ◌∙◌, arith}
use Rattle.std.specs.Prelude.{slice_get}
use Rattle.base_model.specs.Bytes.{number_at}
use Rattle.cper_frame.specs.Grammar.{RecordValue, SectionValue}
use Rattle.cper_frame.proofs.Whole.{whole_section, section_is}
use Rattle.cper_frame.proofs.record.Record.section.Goals as goal

pub descriptor-descriptor-requires : goal.descriptor-descriptor-requires
descriptor-descriptor-requires c =
    (whole_section c.self.inside.bytes.now c.args.index c.self.invariant
    (subst (λ (r : RecordValue). c.args.index < length r.sections) (sym c.self.view_is) c.requires)).descriptor

pub bytes_at-requires : goal.bytes_at-requires
bytes_at-requires c =
    let w = whole_section c.self.inside.bytes.now c.args.index c.self.invariant
    (subst (λ (r : RecordValue). c.args.index < length r.sections) (sym c.self.view_is) c.requires) in
    let within = w.within in
    let offset = c.get_u32-offset.ensures ∙ ap (λ (d : List ℕ). number_at d 0 4) c.descriptor-descriptor.ensures.value in
    let count = c.get_u32-length.ensures ∙ ap (λ (d : List ℕ). number_at d 4 4) c.descriptor-descriptor.ensures.value in
    omega arith

pub returns : goal.returns
returns c =
    let w = whole_section c.self.inside.bytes.now c.args.index c.self.invariant
    (subst (λ (r : RecordValue). c.args.index < length r.sections) (sym c.self.view_is) c.requires) in
    ap (λ (r : RecordValue). slice_get r.sections c.args.index) (sym c.self.view_is)
    ∙ w.read
    ∙ ap (λ (s : SectionValue). Some s)
    (sym (section_is c.self.inside.bytes.now c.args.index c.descriptor-descriptor.result.now c.read.result c.get_u32-offset.result c.get_u32-length.result c.bytes_at.result.now
    c.descriptor-descriptor.ensures.value c.read.ensures c.get_u32-offset.ensures c.get_u32-length.ensures c.bytes_at.ensures.value))
