use Rattle.std.proofs.Common.{◌≡◌, ◌∙◌, ℕ, ◌+◌, ◌≤◌, List, [], ◌∷◌, length, take, sym, ap, subst, arith}
use Rattle.cper_frame.specs.Grammar.{IsRecord}
use Rattle.cper_frame.specs.Writer.{IsWritten}
use Rattle.item_makers.specs.Records.{made_record}
use Rattle.item_makers.proofs.RecordLemmas.{left, made}
use Rattle.item_makers.proofs.records.make_record.Goals as goal

pub returns-clause-made : goal.returns-clause-made
returns-clause-made c =
    let section = (rw c.unwrap.ensures at c.section.ensures.written) c.args.out.now c.record_head-head.result [] c.start-writer.ensures.begun in
    let finished = c.finish.ensures.written c.args.out.now c.record_head-head.result ((record { head = c.section_head-described.result; body = c.args.section.now }) ∷ []) section in
    let same : c.out-1.given.0 ≡ c.finish.new.self.0 = c.out-1.given.1.1 (sym c.start-writer.ensures.same_slice ∙ sym c.section.ensures.same_slice) in
    let used = (rw c.unwrap.ensures at c.section.ensures.used) in
    let fits = (rw c.unwrap.ensures at c.section.ensures.refused) in
    let size : c.finish.result ≡ 200 + length c.args.section.now = omega (arith, c.finish.ensures.used, used, c.start-writer.ensures.used) in
    let room : c.finish.result ≤ length c.finish.new.self.0 = omega (arith, ap length same, c.out-1.given.1.0, fits, size, c.start-writer.ensures.used, c.start-writer.ensures.room) in
    let written : IsWritten (made_record c.args.fields.now c.args.section.now) c.finish.result c.args.out.now c.finish.new.self.0 =
    left c.args.fields.now c.args.section.now c.args.out.now c.finish.new.self.0 c.finish.result c.record_head-head.result c.section_head-described.result
    c.record_head-head.ensures c.section_head-described.ensures finished in
    same ∙ made c.args.fields.now c.args.section.now c.args.out.now c.finish.new.self.0 c.finish.result size room written

pub returns-clause-read : goal.returns-clause-read
returns-clause-read c =
    let section = (rw c.unwrap.ensures at c.section.ensures.written) c.args.out.now c.record_head-head.result [] c.start-writer.ensures.begun in
    let finished = c.finish.ensures.written c.args.out.now c.record_head-head.result ((record { head = c.section_head-described.result; body = c.args.section.now }) ∷ []) section in
    let same : c.out-1.given.0 ≡ c.finish.new.self.0 = c.out-1.given.1.1 (sym c.start-writer.ensures.same_slice ∙ sym c.section.ensures.same_slice) in
    let written : IsWritten (made_record c.args.fields.now c.args.section.now) c.finish.result c.args.out.now c.finish.new.self.0 =
    left c.args.fields.now c.args.section.now c.args.out.now c.finish.new.self.0 c.finish.result c.record_head-head.result c.section_head-described.result
    c.record_head-head.ensures c.section_head-described.ensures finished in
    subst (λ (bytes : List ℕ). IsRecord (made_record c.args.fields.now c.args.section.now) (take c.finish.result bytes)) (sym same) written.is_record
