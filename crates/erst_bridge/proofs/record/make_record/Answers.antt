use Rattle.std.proofs.Common.{◌≡◌, ◌∙◌, sym, ap, ◌≤◌, ◌+◌, [], ◌∷◌, length, take, arith}
use Rattle.erst_bridge.proofs.RecordLemmas.{made}
use Rattle.erst_bridge.proofs.record.make_record.Goals as goal

pub returns-clause-made : goal.returns-clause-made
returns-clause-made c =
    let section = (rw c.unwrap.ensures at c.section.ensures.written) c.args.buffer.now c.head_for-head.result [] c.start-writer.ensures.begun in
    let written = c.finish.ensures.written c.args.buffer.now c.head_for-head.result ((record { head = c.section_for-section.result; body = c.args.block.now }) ∷ []) section in
    let used = (rw c.unwrap.ensures at c.section.ensures.used) in
    let size : c.finish.result ≡ 200 + length c.args.block.now = omega (arith, c.finish.ensures.used, used, c.start-writer.ensures.used) in
    let same : c.buffer-1.given.0 ≡ c.finish.new.self.0 = c.buffer-1.given.1.1 (sym c.start-writer.ensures.same_slice ∙ sym c.section.ensures.same_slice) in
    let room : c.finish.result ≤ length c.finish.new.self.0 = omega (arith, ap length same, c.buffer-1.given.1.0) in
    let done = made c.args.block.now c.args.id c.args.buffer.now c.finish.new.self.0 c.finish.result c.head_for-head.result c.section_for-section.result
    c.ranges.id.fits size room c.head_for-head.ensures c.section_for-section.ensures written in
    ap (take c.finish.result) same ∙ done
