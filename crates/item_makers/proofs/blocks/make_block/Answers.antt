use Rattle.std.proofs.Common.{◌≡◌, ◌∙◌, ℕ, ◌+◌, ◌≤◌, List, [], ◌∷◌, length, take, sym, ap, subst, arith}
use Rattle.ghes_block.specs.declared.entry.EntryHead.{EntryHead}
use Rattle.ghes_block.specs.Grammar.{IsBlock}
use Rattle.ghes_block.specs.Writer.{entry_length}
use Rattle.item_makers.specs.Blocks.{made_block}
use Rattle.item_makers.proofs.BlockLemmas.{left, made}
use Rattle.item_makers.proofs.blocks.make_block.Goals as goal

pub returns-clause-made : goal.returns-clause-made
returns-clause-made c =
    let entry = (rw c.unwrap.ensures at c.entry.ensures.written) c.args.out.now [] c.start-writer.ensures.begun in
    let finished = (rw c.unwrap-2.ensures at c.finish.ensures.written) c.args.out.now ((record { head = c.entry_head-head.result; body = c.args.section.now }) ∷ []) entry in
    let same : c.out-1.given.0 ≡ c.finish.new.self.0 = c.out-1.given.1.1 (sym c.start-writer.ensures.same_slice ∙ sym c.entry.ensures.same_slice) in
    let long : entry_length c.entry_head-head.result (length c.args.section.now) ≡ 72 + length c.args.section.now =
    ap (λ (head : EntryHead). entry_length head (length c.args.section.now)) c.entry_head-head.ensures in
    let used = (rw c.unwrap.ensures at c.entry.ensures.used) in
    let fits = (rw c.unwrap.ensures at c.entry.ensures.refused) in
    let ended = (rw c.unwrap-2.ensures at c.finish.ensures.used) in
    let size : c.unwrap-2.result ≡ 92 + length c.args.section.now = omega (arith, ended, used, long, c.start-writer.ensures.used) in
    let room : 92 + length c.args.section.now ≤ length c.finish.new.self.0 = omega (arith, ap length same, c.out-1.given.1.0, fits, long, c.start-writer.ensures.used, c.start-writer.ensures.room) in
    let written =
    left c.args.fields.now c.args.section.now c.args.out.now c.finish.new.self.0 _ c.unwrap-2.result _ _ c.entry_head-head.result
    (c.entry.ensures.same.0 ∙ c.start-writer.ensures.numbers.0 ∙ c.status_for.ensures)
    (c.entry.ensures.same.1 ∙ c.start-writer.ensures.numbers.1 ∙ c.number.ensures)
    c.entry_head-head.ensures size finished in
    same ∙ made c.args.fields.now c.args.section.now c.args.out.now c.finish.new.self.0 _ room written

pub returns-clause-read : goal.returns-clause-read
returns-clause-read c =
    let entry = (rw c.unwrap.ensures at c.entry.ensures.written) c.args.out.now [] c.start-writer.ensures.begun in
    let finished = (rw c.unwrap-2.ensures at c.finish.ensures.written) c.args.out.now ((record { head = c.entry_head-head.result; body = c.args.section.now }) ∷ []) entry in
    let same : c.out-1.given.0 ≡ c.finish.new.self.0 = c.out-1.given.1.1 (sym c.start-writer.ensures.same_slice ∙ sym c.entry.ensures.same_slice) in
    let long : entry_length c.entry_head-head.result (length c.args.section.now) ≡ 72 + length c.args.section.now =
    ap (λ (head : EntryHead). entry_length head (length c.args.section.now)) c.entry_head-head.ensures in
    let used = (rw c.unwrap.ensures at c.entry.ensures.used) in
    let ended = (rw c.unwrap-2.ensures at c.finish.ensures.used) in
    let size : c.unwrap-2.result ≡ 92 + length c.args.section.now = omega (arith, ended, used, long, c.start-writer.ensures.used) in
    let written =
    left c.args.fields.now c.args.section.now c.args.out.now c.finish.new.self.0 _ c.unwrap-2.result _ _ c.entry_head-head.result
    (c.entry.ensures.same.0 ∙ c.start-writer.ensures.numbers.0 ∙ c.status_for.ensures)
    (c.entry.ensures.same.1 ∙ c.start-writer.ensures.numbers.1 ∙ c.number.ensures)
    c.entry_head-head.ensures size finished in
    let block : IsBlock (made_block c.args.fields.now c.args.section.now) (take c.unwrap-2.result c.finish.new.self.0) =
    subst (λ (n : ℕ). IsBlock (made_block c.args.fields.now c.args.section.now) (take n c.finish.new.self.0)) (sym size) written.is_block in
    subst (λ (bytes : List ℕ). IsBlock (made_block c.args.fields.now c.args.section.now) (take c.unwrap-2.result bytes)) (sym same) block
