use Rattle.std.proofs.Common.{ℕ, ◌+◌, ◌-◌, length, refl, subst}
use Rattle.base_model.specs.Bytes.{joined}
use Rattle.apei_bytes.specs.Writing.{Wrote}
use Rattle.ghes_block.proofs.Terms.{block_head}
use Rattle.ghes_block.proofs.Writes.{ends}
use Rattle.ghes_block.proofs.writer.BlockWriter.finish.Goals as goal

pub returns-clause-written : goal.returns-clause-written
returns-clause-written c = λ before given is.
    let ready = c.requires.ready in
    let raw = c.args.raw.now in
    let end = c.args.self.end in
    ends before c.args.self.out.now c.put_head.new.out c.write_bytes.new.out given end (end + length raw) c.args.self.status c.args.self.severity raw is
    ready.published ready.status ready.severity c.requires.short refl
    (subst (λ (n : ℕ). Wrote c.args.self.out.now c.put_head.new.out 0 20
    (joined (block_head c.args.self.status n (length raw) (end - 20) c.args.self.severity))) c.offset_of.ensures c.put_head.ensures)
    (subst (λ (n : ℕ). Wrote c.put_head.new.out c.write_bytes.new.out end n raw) c.write_bytes.ensures.end c.write_bytes.ensures.wrote)
