use Rattle.std.proofs.Common.{◌≡◌, ℕ, ◌<◌, ◌^◌, length, sym, subst, ◌∙◌, arith}
use Rattle.base_model.specs.Bytes.{spelled}
use Rattle.apei_bytes.specs.Writing.{Wrote}
use Rattle.cper_frame.specs.Writer.{Writing}
use Rattle.cper_frame.proofs.Writes.{ends}
use Rattle.cper_frame.proofs.writer.RecordWriter.finish.Goals as goal

pub returns-clause-written : goal.returns-clause-written
returns-clause-written c = λ before head given is.
    let all : c.args.self.sections ≡ length given = sym c.requires.all ∙ is.done in
    let few : length given < 2 ^ 16 = let r = c.requires.ready.few in omega arith in
    ends before c.args.self.out.now c.write_u32.new.out head given c.args.self.end
    (subst (λ (n : ℕ). Writing before c.args.self.out.now head n given c.args.self.end) all is.bytes)
    few
    c.requires.ready.short
    (subst (λ (k : ℕ). Wrote c.args.self.out.now c.write_u32.new.out 20 k (spelled 4 c.args.self.end)) c.write_u32.ensures.end c.write_u32.ensures.wrote)
