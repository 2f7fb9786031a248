use Rattle.std.proofs.Common.{◌≡◌, ℕ, ◌+◌, ◌*◌, [], ◌∷◌, length, subst, arith, length-append}
use Rattle.base_model.specs.Bytes.{joined}
use Rattle.apei_bytes.specs.Writing.{Wrote}
use Rattle.cper_frame.specs.Grammar.{descriptor_fields}
use Rattle.cper_frame.specs.Writer.{Given}
use Rattle.cper_frame.proofs.Writes.{goes_on, PutSection}
use Rattle.cper_frame.proofs.writer.RecordWriter.section.Goals as goal

pub returns-clause-written : goal.returns-clause-written
returns-clause-written c = λ before head_of given is.
    let done = is.done in
    let section : Given = record { head = c.args.head.now; body = c.args.body.now } in
    let left = c.requires.left in
    let end_is : c.write_bytes.result ≡ c.args.self.now.end + length c.args.body.now = c.write_bytes.ensures.end in
    let put : PutSection c.args.self.now.out.now c.put_descriptor.new.out c.write_bytes.new.out (length given) c.args.self.now.end c.args.head.now c.args.body.now = record {
      head_fits = c.put_descriptor.ensures.fits;
      descriptor_put = subst (λ (k : ℕ). Wrote c.args.self.now.out.now c.put_descriptor.new.out (128 + 72 * k) (128 + 72 * k + 72)
          (joined (descriptor_fields c.args.head.now c.args.self.now.end (length c.args.body.now)))) done c.put_descriptor.ensures.wrote;
      body_put = subst (λ (k : ℕ). Wrote c.put_descriptor.new.out c.write_bytes.new.out c.args.self.now.end k c.args.body.now) end_is c.write_bytes.ensures.wrote;
    } in
    record {
      done = omega (arith, length-append given (section ∷ []));
      bytes = goes_on before c.args.self.now.out.now c.put_descriptor.new.out c.write_bytes.new.out head_of c.args.self.now.sections given c.args.self.now.end section is.bytes (omega arith) put;
    }
