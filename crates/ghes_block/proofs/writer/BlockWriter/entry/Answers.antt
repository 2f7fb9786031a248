use Rattle.std.proofs.Common.{◌≡◌, ℕ, ◌+◌, length, sym, subst, ap, ◌∙◌}
use Rattle.apei_bytes.specs.Writing.{Wrote}
use Rattle.ghes_block.specs.Grammar.{EntryValue, entry_bytes}
use Rattle.ghes_block.proofs.Writes.{goes_on, short_body}
use Rattle.ghes_block.proofs.writer.BlockWriter.entry.Goals as goal

pub returns-clause-written : goal.returns-clause-written
returns-clause-written c = λ before given is.
    let entry : EntryValue = record { head = c.args.head.now; body = c.args.body.now } in
    let end_is : c.put_entry.result ≡ c.args.self.now.end + c.entry_size_for.result = c.put_entry.ensures.end ∙ ap (λ (n : ℕ). c.args.self.now.end + n) (sym c.entry_size_for.ensures) in
    goes_on before c.args.self.now.out.now c.put_entry.new.out given c.args.self.now.end (c.args.self.now.end + c.entry_size_for.result) entry is
    (record { head = c.put_entry.ensures.fits; short = short_body c.args.head.now c.args.self.now.end (length c.args.body.now) c.requires.short })
    (subst (λ (n : ℕ). Wrote c.args.self.now.out.now c.put_entry.new.out c.args.self.now.end n (entry_bytes entry)) end_is c.put_entry.ensures.wrote)
