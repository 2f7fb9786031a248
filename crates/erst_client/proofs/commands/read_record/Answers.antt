use Rattle.std.proofs.Common.{◌≡◌, ◌∙◌, ℕ, length, Some, None, Ok, Err, sym, ap}
use Rattle.base_model.specs.Bytes.{number_at}
use Rattle.erst_client.specs.Attaching.{client_with}
use Rattle.erst_client.specs.Commands.{HasNoLength, IsNotCopied, copy_refusal}
use Rattle.erst_client.proofs.CommandLemmas.{read_copied}
use Rattle.erst_client.proofs.commands.read_record.Goals as goal

pub returns-in-Err : goal.returns-in-Err
returns-in-Err g c = HasNoLength c.sequence.new.budget (g.S.Space.state c.sequence.new.space) c.read_bytes.new.out c.in-Err.fault _ c.in_ok-sequence.ensures c.in-Err.ensures

pub returns-in-Some : goal.returns-in-Some
returns-in-Some g c =
    let len : c.from.result ≡ number_at c.read_bytes.new.out 0 4 = c.from.ensures ∙ c.get_u32-len.ensures in
    let why : copy_refusal (number_at c.read_bytes.new.out 0 4) c.args.found.len (length c.args.out.now) ≡ Some c.in-Some.error =
    sym (ap (λ (n : ℕ). copy_refusal n c.args.found.len (length c.args.out.now)) len) ∙ sym c.in-Some.ensures in
    IsNotCopied c.sequence.new.budget (g.S.Space.state c.sequence.new.space) c.read_bytes.new.out c.in-Some.error _ c.in_ok-sequence.ensures c.in-Ok.ensures why

pub returns-in-Ok-copy_out : goal.returns-in-Ok-copy_out
returns-in-Ok-copy_out g c =
    let fits : copy_refusal c.from.result c.args.found.len (length c.args.out.now) ≡ None = sym c.in_default.ensures in
    read_copied g.S.Space.allows (client_with c.args.table.now c.args.found) c.args.id c.args.out.now c.args.budget.now (g.S.Space.state c.args.space.now) c.sequence.new.budget
    (g.S.Space.state c.sequence.new.space) c.read_bytes.new.out (g.S.Space.state c.read_bytes.new.self) c.copy_out.new.out (Ok tt) (g.S.Space.state c.copy_out.new.space) c.get_u32-len.result
    c.get_u32-len.ensures c.in_ok-sequence.ensures c.in-Ok.ensures (rw c.from.ensures at fits) c.in-Ok-copy_out.ensures

pub returns-in-Err-copy_out : goal.returns-in-Err-copy_out
returns-in-Err-copy_out g c =
    let fits : copy_refusal c.from.result c.args.found.len (length c.args.out.now) ≡ None = sym c.in_default.ensures in
    read_copied g.S.Space.allows (client_with c.args.table.now c.args.found) c.args.id c.args.out.now c.args.budget.now (g.S.Space.state c.args.space.now) c.sequence.new.budget
    (g.S.Space.state c.sequence.new.space) c.read_bytes.new.out (g.S.Space.state c.read_bytes.new.self) c.copy_out.new.out (Err c.in-Err-copy_out.error) (g.S.Space.state c.copy_out.new.space)
    c.get_u32-len.result c.get_u32-len.ensures c.in_ok-sequence.ensures c.in-Ok.ensures (rw c.from.ensures at fits) c.in-Err-copy_out.ensures
