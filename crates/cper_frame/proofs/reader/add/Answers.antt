use Rattle.std.proofs.Common.{◌≡◌, ◌++◌, true, cond, ap, ◌∙◌, arith}
use Rattle.std.specs.Prelude.{is_ok}
use Rattle.cper_frame.proofs.reader.add.Goals as goal

pub returns-clause-items : goal.returns-clause-items
returns-clause-items c =
    let size = c.args.held.now.ok.0 in
    let ok : is_ok c.extend_from_slice.result ≡ true = c.extend_from_slice.ensures.succeeds (let r = c.requires in omega arith) in
    c.extend_from_slice.ensures.items ∙ ap (λ b. cond b (c.args.held.now.items ++ c.args.bytes.now) c.args.held.now.items) ok
