use Rattle.std.proofs.Common.{◌≡◌, ◌∙◌, ℕ, List, length, take, Ok, sym, ap, subst}
use Rattle.std.proofs.lemmas.List.{with_items_is}
use Rattle.hex.specs.Hex.{decode_of}
use Rattle.script_text.proofs.digits.decode_line.Goals as goal

pub returns-clause-bytes : goal.returns-clause-bytes
returns-clause-bytes c =
    let bytes = c.args.bytes.now in
    let size : length c.decode.new.out ≡ bytes.len = c.decode.ensures.size ∙ ap length c.deref_mut.ensures.value ∙ sym bytes.ok.0 in
    subst (λ (xs : List ℕ). decode_of c.args.hex.now ≡ Ok (take c.decode.result xs)) (sym (with_items_is bytes c.decode.new.out size)) c.decode.ensures.bytes
