use Rattle.std.proofs.Common.{◌≡◌, ◌∙◌, ◌⊎◌, inl, inr, sym, arith}
use Rattle.base_model.specs.Bytes.{number_at}
use Rattle.erst_entries.proofs.Finding.{finds}
use Rattle.item_parts.proofs.ersts.find.Goals as goal
use Rattle.item_parts.proofs.ersts.find.Goals.{else-header_size-ne48-via-then-header_size-ne48+else-header_size-ne12, else-header_size-ne48-via-else-header_size-ne48}

pub returns-clause-found : goal.returns-clause-found
returns-clause-found c =
    let size : (number_at c.args.bytes.now 36 4 ≡ 48) ⊎ (number_at c.args.bytes.now 36 4 ≡ 12) =
    elim c.else-header_size-ne48.branch [
      | else-header_size-ne48-via-then-header_size-ne48+else-header_size-ne12 w ↦ inr (sym c.get_u32-header_size.ensures ∙ w.if-header_size-ne12.false)
      | else-header_size-ne48-via-else-header_size-ne48 w ↦ inl (sym c.get_u32-header_size.ensures ∙ w.if-header_size-ne48.false)
    ] in
    let long = c.get_u32-2.ensures in
    let length_is = c.from-length.ensures in
    let counted = c.get_u32.ensures in
    let found_is = c.from-found.ensures in
    let same = c.if-length-found.false in
    (c.in-Ok.found.0, finds c.args.bytes.now c.in-Ok.found.0 c.in-Ok.found.1.now c.in-Ok.ensures.found size (omega arith))
