use Rattle.std.proofs.Common.{◌≡◌, ◌∙◌, ◌⊎◌, inl, inr, sym, arith}
use Rattle.base_model.specs.Bytes.{number_at}
use Rattle.erst_entries.proofs.Finding.{finds}
use Rattle.erst_entries.proofs.tables.check.Goals as goal
use Rattle.erst_entries.proofs.tables.check.Goals.{else-header_size-ne48-via-then-header_size-ne48+else-header_size-ne12, else-header_size-ne48-via-else-header_size-ne48}

pub returns-clause-found : goal.returns-clause-found
returns-clause-found c =
    let size : (number_at c.args.bytes.now 36 4 ≡ 48) ⊎ (number_at c.args.bytes.now 36 4 ≡ 12) =
    elim c.else-header_size-ne48.branch [
      | else-header_size-ne48-via-then-header_size-ne48+else-header_size-ne12 w ↦ inr (sym c.get_u32-header_size.ensures ∙ w.if-header_size-ne12.false)
      | else-header_size-ne48-via-else-header_size-ne48 w ↦ inl (sym c.get_u32-header_size.ensures ∙ w.if-header_size-ne48.false)
    ] in
    finds c.args.bytes.now c.in-Ok.found.0 c.in-Ok.found.1.now c.in-Ok.ensures.found size
    (omega (arith, c.from-length.ensures, c.get_u32-2.ensures, c.from-count.ensures, c.get_u32.ensures, c.if-length-count.false))
