use Rattle.std.proofs.Common.{◌∙◌, ap, List, ℕ}
use Rattle.base_model.specs.Bytes.{put_at, spelled}
use Rattle.apei_tables.specs.declared.headers.Header.{Header}
use Rattle.apei_tables.specs.Layout.{spelling}
use Rattle.std.specs.Prelude.{replicate}
use Rattle.ghes_port.proofs.TableLemmas.{head_is}
use Rattle.ghes_port.proofs.table.head.Goals as goal

pub returns-clause-bytes : goal.returns-clause-bytes
returns-clause-bytes c =
    c.put_u32.ensures.written
    ∙ ap (λ (xs : List ℕ). put_at xs 36 (spelled 4 c.args.count)) (c.put.ensures.written ∙ ap (λ (h : Header). put_at (replicate 40 0) 0 (spelling h)) c.own_header.ensures)
    ∙ head_is c.args.size c.args.count
