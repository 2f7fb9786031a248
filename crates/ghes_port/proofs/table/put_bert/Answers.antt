use Rattle.std.proofs.Common.{◌∙◌, ℕ, List, ap, subst, arith}
use Rattle.base_model.specs.Bytes.{SameOutside, put_at, spelled, zeros}
use Rattle.apei_tables.specs.declared.headers.Header.{Header}
use Rattle.apei_tables.specs.Layout.{spelling}
use Rattle.ghes_port.proofs.TableLemmas.{bert_is, bert_before}
use Rattle.ghes_port.proofs.table.put_bert.Goals as goal

pub returns : goal.returns
returns c =
    let blank = ap (λ (xs : List ℕ). put_at xs 0 (spelling c.own_header.result)) c.requires ∙ ap (λ (h : Header). put_at (zeros 48) 0 (spelling h)) c.own_header.ensures in
    let before =
    c.put_u64.ensures.written
    ∙ ap (λ (xs : List ℕ). put_at xs 40 (spelled 8 c.args.region)) (c.put_u32.ensures.written ∙ ap (λ (xs : List ℕ). put_at xs 36 (spelled 4 c.args.len)) (c.put.ensures.written ∙ blank))
    ∙ bert_before c.args.len c.args.region in
    bert_is c.args.len c.args.region c.seal.new.table (omega (arith, c.ranges.len.fits)) (omega (arith, c.ranges.region.fits))
    (subst (λ (xs : List ℕ). SameOutside 9 1 xs c.seal.new.table) before c.seal.ensures.others) c.seal.ensures.sum (omega (arith, c.type_inv.table 9))
