use Rattle.std.proofs.Common.{ℕ, List, ap, ◌∙◌, subst, arith}
use Rattle.base_model.specs.Bytes.{SameOutside, put_at, spelled}
use Rattle.apei_tables.specs.declared.headers.Header.{Header}
use Rattle.apei_tables.specs.Layout.{spelling}
use Rattle.erst_machine.proofs.SealLemmas.{sealed_bert}
use Rattle.erst_machine.proofs.tables.put_bert.Goals as goal

pub returns : goal.returns
returns c =
    let before = c.put_u64.ensures.written ∙ ap (λ (xs : List ℕ). put_at xs 40 (spelled 8 0x400000)) (c.put_u32.ensures.written
    ∙ ap (λ (xs : List ℕ). put_at xs 36 (spelled 4 16384)) (c.put.ensures.written
    ∙ ap (λ (xs : List ℕ). put_at xs 0 (spelling c.own_header.result)) c.requires ∙ ap (λ (h : Header). put_at _ 0 (spelling h)) c.own_header.ensures)) in
    sealed_bert c.seal.new.table (subst (λ (xs : List ℕ). SameOutside 9 1 xs c.seal.new.table) before c.seal.ensures.others) c.seal.ensures.sum (omega (arith, c.type_inv.out 9))
