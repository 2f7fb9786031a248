use Rattle.std.specs.Prelude.{codes}
use Rattle.std.proofs.Common.{ℕ, List, ap, ◌∙◌, subst, arith}
use Rattle.base_model.specs.Bytes.{SameOutside, put_at, spelled}
use Rattle.apei_tables.specs.declared.headers.Header.{Header}
use Rattle.apei_tables.specs.Layout.{spelling}
use Rattle.hest_sources.specs.declared.sources.Ghes.{Ghes}
use Rattle.hest_sources.specs.Layout.{ghes_bytes}
use Rattle.erst_machine.specs.Memories.{zeros}
use Rattle.erst_machine.specs.OwnTables.{own_header}
use Rattle.erst_machine.proofs.SealLemmas.{sealed_hest}
use Rattle.erst_machine.proofs.tables.put_hest.Goals as goal

pub returns : goal.returns
returns c =
    let source = c.put.ensures.wrote.put ∙ ap (λ (g : Ghes). put_at (zeros 92) 0 (ghes_bytes g)) c.own_source.ensures in
    let before = c.write_array.ensures.wrote.put ∙ ap (λ (xs : List ℕ). put_at xs 40 c.put.new.out) (c.put_u32.ensures.written
    ∙ ap (λ (xs : List ℕ). put_at xs 36 (spelled 4 1)) (c.put-2.ensures.written
    ∙ ap (λ (xs : List ℕ). put_at xs 0 (spelling c.own_header.result)) c.requires ∙ ap (λ (h : Header). put_at (zeros 132) 0 (spelling h)) c.own_header.ensures))
    ∙ ap (λ (xs : List ℕ). put_at (put_at (put_at (zeros 132) 0 (spelling (own_header (codes "HEST") 132 0))) 36 (spelled 4 1)) 40 xs) source in
    sealed_hest c.seal.new.table (subst (λ (xs : List ℕ). SameOutside 9 1 xs c.seal.new.table) before c.seal.ensures.others) c.seal.ensures.sum (omega (arith, c.type_inv.out 9))
