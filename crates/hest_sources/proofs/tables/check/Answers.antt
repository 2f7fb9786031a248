use Rattle.std.proofs.Common.{◌≡◌, ℕ, Ok, Err, sym, ap, ◌∙◌, arith}
use Rattle.std.proofs.lemmas.Result.{err_from_is_err_and}
use Rattle.base_model.specs.Bytes.{number_at}
use Rattle.hest_sources.specs.Walk.{source_count}
use Rattle.hest_sources.proofs.Hests.{counted_wrong, refusal_is, right_count, wrong_count}
use Rattle.hest_sources.proofs.tables.check.Goals as goal

pub returns-in_err-count-clause-refused : goal.returns-in_err-count-clause-refused
returns-in_err-count-clause-refused c =
    let table = c.in-Ok.found.1.now in
    let p = err_from_is_err_and c.from_residual.result c.from_residual.ensures.1 in
    let fault : source_count table ≡ Err c.in_err-count.field-0.0 = sym c.count_structures.ensures.count ∙ c.in_err-count.was in
    rw (p.1, p.2)
    (refusal_is c.args.bytes.now c.in-Ok.found.0 table c.in-Ok.ensures.found c.in-Ok.ensures.refused ∙ ap (counted_wrong (number_at table 36 4)) fault)

pub returns-then-declared-found-clause-refused : goal.returns-then-declared-found-clause-refused
returns-then-declared-found-clause-refused c =
    let table = c.in-Ok.found.1.now in
    let ok : source_count table ≡ Ok c.in_ok-count.count = sym c.count_structures.ensures.count ∙ c.in_ok-count.was in
    refusal_is c.args.bytes.now c.in-Ok.found.0 table c.in-Ok.ensures.found c.in-Ok.ensures.refused
    ∙ ap (λ (n : ℕ). counted_wrong n (source_count table)) (sym (c.from-declared.ensures ∙ c.get_u32.ensures))
    ∙ wrong_count c.from-declared.result c.in_ok-count.count (source_count table) ok c.if-declared-found.true

pub returns-clause-refused : goal.returns-clause-refused
returns-clause-refused c =
    let table = c.in-Ok.found.1.now in
    let ok : source_count table ≡ Ok c.in_ok-count.count = sym c.count_structures.ensures.count ∙ c.in_ok-count.was in
    let declared = c.from-declared.ensures in
    let read = c.get_u32.ensures in
    let same = c.if-declared-found.false in
    refusal_is c.args.bytes.now c.in-Ok.found.0 table c.in-Ok.ensures.found c.in-Ok.ensures.refused
    ∙ right_count (number_at table 36 4) c.in_ok-count.count (source_count table) ok (omega arith)
