use Rattle.std.proofs.Common.{◌≡◌, ◌+◌, false, length, drop, Ok, Err, sym, ap, ◌∙◌, arith, length-drop}
use Rattle.std.specs.Prelude.{◌==◌}
use Rattle.std.proofs.lemmas.Bool.{ne_eqb, eq-eqb}
use Rattle.std.proofs.lemmas.List.{take_rest, drop-drop}
use Rattle.std.proofs.lemmas.Result.{err_from_is_err_and}
use Rattle.apei_bytes.specs.Walk.{item_count}
use Rattle.apei_bytes.proofs.Walks.{count_done, count_fault, count_on}
use Rattle.hest_sources.specs.declared.tables.HestError.{HestError}
use Rattle.hest_sources.specs.Layout.{structure_length}
use Rattle.hest_sources.specs.Walk.{structure_walk}
use Rattle.hest_sources.proofs.Walks.{gets_on}
use Rattle.hest_sources.proofs.tables.count_structures.Goals as goal

pub returns-in_err-at-clause-count : goal.returns-in_err-at-clause-count
returns-in_err-at-clause-count c =
    let table = c.args.table.now in
    let at = c.loop-at.at in
    let size = length-drop at table in
    let some = c.loop-at-test.true in
    let p = err_from_is_err_and c.from_residual.result c.from_residual.ensures.1 in
    let error = c.in_err-at.field-0.0 in
    let here : structure_length at (drop at table) ≡ Err error = ap (structure_length at) (sym (take_rest table at)) ∙ sym c.length_of.ensures.value ∙ c.in_err-at.was in
    let left : (length (drop at table) == 0) ≡ false = ne_eqb (length (drop at table)) 0 (λ z. omega arith) in
    p.1
    ∙ ap (λ (e : HestError). Err e) p.2
    ∙ sym (count_fault structure_walk (length table) c.loop-at.count at (drop at table) error gets_on left (omega arith) here)
    ∙ c.loop-at.invariant.same

pub loop-at-preserved : goal.loop-at-preserved
loop-at-preserved c =
    let table = c.args.table.now in
    let at = c.loop-at.at in
    let len = c.in_ok-at.field-0 in
    let size = length-drop at table in
    let rest = take_rest table at in
    let sizes = ap length rest in
    let here : structure_length at (drop at table) ≡ Ok len = ap (structure_length at) (sym rest) ∙ sym c.length_of.ensures.value ∙ c.in_ok-at.was in
    let within = c.in_ok-at.ensures.within in
    let low = within.0 in
    let fits = within.1 in
    let some = c.loop-at-test.true in
    let few = c.loop-at.invariant.few in
    let left : (length (drop at table) == 0) ≡ false = ne_eqb (length (drop at table)) 0 (λ z. omega arith) in
    record {
      low = omega arith;
      within = omega arith;
      few = omega arith;
      same =
          ap (item_count structure_walk (length table) (c.loop-at.count + 1) (at + len)) (sym (drop-drop len at table))
          ∙ sym (count_on structure_walk (length table) c.loop-at.count at len (drop at table) gets_on left (omega arith) here)
          ∙ c.loop-at.invariant.same;
    }

pub returns-clause-count : goal.returns-clause-count
returns-clause-count c =
    let table = c.args.table.now in
    let at = c.loop-at.at in
    let size = length-drop at table in
    sym (sym c.loop-at.invariant.same ∙ count_done structure_walk (length table) c.loop-at.count at (drop at table) (eq-eqb (length (drop at table)) 0 (omega arith)))
