use Rattle.std.proofs.Common.{◌≡◌, ◌+◌, false, length, drop, Err, sym, ap, ◌∙◌, arith, length-drop}
use Rattle.std.specs.Prelude.{◌==◌}
use Rattle.std.proofs.lemmas.Bool.{ne_eqb, eq-eqb}
use Rattle.std.proofs.lemmas.List.{take_rest}
use Rattle.std.proofs.lemmas.Result.{err_from_is_err_and}
use Rattle.apei_bytes.proofs.Walks.{count_done, count_fault}
use Rattle.ghes_block.specs.declared.error.BlockError.{BlockError}
use Rattle.ghes_block.specs.Reading.{whole_entry_size, entry_walk}
use Rattle.ghes_block.proofs.Walks.{gets_on, count_more}
use Rattle.ghes_block.proofs.block.count_entries.Goals as goal

pub returns-in_err-at : goal.returns-in_err-at
returns-in_err-at c =
    let content = c.args.content.now in
    let at = c.loop-at.at in
    let rest = take_rest content at in
    let size = length-drop at content in
    let some = c.loop-at-test.true in
    let p = err_from_is_err_and c.from_residual.result c.from_residual.ensures.1 in
    let error = c.in_err-at.field-0.0 in
    let here : whole_entry_size c.loop-at.index (20 + at) (drop at content) ≡ Err error = ap (whole_entry_size c.loop-at.index (20 + at)) (sym rest)
    ∙ sym c.whole_entry_size.ensures.exact ∙ c.in_err-at.was in
    let left : (length (drop at content) == 0) ≡ false = ne_eqb (length (drop at content)) 0 (λ z. omega arith) in
    p.1
    ∙ ap (λ (e : BlockError). Err e) p.2
    ∙ sym (count_fault entry_walk (length content) c.loop-at.index (20 + at) (drop at content) error gets_on left (omega arith) here)
    ∙ c.loop-at.invariant.same

pub loop-at-preserved : goal.loop-at-preserved
loop-at-preserved c =
    let at = c.loop-at.at in
    let rest = take_rest c.args.content.now at in
    let size = length-drop at c.args.content.now in
    let sizes = ap length rest in
    let within = c.in_ok-at.ensures.within in
    let low = within.0 in
    let fits = within.1 in
    let some = c.loop-at-test.true in
    record {
      within = omega arith;
      few = let before = c.loop-at.invariant.few in omega arith;
      same =
          count_more c.args.content.now c.loop-at.index at c.in_ok-at.field-0 (omega arith)
          (ap (whole_entry_size c.loop-at.index (20 + at)) (sym rest) ∙ sym c.whole_entry_size.ensures.exact ∙ c.in_ok-at.was)
          ∙ c.loop-at.invariant.same;
    }

pub returns : goal.returns
returns c =
    let rest = drop c.loop-at.at c.args.content.now in
    let size = length-drop c.loop-at.at c.args.content.now in
    sym (sym c.loop-at.invariant.same ∙ count_done entry_walk (length c.args.content.now) c.loop-at.index (20 + c.loop-at.at) rest (eq-eqb (length rest) 0 (omega arith)))
