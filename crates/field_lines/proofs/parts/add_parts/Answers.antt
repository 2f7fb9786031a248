use Rattle.std.proofs.Common.{◌≡◌, ◌+◌, ◌≤◌, ℕ, List, ◌++◌, length, drop, sym, ap, ◌∙◌, arith, length-drop}
use Rattle.std.proofs.lemmas.List.{take_rest}
use Rattle.base_model.specs.Bytes.{part}
use Rattle.field_lines.specs.Layouts.{part_size, parts_text, parts_end, end_text}
use Rattle.field_lines.specs.Code.{group_of, measure_of}
use Rattle.field_lines.proofs.PartLemmas.{wrote_part, behind_part, no_next_part, no_part_left, no_next_end, no_end_left}
use Rattle.field_lines.proofs.parts.add_parts.Goals as goal
use Rattle.field_lines.proofs.parts.add_parts.Goals.{then-loop-left-test+else-at-body, else-loop-left-test}

pub loop-left-preserved : goal.loop-left-preserved
loop-left-preserved g c =
    let text = g.S.Style.text c.args.style.now in
    let heading = g.S.Style.heading c.args.style.now in
    let body : List ℕ = c.args.body.now in
    let group = group_of c.args.group.now in
    let at = c.loop-left.at in
    let left = c.loop-left.left in
    let size = c.part_size-size.result in
    let size_is : size ≡ part_size group.measure (drop at body) =
    c.part_size-size.ensures ∙ ap (part_size group.measure) (take_rest body at) in
    let some = c.loop-left-test.true in
    let within = c.if-at-body.true in
    let told = c.loop-left.invariant.3 in
    let small : size ≤ length (drop at body) = omega (arith, size_is) in
    let fits = length-drop {A = ℕ} at body in (
      wrote_part text heading c.args.base body group left c.loop-left.index at size c.loop-left.out.items c.add_part.new.out.items c.bytes_at.result.now size_is
          c.bytes_at.ensures.value c.in_ok-add_part.ensures (omega arith) (omega arith)
          ∙ c.loop-left.invariant.0,
      behind_part body group left at size size_is (omega arith) (omega arith) ∙ c.loop-left.invariant.1,
      omega arith,
      omega arith,
    )

pub returns-clause-text : goal.returns-clause-text
returns-clause-text g c =
    let text = g.S.Style.text c.args.style.now in
    let heading = g.S.Style.heading c.args.style.now in
    let body : List ℕ = c.args.body.now in
    let group = group_of c.args.group.now in
    let at = c.loop-left.at in
    let left = c.loop-left.left in
    let done : parts_text text heading c.args.base body group left c.loop-left.index at ≡ end_text heading c.loop-left.index (c.args.base + at) =
    elim c.loop-left-test.branch [
      | then-loop-left-test+else-at-body w ↦ no_next_part text heading c.args.base body group left c.loop-left.index at (omega arith)
      | else-loop-left-test w ↦ no_part_left text heading c.args.base body group left c.loop-left.index at (omega arith)
    ] in
    c.in_ok-add_end.ensures
    ∙ ap (λ (t : List ℕ). c.loop-left.out.items ++ t) (sym done)
    ∙ c.loop-left.invariant.0
    ∙ ap (λ (n : ℕ). c.args.out.now.items ++ parts_text text heading c.args.base body group n 0 c.args.start) c.parts_told-left.ensures

pub returns-clause-end : goal.returns-clause-end
returns-clause-end g c =
    let body : List ℕ = c.args.body.now in
    let group = group_of c.args.group.now in
    let at = c.loop-left.at in
    let left = c.loop-left.left in
    let done : parts_end body group left at ≡ at =
    elim c.loop-left-test.branch [
      | then-loop-left-test+else-at-body w ↦ no_next_end body group left at (omega arith)
      | else-loop-left-test w ↦ no_end_left body group left at (omega arith)
    ] in (
      sym done ∙ c.loop-left.invariant.1 ∙ ap (λ (n : ℕ). parts_end body group n c.args.start) c.parts_told-left.ensures,
      c.loop-left.invariant.2,
    )
