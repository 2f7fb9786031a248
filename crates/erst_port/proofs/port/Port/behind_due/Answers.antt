use Rattle.std.proofs.Common.{◌≡◌, ◌∙◌, ◌+◌, ℕ, length, sym, ap, arith}
use Rattle.erst_port.specs.Parts.{made_behind, part_size}
use Rattle.erst_port.specs.PortState.{PortState, flash_of}
use Rattle.erst_port.proofs.PartLemmas.{next_of_due}
use Rattle.erst_port.proofs.port.Port.behind_due.Goals as goal

pub overflow_add-start : goal.overflow_add-start
overflow_add-start c = omega (arith, c.self.invariant.origin, c.in-Some.ensures.within)

pub part_size-requires-clause-fits : goal.part_size-requires-clause-fits
part_size-requires-clause-fits c = omega (arith, c.self.invariant.origin, c.in-Some.ensures.within)

pub behind-requires-clause-countable : goal.behind-requires-clause-countable
behind-requires-clause-countable c =
    let is : c.self.inside.made.changes ≡ c.args.self.now.made.changes = ap (λ (p : PortState). p.made.changes) c.self.view_is in
    omega (arith, is, c.requires.countable)

pub returns-clause-value : goal.returns-clause-value
returns-clause-value c =
    let whole = c.in-Some.whole in
    let now = c.args.self.now in
    let size = length whole.bytes.now in
    c.behind.ensures ∙ ap (λ (n : ℕ). made_behind c.self.inside.made n size) c.part_size.ensures.value
    ∙ ap (λ (p : PortState). made_behind p.made (part_size (p.origin + whole.at) size p.made.bytes) size) c.self.view_is
    ∙ sym (next_of_due (flash_of now).sector_size now.origin (flash_of now).told now.made whole.kind whole.at whole.bytes.now c.in-Some.ensures.due)
