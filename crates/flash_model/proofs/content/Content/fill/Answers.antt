use Rattle.std.proofs.Common.{◌∙◌, ℕ, ◌+◌, ◌≤◌, length, replicate, sym, subst, arith}
use Rattle.std.proofs.lemmas.List.{length-replicate}
use Rattle.base_model.specs.Bytes.{SameOutside}
use Rattle.flash_model.proofs.SpanLemmas.{rest_stays}
use Rattle.flash_model.proofs.content.Content.fill.Goals as goal

pub returns-clause-known : goal.returns-clause-known
returns-clause-known c =
    let image = c.args.image.now in
    let ones = replicate c.len.result c.args.byte in
    let long = length-replicate c.len.result c.args.byte in
    let within : c.args.at + length ones ≤ length image = omega (arith, long, c.len.ensures, c.requires.within) in
    let same = rest_stays image c.fill_range.new.image c.args.at ones within c.fill_range.ensures in
    c.widen.ensures.known image c.fill_range.new.image
    (subst (λ (n : ℕ). SameOutside c.args.at n image c.fill_range.new.image) (long ∙ c.len.ensures ∙ sym c.len-2.ensures) same) c.requires.known
