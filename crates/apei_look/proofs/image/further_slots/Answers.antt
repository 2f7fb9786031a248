use Rattle.std.proofs.Common.{◌≡◌, ◌∙◌, ℕ, ◌-◌, length, take, min, ap, subst, arith}
use Rattle.std.proofs.lemmas.List.{take_min}
use Rattle.record_model.specs.Records.{parts_of}
use Rattle.record_model.specs.Slots.{further_of}
use Rattle.apei_look.proofs.image.further_slots.Goals as goal

pub returns-clause-are : goal.returns-clause-are
unfolding further_of
returns-clause-are c =
    let next = c.args.head.now.next in
    let further = parts_of (c.args.geometry.now.slot_size - 64) c.args.head.now.len - 1 in
    let three : length c.args.head.now.next ≡ 3 = omega arith in
    ap (λ (n : ℕ). take n next) (c.min-further.ensures ∙ ap (λ (n : ℕ). min n 3) (c.saturating_sub.ensures ∙ ap (λ (n : ℕ). n - 1) c.parts_of.ensures))
    ∙ subst (λ (n : ℕ). take (min further n) next ≡ take further next) three (take_min further next)
