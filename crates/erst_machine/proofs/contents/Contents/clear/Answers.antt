use Rattle.std.proofs.Common.{ℕ, List, length, ap, ◌∙◌, arith}
use Rattle.std.proofs.lemmas.List.{with_items_is}
use Rattle.erst_machine.specs.Memories.{zeros}
use Rattle.erst_machine.proofs.AreaLemmas.{all_zeros}
use Rattle.erst_machine.proofs.contents.Contents.clear.Goals as goal

pub returns : goal.returns
returns c =
    let old = c.args.self.now in
    let sizes = c.requires.1 in
    let as_long : List ℕ → List ℕ = λ xs. zeros (length xs) in
    all_zeros _ _ _ _ _ old.shared (with_items_is old.range c.make_zeros.new.bytes (omega arith) ∙ c.make_zeros.ensures ∙ ap as_long c.deref_mut.ensures.value)
    (with_items_is old.scratch c.make_zeros-2.new.bytes (omega arith) ∙ c.make_zeros-2.ensures ∙ ap as_long c.deref_mut-2.ensures.value ∙ ap zeros sizes.scratch)
    (with_items_is old.ports c.make_zeros-4.new.bytes (omega arith) ∙ c.make_zeros-4.ensures ∙ ap as_long c.deref_mut-4.ensures.value ∙ ap zeros sizes.ports)
    (with_items_is old.region c.make_zeros-3.new.bytes (omega arith) ∙ c.make_zeros-3.ensures ∙ ap as_long c.deref_mut-3.ensures.value ∙ ap zeros sizes.region)
