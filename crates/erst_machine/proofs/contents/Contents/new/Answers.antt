use Rattle.erst_machine.proofs.AreaLemmas.{all_zeros, blank_of}
use Rattle.erst_machine.proofs.contents.Contents.new.Goals as goal

pub returns-clause-zeros : goal.returns-clause-zeros
returns-clause-zeros c =
    all_zeros _ _ _ _ _ _ (c.in_ok-vec.ensures.items_if_clones_equal (λ y e. e)) (c.in_ok-vec-2.ensures.items_if_clones_equal (λ y e. e))
    (c.in_ok-vec-3.ensures.items_if_clones_equal (λ y e. e)) (c.in_ok-vec-4.ensures.items_if_clones_equal (λ y e. e))

pub invariant_of-result : goal.invariant_of-result
invariant_of-result c = record {
  range_blank = λ _. blank_of _ c.args.reach (c.in_ok-vec.ensures.items_if_clones_equal (λ y e. e));
  scratch_blank = λ _. blank_of _ 4096 (c.in_ok-vec-2.ensures.items_if_clones_equal (λ y e. e));
  region_blank = λ _. blank_of _ 16384 (c.in_ok-vec-4.ensures.items_if_clones_equal (λ y e. e));
}
