use Rattle.std.proofs.Common.{refl, arith}
use Rattle.image_survey.specs.Checksums.{word_sum}
use Rattle.image_survey.proofs.SumLemmas.{word_sum-next}
use Rattle.image_survey.proofs.checksum.word_sum.Goals as goal

pub loop-word-init : goal.loop-word-init
unfolding word_sum
loop-word-init c = refl

pub loop-word-preserved : goal.loop-word-preserved
loop-word-preserved c = let next = word_sum-next c.args.bytes.now c.loop-word.word in omega arith
