use Rattle.std.proofs.Common.{◌≡◌, ◌%◌, ◌^◌}
use Rattle.image_survey.specs.Checksums.{word_sum}
use Rattle.image_survey.proofs.checksum.word_sum.Given as goal

abbrev pub invariant-loop-word : goal.invariant-loop-word
invariant-loop-word l = l.sum ≡ word_sum l.word l.bytes % 2 ^ 32
