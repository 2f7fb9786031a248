use Rattle.std.proofs.Common.{◌∙◌, ◌%◌, ◌^◌, List, ℕ, ap, arith}
use Rattle.image_survey.specs.Checksums.{word_sum}
use Rattle.image_survey.specs.Headers.{header_with}
use Rattle.image_survey.proofs.HeaderLemmas.{checksum_from}
use Rattle.image_survey.proofs.header.header_of.Goals as goal

pub returns : goal.returns
returns c =
    let geometry = c.args.geometry.now in
    c.header_with.ensures
    ∙ ap (header_with geometry)
    (checksum_from geometry c.word_sum-sum.result c.wrapping_neg.result
    (c.word_sum-sum.ensures ∙ ap (λ (xs : List ℕ). word_sum 12 xs % 2 ^ 32) c.header_with-unsealed.ensures) (omega arith) c.wrapping_neg.ensures)
