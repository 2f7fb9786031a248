use Rattle.std.proofs.Common.{codes, ℕ, subst}
use Rattle.cper_frame.specs.Names.{severity_word}
use Rattle.show_findings.specs.Places.{seen_number}
use Rattle.show_findings.specs.Sentences.{Adds}
use Rattle.show_findings.specs.Words.{severity_words}
use Rattle.show_findings.proofs.JoinLemmas.{joined, pushed}
use Rattle.show_findings.proofs.records.add_bare_block.Goals as goal

pub returns : goal.returns
returns c =
    let old = c.args.out.now in
    let severe = subst (λ (n : ℕ). Adds (severity_words (severity_word n)) old c.add_severity.new.out) c.seen_u32.ensures c.in_ok-add_severity.ensures in
    joined c.push_str.result (severity_words (severity_word (seen_number c.args.block.now 16 4))) (codes "error status block without entries")
    old c.add_severity.new.out c.push_str.new.self severe
    (pushed c.push_str.result (codes "error status block without entries") c.add_severity.new.out c.push_str.new.self c.push_str.ensures.bytes)
