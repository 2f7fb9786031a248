use Rattle.std.proofs.Common.{codes, ◌++◌, ℕ, subst}
use Rattle.cper_frame.specs.Names.{severity_word}
use Rattle.show_findings.specs.Places.{seen_number}
use Rattle.show_findings.specs.Sentences.{Adds}
use Rattle.show_findings.specs.Words.{record_words, severity_words}
use Rattle.show_findings.proofs.JoinLemmas.{both, joined_tells}
use Rattle.show_findings.proofs.records.add_bare.Goals as goal

pub returns : goal.returns
returns c =
    let old = c.args.out.now in
    let word = severity_words (severity_word (seen_number c.args.bytes.now 12 4)) in
    let severe = subst (λ (n : ℕ). Adds (severity_words (severity_word n)) old c.add_severity.new.out) c.seen_u32.ensures c.in_ok-add_severity.ensures in
    let bare = both word (codes "error record without sections") old c.add_severity.new.out c.push_str.new.self severe c.in_ok-push_str.ensures.bytes in
    joined_tells c.add_header.result (word ++ codes "error record without sections") (record_words c.args.bytes.now)
    old c.push_str.new.self c.add_header.new.out bare c.add_header.ensures
