use Rattle.show_findings.specs.Words.{previous_words, simulated_words}
use Rattle.show_findings.proofs.JoinLemmas.{joined}
use Rattle.show_findings.proofs.records.add_flag_words.Goals as goal

pub returns : goal.returns
returns c =
    joined c.add_if-2.result (previous_words c.args.flags) (simulated_words c.args.flags) c.args.out.now c.add_if.new.out c.add_if-2.new.out
    c.in_ok-add_if.ensures c.add_if-2.ensures
