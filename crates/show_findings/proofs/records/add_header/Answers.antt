use Rattle.show_findings.specs.Words.{record_words}
use Rattle.show_findings.proofs.JoinLemmas.{joined_grows}
use Rattle.show_findings.proofs.records.add_header.Goals as goal

pub returns : goal.returns
returns c =
    joined_grows c.add_time.result (record_words c.args.bytes.now) c.args.out.now c.add_record_flags.new.out c.add_time.new.out
    c.in_ok-add_record_flags.ensures c.add_time.ensures
