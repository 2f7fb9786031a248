use Rattle.show_findings.specs.Words.{record_words, section_words}
use Rattle.show_findings.proofs.JoinLemmas.{joined_tells}
use Rattle.show_findings.proofs.SpokenLemmas.{of_section}
use Rattle.show_findings.proofs.records.add_worst.Goals as goal

pub returns : goal.returns
returns c =
    let of = c.described.result in
    let worst = c.args.worst.now in
    let bytes = c.args.bytes.now in
    of_section c.add_header.result bytes worst.at worst.others worst.index of.kind of.severity of.flags of.label.now of.body.now c.args.out.now c.add_header.new.out
    c.requires.worst c.requires.place c.described.ensures
    (joined_tells c.add_header.result (section_words of.kind of.severity of.flags of.label.now of.body.now worst.others) (record_words bytes)
    c.args.out.now c.add_section.new.out c.add_header.new.out c.in_ok-add_section.ensures c.add_header.ensures)
