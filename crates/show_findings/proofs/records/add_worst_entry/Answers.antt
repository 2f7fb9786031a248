use Rattle.show_findings.specs.Words.{section_words}
use Rattle.show_findings.proofs.JoinLemmas.{joined_grows}
use Rattle.show_findings.proofs.SpokenLemmas.{of_entry}
use Rattle.show_findings.proofs.records.add_worst_entry.Goals as goal

pub returns : goal.returns
returns c =
    let of = c.reported.result in
    let worst = c.args.worst.now in
    of_entry c.add_entry_time.result c.args.block.now worst.at worst.others worst.index of.kind of.severity of.flags of.label.now of.body.now
    c.args.out.now c.add_entry_time.new.out c.requires.worst c.requires.place c.reported.ensures
    (joined_grows c.add_entry_time.result (section_words of.kind of.severity of.flags of.label.now of.body.now worst.others)
    c.args.out.now c.add_section.new.out c.add_entry_time.new.out c.in_ok-add_section.ensures c.add_entry_time.ensures)
