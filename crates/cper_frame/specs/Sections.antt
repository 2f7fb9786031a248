-- What a section that was handed out says.
use Rattle.cper_frame.specs.declared.record.Section.{Section}
use Rattle.cper_frame.specs.Grammar.{SectionValue}

abbrev pub value_of : Section → SectionValue
value_of section = record { head = section.head; offset = section.offset; body = section.body.now }
