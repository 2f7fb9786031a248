use Rattle.std.proofs.Common.{◌≡◌, ◌++◌, drop, string_bytes}
use Rattle.apei_look.specs.Frames.{sections_text}
use Rattle.apei_look.proofs.records.add_sections.Given as goal

abbrev pub invariant-loop-index : goal.invariant-loop-index
invariant-loop-index l =
    string_bytes l.out ++ sections_text l.index (drop l.index l.frame.sections) ≡ string_bytes l.initial.out ++ sections_text 0 l.frame.sections
