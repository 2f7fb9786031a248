use Rattle.std.proofs.Common.{◌≡◌, ◌++◌, length, map, string_bytes}
use Rattle.field_lines.specs.Code.{name_of}
use Rattle.show_findings.specs.Phrases.{flag_phrases}
use Rattle.show_findings.proofs.phrases.add_flags.Given as goal

abbrev pub invariant-loop-names : goal.invariant-loop-names
invariant-loop-names l =
    string_bytes l.out ++ flag_phrases l.words (map name_of l.names) l.number
    ≡ string_bytes l.initial.out ++ flag_phrases l.words (map name_of l.initial.names) l.number

abbrev pub decreases-loop-names : goal.decreases-loop-names
decreases-loop-names l = length l.names
