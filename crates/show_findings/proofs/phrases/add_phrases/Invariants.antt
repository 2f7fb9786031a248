use Rattle.std.proofs.Common.{◌≡◌, ◌++◌, length, map, string_bytes}
use Rattle.field_lines.specs.Code.{structure_of}
use Rattle.show_findings.specs.Phrases.{phrase_of, phrases_text}
use Rattle.show_findings.proofs.phrases.add_phrases.Given as goal

abbrev pub invariant-loop-phrases : goal.invariant-loop-phrases
invariant-loop-phrases l =
    string_bytes l.out ++ phrases_text (structure_of l.layout) l.body (map phrase_of l.phrases)
    ≡ string_bytes l.initial.out ++ phrases_text (structure_of l.layout) l.body (map phrase_of l.initial.phrases)

abbrev pub decreases-loop-phrases : goal.decreases-loop-phrases
decreases-loop-phrases l = length l.phrases
