use Rattle.std.proofs.Common.{◌≡◌, ◌++◌, drop, string_bytes}
use Rattle.apei_look.specs.RecordObjects.{sections_json}
use Rattle.apei_look.proofs.json_records.add_sections.Given as goal

abbrev pub invariant-loop-index : goal.invariant-loop-index
invariant-loop-index l =
    string_bytes l.out ++ sections_json l.index (drop l.index l.frame.sections) ≡ string_bytes l.initial.out ++ sections_json 0 l.frame.sections
