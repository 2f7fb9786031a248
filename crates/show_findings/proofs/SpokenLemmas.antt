-- The sentence of a record and of a block is of its worst section.
use Rattle.std.proofs.Common.{◌≡◌, ◌≤◌, ℕ, ◌+◌, ◌*◌, List, ◌++◌, length, Ok, Err, subst, arith}
use Rattle.std.specs.Prelude.{Result, OnOk, String}
use Rattle.std.specs.declared.alloc.Global.{Global}
use Rattle.show_findings.specs.ErrorSections.{IsDescribed, IsReported}
use Rattle.show_findings.specs.Places.{HasDataEntry}
use Rattle.show_findings.specs.Sentences.{Tells}
use Rattle.show_findings.specs.Spoken.{IsOfWorstEntry, IsOfWorstSection}
use Rattle.show_findings.specs.Words.{record_words, section_words}
use Rattle.show_findings.specs.Worst.{IsWorstEntry, IsWorstSection, entry_place}
use Rattle.show_findings.proofs.WorstLemmas.{not_before}

pub of_section : {T E : Type 0} (result : Result T E) (bytes : List ℕ) (at others index : ℕ) (kind : List ℕ) (severity flags : ℕ) (label body : List ℕ) (old new : String Global)
    → IsWorstSection bytes others index → at ≡ 128 + 72 * index → IsDescribed bytes at kind severity flags label body
    → OnOk result (Tells (section_words kind severity flags label body others ++ record_words bytes) old new) → OnOk result (IsOfWorstSection bytes old new)
of_section (Ok value) bytes at others index kind severity flags label body old new worst place described tells = record {
  others = others;
  index = index;
  worst = worst;
  tells = record {
    kind = kind;
    severity = severity;
    flags = flags;
    label = label;
    body = body;
    described = subst (λ (n : ℕ). IsDescribed bytes n kind severity flags label body) place described;
    tells = tells;
  };
}
of_section (Err error) bytes at others index kind severity flags label body old new worst place described tells = tells

pub of_entry : {T E : Type 0} (result : Result T E) (block : List ℕ) (at others index : ℕ) (kind : List ℕ) (severity flags : ℕ) (label body : List ℕ) (old new : String Global)
    → IsWorstEntry block others index → at ≡ entry_place block index → IsReported block at kind severity flags label body
    → OnOk result (Tells (section_words kind severity flags label body others) old new) → OnOk result (IsOfWorstEntry block old new)
of_entry (Ok value) block at others index kind severity flags label body old new worst place reported tells = record {
  others = others;
  index = index;
  worst = worst;
  tells = record {
    kind = kind;
    severity = severity;
    flags = flags;
    label = label;
    body = body;
    reported = subst (λ (n : ℕ). IsReported block n kind severity flags label body) place reported;
    tells = tells;
  };
}
of_entry (Err error) block at others index kind severity flags label body old new worst place reported tells = tells

-- a block with a data entry has a first one
pub has_first : {T E : Type 0} (result : Result T E) (fact : Type 0) (block : List ℕ) (at index : ℕ) → at ≡ entry_place block index → HasDataEntry block at
    → OnOk result (20 ≤ length block → (¬ HasDataEntry block 20) → fact)
has_first (Ok value) fact block at index place there = λ long none. absurd (none (omega (arith, not_before block index, place, there)))
has_first (Err error) fact block at index place there = tt
