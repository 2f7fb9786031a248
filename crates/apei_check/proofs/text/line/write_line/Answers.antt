use Rattle.std.proofs.Common.{◌≡◌, ℕ, ◌-◌, List, [], ◌∷◌, ◌++◌, length, take, Result, Ok, Err, OnOk, OnErr, ap, ◌∙◌, sym}
use Rattle.apei_bytes.specs.declared.streams.SinkFault.{SinkFault}
use Rattle.apei_check.specs.Shown.{lines_text}
use Rattle.apei_check.specs.Written.{Writes, WritesPart}
use Rattle.apei_check.proofs.WrittenLemmas.{lines_text_one, appended_count}
use Rattle.apei_check.proofs.text.line.write_line.Goals as goal

is_text : (line mid bytes : List ℕ) → bytes ≡ mid → mid ≡ line ++ 10 ∷ [] → bytes ≡ lines_text (line ∷ [])
is_text line mid bytes e f = e ∙ f ∙ sym (lines_text_one line)

all_written : (r : Result (Unit {0}) SinkFault) (told : Type 0) (line bytes a b : List ℕ) → bytes ≡ lines_text (line ∷ [])
    → OnOk r (told → b ≡ a ++ bytes) → OnOk r (Writes told (line ∷ []) a b)
all_written (Ok _) told line bytes a b e wrote = λ t. wrote t ∙ ap (λ (x : List ℕ). a ++ x) e
all_written (Err _) told line bytes a b e wrote = tt

part_written : (r : Result (Unit {0}) SinkFault) (told : Type 0) (line bytes a b : List ℕ) → bytes ≡ lines_text (line ∷ [])
    → OnErr r (told → (n : ℕ) × (b ≡ a ++ take n bytes)) → OnErr r (WritesPart told (line ∷ []) a b)
part_written (Ok _) told line bytes a b e wrote = tt
part_written (Err _) told line bytes a b e wrote =
    record { count = length b - length a; text = λ t. appended_count a b bytes (wrote t) ∙ ap (λ (x : List ℕ). a ++ take (length b - length a) x) e }

pub returns-clause-all : goal.returns-clause-all
returns-clause-all g c = all_written _ _ _ _ _ _ (is_text _ _ _ c.bytes.ensures c.add.ensures) c.write_all.ensures.all

pub returns-clause-part : goal.returns-clause-part
returns-clause-part g c = part_written _ _ _ _ _ _ (is_text _ _ _ c.bytes.ensures c.add.ensures) c.write_all.ensures.part
