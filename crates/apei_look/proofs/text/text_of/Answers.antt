use Rattle.std.proofs.Common.{◌∙◌, ℕ, List, ◌++◌, ap}
use Rattle.apei_look.specs.Images.{shown_text, totals_line}
use Rattle.apei_look.proofs.text.text_of.Goals as goal

pub returns : goal.returns
returns c =
    let image = c.args.image.now in
    let geometry = image.geometry.now in
    let totals = c.count_slots-totals.result in
    let of_file : List ℕ = c.in_ok-add_file.ensures.more in
    let of_records : List ℕ = c.in_ok-add_records.ensures.more in
    record {
      totals = totals;
      of_file = of_file;
      of_records = of_records;
      counted = c.count_slots-totals.ensures image.bytes.now image.shown;
      is_of_file = c.in_ok-add_file.ensures.of_kind;
      are_records = c.in_ok-add_records.ensures.of_kind;
      is = c.in_ok-add_records.ensures.is
          ∙ ap (λ (t : List ℕ). t ++ of_records) (c.in_ok-add_shown.ensures
          ∙ ap (λ (t : List ℕ). t ++ shown_text geometry image.bytes.now) (c.in_ok-add_file.ensures.is
          ∙ ap (λ (t : List ℕ). t ++ of_file) (c.in_ok-add_totals.ensures
          ∙ ap (λ (t : List ℕ). t ++ totals_line geometry.slots totals) c.new-out.ensures.bytes)));
    }
