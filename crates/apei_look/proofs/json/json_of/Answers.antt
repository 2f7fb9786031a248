use Rattle.std.proofs.Common.{◌∙◌, ℕ, List, ◌++◌, ap, codes}
use Rattle.apei_look.specs.FileObjects.{file_json, slots_json, totals_json}
use Rattle.apei_look.proofs.json.json_of.Goals as goal

pub returns : goal.returns
returns c =
    let image = c.args.image.now in
    let geometry = image.geometry.now in
    let view = c.view_file-view.result in
    let totals = c.count_slots-totals.result in
    let stored : List ℕ = c.in_ok-add_records.ensures.more in
    record {
      view = view;
      totals = totals;
      stored = stored;
      seen = c.view_file-view.ensures;
      counted = c.count_slots-totals.ensures image.bytes.now image.shown;
      are_stored = c.in_ok-add_records.ensures.of_kind;
      is = c.in_ok-push_str-2.ensures.bytes
          ∙ ap (λ (t : List ℕ). t ++ codes "]}\n") (c.in_ok-add_records.ensures.is
          ∙ ap (λ (t : List ℕ). t ++ stored) (c.in_ok-push_str.ensures.bytes
          ∙ ap (λ (t : List ℕ). t ++ codes ",\"stored\":[") (c.in_ok-add_slots.ensures
          ∙ ap (λ (t : List ℕ). t ++ slots_json image.is_medium geometry image.bytes.now) (c.in_ok-add_totals.ensures
          ∙ ap (λ (t : List ℕ). t ++ totals_json totals) (c.in_ok-add_file.ensures
          ∙ ap (λ (t : List ℕ). t ++ file_json image.is_medium geometry image.held view) c.new-out.ensures.bytes)))));
    }
