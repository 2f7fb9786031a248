use Rattle.std.proofs.Common.{◌∙◌, ◌++◌, List, ℕ, sym, ap, append_assoc, take}
use Rattle.erst_entries.proofs.TableBytes.{upto-next}
use Rattle.erst_entries.proofs.Terms.{entries_spelling}
use Rattle.erst_entries.proofs.tables.spell_entries.Goals as goal

pub loop-entry-preserved : goal.loop-entry-preserved
loop-entry-preserved c =
    let next = upto-next c.args.entries.now c.loop-entry.entry-index (record {
      action = 0;
      code = 0;
      flags = 0;
      spare = 0;
      region =
          record { space = 0; width = 0; offset = 0; access = 0; address = 0 };
      value = 0;
      mask = 0;
    }) c.loop-entry-test.true in
    c.in_ok-extend_from_slice.ensures.items
    ∙ ap (λ (xs : List ℕ). xs ++ c.spell.result) c.loop-entry.invariant
    ∙ ap (λ (xs : List ℕ). c.args.bytes.now.items ++ entries_spelling (take c.loop-entry.entry-index c.args.entries.now) ++ xs) c.spell.ensures
    ∙ append_assoc c.args.bytes.now.items (entries_spelling (take c.loop-entry.entry-index c.args.entries.now)) _
    ∙ ap (λ (xs : List ℕ). c.args.bytes.now.items ++ xs) (sym next)
